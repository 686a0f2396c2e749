-- The checks of a call, one way at a time; and what holds where all are met.
use mathlib.Core.Path.{◌≡◌, sym, ap, ◌∙◌}
use mathlib.Core.Bool.{Bool, true, false}
use mathlib.Core.List.{List, [], ◌∷◌, ◌++◌}
use Prim.Native.Nat.{ℕ, ◌/◌, ◌≤◌}
use native.Mathlib.Omega.{arith}
use borrow.Author.Tests.{eqb-true}
use lib.IntN.{ℤ}
use lib.ListN.{length, take, drop, length-append}
use lib.Seq.{take_at}
use Rattle.std.specs.Prelude.{Ok, Err}
use Rattle.refusals.specs.declared.Refusal.{Refusal}
use Rattle.refusals.specs.Checks.{Check, need, first_failing, lent_after, Outcome}
use Rattle.refusals.proofs.Laws.{first_holds, first_fails, first_none, first_then_done, AllHold, passed, all_pass, lent_done}
use Rattle.sizes.specs.Sizes.{all_of}
use Rattle.sizes.proofs.Tables.{table_length}
use Rattle.tree.specs.Summaries.{desc_or, grand_or, desc_table, grand_table, summary_checks}
use Rattle.figures.specs.Tables.{Filled}

-- a list of checks and one more: what the first come to, and then the other
module _ (checks : List Check) (t : Bool) (why : Refusal) {r : Outcome} (first : r ≡ first_failing checks) where
  module _ (done : r ≡ Ok tt) where
    then : first_failing (checks ++ (need t why ∷ [])) ≡ first_failing (need t why ∷ [])
    then = first_then_done checks (need t why ∷ []) (sym first ∙ done)

    pub more_holds : t ≡ true → Ok tt ≡ first_failing (checks ++ (need t why ∷ []))
    more_holds h = sym (then ∙ first_holds t why [] h ∙ first_none)

    pub more_fails : t ≡ false → Err why ≡ first_failing (checks ++ (need t why ∷ []))
    more_fails h = sym (then ∙ first_fails t why [] h)

-- all of them are met
split : (checks : List Check) (more : Check) → AllHold (checks ++ (more ∷ [])) → AllHold checks × (more.holds ≡ true)
unfolding AllHold
split [] more h = (tt, h.0)
split (check ∷ rest) more h =
    let k = split rest more h.1 in
    ((h.0, k.0), k.1)

pub both_met : (checks : List Check) (more : Check) {r : Outcome} → r ≡ first_failing (checks ++ (more ∷ [])) → r ≡ Ok tt → (first_failing checks ≡ Ok tt) × (more.holds ≡ true)
both_met checks more is done =
    let h = split checks more (passed (checks ++ (more ∷ [])) (sym is ∙ done)) in
    (all_pass checks h.0, h.1)

-- a table of which a call that is done holds its own entries
module _ (own held now : List ℕ) (r : Outcome) (done : r ≡ Ok tt) (is : now ≡ lent_after r own held) where
  now_is : now ≡ lent_after (Ok tt) own held
  now_is = is ∙ lent_done r own held done

  own_first : (n : ℕ) → n ≡ length own → take n now ≡ own
  own_first n e = rw now_is (take_at own (drop (length own) held) n (sym e))

  own_room : length own ≤ length now
  own_room = rw now_is (omega (arith, length-append own (drop (length own) held)))

-- the checks of the summaries are met, and both tables are filled
module _ (N L : ℕ) (A : List ℤ) (desc₀ grand₀ : List ℕ) {desc grand : List ℕ} {r : Outcome}
    (met : first_failing (summary_checks N L A (length desc₀) (length grand₀)) ≡ Ok tt)
    (filling : r ≡ first_failing (summary_checks N L A (length desc₀) (length grand₀)))
    (descs : desc ≡ lent_after r (desc_table N L A) desc₀) (grands : grand ≡ lent_after r (grand_table N L A) grand₀) where
  all_hold : AllHold (summary_checks N L A (length desc₀) (length grand₀))
  all_hold = passed (summary_checks N L A (length desc₀) (length grand₀)) met

  filled_done : r ≡ Ok tt
  filled_done = filling ∙ met

  whole : length A ≡ all_of N
  unfolding AllHold
  whole = eqb-true (length A) (all_of N) all_hold.1.1.0

  descs_length : length A / 4 ≡ length (desc_table N L A)
  descs_length = ap (λ (x : ℕ). x / 4) whole ∙ sym (table_length (all_of N / 4) (λ i. desc_or N L A i))

  grands_length : length A / 16 ≡ length (grand_table N L A)
  grands_length = ap (λ (x : ℕ). x / 16) whole ∙ sym (table_length (all_of N / 16) (λ i. grand_or N L A i))

  pub desc_is : desc ≡ lent_after (Ok tt) (desc_table N L A) desc₀
  desc_is = now_is (desc_table N L A) desc₀ desc r filled_done descs

  pub grand_is : grand ≡ lent_after (Ok tt) (grand_table N L A) grand₀
  grand_is = now_is (grand_table N L A) grand₀ grand r filled_done grands

  pub desc_room : length A / 4 ≤ length desc
  desc_room = rw descs_length (own_room (desc_table N L A) desc₀ desc r filled_done descs)

  pub grand_room : length A / 16 ≤ length grand
  grand_room = rw grands_length (own_room (grand_table N L A) grand₀ grand r filled_done grands)

  pub filled : Filled N L A (take (length A / 4) desc) (take (length A / 16) grand)
  unfolding AllHold
  filled =
      record {
        side = all_hold.0;
        levels = all_hold.1.0;
        whole = whole;
        descs = own_first (desc_table N L A) desc₀ desc r filled_done descs (length A / 4) descs_length;
        grands = own_first (grand_table N L A) grand₀ grand r filled_done grands (length A / 16) grands_length;
      }
