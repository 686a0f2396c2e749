-- The answers of the checks of `summaries` and of `fill`, for each check that may fail first and for none; and what they say where they are passed.
use mathlib.Core.Path.{◌≡◌, sym, ap, ◌∙◌}
use mathlib.Core.List.{List, ◌∷◌}
use Prim.Native.Nat.{ℕ, ◌/◌, ◌≤◌, ◌<◌}
use native.Mathlib.Omega.{arith}
use borrow.Author.Tests.{eqb-true, eq-eqb, ne_eqb, leb-true, le-leb, lt-leb}
use lib.Dec.{leb, eqb}
use lib.IntN.{ℤ}
use lib.ListN.{length}
use Rattle.std.specs.Prelude.{Ok, Err}
use Rattle.refusals.specs.Checks.{first_failing, Outcome}
use Rattle.refusals.specs.declared.Refusal.TheVariants.{Coefficient, Lent}
use Rattle.refusals.proofs.Laws.{first_holds, first_fails, then_more, AllHold, passed, all_pass}
use Rattle.sizes.specs.Sizes.{all_of}
use Rattle.sizes.specs.Checks.{size_checks}
use Rattle.sizes.proofs.Laws.{both_left, both_right, both}
use Rattle.sizes.proofs.Checks.{sizes_met}
use Rattle.coef.specs.Coef.{over_check, IsPlanes}
use Rattle.coef.proofs.Laws.{over_by_lem}
use Rattle.tree.specs.Summaries.{lent_checks, checks_over, summary_checks, summary_checks_by, fill_checks}
use Rattle.tree.specs.Filling.{Ready}

-- ---- number 5

module _ (all descs grands : ℕ) where
  pub no_desc : descs < all / 4 → Err Lent ≡ first_failing (lent_checks all descs grands)
  unfolding first_failing
  no_desc d = rw (lt-leb (all / 4) descs d)

  module _ (d : all / 4 ≤ descs) where
    pub no_grand : grands < all / 16 → Err Lent ≡ first_failing (lent_checks all descs grands)
    unfolding first_failing
    no_grand g = rw (le-leb (all / 4) descs d, lt-leb (all / 16) grands g)

    pub lent_well : all / 16 ≤ grands → (Ok tt) ≡ first_failing (lent_checks all descs grands)
    unfolding first_failing
    lent_well g = rw (le-leb (all / 4) descs d, le-leb (all / 16) grands g)

-- ---- number 4, between them

module _ (N L over count descs grands : ℕ) {r : Outcome} (is : r ≡ first_failing (size_checks N L count)) (done : r ≡ Ok tt) where
  pub no_coefficient : over < count → Err (Coefficient over) ≡ first_failing (checks_over over N L count descs grands)
  no_coefficient o =
      then_more (size_checks N L count) (over_check over count ∷ lent_checks (all_of N) descs grands) is done
      (sym (first_fails (eqb over count) (Coefficient over) (lent_checks (all_of N) descs grands) (ne_eqb over count (λ (e : over ≡ count). omega arith))))

  pub within_limit : over ≡ count → {w : Outcome} → w ≡ first_failing (lent_checks count descs grands) → w ≡ first_failing (checks_over over N L count descs grands)
  within_limit o v =
      then_more (size_checks N L count) (over_check over count ∷ lent_checks (all_of N) descs grands) is done
      (v ∙ ap (λ (x : ℕ). first_failing (lent_checks x descs grands)) (sizes_met N L count is done).2
      ∙ sym (first_holds (eqb over count) (Coefficient over) (lent_checks (all_of N) descs grands) (eq-eqb over count o)))

module _ (N L : ℕ) (A : List ℤ) (descs grands : ℕ) where
  -- where the planes are known, the checks are the same
  pub checks_by : {p : ℕ} → IsPlanes A p → summary_checks_by p N L A descs grands ≡ summary_checks N L A descs grands
  checks_by {p} planes = ap (λ (x : ℕ). checks_over x N L (length A) descs grands) (over_by_lem A p planes)

  -- ---- where they are passed

  -- those of `fill` say what the fill asks, and nothing more
  asks : AllHold (fill_checks N L (length A) descs grands) → Ready N L A descs grands
  unfolding AllHold
  asks all =
      let rooms = all.1.1.1.0 in
      record {
        side = all.0;
        levels = all.1.0;
        whole = eqb-true (length A) (all_of N) all.1.1.0;
        desc_room = leb-true (all_of N / 4) descs (both_left (leb (all_of N / 4) descs) (leb (all_of N / 16) grands) rooms);
        grand_room = leb-true (all_of N / 16) grands (both_right (leb (all_of N / 4) descs) (leb (all_of N / 16) grands) rooms);
      }

  pub fill_ready : {r : Outcome} → r ≡ first_failing (fill_checks N L (length A) descs grands) → r ≡ Ok tt → Ready N L A descs grands
  fill_ready is done = asks (passed (fill_checks N L (length A) descs grands) (sym is ∙ done))

  pub fill_well : Ready N L A descs grands → first_failing (fill_checks N L (length A) descs grands) ≡ Ok tt
  unfolding AllHold
  fill_well r =
      all_pass (fill_checks N L (length A) descs grands)
      (r.side, (r.levels, (eq-eqb (length A) (all_of N) r.whole, (both (le-leb (all_of N / 4) descs r.desc_room) (le-leb (all_of N / 16) grands r.grand_room), tt))))

  -- those of `summaries` say that too
  pub ready : {r : Outcome} → r ≡ first_failing (summary_checks N L A descs grands) → r ≡ Ok tt → Ready N L A descs grands
  unfolding AllHold
  ready is done =
      let all = passed (summary_checks N L A descs grands) (sym is ∙ done) in
      asks (all.0, (all.1.0, (all.1.1.0, (all.1.1.1.1.0, tt))))
