-- How the checks of the two calls answer, and what they tell where they are passed.
use mathlib.Core.Path.{◌≡◌, sym, ap, ◌∙◌}
use mathlib.Core.Bool.{Bool, true, false, ◌&&◌}
use mathlib.Core.List.{List, [], ◌∷◌}
use Prim.Native.Nat.{ℕ, ◌≤◌, ◌<◌}
use native.Mathlib.Omega.{arith}
use borrow.Author.Tests.{eqb-true, leb-true, eq-eqb, ne_eqb}
use lib.Dec.{leb, eqb}
use lib.IntN.{ℤ}
use lib.ListN.{length}
use Rattle.std.specs.Prelude.{Ok, Err}
use Rattle.refusals.specs.Checks.{first_failing, Outcome}
use Rattle.refusals.specs.declared.Refusal.TheVariants.{Coefficient, Lent, Sample, Restored}
use Rattle.refusals.proofs.Laws.{AllHold, passed, first_holds, first_fails, first_none, then_more}
use Rattle.sizes.specs.Sizes.{all_of, side_fits, levels_fit}
use Rattle.sizes.specs.Checks.{size_checks}
use Rattle.sizes.proofs.Checks.{sizes_met}
use Rattle.sizes.proofs.Laws.{both_left, both_right}
use Rattle.coef.specs.Coef.{first_over, coefficient_check}
use Rattle.coef.proofs.Laws.{first_le}
use Rattle.transform.specs.Answers.{first_outside, sample_check, restored_check, room_check, transform_checks, entry_checks}
use Rattle.transform.proofs.Outside.{outside_le}

-- after numbers 1 to 3
module _ (N L : ℕ) (A : List ℤ) (out work : ℕ) {r : Outcome} (is : r ≡ first_failing (size_checks N L (length A))) (done : r ≡ Ok tt) where
  -- room for the array's length is room for I entries
  room : (t : Bool) → (leb (length A) out && leb (length A) work) ≡ t → (leb (all_of N) out && leb (all_of N) work) ≡ t
  room t e = ap (λ (x : ℕ). leb x out && leb x work) (sym (sizes_met N L (length A) is done).2) ∙ e

  -- 5 and 17
  pub no_room : (leb (length A) out && leb (length A) work) ≡ false → Err Lent ≡ first_failing (transform_checks N L A out work)
  no_room e =
      then_more (size_checks N L (length A)) (room_check N out work ∷ sample_check A ∷ []) is done
      (sym (first_fails (leb (all_of N) out && leb (all_of N) work) Lent (sample_check A ∷ []) (room false e)))

  module _ (fit : (leb (length A) out && leb (length A) work) ≡ true) where
    then_sample : {w : Outcome} → w ≡ first_failing (sample_check A ∷ []) → w ≡ first_failing (transform_checks N L A out work)
    then_sample e =
        then_more (size_checks N L (length A)) (room_check N out work ∷ sample_check A ∷ []) is done
        (e ∙ sym (first_holds (leb (all_of N) out && leb (all_of N) work) Lent (sample_check A ∷ []) (room true fit)))

    pub no_sample : first_outside A < length A → Err (Sample (first_outside A)) ≡ first_failing (transform_checks N L A out work)
    no_sample o =
        then_sample (sym (first_fails (eqb (first_outside A) (length A)) (Sample (first_outside A)) [] (ne_eqb (first_outside A) (length A) (λ (e : first_outside A ≡ length A). omega arith))))

    pub transform_well : length A ≤ first_outside A → (Ok tt) ≡ first_failing (transform_checks N L A out work)
    transform_well o =
        then_sample (sym (first_holds (eqb (first_outside A) (length A)) (Sample (first_outside A)) [] (eq-eqb (first_outside A) (length A) (omega (arith, outside_le A))) ∙ first_none))

  -- 4 and 5
  pub no_coefficient : first_over A < length A → Err (Coefficient (first_over A)) ≡ first_failing (entry_checks N L A out work)
  no_coefficient o =
      then_more (size_checks N L (length A)) (coefficient_check A ∷ room_check N out work ∷ []) is done
      (sym (first_fails (eqb (first_over A) (length A)) (Coefficient (first_over A)) (room_check N out work ∷ []) (ne_eqb (first_over A) (length A) (λ (e : first_over A ≡ length A). omega arith))))

  module _ (o : length A ≤ first_over A) where
    then_room : {w : Outcome} → w ≡ first_failing (room_check N out work ∷ []) → w ≡ first_failing (entry_checks N L A out work)
    then_room e =
        then_more (size_checks N L (length A)) (coefficient_check A ∷ room_check N out work ∷ []) is done
        (e ∙ sym (first_holds (eqb (first_over A) (length A)) (Coefficient (first_over A)) (room_check N out work ∷ []) (eq-eqb (first_over A) (length A) (omega (arith, first_le A)))))

    pub no_room_back : (leb (length A) out && leb (length A) work) ≡ false → Err Lent ≡ first_failing (entry_checks N L A out work)
    no_room_back e = then_room (sym (first_fails (leb (all_of N) out && leb (all_of N) work) Lent [] (room false e)))

    pub entry_well : (leb (length A) out && leb (length A) work) ≡ true → (Ok tt) ≡ first_failing (entry_checks N L A out work)
    entry_well e = then_room (sym (first_holds (leb (all_of N) out && leb (all_of N) work) Lent [] (room true e) ∙ first_none))

-- 18
pub restored_well : (A : List ℤ) → first_outside A ≡ length A → (Ok tt) ≡ first_failing (restored_check A ∷ [])
restored_well A e = sym (first_holds (eqb (first_outside A) (length A)) Restored [] (eq-eqb (first_outside A) (length A) e) ∙ first_none)

pub no_restored : (A : List ℤ) → (first_outside A ≡ length A → ⊥) → Err Restored ≡ first_failing (restored_check A ∷ [])
no_restored A e = sym (first_fails (eqb (first_outside A) (length A)) Restored [] (ne_eqb (first_outside A) (length A) e))

-- what the checks tell where they are passed
pub record Ready (N L input out work : ℕ) : Type 0 where
  pub side : side_fits N ≡ true
  pub levels : levels_fit N L ≡ true
  pub size : input ≡ all_of N
  pub out_room : all_of N ≤ out
  pub work_room : all_of N ≤ work

module _ (N L : ℕ) (A : List ℤ) (out work : ℕ) where
  asked : side_fits N ≡ true → levels_fit N L ≡ true → eqb (length A) (all_of N) ≡ true → (leb (all_of N) out && leb (all_of N) work) ≡ true → Ready N L (length A) out work
  asked s l w e =
      record {
        side = s;
        levels = l;
        size = eqb-true (length A) (all_of N) w;
        out_room = leb-true (all_of N) out (both_left (leb (all_of N) out) (leb (all_of N) work) e);
        work_room = leb-true (all_of N) work (both_right (leb (all_of N) out) (leb (all_of N) work) e);
      }

  pub transform_ready : {r : Outcome} → r ≡ first_failing (transform_checks N L A out work) → r ≡ Ok tt → Ready N L (length A) out work × (first_outside A ≡ length A)
  unfolding AllHold
  transform_ready is done =
      let all = passed (transform_checks N L A out work) (sym is ∙ done) in
      (asked all.0 all.1.0 all.1.1.0 all.1.1.1.0, eqb-true (first_outside A) (length A) all.1.1.1.1.0)

  pub entry_ready : {r : Outcome} → r ≡ first_failing (entry_checks N L A out work) → r ≡ Ok tt → Ready N L (length A) out work × (first_over A ≡ length A)
  unfolding AllHold
  entry_ready is done =
      let all = passed (entry_checks N L A out work) (sym is ∙ done) in
      (asked all.0 all.1.0 all.1.1.0 all.1.1.1.1.0, eqb-true (first_over A) (length A) all.1.1.1.0)
