-- What is proved of the transform, in one file: there and back, back and there, how large a coefficient gets, and what of it the calls keep.
use mathlib.Core.Path.{◌≡◌, refl, sym, ap, ◌∙◌, subst}
use mathlib.Core.List.{List, [], ◌∷◌}
use mathlib.Core.Logic.{◌⊎◌, inl, inr}
use Prim.Native.Nat.{ℕ, zero, suc, ◌+◌, ◌*◌, ◌-◌, ◌/◌, ◌%◌, ◌≤◌, ◌<◌}
use native.Mathlib.Decide.{dec_lt}
use native.Mathlib.Omega.{arith}
use borrow.Author.Tests.{le-leb, eq-eqb, eqb-true}
use lib.IntN.{ℤ, pos, negsuc, nat_abs, sub_ℕ, ◌+ℤ◌}
use lib.ListN.{length, get_or-eq_default}
use Rattle.std.specs.Prelude.{Ok, Err}
use Rattle.refusals.specs.Checks.{first_failing}
use Rattle.refusals.specs.declared.Refusal.TheVariants.{Restored}
use Rattle.refusals.proofs.Laws.{AllHold, passed, all_pass, first_then_done}
use Rattle.sizes.specs.Sizes.{all_of}
use Rattle.sizes.specs.Tables.{table}
use Rattle.sizes.proofs.Laws.{sized}
use Rattle.sizes.proofs.Tables.{table_length, table_at}
use Rattle.places.specs.Order.{to_linear, linearly, rasterly}
use Rattle.places.proofs.Laws.{linearly_length, rasterly_at, rasterly_linearly, linearly_rasterly, linear_below}
use Rattle.coef.specs.Coef.{at, mag_at, IsPlanes, first_over}
use Rattle.coef.proofs.Laws.{first_none}
use Rattle.transform.specs.Transform.{halved, coefficients_of, samples_of}
use Rattle.transform.specs.Answers.{first_outside, transform_checks, entry_checks, restore_checks, restored_check, HasCoefficients}
use Rattle.transform.specs.Quads.{downs, ups}
use Rattle.transform.proofs.Pairs.{sub_below}
use Rattle.transform.proofs.Levels.{ups_downs, downs_ups}
use Rattle.transform.proofs.Range.{downs_size, ups_size}
use Rattle.transform.proofs.Runs.{same_ups, same_downs}
use Rattle.transform.proofs.Arrays.{tabled}
use Rattle.transform.proofs.Same.{coefficients_are, samples_are}
use Rattle.transform.proofs.Outside.{all_samples}
use Rattle.transform.proofs.Checks.{restored_well}
use Rattle.transform.proofs.Ends.{linear_samples, all_within, coefficients_length, samples_length}

-- "floor": twice the half is the number, or the number less 1
pub halved_floor : (z : ℤ) → (halved z +ℤ halved z ≡ z) ⊎ (halved z +ℤ halved z +ℤ pos 1 ≡ z)
halved_floor (pos n) = tell (n % 2) refl
  where
    tell : (d : ℕ) → n % 2 ≡ d → (pos (n / 2 + n / 2) ≡ pos n) ⊎ (pos (n / 2 + n / 2 + 1) ≡ pos n)
    tell zero e = inl (ap pos {x = n / 2 + n / 2} {y = n} (omega arith))
    tell (suc d) e = inr (ap pos {x = n / 2 + n / 2 + 1} {y = n} (omega arith))
halved_floor (negsuc n) = tell (n % 2) refl
  where
    tell : (d : ℕ) → n % 2 ≡ d → (negsuc (suc (n / 2 + n / 2)) ≡ negsuc n) ⊎ (sub_ℕ 1 (suc (suc (n / 2 + n / 2))) ≡ negsuc n)
    tell zero e =
        inr (sub_below 1 (suc (suc (n / 2 + n / 2))) (omega arith) ∙ ap negsuc {x = suc (suc (n / 2 + n / 2)) - 2} {y = n} (omega arith))
    tell (suc d) e = inl (ap negsuc {x = suc (n / 2 + n / 2)} {y = n} (omega arith))

-- the list of an array's first entries is that array, as far as it goes
of_table : (n : ℕ) (X : ℕ → ℤ) (i : ℕ) → i < n → at (table n X) i ≡ X i
of_table n X i h = table_at n X i (pos 0) h

module _ (N L : ℕ) (g : L ≤ N) where
  -- "Forward then back is exact": for every array of 4^N whole numbers, in range or not
  pub there_and_back : (A : List ℤ) → length A ≡ all_of N → samples_of N L (coefficients_of N L A) ≡ A
  there_and_back A e =
      let X = at (linearly N A) in
      let F = table (all_of N) (downs N L X) in
      let u : table (all_of N) (ups N L (at F)) ≡ linearly N A =
      sym (tabled (linearly N A) (all_of N) (ups N L (at F)) (linearly_length N A)
      (λ i h. ap (λ (Y : ℕ → ℤ). Y i) (sym (ups_downs N L X)) ∙ sym (same_ups N L g (at F) (downs N L X) (of_table (all_of N) (downs N L X)) i h))) in
      ap (samples_of N L) (coefficients_are N L g A) ∙ samples_are N L g F ∙ ap (rasterly N) u ∙ rasterly_linearly N A e

  -- and back then forward: so each is a bijection of the arrays of 4^N whole numbers
  pub back_and_there : (C : List ℤ) → length C ≡ all_of N → coefficients_of N L (samples_of N L C) ≡ C
  back_and_there C e =
      let Y = at C in
      let U = table (all_of N) (ups N L Y) in
      let s : linearly N (samples_of N L C) ≡ U = ap (linearly N) (samples_are N L g C) ∙ linearly_rasterly N U (table_length (all_of N) (ups N L Y)) in
      coefficients_are N L g (samples_of N L C) ∙ ap (λ (l : List ℤ). table (all_of N) (downs N L (at l))) s
      ∙ sym (tabled C (all_of N) (downs N L (at U)) e
      (λ i h. ap (λ (Z : ℕ → ℤ). Z i) (sym (downs_ups N L Y)) ∙ sym (same_downs N L g (at U) (ups N L Y) (of_table (all_of N) (ups N L Y)) i h)))

  -- every coefficient of samples has a magnitude of at most 131,070; `sample_forward` (Sample) has one of as much
  pub coefficient_most : (A : List ℤ) → first_outside A ≡ length A → (i : ℕ) → mag_at (coefficients_of N L A) i ≤ 131070
  coefficient_most A e i = tell (dec_lt i (all_of N))
    where
      tell : Dec (i < all_of N) → mag_at (coefficients_of N L A) i ≤ 131070
      tell (yes h) =
          subst (λ (z : ℤ). nat_abs z ≤ 131070) (sym (ap (λ (l : List ℤ). at l i) (coefficients_are N L g A) ∙ of_table (all_of N) (downs N L (at (linearly N A))) i h))
          (downs_size N (at (linearly N A)) (λ k m. linear_samples N A (all_samples A e) k) L g i h)
      tell (no h) =
          subst (λ (z : ℤ). nat_abs z ≤ 131070) (sym (get_or-eq_default (coefficients_of N L A) (pos 0) {n = i} (omega (arith, coefficients_length N L A)))) (omega arith)

  -- "every coefficient's magnitude is at most 131,072"
  pub coefficient_bound : (A : List ℤ) → first_outside A ≡ length A → (i : ℕ) → mag_at (coefficients_of N L A) i ≤ 131072
  coefficient_bound A e i = omega (arith, coefficient_most A e i)

  -- so no coefficient is over the limit, and 17 planes are enough
  pub never_over : (A : List ℤ) → first_outside A ≡ length A → first_over (coefficients_of N L A) ≡ length (coefficients_of N L A)
  never_over A e =
      first_none (coefficients_of N L A) (λ i. le-leb (mag_at (coefficients_of N L A) i) 16777215 (omega (arith, coefficient_most A e i)))

  pub planes_most : (A : List ℤ) (P : ℕ) → first_outside A ≡ length A → IsPlanes (coefficients_of N L A) P → P ≤ 17
  planes_most A P e p = p.least 17 (λ i. omega (arith, coefficient_most A e i))

  -- on the way back a level adds at most 20,971,520 to coefficients within the limit: with 9 levels, the most that there are, no number passes 205,520,895
  pub restored_most : (C : List ℤ) → first_over C ≡ length C → (p : ℕ) → p < all_of N → mag_at (samples_of N L C) p ≤ 16777215 + L * 20971520
  restored_most C e p h =
      let U = table (all_of N) (ups N L (at C)) in
      let q = linear_below N p in
      subst (λ (z : ℤ). nat_abs z ≤ 16777215 + L * 20971520) (sym (ap (λ (l : List ℤ). at l p) (samples_are N L g C) ∙ rasterly_at N U p h ∙ of_table (all_of N) (ups N L (at C)) (to_linear N p) q))
      (ups_size N L 16777215 (at C) g (λ i l. all_within C e i) (λ i l. all_within C e i) (to_linear N p) q)

-- the calls, for any lengths lent
module _ (N L : ℕ) (out work : ℕ) where
  -- where the transform is done, the inverse takes its coefficients and gives the samples again
  pub forward_then_inverse : (A : List ℤ) → first_failing (transform_checks N L A out work) ≡ Ok tt → (first_failing (restore_checks N L (coefficients_of N L A) out work) ≡ Ok tt) × (samples_of N L (coefficients_of N L A) ≡ A)
  unfolding AllHold
  forward_then_inverse A e =
      let all = passed (transform_checks N L A out work) e in
      let g : L ≤ N = omega (arith, (sized N L all.1.0).most) in
      let C = coefficients_of N L A in
      let o = eqb-true (first_outside A) (length A) all.1.1.1.1.0 in
      let b = there_and_back N L g A (eqb-true (length A) (all_of N) all.1.1.0) in
      (all_pass (restore_checks N L C out work) (all.0, (all.1.0, (eq-eqb (length C) (all_of N) (coefficients_length N L A), (eq-eqb (first_over C) (length C) (never_over N L g A o), (all.1.1.1.0, (rw b all.1.1.1.1.0, tt)))))), b)

  -- where the inverse is done, the transform takes its samples and gives the coefficients again
  pub inverse_then_forward : (C : List ℤ) → first_failing (restore_checks N L C out work) ≡ Ok tt → (first_failing (transform_checks N L (samples_of N L C) out work) ≡ Ok tt) × (coefficients_of N L (samples_of N L C) ≡ C)
  unfolding AllHold
  inverse_then_forward C e =
      let all = passed (restore_checks N L C out work) e in
      let g : L ≤ N = omega (arith, (sized N L all.1.0).most) in
      let A = samples_of N L C in
      (all_pass (transform_checks N L A out work) (all.0, (all.1.0, (eq-eqb (length A) (all_of N) (samples_length N L C), (all.1.1.1.1.0, (all.1.1.1.1.1.0, tt))))), back_and_there N L g C (eqb-true (length C) (all_of N) all.1.1.0))

  -- once 1 to 5 are passed, 18 refuses exactly the coefficients that no square of samples has
  module _ (C : List ℤ) (entered : first_failing (entry_checks N L C out work) ≡ Ok tt) where
    pub restored_only : (A : List ℤ) → HasCoefficients N L A C → (first_failing (restore_checks N L C out work) ≡ Ok tt) × (samples_of N L C ≡ A)
    unfolding AllHold
    restored_only A t =
        let all = passed (entry_checks N L C out work) entered in
        let g : L ≤ N = omega (arith, (sized N L all.1.0).most) in
        let b : samples_of N L C ≡ A = ap (samples_of N L) (sym t.gives) ∙ there_and_back N L g A t.size in
        (first_then_done (entry_checks N L C out work) (restored_check (samples_of N L C) ∷ []) entered ∙ sym (restored_well (samples_of N L C) (subst (λ (l : List ℤ). first_outside l ≡ length l) (sym b) t.inside)), b)

    pub restored_some : first_failing (restore_checks N L C out work) ≡ Ok tt → HasCoefficients N L (samples_of N L C) C
    unfolding AllHold
    restored_some e =
        let all = passed (restore_checks N L C out work) e in
        record { size = samples_length N L C; inside = eqb-true (first_outside (samples_of N L C)) (length (samples_of N L C)) all.1.1.1.1.1.0; gives = (inverse_then_forward C e).1 }

    pub refused_exactly : first_failing (restore_checks N L C out work) ≡ Err Restored → (A : List ℤ) → HasCoefficients N L A C → ⊥
    refused_exactly e A t =
        let f : Err Restored ≡ Ok tt = sym e ∙ (restored_only A t).0 in
        let z : ◌≡◌ {A = ℕ} 0 1 = cc in
        absurd (omega arith)
