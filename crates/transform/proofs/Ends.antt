-- What the lent arrays hold at the end of a call.
use mathlib.Core.Path.{◌≡◌, sym, ap, ◌∙◌, subst}
use mathlib.Core.Bool.{Bool, true, false, cond}
use mathlib.Core.List.{List, ◌++◌, append-nil}
use Prim.Native.Nat.{ℕ, ◌≤◌, ◌<◌}
use native.Mathlib.Decide.{dec_lt}
use native.Mathlib.Omega.{arith}
use borrow.Author.Tests.{eq-eqb, ne_eqb, le-leb}
use lib.IntN.{ℤ, pos, nat_abs}
use lib.ListN.{length, drop, replicate, length-replicate, drop_of_length-le, get_or-eq_default}
use lib.Signed.{mag}
use Rattle.std.specs.Prelude.{Ok}
use Rattle.refusals.specs.Checks.{first_failing, lent_after, Outcome}
use Rattle.refusals.proofs.Laws.{lent_done}
use Rattle.sizes.specs.Sizes.{all_of, side_fits, levels_fit}
use Rattle.sizes.specs.Tables.{table}
use Rattle.sizes.proofs.Tables.{table_length}
use Rattle.sizes.proofs.Laws.{sized}
use Rattle.places.specs.Answers.{reorder_checks}
use Rattle.places.specs.Order.{to_raster, linearly, rasterly}
use Rattle.places.proofs.Laws.{linearly_length, linearly_at, rasterly_length}
use Rattle.coef.specs.Coef.{at, first_over}
use Rattle.coef.proofs.Laws.{first_all, within_le}
use Rattle.transform.specs.Transform.{coefficients_of, samples_of}
use Rattle.transform.specs.Answers.{first_outside, all_samples, all_zero, restored_of}
use Rattle.transform.specs.Quads.{downs, ups}
use Rattle.transform.proofs.Same.{coefficients_are, samples_are}

-- a table that is its own entries alone
pub whole : (own held : List ℤ) → length own ≡ length held → own ++ drop (length own) held ≡ own
whole own held e = ap (λ (l : List ℤ). own ++ l) (drop_of_length-le held {i = length own} (omega arith)) ∙ append-nil own

-- a whole array in the other order
module _ (N : ℕ) (A held l : List ℤ) (r : Outcome) (s : side_fits N ≡ true) (a : length A ≡ all_of N) (h : length held ≡ all_of N) (e : r ≡ first_failing (reorder_checks N (length A) (length held))) where
  ordered : r ≡ Ok tt
  unfolding first_failing
  ordered = e ∙ rw (s, eq-eqb (length A) (all_of N) a, le-leb (all_of N) (length held) (omega arith))

  pub in_linear : l ≡ lent_after r (linearly N A) held → l ≡ linearly N A
  in_linear q = q ∙ lent_done r (linearly N A) held ordered ∙ whole (linearly N A) held (linearly_length N A ∙ sym h)

  pub in_raster : l ≡ lent_after r (rasterly N A) held → l ≡ rasterly N A
  in_raster q = q ∙ lent_done r (rasterly N A) held ordered ∙ whole (rasterly N A) held (rasterly_length N A ∙ sym h)

pub linear_samples : (N : ℕ) (A : List ℤ) → ((i : ℕ) → mag (at A i) ≤ 32767) → (i : ℕ) → mag (at (linearly N A) i) ≤ 32767
linear_samples N A h i = tell (dec_lt i (all_of N))
  where
    tell : Dec (i < all_of N) → mag (at (linearly N A) i) ≤ 32767
    tell (yes l) = subst (λ (z : ℤ). mag z ≤ 32767) (sym (linearly_at N A i l)) (h (to_raster N i))
    tell (no l) = subst (λ (z : ℤ). mag z ≤ 32767) (sym (get_or-eq_default (linearly N A) (pos 0) {n = i} (omega (arith, linearly_length N A)))) (omega arith)

pub all_within : (C : List ℤ) → first_over C ≡ length C → (i : ℕ) → nat_abs (at C i) ≤ 16777215
all_within C e i = within_le (at C i) (first_all C e i)

-- the coefficients and the samples, as the code comes by them
pub coefficients_from : (N L : ℕ) (A work out : List ℤ) → levels_fit N L ≡ true → work ≡ linearly N A → out ≡ table (all_of N) (downs N L (at work)) → out ≡ coefficients_of N L A
coefficients_from N L A work out f e q =
    q ∙ ap (λ (l : List ℤ). table (all_of N) (downs N L (at l))) e ∙ sym (coefficients_are N L (omega (arith, (sized N L f).most)) A)

pub samples_from : (N L : ℕ) (C work out : List ℤ) → levels_fit N L ≡ true → work ≡ table (all_of N) (ups N L (at C)) → out ≡ rasterly N work → out ≡ samples_of N L C
samples_from N L C work out f e q = q ∙ ap (rasterly N) e ∙ sym (samples_are N L (omega (arith, (sized N L f).most)) C)

pub zeros_of : (N n : ℕ) (l : List ℤ) → n ≡ all_of N → l ≡ replicate n (pos 0) → l ≡ all_zero N
unfolding all_zero
zeros_of N n l e q = q ∙ ap (λ (k : ℕ). replicate k (pos 0)) e

pub zeros_length : (N : ℕ) → length (all_zero N) ≡ all_of N
unfolding all_zero
zeros_length N = length-replicate (all_of N) (pos 0)

pub coefficients_length : (N L : ℕ) (A : List ℤ) → length (coefficients_of N L A) ≡ all_of N
unfolding coefficients_of
coefficients_length N L A = table_length (all_of N) _

pub samples_length : (N L : ℕ) (C : List ℤ) → length (samples_of N L C) ≡ all_of N
unfolding samples_of
samples_length N L C = table_length (all_of N) _

pub restored_length : (N L : ℕ) (C : List ℤ) → length (restored_of N L C) ≡ all_of N
restored_length N L C = tell (all_samples (samples_of N L C))
  where
    tell : (t : Bool) → length (cond t (samples_of N L C) (all_zero N)) ≡ all_of N
    tell true = samples_length N L C
    tell false = zeros_length N

-- the output of the inverse, in range and not
pub restored_all : (N L : ℕ) (C : List ℤ) → first_outside (samples_of N L C) ≡ length (samples_of N L C) → restored_of N L C ≡ samples_of N L C
restored_all N L C e = rw (eq-eqb (first_outside (samples_of N L C)) (length (samples_of N L C)) e)

pub restored_none : (N L : ℕ) (C : List ℤ) → (first_outside (samples_of N L C) ≡ length (samples_of N L C) → ⊥) → restored_of N L C ≡ all_zero N
restored_none N L C e = rw (ne_eqb (first_outside (samples_of N L C)) (length (samples_of N L C)) e)

-- a lent array of which the first I entries were lent on, after a call whose checks are passed
pub own_first : (N all : ℕ) (r : Outcome) → r ≡ Ok tt → all ≡ all_of N → (l own held : List ℤ) → l ≡ own → length own ≡ all_of N → l ++ drop all held ≡ lent_after r own held
own_first N all r done e l own held q n = rw (q, e, ← n) (sym (lent_done r own held done))
