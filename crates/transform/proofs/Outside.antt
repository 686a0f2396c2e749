-- Samples: the range, the test, and the first place outside.
use mathlib.Core.Path.{◌≡◌, refl, sym, ◌∙◌, subst}
use mathlib.Core.Bool.{Bool, true, false, ◌&&◌, cond}
use mathlib.Core.List.{List, [], ◌∷◌}
use Prim.Native.Nat.{ℕ, zero, suc, ◌≤◌, ◌<◌}
use native.Mathlib.Decide.{dec_lt}
use native.Mathlib.Omega.{arith}
use borrow.Author.Tests.{leb-true, le-leb}
use lib.Dec.{leb}
use lib.IntN.{ℤ, pos, negsuc}
use lib.ListN.{length, get_or-eq_default}
use lib.Signed.{mag}
use Rattle.coef.specs.Coef.{at}
use Rattle.transform.specs.Answers.{is_sample, first_outside}

and_true : (t : Bool) → (t && true) ≡ t
and_true true = refl
and_true false = refl

pub sample_test : (z : ℤ) → is_sample z ≡ leb (mag z) 32767
unfolding is_sample
sample_test (pos n) = refl
sample_test (negsuc n) = and_true (leb n 32767)

pub sample_mag : (z : ℤ) → is_sample z ≡ true → mag z ≤ 32767
sample_mag z e = leb-true (mag z) 32767 (sym (sample_test z) ∙ e)

pub mag_sample : (z : ℤ) → mag z ≤ 32767 → is_sample z ≡ true
mag_sample z h = sample_test z ∙ le-leb (mag z) 32767 h

-- none is outside exactly if the first such place is the length
pub outside_before : (A : List ℤ) (i : ℕ) → i < first_outside A → is_sample (at A i) ≡ true
unfolding first_outside
outside_before [] i h = absurd (omega arith)
outside_before (z ∷ A) i h = tell i (is_sample z) refl h (λ k l. outside_before A k l)
  where
    tell : (i : ℕ) (t : Bool) → is_sample z ≡ t → i < cond t (suc (first_outside A)) 0 → ((k : ℕ) → k < first_outside A → is_sample (at A k) ≡ true) → is_sample (at (z ∷ A) i) ≡ true
    tell i false e l ih = absurd (omega arith)
    tell zero true e l ih = e
    tell (suc i) true e l ih = ih i (omega arith)

pub outside_none : (A : List ℤ) → ((i : ℕ) → i < length A → is_sample (at A i) ≡ true) → first_outside A ≡ length A
unfolding first_outside
outside_none [] h = refl
outside_none (z ∷ A) h =
    let e : is_sample z ≡ true = h 0 (omega arith) in
    rw (e, outside_none A (λ i l. h (suc i) (omega arith)))

-- past the end there is 0, which is a sample
pub all_samples : (A : List ℤ) → first_outside A ≡ length A → (i : ℕ) → mag (at A i) ≤ 32767
all_samples A e i = tell (dec_lt i (length A))
  where
    tell : Dec (i < length A) → mag (at A i) ≤ 32767
    tell (yes l) = sample_mag (at A i) (outside_before A i (omega arith))
    tell (no l) = subst (λ (z : ℤ). mag z ≤ 32767) (sym (get_or-eq_default A (pos 0) {n = i} (omega arith))) (omega arith)

pub outside_le : (A : List ℤ) → first_outside A ≤ length A
unfolding first_outside
outside_le [] = omega arith
outside_le (z ∷ A) = tell (is_sample z) (outside_le A)
  where
    tell : (t : Bool) → first_outside A ≤ length A → cond t (suc (first_outside A)) 0 ≤ suc (length A)
    tell true ih = omega arith
    tell false ih = omega arith
