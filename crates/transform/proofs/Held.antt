-- What the machine does with the numbers of a pair. A local holds its bits, so that a goal speaks of `to_z w32 (of_z w32 z)`.
use mathlib.Core.Path.{◌≡◌, refl, sym, ◌∙◌, ap, subst}
use Prim.Native.Nat.{ℕ, ◌<◌, ◌≤◌}
use native.Mathlib.Omega.{arith}
use lib.IntN.{ℤ, pos, negsuc, neg_ℤ, nat_abs, ◌+ℤ◌, ◌-ℤ◌}
use lib.Signed.{mag, shr_z}
use mir.Facts.{to_z-of_z}
use mir.Syntax.{w32}
use mir.Val.{SFits, of_z, to_z}
use Rattle.coef.proofs.Held.{read_back}
use Rattle.transform.specs.Transform.{halved, low, high, first, second}
use Rattle.transform.proofs.Range.{mag_size, sum_size, neg_size, half_size, first_size, next_half, second_size}

-- a number that is not too large, as a local holds it
pub fits : (z : ℤ) → nat_abs z ≤ 1073741824 → SFits w32 z
fits z h = record { sfits = omega (arith, mag_size z) }

pub held : (z : ℤ) → nat_abs z ≤ 1073741824 → to_z w32 (of_z w32 z) ≡ z
held z h = to_z-of_z (fits z h)

shift_half : (z : ℤ) → shr_z z 2 ≡ halved z
shift_half (pos n) = refl
shift_half (negsuc n) = refl

module _ (a b : ℤ) (h : nat_abs a ≤ 268435456) (k : nat_abs b ≤ 268435456) where
  plus : to_z w32 (of_z w32 a) +ℤ to_z w32 (of_z w32 b) ≡ a +ℤ b
  plus = rw (held a (omega arith), held b (omega arith))

  pub plus_fits : SFits w32 (to_z w32 (of_z w32 a) +ℤ to_z w32 (of_z w32 b))
  plus_fits = subst (λ (z : ℤ). SFits w32 z) (sym plus) (fits (a +ℤ b) (omega (arith, sum_size a b)))

  minus : to_z w32 (of_z w32 a) -ℤ to_z w32 (of_z w32 b) ≡ a -ℤ b
  minus = rw (held a (omega arith), held b (omega arith))

  less : nat_abs (a -ℤ b) ≤ 1073741824
  less = omega (arith, sum_size a (neg_ℤ b), neg_size b)

  pub minus_fits : SFits w32 (to_z w32 (of_z w32 a) -ℤ to_z w32 (of_z w32 b))
  minus_fits = subst (λ (z : ℤ). SFits w32 z) (sym minus) (fits (a -ℤ b) less)

  pub low_held : to_z w32 (of_z w32 (shr_z (to_z w32 (of_z w32 (to_z w32 (of_z w32 a) +ℤ to_z w32 (of_z w32 b)))) 2)) ≡ low a b
  unfolding low
  low_held =
      rw (plus, held (a +ℤ b) (omega (arith, sum_size a b)), shift_half (a +ℤ b))
      (held (halved (a +ℤ b)) (omega (arith, half_size (a +ℤ b), sum_size a b)))

  pub high_held : to_z w32 (of_z w32 (to_z w32 (of_z w32 a) -ℤ to_z w32 (of_z w32 b))) ≡ high a b
  unfolding high
  high_held = ap (λ (z : ℤ). to_z w32 (of_z w32 z)) minus ∙ held (a -ℤ b) less

  -- the half of one more than high
  pub next_fits : SFits w32 (to_z w32 (of_z w32 b) +ℤ pos 1)
  next_fits = subst (λ (z : ℤ). SFits w32 (z +ℤ pos 1)) (sym (held b (omega arith))) (fits (b +ℤ pos 1) (omega (arith, sum_size b (pos 1))))

  half_next : to_z w32 (of_z w32 (shr_z (to_z w32 (of_z w32 (to_z w32 (of_z w32 b) +ℤ pos 1))) 2)) ≡ halved (b +ℤ pos 1)
  half_next =
      rw (held b (omega arith), held (b +ℤ pos 1) (omega (arith, sum_size b (pos 1))), shift_half (b +ℤ pos 1))
      (held (halved (b +ℤ pos 1)) (omega (arith, next_half b)))

  whole : to_z w32 (of_z w32 a) +ℤ to_z w32 (of_z w32 (shr_z (to_z w32 (of_z w32 (to_z w32 (of_z w32 b) +ℤ pos 1))) 2)) ≡ first a b
  unfolding first
  whole = ap (λ (z : ℤ). z +ℤ to_z w32 (of_z w32 (shr_z (to_z w32 (of_z w32 (to_z w32 (of_z w32 b) +ℤ pos 1))) 2))) (held a (omega arith)) ∙ ap (λ (z : ℤ). a +ℤ z) half_next

  pub first_fits : SFits w32 (to_z w32 (of_z w32 a) +ℤ to_z w32 (of_z w32 (shr_z (to_z w32 (of_z w32 (to_z w32 (of_z w32 b) +ℤ pos 1))) 2)))
  first_fits = subst (λ (z : ℤ). SFits w32 z) (sym whole) (fits (first a b) (omega (arith, first_size a b)))

  pub first_held : to_z w32 (of_z w32 (to_z w32 (of_z w32 a) +ℤ to_z w32 (of_z w32 (shr_z (to_z w32 (of_z w32 (to_z w32 (of_z w32 b) +ℤ pos 1))) 2)))) ≡ first a b
  first_held = ap (λ (z : ℤ). to_z w32 (of_z w32 z)) whole ∙ held (first a b) (omega (arith, first_size a b))

  -- the second of the pair, from the first
  second_minus : (f : ℤ) → f ≡ first a b → to_z w32 (of_z w32 f) -ℤ to_z w32 (of_z w32 b) ≡ second a b
  unfolding second
  second_minus f e = rw (e, held (first a b) (omega (arith, first_size a b)), held b (omega arith))

  pub second_fits : (f : ℤ) → f ≡ first a b → SFits w32 (to_z w32 (of_z w32 f) -ℤ to_z w32 (of_z w32 b))
  second_fits f e = subst (λ (z : ℤ). SFits w32 z) (sym (second_minus f e)) (fits (second a b) (omega (arith, second_size a b)))

  pub second_held : (f : ℤ) → f ≡ first a b → to_z w32 (of_z w32 (to_z w32 (of_z w32 f) -ℤ to_z w32 (of_z w32 b))) ≡ second a b
  second_held f e = ap (λ (z : ℤ). to_z w32 (of_z w32 z)) (second_minus f e) ∙ held (second a b) (omega (arith, second_size a b))

-- what a callee is told of an argument, and what it answers, without the local in between
pub still : (z : ℤ) (n : ℕ) → nat_abs z ≤ n → n ≤ 1073741824 → nat_abs (to_z w32 (of_z w32 z)) ≤ n
still z n h k = subst (λ (y : ℤ). nat_abs y ≤ n) (sym (held z (omega arith))) h

pub still_mag : (z : ℤ) (n : ℕ) → mag z ≤ n → n < 1073741824 → mag (to_z w32 (of_z w32 z)) ≤ n
still_mag z n h k = subst (λ (y : ℤ). mag y ≤ n) (sym (read_back z (omega arith))) h

pub bare : {A : Type 0} (f : ℤ → ℤ → A) (x : A) (p q : ℤ) → nat_abs p ≤ 1073741824 → nat_abs q ≤ 1073741824 → x ≡ f (to_z w32 (of_z w32 p)) (to_z w32 (of_z w32 q)) → x ≡ f p q
bare f x p q h k e = e ∙ rw (held p h, held q k)

-- an answer that is stored in a local again
pub told : (f : ℤ → ℤ → ℤ) (x p q P Q : ℤ) → nat_abs p ≤ 268435456 → nat_abs q ≤ 268435456 → x ≡ f (to_z w32 (of_z w32 p)) (to_z w32 (of_z w32 q)) → p ≡ P → q ≡ Q → nat_abs (f P Q) ≤ 1073741824 → to_z w32 (of_z w32 x) ≡ f P Q
told f x p q P Q h k e u v b =
    let g : x ≡ f P Q = bare f x p q (omega arith) (omega arith) e ∙ rw (u, v) in
    ap (λ (z : ℤ). to_z w32 (of_z w32 z)) g ∙ held (f P Q) b
