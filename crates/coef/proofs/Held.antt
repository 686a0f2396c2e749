-- What the machine does with a signed number. A local holds its bits, so that a goal speaks of `to_z w32 (of_z w32 z)`.
use mathlib.Core.Path.{◌≡◌, refl, sym, ◌∙◌, ap, subst}
use mathlib.Core.Bool.{Bool, true, false, true≢false, false≢true}
use Prim.Native.Nat.{ℕ, zero, suc, ◌<◌, ◌≤◌, ◌^◌}
use native.Mathlib.Omega.{arith}
use lib.Dec.{T, leb-suc-zero, le→leb, lt→ltb}
use lib.Ieee.{binary32, in_float}
use lib.IntN.{ℤ, pos, negsuc, neg_ℤ, ◌-ℤ◌, +ℤ_idl}
use lib.Signed.{lt_z, non_neg, mag}
use mir.Facts.{to_z-of_z, to_z_pos}
use mir.Syntax.{w32}
use mir.Val.{SFits, Fits, of_z, to_z}
use Rattle.sizes.specs.Sizes.{limit}
use Rattle.coef.specs.Coef.{negative, magnitude, signed}

-- an element of a `&[i32]`, as a read hands it over
pub read_back : (z : ℤ) → mag z < 2 ^ 31 → to_z w32 (of_z w32 z) ≡ z
read_back z h = to_z-of_z {w = w32} {z = z} (record { sfits = h })

-- the test `x < 0`
pub lt_zero : (z : ℤ) → SFits w32 z → lt_z (to_z w32 (of_z w32 z)) (pos 0) ≡ negative z
lt_zero z f = ap (λ (y : ℤ). lt_z y (pos 0)) (to_z-of_z f) ∙ go z
  where
    go : (z : ℤ) → lt_z z (pos 0) ≡ negative z
    go (pos a) = leb-suc-zero a
    go (negsuc a) = refl

-- a checked negation
neg_fits : (z : ℤ) → magnitude z < 2 ^ 31 → SFits w32 (neg_ℤ z)
neg_fits (pos zero) h = record { sfits = h }
neg_fits (pos (suc n)) h = record { sfits = omega arith }
neg_fits (negsuc n) h = record { sfits = h }

neg_size : (z : ℤ) → magnitude (neg_ℤ z) ≡ magnitude z
neg_size (pos zero) = refl
neg_size (pos (suc n)) = refl
neg_size (negsuc n) = refl

neg_non_neg : (z : ℤ) → negative z ≡ true → T (non_neg (neg_ℤ z))
neg_non_neg (pos n) h = absurd (false≢true h)
neg_non_neg (negsuc n) h = tt

module _ (z : ℤ) (f : SFits w32 z) (h : magnitude z < 2 ^ 31) where
  gone : pos 0 -ℤ to_z w32 (of_z w32 z) ≡ neg_ℤ z
  gone = ap (λ (y : ℤ). pos 0 -ℤ y) (to_z-of_z f) ∙ +ℤ_idl (neg_ℤ z)

  negated : to_z w32 (of_z w32 (pos 0 -ℤ to_z w32 (of_z w32 z))) ≡ neg_ℤ z
  negated = ap (λ (y : ℤ). to_z w32 (of_z w32 y)) gone ∙ to_z-of_z (neg_fits z h)

  pub neg_sfits : SFits w32 (pos 0 -ℤ to_z w32 (of_z w32 z))
  neg_sfits = subst (λ (y : ℤ). SFits w32 y) (sym gone) (neg_fits z h)

  pub neg_is : magnitude (to_z w32 (of_z w32 (pos 0 -ℤ to_z w32 (of_z w32 z)))) ≡ magnitude z
  neg_is = ap magnitude negated ∙ neg_size z

  -- what its cast to `u32` asks
  pub neg_cast : negative z ≡ true
      → T (non_neg (to_z w32 (of_z w32 (pos 0 -ℤ to_z w32 (of_z w32 z))))) × Fits w32 (magnitude (to_z w32 (of_z w32 (pos 0 -ℤ to_z w32 (of_z w32 z)))))
  neg_cast n =
      subst (λ (y : ℤ). T (non_neg y) × Fits w32 (magnitude y)) (sym negated)
      (neg_non_neg z n, record { fits = omega (arith, neg_size z) })

-- what the cast of a number that is not below 0 asks
pub pos_cast : (z : ℤ) → SFits w32 z → negative z ≡ false
    → T (non_neg (to_z w32 (of_z w32 z))) × Fits w32 (magnitude (to_z w32 (of_z w32 z)))
pos_cast z f n = subst (λ (y : ℤ). T (non_neg y) × Fits w32 (magnitude y)) (sym (to_z-of_z f)) (go z f n)
  where
    go : (z : ℤ) → SFits w32 z → negative z ≡ false → T (non_neg z) × Fits w32 (magnitude z)
    go (pos a) f n = (tt, record { fits = omega (arith, f.sfits) })
    go (negsuc a) f n = absurd (true≢false n)

-- a magnitude within the limit as an `i32`, and its negative
module _ (n : ℕ) (h : n ≤ limit) where
  pub sign_plus : to_z w32 n ≡ signed false n
  sign_plus = to_z_pos w32 (omega arith)

  minus : pos 0 -ℤ to_z w32 n ≡ neg_ℤ (pos n)
  minus = ap (λ (y : ℤ). pos 0 -ℤ y) sign_plus ∙ +ℤ_idl (neg_ℤ (pos n))

  pub sign_fits : SFits w32 (pos 0 -ℤ to_z w32 n)
  sign_fits = subst (λ (y : ℤ). SFits w32 y) (sym minus) (neg_fits (pos n) (omega arith))

  pub sign_minus : to_z w32 (of_z w32 (pos 0 -ℤ to_z w32 n)) ≡ signed true n
  sign_minus = ap (λ (y : ℤ). to_z w32 (of_z w32 y)) minus ∙ to_z-of_z (neg_fits (pos n) (omega arith))

pub signed_fits : (s : Bool) (n : ℕ) → n ≤ limit → SFits w32 (signed s n)
signed_fits true n h = neg_fits (pos n) (omega arith)
signed_fits false n h = record { sfits = omega arith }

-- what the cast to `f32` asks
pub in_float_lem : (z : ℤ) → magnitude z ≤ limit → T (in_float binary32 z)
unfolding in_float
in_float_lem (pos n) h = le→leb n 16777216 (omega arith)
in_float_lem (negsuc n) h = lt→ltb n 16777216 (omega arith)
