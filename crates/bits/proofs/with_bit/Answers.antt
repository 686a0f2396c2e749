use mathlib.Core.Path.{◌≡◌, sym, ap, ◌∙◌}
use mathlib.Core.Bool.{Bool}
use Prim.Native.Nat.{ℕ, ◌+◌, ◌*◌, ◌-◌, ◌/◌, ◌%◌, ◌^◌, ◌<◌}
use native.Mathlib.Nat.{add-mul, mul_assoc, mod-eq_of_lt}
use native.Mathlib.Omega.{arith}
use mir.Val.{bool_byte}
use lib.Pow.{pow-add, shr_le, shr_mod, shr-shr}
use Rattle.bits.specs.Bits.{digit, byte_with}
use Rattle.bits.proofs.Laws.{digit_le, as_digit, byte_lt}
use Rattle.bits.proofs.with_bit.Goals as goal

-- what the code computes, in 32 bits
stored : (v k : ℕ) (x : Bool) → v < 256 → k < 8 → (v / 2 ^ (7 - k) / 2 * 2 + bool_byte x) * 2 ^ (7 - k) % 4294967296 ≡ byte_with v k x
unfolding byte_with
stored v k x h l = ap (λ (y : ℕ). y % 4294967296) (joined (7 - k) (omega arith)) ∙ mod-eq_of_lt (omega (arith, byte_lt v k x l))
  where
    distrib : (q c d : ℕ) → (q * 2 + c) * 2 ^ d ≡ q * 2 ^ (d + 1) + c * 2 ^ d
    distrib q c d =
        add-mul (q * 2) c (2 ^ d)
        ∙ ap (λ (y : ℕ). y + c * 2 ^ d) (mul_assoc q 2 (2 ^ d) ∙ ap (λ (y : ℕ). q * y) (sym (pow-add 2 1 d) ∙ ap (λ (y : ℕ). 2 ^ y) {x = 1 + d} {y = d + 1} (omega arith)))

    joined : (d : ℕ) → 8 - k ≡ d + 1 → (v / 2 ^ d / 2 * 2 + bool_byte x) * 2 ^ d ≡ byte_with v k x
    joined d e =
        let f : 7 - k ≡ d = omega (arith, e) in
        let w : v < 2 ^ (k + (d + 1)) = omega (arith, h, ap (λ (y : ℕ). 2 ^ y) {x = k + (d + 1)} {y = 8} (omega (arith, l, e))) in
        rw (e, f, shr_mod k (d + 1) w, as_digit x, sym (shr-shr v d 1)) (distrib (v / 2 ^ d / 2) (digit x) d)

pub overflow_mul-result : goal.overflow_mul-result
overflow_mul-result c = omega (arith, c.ranges.held.fits, shr_le c.args.held (7 - c.args.at % 8))

pub overflow_add-result : goal.overflow_add-result
overflow_add-result c = rw (as_digit c.args.x) (omega (arith, c.ranges.held.fits, shr_le c.args.held (7 - c.args.at % 8), digit_le c.args.x))

pub overflow_cast-result-5 : goal.overflow_cast-result-5
overflow_cast-result-5 c = rw (stored c.args.held (c.args.at % 8) c.args.x c.ranges.held.fits (omega arith)) (omega (arith, byte_lt c.args.held (c.args.at % 8) c.args.x (omega arith)))

pub returns : goal.returns
returns c = stored c.args.held (c.args.at % 8) c.args.x c.ranges.held.fits (omega arith)
