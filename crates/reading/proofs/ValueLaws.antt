-- Codes as the machine makes them: shifts, and what a store of an i32 does.
use Prim.Native.Nat.{ℕ, ◌+◌, ◌*◌, ◌%◌, ◌^◌, ◌≤◌, ◌<◌}
use mathlib.Core.Path.{◌≡◌, ap, ◌∙◌}
use mathlib.Core.Bool.{Bool}
use mathlib.Core.List.{List}
use native.Mathlib.Nat.{mod-eq_of_lt, mul-le-mul}
use native.Mathlib.Omega.{arith}
use lib.Bits.{bit_or}
use lib.IntN.{ℤ, pos}
use lib.ListN.{set}
use lib.Pow.{pow_mono}
use mir.Facts.{to_z_pos}
use mir.Syntax.{w32}
use mir.Val.{SFits, Fits, of_z, to_z, bool_byte}
use Rattle.bits.specs.Bits.{digit}
use Rattle.bits.proofs.Laws.{digit_le, as_digit}
use Rattle.coef.specs.Coef.{at}
use Rattle.reading.specs.Reading.{new_code, more_code}

-- shifts
pub level_small : (b : ℕ) → b < 25 → 2 ^ b ≤ 16777216
level_small b h = pow_mono {i = b} {j = 24} (omega arith)

pub level_one : (b : ℕ) → b < 25 → 1 * 2 ^ b % 4294967296 ≡ 2 ^ b
level_one b h = omega (arith, level_small b h)

pub level_two : (b : ℕ) → b < 24 → 2 * 2 ^ b % 4294967296 ≡ 2 * 2 ^ b
level_two b h = mod-eq_of_lt (omega (arith, level_small b (omega arith)))

digit_small : (x : Bool) (b : ℕ) → b < 25 → digit x * 2 ^ b ≤ 16777216
digit_small x b h = omega (arith, mul-le-mul (digit_le x) (level_small b h))

level_of : (x : Bool) (b : ℕ) → b < 25 → bool_byte x * 2 ^ b % 4294967296 ≡ digit x * 2 ^ b
level_of x b h = ap (λ (k : ℕ). k * 2 ^ b % 4294967296) (as_digit x) ∙ mod-eq_of_lt (omega (arith, digit_small x b h))

-- the code of a coefficient that is found
module _ (s : Bool) (b : ℕ) (h : b < 24) where
  found_so : 2 * 2 ^ b % 4294967296 + bool_byte s ≡ 2 * 2 ^ b + digit s
  found_so = omega (arith, level_two b h, as_digit s)

  found_small : 2 * 2 ^ b % 4294967296 + bool_byte s < 2 ^ 31
  found_small = omega (arith, found_so, level_small b (omega arith), digit_le s)

  pub found_fits : Fits w32 (2 * 2 ^ b % 4294967296 + bool_byte s)
  found_fits = record { fits = omega (arith, found_small) }

  pub found_signed : SFits w32 (pos (2 * 2 ^ b % 4294967296 + bool_byte s))
  found_signed = record { sfits = found_small }

  pub found_is : (v : List ℤ) (i : ℕ) → set v i (to_z w32 (2 * 2 ^ b % 4294967296 + bool_byte s)) ≡ set v i (new_code s b)
  found_is v i = ap (λ (z : ℤ). set v i z) (to_z_pos w32 found_small ∙ ap pos found_so)

-- one more bit of a code
module _ (x : Bool) (b : ℕ) (h : b < 24) where
  more_so : bool_byte x * 2 ^ (b + 1) % 4294967296 ≡ digit x * 2 ^ (b + 1)
  more_so = level_of x (b + 1) (omega arith)

  pub more_signed : SFits w32 (pos (bool_byte x * 2 ^ (b + 1) % 4294967296))
  more_signed = record { sfits = omega (arith, more_so, digit_small x (b + 1) (omega arith)) }

  pub more_is : (v : List ℤ) (i : ℕ) → set v i (to_z w32 (bit_or (of_z w32 (at v i)) (bool_byte x * 2 ^ (b + 1) % 4294967296))) ≡ set v i (more_code x b (at v i))
  unfolding more_code
  more_is v i = ap (λ (n : ℕ). set v i (to_z w32 (bit_or (of_z w32 (at v i)) n))) more_so
