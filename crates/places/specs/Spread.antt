-- The spreader (document 01, "Linear order": "bit k goes to bit 2k, the others are 0").
use Rattle.std.specs.Prelude.{ℕ, zero, suc, ◌+◌, ◌*◌, ◌/◌, ◌%◌}
use mathlib.Core.{List.List, Path.◌≡◌, Bool.false}
use Rattle.bits.specs.Bits.{bit}
use Rattle.sizes.specs.Tables.{table}

-- the rule
pub record Spreads (x y : ℕ) : Type 0 where
  pub even : (k : ℕ) → bit y (2 * k) ≡ bit x k
  pub odd : (k : ℕ) → bit y (2 * k + 1) ≡ false

-- the number that the rule gives for a number of n bits
unfoldable pub spread : ℕ → ℕ → ℕ
spread zero x = 0
spread (suc n) x = spread n (x / 2) * 4 + x % 2

-- "a constant table of 256 entries from one byte to two"
unfoldable pub spreader : List ℕ
spreader = table 256 (λ x. spread 8 x)
