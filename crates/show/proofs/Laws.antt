-- How long a number is; and a row as a part of the picture.
use mathlib.Core.Path.{◌≡◌}
use mathlib.Core.List.{List}
use Prim.Native.Nat.{ℕ, zero, suc, ◌+◌, ◌*◌, ◌-◌, ◌≤◌, ◌<◌}
use native.Mathlib.Omega.{arith}
use lib.IntN.{ℤ, pos, negsuc}
use lib.ListN.{length, take, drop, length-drop}
use lib.Seq.{take_all}
use mir.Syntax.{w32}
use mir.Val.{SFits}
use Rattle.decimal.specs.Decimal.{signed_decimal}
use Rattle.decimal.proofs.Laws.{signed_most}

-- a 32-bit number with a sign has at most 11 characters
pub signed_short : (z : ℤ) → SFits w32 z → length (signed_decimal z) ≤ 11
signed_short (pos n) f = signed_most (pos n) (omega (arith, f.sfits))
signed_short (negsuc n) f = signed_most (negsuc n) (omega (arith, f.sfits))

-- rows left, the next one and the others
pub rows_left : (left side : ℕ) → 0 < left → left * side ≡ (left - 1) * side + side
rows_left zero side h = absurd (omega arith)
rows_left (suc k) side h =
    let e : suc k - 1 ≡ k = omega arith in
    rw e (omega arith)

-- whether rows are left, by the numbers that are
pub some_left : (left side n : ℕ) → n ≡ left * side → 1 ≤ n → 0 < left
some_left zero side n e h = absurd (omega arith)
some_left (suc k) side n e h = omega arith

pub none_left : (left side n : ℕ) → n ≡ left * side → n < side → left ≤ 0
none_left zero side n e h = omega arith
none_left (suc k) side n e h = absurd (omega (arith, rows_left (suc k) side (omega arith)))

-- a row of a picture, and a row behind its first number, as parts of a list
pub rest_part : (row : List ℤ) → take (length row - 1) (drop 1 row) ≡ drop 1 row
rest_part row = take_all (length row - 1) (drop 1 row) (omega (arith, length-drop 1 row))
