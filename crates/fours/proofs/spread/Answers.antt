use Rattle.fours.proofs.spread.Goals as goal
-- Each number of four bits is tested here, by computation.
use mathlib.Core.Path.{◌≡◌, refl, ◌∙◌}
use Prim.Native.Nat.{ℕ, ◌*◌, ◌%◌}
use native.Mathlib.Omega.{arith}
use lib.Bits.{bit_and}
use Rattle.sizes.specs.Tables.{table}
use Rattle.fours.specs.Words.{spread_of}
use Rattle.fours.proofs.Laws.{same_at, spread_low}

abbrev computed : ℕ → ℕ
computed a = bit_and (a * 2113665) 16843009

cases : table 16 computed ≡ table 16 spread_of
unfolding table
cases = refl

pub returns : goal.returns
returns c = same_at 16 computed spread_of cases (c.args.a % 16) (omega arith) ∙ spread_low c.args.a
