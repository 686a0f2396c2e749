use Rattle.fours.proofs.count.Goals as goal
-- Each number of four bits is tested here, by computation.
use mathlib.Core.Path.{◌≡◌, refl, ◌∙◌}
use Prim.Native.Nat.{ℕ, ◌*◌, ◌/◌, ◌%◌, ◌^◌}
use native.Mathlib.Omega.{arith}
use Rattle.sizes.specs.Tables.{table}
use Rattle.fours.specs.Words.{count_of}
use Rattle.fours.proofs.Laws.{same_at, count_low}

abbrev computed : ℕ → ℕ
computed k = 4841987667533046032 / 2 ^ (4 * k) % 16

cases : table 16 computed ≡ table 16 count_of
unfolding table
cases = refl

pub returns : goal.returns
returns c = same_at 16 computed count_of cases (c.args.k % 16) (omega arith) ∙ count_low c.args.k
