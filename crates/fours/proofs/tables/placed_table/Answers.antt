use Rattle.fours.proofs.tables.placed_table.Goals as goal
-- The table of placed bits is tested here, whole, by computation.
use mathlib.Core.Path.{refl}
use Rattle.sizes.specs.Tables.{table}
use Rattle.bits.specs.Bits.{bit}
use Rattle.fours.specs.Tables.{placed_table}

pub returns : goal.returns
unfolding table bit placed_table
returns c = refl
