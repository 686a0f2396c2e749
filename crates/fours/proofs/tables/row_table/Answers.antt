use Rattle.fours.proofs.tables.row_table.Goals as goal
-- The table of whole numbers of 32 bits is tested here, whole, by computation.
use mathlib.Core.Path.{refl}
use Rattle.sizes.specs.Tables.{table}
use Rattle.bits.specs.Bits.{bit}
use Rattle.fours.specs.Tables.{row_table}

pub returns : goal.returns
unfolding table bit row_table
returns c = refl
