use Rattle.fours.proofs.tables.picked_table.Goals as goal
-- The table of picked bits is tested here, whole, by computation.
use mathlib.Core.Path.{refl}
use Rattle.sizes.specs.Tables.{table}
use Rattle.bits.specs.Bits.{bit}
use Rattle.fours.specs.Tables.{value_of, picked_table}

pub returns : goal.returns
unfolding table bit value_of picked_table
returns c = refl
