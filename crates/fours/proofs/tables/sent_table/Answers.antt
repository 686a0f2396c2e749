use Rattle.fours.proofs.tables.sent_table.Goals as goal
-- The table of what is sent of four coefficients is tested here, whole, by computation.
use mathlib.Core.Path.{refl}
use Rattle.sizes.specs.Tables.{table}
use Rattle.bits.specs.Bits.{bit}
use Rattle.fours.specs.Tables.{value_of, sent_table}

pub returns : goal.returns
unfolding table bit value_of sent_table
returns c = refl
