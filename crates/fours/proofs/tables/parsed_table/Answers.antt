use Rattle.fours.proofs.tables.parsed_table.Goals as goal
-- The table of codes in eight bits is tested here, whole, by computation.
use mathlib.Core.Path.{refl}
use Rattle.sizes.specs.Tables.{table}
use Rattle.bits.specs.Bits.{bit}
use Rattle.fours.specs.Tables.{parsed_table}

pub returns : goal.returns
unfolding table bit parsed_table
returns c = refl
