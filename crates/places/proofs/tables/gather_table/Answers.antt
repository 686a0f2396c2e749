use Rattle.places.proofs.tables.gather_table.Goals as goal
-- The table for the way back is tested here, whole, by computation.
use mathlib.Core.Path.{refl}
use Rattle.sizes.specs.Tables.{table}
use Rattle.places.specs.Order.{row_of, col_of}
use Rattle.places.specs.Gather.{gatherer}

pub returns : goal.returns
unfolding table row_of col_of gatherer
returns c = refl
