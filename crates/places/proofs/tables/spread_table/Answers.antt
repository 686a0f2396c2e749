use Rattle.places.proofs.tables.spread_table.Goals as goal
-- The spreader's rule is tested here over the whole table, once, by computation. `Lookups` carries it to each lookup.
use mathlib.Core.Path.{refl}
use Rattle.sizes.specs.Tables.{table}
use Rattle.places.specs.Spread.{spread, spreader}

pub returns : goal.returns
unfolding table spread spreader
returns c = refl
