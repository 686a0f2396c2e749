use mathlib.Core.Path.{refl}
use Rattle.sizes.specs.Tables.{table}
use Rattle.fours.proofs.Laws.{low_is}
use Rattle.fours.proofs.low.Goals as goal

pub returns : goal.returns
unfolding table
returns c = low_is _ c.args.w c.ranges.w.fits refl refl refl refl
