use mathlib.Core.Path.{◌∙◌}
use Rattle.std.proofs.Common.{arith}
use Rattle.marking.proofs.Laws.{most_all}
use Rattle.undo.specs.Undoing.{table_fits}
use Rattle.undo.proofs.table_fits.Goals as goal

pub returns-else-coarsest-ge4 : goal.returns-else-coarsest-ge4
unfolding table_fits
returns-else-coarsest-ge4 c = grind (arith, c.all_of.ensures ∙ most_all)
