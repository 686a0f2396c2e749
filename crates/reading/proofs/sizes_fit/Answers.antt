use mathlib.Core.Path.{◌∙◌}
use Rattle.std.proofs.Common.{arith}
use Rattle.marking.proofs.Laws.{most_all}
use Rattle.reading.proofs.sizes_fit.Goals as goal

pub returns-else-coarsest-all : goal.returns-else-coarsest-all
returns-else-coarsest-all c = grind (arith, c.all_of.ensures ∙ most_all)
