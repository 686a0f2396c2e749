use native.Mathlib.Omega.{arith}
use mathlib.Core.Path.{◌∙◌}
use Rattle.marking.proofs.Laws.{most_all, in_so, in_large}
use Rattle.marking.proofs.in_table.Goals as goal

pub returns-then-all-all_of : goal.returns-then-all-all_of
returns-then-all-all_of c = in_so _ _ (omega (arith, c.all_of.ensures ∙ most_all))

pub returns : goal.returns
returns c = in_large _ _ (omega (arith, c.all_of.ensures ∙ most_all))
