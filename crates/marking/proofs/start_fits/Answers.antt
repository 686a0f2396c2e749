use native.Mathlib.Omega.{arith}
use mathlib.Core.Path.{◌∙◌}
use Rattle.marking.proofs.Laws.{most_all, start_large, start_none, start_over, start_four}
use Rattle.marking.proofs.start_fits.Goals as goal

pub returns-then-all_of-all : goal.returns-then-all_of-all
returns-then-all_of-all c = start_large _ _ (omega (arith, c.all_of.ensures ∙ most_all))

pub returns-then-coarsest-lt4 : goal.returns-then-coarsest-lt4
returns-then-coarsest-lt4 c = start_none _ _ (omega (arith, c.all_of.ensures ∙ most_all)) c.if-coarsest-lt4.true

pub returns-then-all-coarsest : goal.returns-then-all-coarsest
returns-then-all-coarsest c = start_over _ _ (omega (arith, c.all_of.ensures ∙ most_all)) (omega arith) (omega arith)

pub returns : goal.returns
returns c = start_four _ _ (omega (arith, c.all_of.ensures ∙ most_all)) (omega arith) (omega arith)
