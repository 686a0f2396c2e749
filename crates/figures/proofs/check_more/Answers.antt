use mathlib.Core.List.{[], ◌∷◌}
use Rattle.refusals.specs.Checks.{need}
use Rattle.refusals.proofs.Laws.{passed_on}
use Rattle.tree.specs.Summaries.{summary_checks}
use Rattle.figures.proofs.Checks.{more_holds, more_fails}
use Rattle.figures.proofs.check_more.Goals as goal

pub returns-in_err-check : goal.returns-in_err-check
returns-in_err-check c = let a = c.args in
    passed_on (summary_checks a.n a.l a.values.now a.descs a.grands) (need a.holds a.otherwise ∷ []) c.check.ensures c.from_residual.ensures.1 c.in_err-check.was

pub returns-then-holds : goal.returns-then-holds
returns-then-holds c = let a = c.args in
    more_holds (summary_checks a.n a.l a.values.now a.descs a.grands) a.holds a.otherwise c.check.ensures c.in_ok-check.was c.if-holds.true

pub returns : goal.returns
returns c = let a = c.args in
    more_fails (summary_checks a.n a.l a.values.now a.descs a.grands) a.holds a.otherwise c.check.ensures c.in_ok-check.was c.if-holds.false
