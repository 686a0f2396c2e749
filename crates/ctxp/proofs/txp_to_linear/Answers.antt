use mathlib.Core.Path.{ap, ◌∙◌}
use lib.ListN.{length}
use Rattle.places.specs.Answers.{reorder_checks}
use Rattle.refusals.specs.Checks.{first_failing}
use Rattle.places.specs.Order.{linearly}
use Rattle.ctxp.specs.Answers.{of_outcome}
use Rattle.ctxp.proofs.Laws.{answers_by, lent_by}
use Rattle.ctxp.proofs.txp_to_linear.Goals as goal

pub returns : goal.returns
returns c = let e = c.reorder_to_linear-done in
    let a = c.args in
    let s = first_failing (reorder_checks a.n (length a.from.now) (length a.to.now)) in record { answer = answers_by c.put.result _ (c.of_outcome.ensures ∙ ap of_outcome e.ensures.0) c.put.ensures; reordered = lent_by e.result s (linearly a.n a.from.now) a.to.now e.ensures.0 e.ensures.1 }
