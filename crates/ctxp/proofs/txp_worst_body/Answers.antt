use mathlib.Core.Path.{ap, ◌∙◌}
use Rattle.ctxp.specs.Answers.{of_worst}
use Rattle.ctxp.proofs.Laws.{answers_by}
use Rattle.ctxp.proofs.txp_worst_body.Goals as goal

pub returns : goal.returns
returns c = answers_by c.put.result _ (c.of_worst.ensures ∙ ap of_worst c.worst_body-done.ensures) c.put.ensures
