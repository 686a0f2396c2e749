use mathlib.Core.Path.{ap, ◌∙◌}
use Rattle.ctxp.specs.Answers.{of_next}
use Rattle.ctxp.proofs.Laws.{answers_by}
use Rattle.ctxp.proofs.txp_read_bit.Goals as goal

pub returns : goal.returns
returns c = answers_by c.put.result _ (c.of_next.ensures ∙ ap of_next c.read-done.ensures) c.put.ensures
