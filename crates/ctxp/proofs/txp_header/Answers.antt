use mathlib.Core.Path.{ap, ◌∙◌}
use Rattle.ctxp.specs.Answers.{of_header}
use Rattle.ctxp.proofs.Laws.{answers_by}
use Rattle.ctxp.proofs.txp_header.Goals as goal

pub returns : goal.returns
returns c = answers_by c.put.result _ (c.of_header.ensures ∙ ap of_header c.read_header-done.ensures) c.put.ensures
