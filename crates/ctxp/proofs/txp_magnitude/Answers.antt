use mathlib.Core.Path.{ap, ◌∙◌}
use mir.Facts.{to_z-of_z}
use Rattle.coef.specs.Coef.{magnitude}
use Rattle.ctxp.specs.Answers.{of_value}
use Rattle.ctxp.proofs.Laws.{answers_by}
use Rattle.ctxp.proofs.txp_magnitude.Goals as goal

pub returns : goal.returns
returns c = answers_by c.put.result _ (c.value.ensures ∙ ap of_value (c.magnitude-done.ensures ∙ ap magnitude (to_z-of_z c.ranges.x))) c.put.ensures
