use mathlib.Core.Bool.{Bool}
use mathlib.Core.Path.{ap, ◌∙◌}
use mir.Facts.{to_z-of_z}
use Rattle.coef.specs.Coef.{negative}
use Rattle.bits.specs.Bits.{digit}
use Rattle.ctxp.specs.Answers.{of_value}
use Rattle.ctxp.proofs.Laws.{answers_by}
use Rattle.ctxp.proofs.txp_is_negative.Goals as goal

pub returns : goal.returns
returns c = answers_by c.put.result _ (c.of_bool.ensures ∙ ap (λ (t : Bool). of_value (digit t)) (c.is_negative-done.ensures ∙ ap negative (to_z-of_z c.ranges.x))) c.put.ensures
