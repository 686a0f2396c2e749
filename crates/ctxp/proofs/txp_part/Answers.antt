use mathlib.Core.Path.{ap, ◌∙◌}
use mir.Facts.{to_z-of_z}
use Rattle.coef.specs.Coef.{parted_of}
use Rattle.ctxp.specs.Answers.{of_parted}
use Rattle.ctxp.proofs.Laws.{answers_by}
use Rattle.ctxp.proofs.txp_part.Goals as goal

pub returns : goal.returns
returns c = answers_by c.put.result _ (c.of_parted.ensures ∙ ap of_parted (c.part_of-done.ensures ∙ ap parted_of (to_z-of_z c.ranges.x))) c.put.ensures
