use mathlib.Core.Path.{ap, ◌∙◌}
use Rattle.coef.proofs.Laws.{planes_one, planes_of_lem}
use Rattle.ctxp.specs.Answers.{of_planes}
use Rattle.ctxp.proofs.Laws.{answers_by}
use Rattle.ctxp.proofs.txp_planes.Goals as goal

pub returns : goal.returns
returns c = answers_by c.put.result _ (c.of_planes.ensures ∙ ap of_planes (planes_one c.planes-done.ensures (planes_of_lem c.args.coefs.now))) c.put.ensures
