use Rattle.steps.specs.Steps.{Forwards}
use Rattle.ctxp.proofs.Laws.{answers_by, step_from}
use Rattle.ctxp.proofs.txp_forward.Goals as goal

pub returns : goal.returns
returns c = let a = c.args in
    let step = c.take_forward-done in
    record { said = step.result.answer; moved = step.result.dial; forwards = step_from (Forwards a.declared a.body.now) c.dial_of-from.ensures step.ensures; recorded = c.put_dial.ensures; answers = answers_by c.put.result _ c.of_read.ensures c.put.ensures }
