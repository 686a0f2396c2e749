use Rattle.ctxp.proofs.Laws.{answers_by}
use Rattle.ctxp.proofs.txp_restore.Goals as goal

pub returns : goal.returns
returns c = let e = c.inverse-done in
    record { said = e.result; restores = e.ensures; answers = answers_by c.put.result _ c.of_outcome.ensures c.put.ensures }
