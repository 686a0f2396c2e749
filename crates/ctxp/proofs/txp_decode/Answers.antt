use Rattle.ctxp.proofs.Laws.{answers_by}
use Rattle.ctxp.proofs.txp_decode.Goals as goal

pub returns : goal.returns
returns c = record { said = c.decode-done.result; decodes = c.decode-done.ensures; answers = answers_by c.put.result _ c.of_decoded.ensures c.put.ensures }
