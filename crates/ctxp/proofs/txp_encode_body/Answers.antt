use Rattle.ctxp.proofs.Laws.{answers_by}
use Rattle.ctxp.proofs.txp_encode_body.Goals as goal

pub returns : goal.returns
returns c = let e = c.encode-done in
    record { said = e.result; encodes = e.ensures; answers = answers_by c.put.result _ c.of_written.ensures c.put.ensures }
