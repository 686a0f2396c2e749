use Rattle.encoder.specs.Body.{loan}
use Rattle.ctxp.proofs.Laws.{answers_by, file_short}
use Rattle.ctxp.proofs.txp_encode.Goals as goal

pub of_encoded-requires : goal.of_encoded-requires
of_encoded-requires c = let a = c.args in
    let e = c.encode-done in
    file_short a.n a.l a.coefs.now a.budget (loan a.desc.now a.grand.now a.marks.now a.out.now)
    (loan e.new.desc e.new.grand e.new.marks e.new.out) e.result c.ranges.budget.fits e.ensures

pub returns : goal.returns
returns c = let e = c.encode-done in
    record { said = e.result; encodes = e.ensures; answers = answers_by c.put.result _ c.of_encoded.ensures c.put.ensures }
