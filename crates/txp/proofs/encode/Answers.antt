use Rattle.refusals.proofs.Laws.{left_by}
use Rattle.encoder.specs.Body.{loan}
use Rattle.txp.proofs.CallLaws.{refused_body, header_fits, file_written}
use Rattle.txp.proofs.encode.Goals as goal

pub put_header-requires : goal.put_header-requires
put_header-requires c = let a = c.args in
    let e = c.encode in
    header_fits a.n a.l a.coefs.now a.budget (loan a.desc.now a.grand.now a.marks.now a.out.now)
    (loan e.new.desc e.new.grand e.new.marks e.new.out) e.result e.ensures c.in_ok-written.written c.in_ok-written.was

pub returns : goal.returns
returns c = let a = c.args in
    let e = c.encode in
    rw c.bytes_for.ensures
    (file_written a.n a.l a.coefs.now a.budget (loan a.desc.now a.grand.now a.marks.now a.out.now)
    (loan e.new.desc e.new.grand e.new.marks e.new.out) e.result e.ensures c.in_ok-written.written c.in_ok-written.was c.put_header.new.out c.put_header.ensures)

pub returns-in_err-written : goal.returns-in_err-written
returns-in_err-written c = let a = c.args in
    let e = c.encode in
    rw (left_by c.from_residual.ensures.1)
    (refused_body a.n a.l a.coefs.now a.budget (loan a.desc.now a.grand.now a.marks.now a.out.now)
    (loan e.new.desc e.new.grand e.new.marks e.new.out) e.result e.ensures c.in_err-written.field-0.0 c.in_err-written.was)
