use lib.ListN.{length}
use Rattle.walk.specs.Scans.{planes, left_of}
use Rattle.walk.specs.Visits.{scan_of}
use Rattle.walk.proofs.Turns.{resume_all}
use Rattle.encoder.specs.Writing.{writer, st}
use Rattle.encoder.proofs.writing.scan.Goals as goal

pub returns-then-budget-lt64 : goal.returns-then-budget-lt64
returns-then-budget-lt64 c = let a = c.args in c.go_on.ensures _ _ (resume_all (scan_of (writer a.src.coefs.now a.src.desc.now a.src.grand.now a.budget) (length a.marks.now)) a.count (st a.marks.now a.out.now 0))

pub returns : goal.returns
returns c = let a = c.args in
    let e = scan_of (writer a.src.coefs.now a.src.desc.now a.src.grand.now a.budget) (length a.marks.now) in
    let t = st a.marks.now a.out.now 0 in
    c.go_on-2.ensures (planes e a.count t) (left_of e a.count t) (rw c.scan-r.auto.marks c.scan-r.ensures.0)
