use borrow.Author.Tests.{lt-ltb, le-ltb}
use Rattle.decoder.proofs.finish.row.Goals as goal

pub returns-then-mark-gt-MG : goal.returns-then-mark-gt-MG
returns-then-mark-gt-MG c = rw (lt-ltb 6 c.args.mark c.if-mark-gt-MG.true)

pub returns : goal.returns
returns c = rw (le-ltb 6 c.args.mark c.if-mark-gt-MG.false) c.down_to.ensures
