use borrow.Author.Tests.{le-leb, lt-leb}
use Rattle.sizes.specs.Sizes.{levels_fit}
use Rattle.sizes.proofs.levels_fit.Goals as goal

pub returns-then-l-lt1 : goal.returns-then-l-lt1
unfolding levels_fit
returns-then-l-lt1 c = rw (lt-leb 1 c.args.l c.if-l-lt1.true)

pub returns : goal.returns
unfolding levels_fit
returns c = rw (le-leb 1 c.args.l c.if-l-lt1.false)
