use borrow.Author.Tests.{le-leb, lt-leb}
use Rattle.sizes.specs.Sizes.{side_fits}
use Rattle.sizes.proofs.side_fits.Goals as goal

pub returns-then-n-lt-LEAST_N : goal.returns-then-n-lt-LEAST_N
unfolding side_fits
returns-then-n-lt-LEAST_N c = rw (lt-leb 2 c.args.n c.if-n-lt-LEAST_N.true)

pub returns : goal.returns
unfolding side_fits
returns c = rw (le-leb 2 c.args.n c.if-n-lt-LEAST_N.false)
