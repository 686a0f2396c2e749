use Rattle.txp.specs.Header.{version_fits}
use Rattle.txp.proofs.version_fits.Goals as goal

pub returns : goal.returns
unfolding version_fits
returns c = rw c.two_at.ensures.0
