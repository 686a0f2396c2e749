use Rattle.txp.specs.Header.{header_of}
use Rattle.txp.proofs.header_of.Goals as goal

pub returns : goal.returns
unfolding header_of
returns c = rw (c.byte_at-n.ensures.0, c.byte_at-l.ensures.0, c.byte_at-p.ensures.0, c.two_at-high.ensures.0, c.two_at-low.ensures.0)
