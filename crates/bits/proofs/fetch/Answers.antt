use borrow.Author.Tests.{lt-ltb, le-ltb}
use Rattle.bits.specs.Bits.{bit_at}
use Rattle.bits.proofs.fetch.Goals as goal

pub returns-then-byte-body : goal.returns-then-byte-body
unfolding bit_at
returns-then-byte-body c = rw (lt-ltb _ _ c.if-byte-body.true, c.bit_in.ensures)

pub returns : goal.returns
returns c = rw (le-ltb _ _ c.if-byte-body.false)
