use Rattle.bits.specs.Bits.{with_bit}
use Rattle.encoder.proofs.writing.put.Goals as goal

pub returns : goal.returns
unfolding with_bit
returns c = rw c.with_bit.ensures
