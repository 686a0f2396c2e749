use mathlib.Core.Path.{sym}
use Rattle.bits.specs.Bits.{with_bit}
use Rattle.bits.proofs.Laws.{with_past}
use Rattle.bits.proofs.put.Goals as goal

pub returns-then-byte-body : goal.returns-then-byte-body
unfolding with_bit
returns-then-byte-body c = rw c.with_bit.ensures

pub returns-else-byte-body : goal.returns-else-byte-body
returns-else-byte-body c = sym (with_past c.args.body.now c.args.at c.args.x c.if-byte-body.false)
