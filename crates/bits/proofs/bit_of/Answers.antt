use mathlib.Core.Path.{refl, sym}
use Rattle.bits.specs.Bits.{bit}
use Rattle.bits.proofs.Laws.{bit_high}
use Rattle.bits.proofs.bit_of.Goals as goal

pub returns-then-b-lt32 : goal.returns-then-b-lt32
unfolding bit
returns-then-b-lt32 c = refl

pub returns : goal.returns
returns c = sym (bit_high 32 c.args.x c.args.b c.ranges.x.fits c.if-b-lt32.false)
