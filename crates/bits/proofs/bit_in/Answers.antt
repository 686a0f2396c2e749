use mathlib.Core.Path.{refl}
use Rattle.bits.specs.Bits.{bit}
use Rattle.bits.proofs.bit_in.Goals as goal

pub returns : goal.returns
unfolding bit
returns c = refl
