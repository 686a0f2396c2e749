use mathlib.Core.Path.{refl}
use native.Mathlib.Omega.{arith}
use Rattle.encoder.proofs.SinkLaws.{top_byte, kept_le, one_out}
use Rattle.encoder.proofs.sinks.byte_out.Goals as goal

pub overflow_cast-out : goal.overflow_cast-out
overflow_cast-out c = omega (arith, top_byte c.args.s c.requires.1 c.requires.0)

pub overflow_sub-result : goal.overflow_sub-result
overflow_sub-result c = kept_le c.args.s c.requires.1 c.requires.0

pub returns : goal.returns
returns c = (one_out c.args.s c.requires.1 c.requires.0 c.args.out.now c.requires.2, omega arith, refl)
