use native.Mathlib.Omega.{arith}
use Rattle.encoder.proofs.SinkLaws.{put_is, put_fits}
use Rattle.encoder.proofs.sinks.put.Goals as goal

pub overflow_add-result : goal.overflow_add-result
overflow_add-result c = omega (arith, put_fits c.args.s c.args.k c.args.v c.requires.0 c.requires.1)

pub returns : goal.returns
returns c = rw (put_is c.args.s c.args.k c.requires.0)
