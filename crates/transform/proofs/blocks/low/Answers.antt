use Rattle.transform.proofs.Held.{plus_fits, low_held}
use Rattle.transform.proofs.blocks.low.Goals as goal

pub overflow_add-result : goal.overflow_add-result
overflow_add-result c = plus_fits c.args.a c.args.b c.requires.0 c.requires.1

pub returns : goal.returns
returns c = low_held c.args.a c.args.b c.requires.0 c.requires.1
