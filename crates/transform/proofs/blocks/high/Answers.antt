use Rattle.transform.proofs.Held.{minus_fits, high_held}
use Rattle.transform.proofs.blocks.high.Goals as goal

pub overflow_sub-result : goal.overflow_sub-result
overflow_sub-result c = minus_fits c.args.a c.args.b c.requires.0 c.requires.1

pub returns : goal.returns
returns c = high_held c.args.a c.args.b c.requires.0 c.requires.1
