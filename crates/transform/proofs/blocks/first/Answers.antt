use Rattle.transform.proofs.Held.{next_fits, first_fits, first_held}
use Rattle.transform.proofs.blocks.first.Goals as goal

pub overflow_add-result : goal.overflow_add-result
overflow_add-result c = next_fits c.args.l c.args.h c.requires.0 c.requires.1

pub overflow_add-result-2 : goal.overflow_add-result-2
overflow_add-result-2 c = first_fits c.args.l c.args.h c.requires.0 c.requires.1

pub returns : goal.returns
returns c = first_held c.args.l c.args.h c.requires.0 c.requires.1
