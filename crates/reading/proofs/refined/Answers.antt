use Rattle.reading.proofs.ValueLaws.{more_signed, more_is}
use Rattle.reading.proofs.refined.Goals as goal

pub overflow_cast-values-2 : goal.overflow_cast-values-2
overflow_cast-values-2 c = more_signed c.args.x c.args.b c.requires.1

pub returns : goal.returns
returns c = more_is c.args.x c.args.b c.requires.1 c.args.values.now c.args.place
