use Rattle.reading.proofs.FourValues.{level_fits, grown_is}
use Rattle.reading.proofs.values.grown.Goals as goal

pub overflow_cast-result : goal.overflow_cast-result
overflow_cast-result c = level_fits c.args.mask c.args.level c.requires.1

pub returns : goal.returns
returns c = grown_is c.args.mask c.args.level c.args.old c.requires.0 c.requires.1
