use Rattle.reading.proofs.FourValues.{keep_fits, code_fits, chosen_is}
use Rattle.reading.proofs.values.chosen.Goals as goal

pub overflow_sub-keep : goal.overflow_sub-keep
overflow_sub-keep c = keep_fits c.args.mask c.requires.0

pub overflow_cast-result : goal.overflow_cast-result
overflow_cast-result c = code_fits c.args.mask c.args.code c.requires.1

pub returns : goal.returns
returns c = chosen_is c.args.mask c.args.code c.args.old c.requires.0 c.requires.1 c.ranges.old
