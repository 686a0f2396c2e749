use Rattle.reading.proofs.ValueLaws.{found_fits, found_signed, found_is}
use Rattle.reading.proofs.found.Goals as goal

pub overflow_add-values : goal.overflow_add-values
overflow_add-values c = found_fits c.args.negative c.args.b c.requires.1

pub overflow_cast-values-2 : goal.overflow_cast-values-2
overflow_cast-values-2 c = found_signed c.args.negative c.args.b c.requires.1

pub returns : goal.returns
returns c = found_is c.args.negative c.args.b c.requires.1 c.args.values.now c.args.place
