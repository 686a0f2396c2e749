use Rattle.coef.proofs.Held.{lt_zero}
use Rattle.coef.proofs.is_negative.Goals as goal

pub returns : goal.returns
returns c = lt_zero c.args.x c.ranges.x
