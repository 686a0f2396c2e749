use Rattle.coef.proofs.Held.{sign_fits, sign_plus, sign_minus}
use Rattle.coef.proofs.with_sign.Goals as goal

pub overflow_sub-result : goal.overflow_sub-result
overflow_sub-result c = sign_fits c.args.size c.requires

pub returns-then-below : goal.returns-then-below
returns-then-below c = rw c.if-below.true (sign_minus c.args.size c.requires)

pub returns : goal.returns
returns c = rw c.if-below.false (sign_plus c.args.size c.requires)
