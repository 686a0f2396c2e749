use native.Mathlib.Omega.{arith}
use lib.Count.{leading_le}
use Rattle.coef.proofs.Laws.{planes_or}
use Rattle.coef.proofs.planes.Goals as goal

pub overflow_sub-result : goal.overflow_sub-result
overflow_sub-result c = leading_le 32 c.magnitudes_or.result

pub returns : goal.returns
returns c = planes_or c.args.a.now 32 c.magnitudes_or.result c.magnitudes_or.ensures (omega arith)
