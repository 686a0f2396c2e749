use native.Mathlib.Omega.{arith}
use mathlib.Core.Path.{◌≡◌}
use Rattle.reading.proofs.siblings.step.Goals as goal

pub returns-in-0 : goal.returns-in-0
returns-in-0 c = rw c.in-0.is c.pixels.ensures

pub returns-in-1 : goal.returns-in-1
returns-in-1 c = rw c.in-1.is c.sets.ensures

pub returns-in_default : goal.returns-in_default
returns-in_default c = let e : c.args.pass ≡ 2 = omega arith in rw e c.refine.ensures
