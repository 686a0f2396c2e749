use native.Mathlib.Omega.{arith}
use Rattle.decimal.proofs.Laws.{length_small, length_large, decimal_least, decimal_most}
use Rattle.decimal.proofs.count.Goals as goal

pub loop-left-init : goal.loop-left-init
loop-left-init c = omega arith

pub overflow_add-digits : goal.overflow_add-digits
overflow_add-digits c = omega (arith, decimal_least c.loop-left.left, decimal_most c.args.x c.ranges.x.fits)

pub loop-left-smaller : goal.loop-left-smaller
loop-left-smaller c = omega arith

pub loop-left-preserved : goal.loop-left-preserved
loop-left-preserved c = omega (arith, length_large c.loop-left.left (omega arith))

pub returns : goal.returns
returns c = omega (arith, length_small c.loop-left.left (omega arith))
