use native.Mathlib.Omega.{arith}
use lib.Count.{leading_le}
use Rattle.figures.proofs.tally_one.Goals as goal

pub overflow_cast-zeros : goal.overflow_cast-zeros
overflow_cast-zeros c = omega (arith, leading_le 32 c.args.x)

pub offset_bounds-counts-zeros : goal.offset_bounds-counts-zeros
offset_bounds-counts-zeros c = omega (arith, leading_le 32 c.args.x)

pub bounds-counts-zeros : goal.bounds-counts-zeros
bounds-counts-zeros c = omega (arith, leading_le 32 c.args.x)

pub bounds-counts-zeros-2 : goal.bounds-counts-zeros-2
bounds-counts-zeros-2 c = omega (arith, leading_le 32 c.args.x)
