use Prim.Native.Nat.{◌+◌, ◌/◌}
use native.Mathlib.Omega.{arith}
use Rattle.reading.proofs.FourValues.{window_shows}
use Rattle.reading.proofs.values.window.Goals as goal

pub overflow_cast-high : goal.overflow_cast-high
overflow_cast-high c = record { fits = omega (arith, c.shared_slice_known-1.given (c.args.n / 8)) }

pub overflow_cast-low : goal.overflow_cast-low
overflow_cast-low c = record { fits = omega (arith, c.shared_slice_known-2-1.given (c.args.n / 8 + 1)) }

pub overflow_mul-result : goal.overflow_mul-result
overflow_mul-result c = record { fits = omega (arith, c.shared_slice_known-1.given (c.args.n / 8)) }

pub overflow_add-result : goal.overflow_add-result
overflow_add-result c = record { fits = omega (arith, c.shared_slice_known-1.given (c.args.n / 8), c.shared_slice_known-2-1.given (c.args.n / 8 + 1)) }

pub returns : goal.returns
returns c = window_shows c.args.body.now c.args.n (c.shared_slice_known-2-1.given (c.args.n / 8 + 1)).fits
