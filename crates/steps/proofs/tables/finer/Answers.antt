use native.Mathlib.Omega.{arith}
use Rattle.steps.proofs.ValueLaws.{finer_fits, finer_one, finer_zero}
use Rattle.steps.proofs.tables.finer.Goals as goal

pub overflow_add-size : goal.overflow_add-size
overflow_add-size c = finer_fits c.args.b (omega (arith, c.requires)) c.args.value c.ranges.value _ c.magnitude.ensures

pub returns-then-bit : goal.returns-then-bit
returns-then-bit c = finer_one c.args.b (omega (arith, c.requires)) c.args.value c.ranges.value _ c.magnitude.ensures _ c.is_negative.ensures _ (record { sfits = c.value_of.type_inv }) c.args.bit c.value_of.ensures c.if-bit.true

pub returns : goal.returns
returns c = finer_zero c.args.b (omega (arith, c.requires)) c.args.value c.ranges.value _ c.magnitude.ensures _ c.is_negative-2.ensures _ (record { sfits = c.value_of-2.type_inv }) c.args.bit _ c.value_of-2.ensures c.saturating_sub.ensures c.if-bit.false
