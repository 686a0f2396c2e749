use native.Mathlib.Omega.{arith}
use Rattle.encoder.proofs.SinkLaws.{same_held, then_held, held_count, none_left, last_fits, last_out}
use Rattle.encoder.proofs.sinks.ended.Goals as goal

pub loop-t-init : goal.loop-t-init
loop-t-init c = same_held _ _ c.requires.0

pub byte_out-t-requires : goal.byte_out-t-requires
byte_out-t-requires c = let i = c.loop-t.invariant in (omega arith, i.holds, omega (arith, held_count _ _ _ _ i))

pub loop-t-smaller : goal.loop-t-smaller
loop-t-smaller c = omega arith

pub loop-t-preserved : goal.loop-t-preserved
loop-t-preserved c = then_held _ _ _ _ _ _ c.loop-t.invariant c.byte_out-t.ensures.0

pub overflow_mul-result : goal.overflow_mul-result
overflow_mul-result c = omega (arith, held_count _ _ _ _ c.loop-t.invariant)

pub returns-then-n-eq0 : goal.returns-then-n-eq0
returns-then-n-eq0 c = let i = c.loop-t.invariant in (omega (arith, held_count _ _ _ _ i), none_left _ _ _ _ i (omega arith))

pub overflow_cast-out : goal.overflow_cast-out
overflow_cast-out c = omega (arith, last_fits _ _ _ _ c.loop-t.invariant (omega arith))

pub bounds-out-at : goal.bounds-out-at
bounds-out-at c = omega (arith, held_count _ _ _ _ c.loop-t.invariant)

pub overflow_mul-result-2 : goal.overflow_mul-result-2
overflow_mul-result-2 c = omega (arith, held_count _ _ _ _ c.loop-t.invariant)

pub overflow_add-result : goal.overflow_add-result
overflow_add-result c = omega (arith, held_count _ _ _ _ c.loop-t.invariant)

pub returns : goal.returns
returns c = let i = c.loop-t.invariant in (held_count _ _ _ _ i, last_out _ _ _ _ i (omega arith) (omega arith) (omega (arith, held_count _ _ _ _ i)))
