use mathlib.Core.Path.{◌∙◌}
use native.Mathlib.Omega.{arith}
use Rattle.walk.proofs.Turns.{carry_go, carry_next}
use Rattle.encoder.proofs.WriteTurns.{falls_go, among, turn_go, turn_stop, carry_over, carry_stop}
use Rattle.encoder.proofs.writing.go_on.Goals as goal

pub loop-place-smaller : goal.loop-place-smaller
loop-place-smaller c = let f = falls_go _ _ _ _ _ _ c.visit.ensures.falls c.in-Go.is in omega (arith, c.loop-place-test.true)

pub loop-place-preserved : goal.loop-place-preserved
loop-place-preserved c = let f = falls_go _ _ _ _ _ _ c.visit.ensures.falls c.in-Go.is in
    let i = c.loop-place.invariant in (
      record { marks = c.visit.auto.marks ∙ i.0.marks; bytes = c.visit.auto.out ∙ i.0.bytes; spent = f.2 },
      carry_go _ _ _ _ _ _ _ i.1 c.scan-test.true _ _ (turn_go _ _ _ _ _ _ _ _ _ _ _ _ _ _ _ _ (among _ _ _ _ _ _ _ _ _ _ _ _ _ _ _ (i.0.marks ∙ c.scan.invariant.0.marks) c.visit.ensures) c.in-Go.is c.loop-place-test.true),
    )

pub scan-preserved : goal.scan-preserved
scan-preserved c = let i = c.loop-place.invariant in
    let j = c.scan.invariant in (
      record { marks = i.0.marks ∙ j.0.marks; bytes = i.0.bytes ∙ j.0.bytes; spent = i.0.spent },
      carry_next _ _ _ _ _ _ _ j.1 _ _ _ i.1 c.scan-test.true c.loop-place-test.false,
      omega (arith, j.2),
    )

pub returns-after-scan : goal.returns-after-scan
returns-after-scan c = carry_over _ _ _ _ _ _ _ _ _ c.scan.invariant.1 c.scan-test.false

pub returns-in-Stop : goal.returns-in-Stop
returns-in-Stop c = let j = c.scan.invariant in
    λ X L r. carry_stop _ _ _ _ _ _ _ _ _ c.loop-place.invariant.1 c.scan-test.true c.loop-place-test.true _ _ _ (turn_stop _ _ _ _ _ _ _ _ _ _ _ _ _ _ _ _ (among _ _ _ _ _ _ _ _ _ _ _ _ _ _ _ (c.loop-place.invariant.0.marks ∙ j.0.marks) c.visit.ensures) c.in-Stop.is) X L (j.1 X L r)
