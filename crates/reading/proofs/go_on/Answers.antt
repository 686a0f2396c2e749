use mathlib.Core.Path.{refl, ◌∙◌}
use native.Mathlib.Omega.{arith}
use Rattle.walk.proofs.Turns.{carry_next}
use Rattle.reading.proofs.ReadTurns.{stops_here, falls_go}
use Rattle.reading.proofs.Handing.{in_plane, goes_on, ends_stop, ends_bad, ends_over}
use Rattle.reading.proofs.go_on.Goals as goal

pub scan-init : goal.scan-init
scan-init c = (refl, refl, refl, record { marks = refl; values = refl; spent = c.requires.5 }, omega arith, λ X L w. w)

pub overflow_add-planes : goal.overflow_add-planes
overflow_add-planes c = omega arith

pub overflow_mul-pass : goal.overflow_mul-pass
overflow_mul-pass c = omega arith

pub overflow_sub-pass : goal.overflow_sub-pass
overflow_sub-pass c = omega arith

pub loop-place-init : goal.loop-place-init
loop-place-init c = (c.scan.invariant.0, c.scan.invariant.1, c.scan.invariant.2, record { marks = refl; values = refl; spent = c.scan.invariant.3.spent }, λ X L w. w)

pub overflow_sub-planes : goal.overflow_sub-planes
overflow_sub-planes c = omega arith

pub visit-requires : goal.visit-requires
visit-requires c = (
  record { below = c.loop-place-test.true; size = omega arith; in_values = omega arith; near = omega arith; spent = omega arith; held = omega arith; plane = omega arith },
  c.requires.3,
)

pub overflow_cast-stop : goal.overflow_cast-stop
overflow_cast-stop c = omega arith

pub overflow_mul-stop : goal.overflow_mul-stop
overflow_mul-stop c = omega (arith, in_plane c.scan.turn c.args.all)

pub overflow_add-stop : goal.overflow_add-stop
overflow_add-stop c = let s = stops_here _ _ _ _ _ _ _ _ _ c.visit.ensures c.in-Stop.is in
    omega (arith, s, in_plane c.scan.turn c.args.all)

pub loop-place-smaller : goal.loop-place-smaller
loop-place-smaller c = let f = falls_go _ _ _ _ _ _ c.visit.ensures.falls c.in-Go.is in omega arith

pub loop-place-preserved : goal.loop-place-preserved
loop-place-preserved c = let f = falls_go _ _ _ _ _ _ c.visit.ensures.falls c.in-Go.is in (
  c.loop-place.invariant.0,
  c.loop-place.invariant.1,
  c.loop-place.invariant.2,
  record { marks = c.visit.auto.marks ∙ c.loop-place.invariant.3.marks; values = c.visit.auto.values ∙ c.loop-place.invariant.3.values; spent = f.2 },
  λ X L w. goes_on _ _ _ _ _ _ _ _ _ _ X L (c.loop-place.invariant.4 X L w) _ _ _ _ _ c.visit.ensures c.in-Go.is c.scan-test.true c.loop-place-test.true,
)

pub overflow_sub-turn : goal.overflow_sub-turn
overflow_sub-turn c = omega arith

pub scan-smaller : goal.scan-smaller
scan-smaller c = omega arith

pub scan-preserved : goal.scan-preserved
scan-preserved c = (
  c.loop-place.invariant.0,
  c.loop-place.invariant.1,
  c.loop-place.invariant.2,
  record { marks = omega arith; values = omega arith; spent = omega arith },
  omega arith,
  carry_next _ _ _ _ _ _ _ c.scan.invariant.5 _ _ _ c.loop-place.invariant.4 c.scan-test.true c.loop-place-test.false,
)

pub shape_of-marks-after-scan : goal.shape_of-marks-after-scan
shape_of-marks-after-scan c = c.scan.invariant.3.marks

pub shape_of-values-after-scan : goal.shape_of-values-after-scan
shape_of-values-after-scan c = c.scan.invariant.3.values

pub returns-after-scan : goal.returns-after-scan
returns-after-scan c = λ X L w. rw (c.scan.invariant.0, c.scan.invariant.1, c.scan.invariant.2) (ends_over _ _ _ _ _ _ _ _ _ _ X L (c.scan.invariant.5 X L w) (omega arith))

pub shape_of-marks-in-Stop : goal.shape_of-marks-in-Stop
shape_of-marks-in-Stop c = c.visit.auto.marks ∙ omega arith

pub shape_of-values-in-Stop : goal.shape_of-values-in-Stop
shape_of-values-in-Stop c = c.visit.auto.values ∙ omega arith

pub returns-in-Stop : goal.returns-in-Stop
returns-in-Stop c = λ X L w. rw c.loop-place.invariant.2 (ends_stop _ _ _ _ _ _ _ _ _ _ X L (c.loop-place.invariant.4 X L (c.scan.invariant.5 X L w)) _ _ _ _ _ c.visit.ensures c.in-Stop.is c.scan-test.true c.loop-place-test.true)

pub shape_of-marks-in-Bad : goal.shape_of-marks-in-Bad
shape_of-marks-in-Bad c = c.visit.auto.marks ∙ omega arith

pub shape_of-values-in-Bad : goal.shape_of-values-in-Bad
shape_of-values-in-Bad c = c.visit.auto.values ∙ omega arith

pub returns-in-Bad : goal.returns-in-Bad
returns-in-Bad c = λ X L w. rw c.loop-place.invariant.1 (ends_bad _ _ _ _ _ _ _ _ _ _ X L (c.loop-place.invariant.4 X L (c.scan.invariant.5 X L w)) _ _ _ _ _ c.visit.ensures c.in-Bad.is c.scan-test.true c.loop-place-test.true)
