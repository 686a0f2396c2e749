use borrow.Author.Tests.{not-false}
use mathlib.Core.Path.{refl, ◌∙◌}
use native.Mathlib.Omega.{arith}
use Rattle.walk.proofs.Fours.{leads_none}
use Rattle.reading.proofs.Handing.{led_on}
use Rattle.reading.proofs.siblings.pass_on.Goals as goal
use Rattle.reading.proofs.siblings.pass_on.Goals.{else-loop-place-test, then-loop-place-test+then-not-r}

pub overflow_sub-last : goal.overflow_sub-last
overflow_sub-last c = omega arith

pub loop-place-init : goal.loop-place-init
loop-place-init c = (refl, refl, record { leads = leads_none _ _ _ _ _; spent = c.requires.0.spent })

pub step-r-requires : goal.step-r-requires
step-r-requires c = (
  record { below = omega arith; size = omega arith; in_values = omega arith; near = omega arith; there = omega arith; margin = omega arith; plane = omega arith; spent = omega arith },
  c.requires.1,
  c.requires.2,
  c.requires.3,
  c.requires.4,
  c.requires.5,
)

pub loop-place-smaller : goal.loop-place-smaller
loop-place-smaller c = let f = c.step-r.ensures.falls (not-false _ c.if-not-r.false) in omega arith

pub loop-place-preserved : goal.loop-place-preserved
loop-place-preserved c = (
  c.step-r.auto.marks ∙ c.loop-place.invariant.0,
  c.step-r.auto.values ∙ c.loop-place.invariant.1,
  led_on _ _ _ _ _ _ _ _ _ _ _ _ _ _ _ _ _ _ c.loop-place.invariant.2 c.step-r.ensures,
)

pub returns : goal.returns
returns c = rw c.goes.ensures (elim c.loop-place-test.branch [
  | else-loop-place-test w ↦ rw (w.marks-is, w.values-is, w.n-is, w.place-is) c.loop-place.invariant.2
  | then-loop-place-test+then-not-r w ↦ rw (w.marks-is, w.values-is, w.n-is, w.place-is) (led_on _ _ _ _ _ _ _ _ _ _ _ _ _ _ _ _ _ _ c.loop-place.invariant.2 w.step-r.ensures)
])
