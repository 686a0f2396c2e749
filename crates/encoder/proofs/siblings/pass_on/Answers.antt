use mathlib.Core.Path.{refl, ◌∙◌}
use Rattle.encoder.proofs.SiblingTurns.{led_none, led_on}
use Rattle.encoder.proofs.siblings.pass_on.Goals as goal

pub loop-place-init : goal.loop-place-init
loop-place-init c = (led_none _ _ _ _ _ _ _ _ _ _ _ c.requires.0.easy, refl, refl)

pub loop-place-preserved : goal.loop-place-preserved
loop-place-preserved c = let i = c.loop-place.invariant in (led_on _ _ _ _ _ _ _ _ _ _ _ _ _ _ _ _ _ _ i.0 c.step-r.ensures, c.step-r.auto.marks ∙ i.1, c.step-r.auto.out ∙ i.2)

pub returns-then-not-r : goal.returns-then-not-r
returns-then-not-r c = led_on _ _ _ _ _ _ _ _ _ _ _ _ _ _ _ _ _ _ c.loop-place.invariant.0 c.step-r.ensures
