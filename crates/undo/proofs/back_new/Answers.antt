use native.Mathlib.Omega.{arith}
use mathlib.Core.Path.{sym, ◌∙◌}
use Rattle.undo.proofs.Runs.{hushed_on, back_one, new_four}
use Rattle.undo.proofs.back_new.Goals as goal

pub loop-marks-preserved : goal.loop-marks-preserved
loop-marks-preserved c = (c.set_four.auto.marks ∙ c.loop-marks.invariant.0, omega arith, λ I D P h k. hushed_on I D P _ _ (c.loop-marks.invariant.2 I D P h k) (new_four I D P _ _ k _ _ c.loop-marks.at (omega arith) (sym c.loop-marks-test.ensures) c.set_four.ensures))

pub loop-i-preserved : goal.loop-i-preserved
loop-i-preserved c = (c.was_new.auto.marks ∙ c.loop-i.invariant.0, omega arith, λ I D P h k. hushed_on I D P _ _ (c.loop-i.invariant.2 I D P h k) (back_one I D P _ _ k _ _ _ _ (omega arith) (omega arith) (sym c.if-not-was_new.ensures.value) c.was_new.ensures.marks_after))
