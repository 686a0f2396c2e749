use mathlib.Core.Path.{sym}
use native.Mathlib.Omega.{arith}
use Rattle.undo.proofs.Runs.{hushed_on, old_one, old_four}
use Rattle.undo.proofs.back_old.Goals as goal

pub loop-at-preserved : goal.loop-at-preserved
loop-at-preserved c = (omega arith, λ D P l big h. hushed_on _ D P big l (c.loop-at.invariant.1 D P l big h) (old_four _ D P big l h c.args.marks.now c.loop-at.at (omega arith) (sym c.loop-at-test.ensures)))

pub loop-i-preserved : goal.loop-i-preserved
loop-i-preserved c = (omega arith, λ D P l big h. hushed_on _ D P big l (c.loop-i.invariant.1 D P l big h) (old_one _ D P big l h _ _ _ (omega arith) (omega arith) c.if-marks-i-ne-MSP.false))
