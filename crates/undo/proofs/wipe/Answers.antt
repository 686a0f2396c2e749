use native.Mathlib.Omega.{arith}
use lib.ListN.{length-set}
use Rattle.undo.proofs.Tables.{wipe_again, wipe_out}
use Rattle.undo.proofs.wipe.Goals as goal

pub loop-at-preserved : goal.loop-at-preserved
loop-at-preserved c = (omega arith, omega arith, simp length-set (omega arith), wipe_again _ _ _ _ c.loop-at.invariant.3 (omega arith) (omega arith))

pub returns : goal.returns
returns c = wipe_out _ _ _ _ c.loop-at.invariant.3 (omega arith)
