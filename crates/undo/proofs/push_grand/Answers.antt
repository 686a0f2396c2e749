use native.Mathlib.Omega.{arith}
use borrow.Author.Rules.{rules}
use lib.ListN.{length-set}
use Rattle.marking.proofs.Laws.{push_again, push_done, push_out}
use Rattle.undo.proofs.Tables.{push_grand_most}
use Rattle.undo.proofs.push_grand.Goals as goal

pub loop-k-init : goal.loop-k-init
loop-k-init c = (search rules, search rules, omega arith, omega arith, push_grand_most _ _ _ (omega arith) (omega arith))

pub loop-k-preserved : goal.loop-k-preserved
loop-k-preserved c = (omega arith, omega arith, simp length-set (omega arith), omega arith, push_again _ _ _ _ _ c.loop-k.invariant.4 (omega arith) (omega arith))

pub returns-after-loop-k : goal.returns-after-loop-k
returns-after-loop-k c = push_done _ _ _ _ _ c.loop-k.invariant.4 (omega arith)

pub returns-then-marks-at : goal.returns-then-marks-at
returns-then-marks-at c = push_out _ _ _ _ _ c.loop-k.invariant.4 (omega arith)
