use native.Mathlib.Omega.{arith}
use lib.ListN.{length}
use Rattle.undo.specs.Back.{big_in}
use Rattle.undo.proofs.Ends.{block_before}
use Rattle.undo.proofs.Steps.{refining_start, refining_other, refining_asked, refining_new}
use Rattle.undo.proofs.prior_refining.Goals.{then-marks-head-eq-MSP+else-is_big, else-marks-head-eq-MSP}
use Rattle.undo.proofs.prior_refining.Goals as goal

pub returns-then-from-eq0 : goal.returns-then-from-eq0
returns-then-from-eq0 c = λ D P. rw c.at.ensures (refining_start (length c.args.marks.now) D P (big_in c.args.values.now) _ _ _ c.if-from-eq0.true)

pub bounds-marks-head : goal.bounds-marks-head
bounds-marks-head c = omega (arith, block_before c.args.marks.now c.args.from.place, c.block-head.ensures)

pub returns-then-is_big : goal.returns-then-is_big
returns-then-is_big c = λ D P. rw c.at-then-is_big.ensures (refining_asked (length c.args.marks.now) D P (big_in c.args.values.now) _ _ _ _ c.if-from-eq0.false c.block-head.ensures _ c.if-marks-head-eq-MSP.true c.is_big.ensures c.if-is_big.true)

pub returns : goal.returns
returns c = λ D P. rw c.at-2.ensures (elim c.if-marks-head-eq-MSP.branch [
  | then-marks-head-eq-MSP+else-is_big w ↦ rw w.marks-is (refining_new (length c.args.marks.now) D P (big_in c.args.values.now) _ _ _ _ c.if-from-eq0.false c.block-head.ensures _ w.if-marks-head-eq-MSP.true w.is_big.ensures w.if-is_big.false)
  | else-marks-head-eq-MSP w ↦ rw w.marks-is (refining_other (length c.args.marks.now) D P (big_in c.args.values.now) _ _ _ _ c.if-from-eq0.false c.block-head.ensures w.if-marks-head-eq-MSP.false)
])
