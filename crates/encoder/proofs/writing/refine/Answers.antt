use native.Mathlib.Omega.{arith}
use lib.ListN.{get_or}
use Rattle.marking.proofs.Laws.{skip_in}
use Rattle.encoder.proofs.WriteLaws.{refine_none, refine_own, refine_new, refine_far, refine_low}
use Rattle.encoder.proofs.writing.refine.Goals as goal

pub returns-then-budget-n : goal.returns-then-budget-n
returns-then-budget-n c = refine_none _ _ _ _ _ _ _ c.if-mark-eq-MSP.true c.if-budget-n.true (omega arith)

pub returns-then-mark-eq-MSP : goal.returns-then-mark-eq-MSP
returns-then-mark-eq-MSP c = refine_own _ _ _ _ _ _ _ _ _ c.if-mark-eq-MSP.true c.if-budget-n.false c.bit_at.ensures c.put.ensures

pub overflow_add-next : goal.overflow_add-next
overflow_add-next c = omega (arith, skip_in (get_or c.args.marks.now c.args.place 0), c.skip.ensures)

pub returns-then-mark-gt-MSP : goal.returns-then-mark-gt-MSP
returns-then-mark-gt-MSP c = refine_far _ _ _ _ _ _ _ _ c.if-mark-gt-MSP.true c.skip.ensures (omega arith)

pub returns-then-mark-eq-MNP : goal.returns-then-mark-eq-MNP
returns-then-mark-eq-MNP c = refine_new _ _ _ _ c.args.marks.now _ _ c.if-mark-eq-MSP.false c.if-mark-eq-MNP.true (omega arith)

pub returns : goal.returns
returns c = refine_low _ _ _ _ _ _ _ c.if-mark-eq-MSP.false c.if-mark-eq-MNP.false c.if-mark-gt-MSP.false (omega arith)
