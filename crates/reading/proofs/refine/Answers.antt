use native.Mathlib.Omega.{arith}
use lib.ListN.{get_or}
use Rattle.marking.proofs.Laws.{skip_in}
use Rattle.reading.proofs.ReadLaws.{told_bit, told_none, refine_none, refine_own, refine_new, refine_skip, refine_small}
use Rattle.reading.proofs.refine.Goals as goal

pub returns-in_default : goal.returns-in_default
returns-in_default c = refine_none _ _ _ _ _ _ _ _ _ _ c.if-mark-eq-MSP.true (told_none c.args.body.now c.args.n c.args.frame.usable c.read.ensures c.requires.held c.in_default.is) (omega arith)

pub overflow_add-result : goal.overflow_add-result
overflow_add-result c = omega (arith, (told_bit c.args.body.now c.args.n c.args.frame.usable c.read.ensures _ c.in-Ok.is).0)

pub returns-then-mark-eq-MSP : goal.returns-then-mark-eq-MSP
returns-then-mark-eq-MSP c = let b = told_bit c.args.body.now c.args.n c.args.frame.usable c.read.ensures _ c.in-Ok.is in
    refine_own _ _ _ _ _ _ _ _ _ _ _ _ c.if-mark-eq-MSP.true b.0 b.1 c.refined.ensures

pub overflow_add-next : goal.overflow_add-next
overflow_add-next c = omega (arith, skip_in (get_or c.args.marks.now c.args.place 0), c.skip.ensures)

pub returns-then-mark-gt-MSP : goal.returns-then-mark-gt-MSP
returns-then-mark-gt-MSP c = refine_skip _ _ _ _ _ _ _ _ _ _ _ c.if-mark-gt-MSP.true c.skip.ensures (omega arith)

pub returns-then-mark-eq-MNP : goal.returns-then-mark-eq-MNP
returns-then-mark-eq-MNP c = refine_new _ _ _ _ _ _ _ c.args.marks.now _ _ c.if-mark-eq-MSP.false c.if-mark-eq-MNP.true (omega arith)

pub returns : goal.returns
returns c = refine_small _ _ _ _ _ _ _ _ _ _ c.if-mark-eq-MSP.false c.if-mark-gt-MSP.false c.if-mark-eq-MNP.false (omega arith)
