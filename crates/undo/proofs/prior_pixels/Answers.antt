use native.Mathlib.Omega.{arith}
use Rattle.undo.proofs.Ends.{block_before}
use Rattle.undo.proofs.Steps.{pixel_up, pixel_asked, pixel_quiet}
use Rattle.undo.proofs.prior_pixels.Goals as goal

pub returns-then-left-planes : goal.returns-then-left-planes
returns-then-left-planes c = λ D big. rw c.at.ensures (pixel_up _ D _ big _ _ _ c.if-from-eq0.true c.if-left-planes.true)

pub bounds-marks-head : goal.bounds-marks-head
bounds-marks-head c = omega (arith, block_before c.args.marks.now c.args.from.place, c.block-head.ensures)

pub returns-then-mark-eq-MIP : goal.returns-then-mark-eq-MIP
returns-then-mark-eq-MIP c = λ D big. pixel_asked _ D _ big _ _ _ _ c.if-from-eq0.false c.block-head.ensures _ _ c.then-mark-eq-MIP.either (rw c.at-then-mark-eq-MIP.ensures at c.unasked.ensures.value) (rw c.at-then-mark-eq-MIP.ensures at c.unasked.ensures.marks_after)

pub returns : goal.returns
returns c = λ D big. rw c.at-2.ensures (pixel_quiet _ D _ big _ _ _ _ c.if-from-eq0.false c.block-head.ensures c.if-mark-eq-MIP.false c.if-mark-eq-MNP.false)
