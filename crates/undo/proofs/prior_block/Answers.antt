use native.Mathlib.Omega.{arith}
use lib.ListN.{length}
use mathlib.Core.Path.{sym}
use Rattle.undo.proofs.Ends.{block_before}
use Rattle.undo.proofs.Steps.{block_new, block_alone, block_set, block_quiet}
use Rattle.undo.proofs.prior_block.Goals as goal

pub returns-then-new_four : goal.returns-then-new_four
returns-then-new_four c = λ planes big. block_new (length c.args.marks.now) c.args.coarsest planes big _ _ _ _ _ _ _ (sym c.if-alone.ensures) (sym c.if-new_four.ensures) (rw c.at.ensures at c.unasked.ensures.value) (rw c.at.ensures at c.unasked.ensures.marks_after)

pub returns-then-alone : goal.returns-then-alone
returns-then-alone c = λ planes big. rw c.at-then-alone.ensures (block_alone (length c.args.marks.now) c.args.coarsest planes big c.args.from.left c.args.from.place c.args.marks.now _ _ (sym c.if-alone.ensures) (sym c.if-new_four.ensures))

pub bounds-marks-head : goal.bounds-marks-head
bounds-marks-head c = omega (arith, block_before c.args.marks.now c.args.from.place, c.block-head.ensures)

pub returns-then-mark-eq-MD : goal.returns-then-mark-eq-MD
returns-then-mark-eq-MD c = λ planes big. rw c.at-then-mark-eq-MD.ensures (block_set (length c.args.marks.now) c.args.coarsest planes big _ _ _ _ _ (sym c.if-alone.ensures) _ c.block-head.ensures c.then-mark-eq-MD.either)

pub returns : goal.returns
returns c = λ planes big. rw c.at-2.ensures (block_quiet (length c.args.marks.now) c.args.coarsest planes big _ _ _ _ _ (sym c.if-alone.ensures) _ c.block-head.ensures c.if-mark-eq-MD.false c.if-mark-eq-MG.false)
