use Prim.Native.Nat.{◌+◌, ◌≤◌}
use lib.ListN.{length}
use native.Mathlib.Omega.{arith}
use Rattle.steps.proofs.RowLaws.{filling_first, filling_next, filling_last, row_ends, row_short}
use Rattle.steps.proofs.tables.fill_rows.Goals as goal

pub loop-at-init : goal.loop-at-init
loop-at-init c = filling_first c.args.first c.args.size c.args.plane c.args.precisions.now c.requires

pub overflow_add-at : goal.overflow_add-at
overflow_add-at c =
    let ends : c.loop-at.at + c.loop-at.wide ≤ length c.loop-at.precisions = row_ends c.loop-at.invariant.row (omega (arith, c.loop-at-test.true, c.loop-at.invariant.same)) in
    record { fits = omega (arith, ends, row_short c.loop-at.invariant.row) }

pub slice_bounds-fill-end : goal.slice_bounds-fill-end
slice_bounds-fill-end c =
    let ends : c.loop-at.at + c.loop-at.wide ≤ length c.loop-at.precisions = row_ends c.loop-at.invariant.row (omega (arith, c.loop-at-test.true, c.loop-at.invariant.same)) in
    ends

pub overflow_mul-at : goal.overflow_mul-at
overflow_mul-at c =
    let ends : c.loop-at.at + c.loop-at.wide ≤ length c.loop-at.precisions = row_ends c.loop-at.invariant.row (omega (arith, c.loop-at-test.true, c.loop-at.invariant.same)) in
    record { fits = omega (arith, ends, row_short c.loop-at.invariant.row) }

pub overflow_mul-wide : goal.overflow_mul-wide
overflow_mul-wide c =
    let ends : c.loop-at.at + c.loop-at.wide ≤ length c.loop-at.precisions = row_ends c.loop-at.invariant.row (omega (arith, c.loop-at-test.true, c.loop-at.invariant.same)) in
    record { fits = omega (arith, ends, row_short c.loop-at.invariant.row) }

pub loop-at-smaller : goal.loop-at-smaller
loop-at-smaller c = omega (arith, c.loop-at-test.true, c.loop-at.invariant.row.some)

pub loop-at-preserved : goal.loop-at-preserved
loop-at-preserved c =
    let ends : c.loop-at.at + c.loop-at.wide ≤ length c.loop-at.precisions = row_ends c.loop-at.invariant.row (omega (arith, c.loop-at-test.true, c.loop-at.invariant.same)) in
    let l = c.loop-at in
    filling_next l.at l.wide c.args.plane l.precisions c.fill.new.self ends (c.fill.ensures.after (λ y e. e)) l.invariant (omega (arith, c.loop-at-test.true, l.invariant.same))

pub returns : goal.returns
returns c = filling_last c.loop-at.at c.loop-at.wide c.loop-at.precisions c.loop-at.invariant (omega (arith, c.loop-at-test.false, c.loop-at.invariant.same))
