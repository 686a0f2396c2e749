use Prim.Native.Nat.{◌-◌}
use mathlib.Core.Path.{◌≡◌, ◌∙◌}
use native.Mathlib.Omega.{arith}
use lib.ListN.{get_or}
use Rattle.undo.proofs.Tables.{size_in, size_again, block_here, block_again, block_done}
use Rattle.undo.proofs.block.Goals as goal

pub bounds-marks-at : goal.bounds-marks-at
bounds-marks-at c = let l = c.loop in omega (arith, size_in l.counter l.size l.invariant.1 l.invariant.0, c.saturating_sub-at.ensures)

pub returns-then-marks-at-ne-NO_MARK : goal.returns-then-marks-at-ne-NO_MARK
returns-then-marks-at-ne-NO_MARK c = let l = c.loop in
    let a = c.args in
    let same = c.saturating_sub-at.ensures in
    same ∙ block_here _ _ _ _ _ l.invariant.2 (λ (e : get_or a.marks.now (a.end - l.size) 0 ≡ 0). c.if-marks-at-ne-NO_MARK.true (rw same e))

pub overflow_mul-size : goal.overflow_mul-size
overflow_mul-size c = let l = c.loop in omega (arith, size_in l.counter l.size l.invariant.1 l.invariant.0)

pub loop-preserved : goal.loop-preserved
loop-preserved c = let l = c.loop in
    (omega arith, size_again l.counter l.size l.invariant.1, block_again l.counter _ _ l.size _ l.invariant.2 (omega arith) (rw (← c.saturating_sub-at.ensures) c.if-marks-at-ne-NO_MARK.false))

pub returns : goal.returns
returns c = c.saturating_sub.ensures ∙ block_done c.loop.counter _ _ _ _ c.loop.invariant.2 (omega arith)
