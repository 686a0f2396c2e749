use Rattle.steps.proofs.RecordLaws.{range_coarsest}
use Rattle.steps.proofs.ClimbLaws.{bars_zero_lem}
use Rattle.steps.proofs.moving.bars.Goals as goal

pub returns-then-at : goal.returns-then-at
returns-then-at c = rw (c.if-bit.false, c.if-at.true)

pub returns : goal.returns
returns c = let a = c.args in
    bars_zero_lem a.dial a.at a.used a.marks.now a.bit _ _ _ c.if-bit.false c.if-at.false c.requires.1 (range_coarsest a.dial c.requires.0 _ c.coarsest_of.ensures) c.bars_zero.ensures
