use Rattle.marking.proofs.Laws.{four_few, four_so}
use Rattle.marking.proofs.four_in.Goals as goal

pub returns-then-all-lt4 : goal.returns-then-all-lt4
returns-then-all-lt4 c = four_few _ _ c.if-all-lt4.true

pub returns : goal.returns
returns c = four_so _ _ c.if-all-lt4.false
