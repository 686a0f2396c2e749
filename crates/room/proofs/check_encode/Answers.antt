use mathlib.Core.Path.{sym, ◌∙◌}
use Rattle.refusals.proofs.Laws.{passed_on, then_more}
use Rattle.room.specs.Room.{worst_checks}
use Rattle.room.proofs.Laws.{worst_ready}
use Rattle.room.proofs.check_encode.Goals as goal

pub check_room-requires : goal.check_room-requires
check_room-requires c = let a = c.args in
    worst_ready a.n a.l a.p (sym c.in_ok-check_worst.was ∙ c.check_worst.ensures)

pub returns : goal.returns
returns c = let a = c.args in
    then_more (worst_checks a.n a.l a.p) _ c.check_worst.ensures c.in_ok-check_worst.was c.check_room.ensures

pub returns-in_err-check_worst : goal.returns-in_err-check_worst
returns-in_err-check_worst c = let a = c.args in
    passed_on (worst_checks a.n a.l a.p) _ c.check_worst.ensures c.from_residual.ensures.1 c.in_err-check_worst.was
