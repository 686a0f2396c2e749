use mathlib.Core.Path.{sym, ◌∙◌}
use Rattle.room.proofs.Laws.{worst_ready}
use Rattle.room.proofs.worst_body.Goals as goal

pub worst_of-requires : goal.worst_of-requires
worst_of-requires c = let a = c.args in
    worst_ready a.n a.l a.p (sym c.in_ok-check_worst.was ∙ c.check_worst.ensures)
