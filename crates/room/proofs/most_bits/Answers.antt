use mathlib.Core.Path.{sym, ap, ◌∙◌}
use Rattle.room.specs.Room.{most_bits, WorstAnswer}
use Rattle.room.proofs.most_bits.Goals as goal

pub returns-in-Ok : goal.returns-in-Ok
returns-in-Ok c = let a = c.args in
    c.min.ensures ∙ ap (λ (w : WorstAnswer). most_bits a.budget w) (sym c.in-Ok.is ∙ c.worst_body.ensures)

pub returns-in-Err : goal.returns-in-Err
returns-in-Err c = let a = c.args in
    ap (λ (w : WorstAnswer). most_bits a.budget w) (sym c.in-Err.is ∙ c.worst_body.ensures)
