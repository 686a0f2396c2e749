use mathlib.Core.Bool.{false}
use mathlib.Core.Path.{sym, ◌∙◌}
use Rattle.moves.specs.Stands.{stand}
use Rattle.undo.proofs.Ways.{stand_told, room_told, pending_stood, plain_stood, went}
use Rattle.undo.proofs.go_back.Goals as goal

pub returns-then-from : goal.returns-then-from
returns-then-from c =
    let a = c.args in
    let s = sym c.if-not-stand_fits.ensures in
    let g = went a.marks.now a.values.now a.coarsest a.planes a.from (sym c.if-not-table_fits.ensures) (stand a.from.left a.from.pass a.from.place false) a.marks.now s (pending_stood _ _ _ _ _ _ c.if-from.true (stand_told _ _ _ s).2) in
    record { value = c.at.ensures ∙ g.0; marks_after = g.1 }

pub way_back-requires : goal.way_back-requires
way_back-requires c = room_told _ _ _ _ _ (sym c.if-not-table_fits.ensures) (sym c.if-not-stand_fits.ensures)

pub returns : goal.returns
returns c =
    let a = c.args in
    let g = went a.marks.now a.values.now a.coarsest a.planes a.from (sym c.if-not-table_fits.ensures) c.way_back.result c.way_back.new.marks (sym c.if-not-stand_fits.ensures) (plain_stood _ _ _ _ _ _ _ _ c.if-from.false c.way_back.ensures) in
    record { value = g.0; marks_after = g.1 }
