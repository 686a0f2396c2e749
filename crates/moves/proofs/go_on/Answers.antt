use mathlib.Core.Path.{sym, ◌∙◌}
use native.Mathlib.Omega.{arith}
use lib.ListN.{length}
use Rattle.moves.proofs.Tells.{fits_both, tells_pass, goes_on}
use Rattle.moves.proofs.go_on.Goals as goal

pub tell-told-requires : goal.tell-told-requires
tell-told-requires c = fits_both (length c.args.marks.now) c.args.from (sym c.stand_fits.ensures ∙ c.if-stand_fits.true)

pub rest-requires : goal.rest-requires
rest-requires c = (omega (arith, (fits_both (length c.args.marks.now) c.args.from (sym c.stand_fits.ensures ∙ c.if-stand_fits.true)).1), tells_pass (length c.args.marks.now) c.args.from c.args.marks.now c.args.bit _ c.tell-told.ensures.stand)

pub returns-then-stand_fits : goal.returns-then-stand_fits
returns-then-stand_fits c =
    let a = c.args in
    let t = c.tell-told.ensures in
    let g = goes_on (length a.marks.now) a.from a.marks.now a.bit c.tell-told.result c.rest.result c.tell-told.new.marks c.rest.new.marks (sym c.stand_fits.ensures ∙ c.if-stand_fits.true) (t.stand, t.marked) (rw c.tell-told.auto.marks at c.rest.ensures.stand) (rw c.tell-told.auto.marks at c.rest.ensures.marked) in
    record { stand = g.0; marked = g.1 }
