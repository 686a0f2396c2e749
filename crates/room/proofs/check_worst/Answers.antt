use mathlib.Core.Path.{◌≡◌, sym, ◌∙◌}
use mathlib.Core.Bool.{true}
use Rattle.sizes.specs.Sizes.{side_fits, levels_fit}
use Rattle.room.proofs.Laws.{worst_side, worst_levels, worst_planes, worst_well}
use Rattle.room.proofs.check_worst.Goals as goal

pub returns-then-not-side_fits : goal.returns-then-not-side_fits
returns-then-not-side_fits c = let a = c.args in
    worst_side a.n a.l a.p (sym c.side_fits.ensures ∙ c.if-not-side_fits.true)

pub returns-then-not-levels_fit : goal.returns-then-not-levels_fit
returns-then-not-levels_fit c =
    let side_so : side_fits c.args.n ≡ true = sym c.side_fits.ensures ∙ c.if-not-side_fits.false in
    let a = c.args in
    worst_levels a.n a.l a.p (side_so) (sym c.levels_fit.ensures ∙ c.if-not-levels_fit.true)

pub returns-then-p-gt-MOST_PLANES : goal.returns-then-p-gt-MOST_PLANES
returns-then-p-gt-MOST_PLANES c =
    let side_so : side_fits c.args.n ≡ true = sym c.side_fits.ensures ∙ c.if-not-side_fits.false in
    let levels_so : levels_fit c.args.n c.args.l ≡ true = sym c.levels_fit.ensures ∙ c.if-not-levels_fit.false in
    let a = c.args in
    worst_planes a.n a.l a.p (side_so) (levels_so) c.if-p-gt-MOST_PLANES.true

pub returns : goal.returns
returns c =
    let side_so : side_fits c.args.n ≡ true = sym c.side_fits.ensures ∙ c.if-not-side_fits.false in
    let levels_so : levels_fit c.args.n c.args.l ≡ true = sym c.levels_fit.ensures ∙ c.if-not-levels_fit.false in
    let a = c.args in
    worst_well a.n a.l a.p (side_so) (levels_so) c.if-p-gt-MOST_PLANES.false
