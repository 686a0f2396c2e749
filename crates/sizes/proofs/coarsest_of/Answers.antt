use mathlib.Core.Path.{sym, ◌∙◌}
use native.Mathlib.Omega.{arith}
use Rattle.sizes.proofs.Laws.{side_most, sized}
use Rattle.sizes.proofs.coarsest_of.Goals as goal

pub overflow_sub-n : goal.overflow_sub-n
overflow_sub-n c = omega (arith, (sized c.args.n c.args.l (sym c.levels_fit.ensures ∙ c.if-levels_fit.true)).most)

pub four_to-requires : goal.four_to-requires
four_to-requires c = omega (arith, side_most c.args.n (sym c.side_fits.ensures ∙ c.if-side_fits.true))

pub returns-then-levels_fit : goal.returns-then-levels_fit
returns-then-levels_fit c = rw (sym c.side_fits.ensures ∙ c.if-side_fits.true, sym c.levels_fit.ensures ∙ c.if-levels_fit.true) c.four_to.ensures

pub returns-else-levels_fit : goal.returns-else-levels_fit
returns-else-levels_fit c = rw (sym c.side_fits.ensures ∙ c.if-side_fits.true, sym c.levels_fit.ensures ∙ c.if-levels_fit.false)

pub returns-else-side_fits : goal.returns-else-side_fits
returns-else-side_fits c = rw (sym c.side_fits.ensures ∙ c.if-side_fits.false)
