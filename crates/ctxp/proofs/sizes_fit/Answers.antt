use mathlib.Core.Path.{sym, ◌∙◌}
use Rattle.ctxp.proofs.sizes_fit.Goals as goal

pub returns-then-side_fits : goal.returns-then-side_fits
returns-then-side_fits c = rw (sym c.side_fits.ensures ∙ c.if-side_fits.true) c.levels_fit.ensures

pub returns : goal.returns
returns c = rw (sym c.side_fits.ensures ∙ c.if-side_fits.false)
