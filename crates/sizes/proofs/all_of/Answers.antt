use mathlib.Core.Path.{sym, ◌∙◌}
use Rattle.sizes.proofs.Laws.{side_most}
use Rattle.sizes.proofs.all_of.Goals as goal

pub four_to-requires : goal.four_to-requires
four_to-requires c = side_most c.args.n (sym c.side_fits.ensures ∙ c.if-side_fits.true)

pub returns-then-side_fits : goal.returns-then-side_fits
returns-then-side_fits c = rw (sym c.side_fits.ensures ∙ c.if-side_fits.true) c.four_to.ensures

pub returns : goal.returns
returns c = rw (sym c.side_fits.ensures ∙ c.if-side_fits.false)
