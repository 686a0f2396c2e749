use mathlib.Core.Path.{refl, sym, ◌∙◌}
use Rattle.marking.proofs.Laws.{start_both}
use Rattle.marking.proofs.start.Goals as goal

pub begin-requires : goal.begin-requires
begin-requires c = let b = start_both _ _ (sym c.start_fits.ensures ∙ c.if-start_fits.true) in (refl, b.0, b.1, b.2, b.3)

pub returns-then-start_fits : goal.returns-then-start_fits
returns-then-start_fits c = rw (sym c.start_fits.ensures ∙ c.if-start_fits.true) c.begin.ensures

pub returns-else-start_fits : goal.returns-else-start_fits
returns-else-start_fits c = rw (sym c.start_fits.ensures ∙ c.if-start_fits.false) refl
