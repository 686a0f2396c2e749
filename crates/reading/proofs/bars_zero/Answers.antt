use native.Mathlib.Omega.{arith}
use mathlib.Core.Path.{sym, ◌∙◌}
use Rattle.reading.proofs.ReadLaws.{fit_all}
use Rattle.reading.proofs.bars_zero.Goals as goal

pub overflow_sub-left : goal.overflow_sub-left
overflow_sub-left c = omega (arith, (fit_all _ _ _ _ _ (sym c.bars_fit.ensures ∙ c.if-bars_fit.true)).1)

pub clash_at-requires : goal.clash_at-requires
clash_at-requires c = let h = fit_all _ _ _ _ _ (sym c.bars_fit.ensures ∙ c.if-bars_fit.true) in
    (h.3, omega (arith, h.1, h.2), h.0)
