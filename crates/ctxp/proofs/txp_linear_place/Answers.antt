use mathlib.Core.Path.{◌≡◌, sym, ap, ◌∙◌}
use Prim.Native.Nat.{ℕ}
use Rattle.refusals.specs.Checks.{first_failing}
use Rattle.places.specs.Order.{to_linear}
use Rattle.places.specs.Answers.{place_checks, linear_if}
use Rattle.ctxp.specs.Answers.{of_linear}
use Rattle.ctxp.proofs.Laws.{answers_by, raster_same, raster_refused}
use Rattle.ctxp.proofs.txp_linear_place.Goals as goal

pub returns-in-Ok : goal.returns-in-Ok
returns-in-Ok c = let a = c.args in
    let s = first_failing (place_checks a.n a.place) in
    let same : c.in-Ok.p.0 ≡ a.place = raster_same s a.place c.in-Ok.p (sym c.raster_at.ensures ∙ c.in-Ok.is) in
    answers_by c.put.result _ (c.of_linear.ensures ∙ ap of_linear (c.to_linear-done.ensures ∙ ap (λ (x : ℕ). linear_if (first_failing (place_checks a.n x)) (to_linear a.n x)) same)) c.put.ensures

pub returns-in-Err : goal.returns-in-Err
returns-in-Err c = let a = c.args in
    answers_by c.put-in-Err.result _ (c.refused.ensures ∙ raster_refused (first_failing (place_checks a.n a.place)) a.place (to_linear a.n a.place) c.in-Err.why (sym c.raster_at.ensures ∙ c.in-Err.is)) c.put-in-Err.ensures
