use mathlib.Core.Path.{◌≡◌, sym, ap, ◌∙◌}
use Prim.Native.Nat.{ℕ}
use Rattle.refusals.specs.Checks.{first_failing}
use Rattle.places.specs.Order.{to_raster}
use Rattle.places.specs.Answers.{place_checks, raster_if}
use Rattle.ctxp.specs.Answers.{of_raster}
use Rattle.ctxp.proofs.Laws.{answers_by, linear_same, linear_refused}
use Rattle.ctxp.proofs.txp_raster_place.Goals as goal

pub returns-in-Ok : goal.returns-in-Ok
returns-in-Ok c = let a = c.args in
    let s = first_failing (place_checks a.n a.place) in
    let same : c.in-Ok.q.0 ≡ a.place = linear_same s a.place c.in-Ok.q (sym c.linear_at.ensures ∙ c.in-Ok.is) in
    answers_by c.put.result _ (c.of_raster.ensures ∙ ap of_raster (c.to_raster-done.ensures ∙ ap (λ (x : ℕ). raster_if (first_failing (place_checks a.n x)) (to_raster a.n x)) same)) c.put.ensures

pub returns-in-Err : goal.returns-in-Err
returns-in-Err c = let a = c.args in
    answers_by c.put-in-Err.result _ (c.refused.ensures ∙ linear_refused (first_failing (place_checks a.n a.place)) a.place (to_raster a.n a.place) c.in-Err.why (sym c.linear_at.ensures ∙ c.in-Err.is)) c.put-in-Err.ensures
