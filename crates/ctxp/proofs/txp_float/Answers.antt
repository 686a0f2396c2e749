use mathlib.Core.Path.{◌≡◌, sym, ap, ◌∙◌}
use mir.Facts.{to_z-of_z}
use Rattle.std.specs.Prelude.{Ok, Err}
use Rattle.coef.specs.Coef.{float_of, Floated}
use Rattle.ctxp.specs.Lent.{float_in}
use Rattle.ctxp.specs.Answers.{of_float}
use Rattle.ctxp.specs.Inner.{entries}
use Rattle.ctxp.proofs.Laws.{answers_by}
use Rattle.ctxp.proofs.txp_float.Goals as goal

pub returns-in-Ok : goal.returns-in-Ok
returns-in-Ok c = let a = c.args in
    let g : float_of a.x ≡ Ok c.in-Ok.v = ap float_of (sym (to_z-of_z c.ranges.x)) ∙ sym c.float_of.ensures.0 ∙ c.in-Ok.is in
    record { answer = answers_by c.put.result _ (ap entries c.nothing.ensures ∙ sym (ap of_float g)) c.put.ensures; floated = sym (ap (λ (f : Floated). float_in f a.to.now) g) }

pub returns-in-Err : goal.returns-in-Err
returns-in-Err c = let a = c.args in
    let g : float_of a.x ≡ Err c.in-Err.why = ap float_of (sym (to_z-of_z c.ranges.x)) ∙ sym c.float_of.ensures.0 ∙ c.in-Err.is in
    record { answer = answers_by c.put-in-Err.result _ (c.refused.ensures ∙ sym (ap of_float g)) c.put-in-Err.ensures; floated = sym (ap (λ (f : Floated). float_in f a.to.now) g) }
