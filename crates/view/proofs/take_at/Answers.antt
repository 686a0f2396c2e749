use mathlib.Core.Path.{sym, ap, ◌∙◌}
use native.Mathlib.Omega.{arith}
use Rattle.bits.specs.Bits.{Next}
use Rattle.view.specs.View.{next_after}
use Rattle.view.proofs.Laws.{viewed_within}
use Rattle.view.proofs.take_at.Goals as goal

pub overflow_add-result : goal.overflow_add-result
overflow_add-result c = let a = c.args in
    let e = sym c.bit_at.ensures ∙ c.in-Ok.is in
    omega (arith, viewed_within a.body.now a.at a.declared _ e, c.ranges.declared)

pub returns-in-Ok : goal.returns-in-Ok
returns-in-Ok c = let a = c.args in
    let e = sym c.in-Ok.is ∙ c.bit_at.ensures in
    (e, ap (λ (n : Next). next_after n a.at) e)

pub returns-in-Err : goal.returns-in-Err
returns-in-Err c = let a = c.args in
    let e = sym c.in-Err.is ∙ c.bit_at.ensures in
    (e, ap (λ (n : Next). next_after n a.at) e)
