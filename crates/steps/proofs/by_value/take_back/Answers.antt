use mathlib.Core.Path.{◌≡◌, sym, ◌∙◌}
use Prim.Native.Nat.{◌-◌}
use native.Mathlib.Omega.{arith}
use Rattle.std.specs.Prelude.{Ok}
use Rattle.decoder.specs.Body.{tables}
use Rattle.steps.proofs.CallLaws.{outcome_for, usable_ready, back_refused, back_at_first, back_moved}
use Rattle.steps.proofs.Follows.{backs}
use Rattle.steps.proofs.by_value.take_back.Goals as goal

pub returns-then-dial-eq0 : goal.returns-then-dial-eq0
returns-then-dial-eq0 c =
    let checked : let a = c.args in (Ok tt) ≡ outcome_for a.dial (tables a.values.now a.precisions.now a.marks.now) c.usable_of-most.result = sym c.in-Ok.is ∙ c.check.ensures in
    let a = c.args in
    let held = tables a.values.now a.precisions.now a.marks.now in
    rw c.refused.ensures (backs (back_at_first a.declared a.body.now a.dial held c.usable_of-most.result c.usable_of-most.ensures (checked) c.if-dial-eq0.true))

pub descend_own-requires : goal.descend_own-requires
descend_own-requires c =
    let checked : let a = c.args in (Ok tt) ≡ outcome_for a.dial (tables a.values.now a.precisions.now a.marks.now) c.usable_of-most.result = sym c.in-Ok.is ∙ c.check.ensures in
    let a = c.args in
    usable_ready a.declared a.body.now a.dial (tables a.values.now a.precisions.now a.marks.now) _ c.usable_of-most.ensures (checked)

pub returns-else-dial-eq0 : goal.returns-else-dial-eq0
returns-else-dial-eq0 c =
    let checked : let a = c.args in (Ok tt) ≡ outcome_for a.dial (tables a.values.now a.precisions.now a.marks.now) c.usable_of-most.result = sym c.in-Ok.is ∙ c.check.ensures in
    let a = c.args in
    let held = tables a.values.now a.precisions.now a.marks.now in
    let k = c.descend_own in
    backs (back_moved a.declared a.body.now a.dial held c.usable_of-most.result c.usable_of-most.ensures (checked) (a.dial.used - (a.dial.used - 1)) (omega (arith, c.if-dial-eq0.false)) _ k.ensures)

pub returns-in-Err : goal.returns-in-Err
returns-in-Err c = let a = c.args in
    let held = tables a.values.now a.precisions.now a.marks.now in
    rw c.refused-in-Err.ensures (backs (back_refused a.declared a.body.now a.dial held c.usable_of-most.result c.usable_of-most.ensures c.in-Err.why (sym c.in-Err.is ∙ c.check.ensures)))
