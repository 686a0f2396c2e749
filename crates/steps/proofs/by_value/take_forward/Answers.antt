use mathlib.Core.Path.{◌≡◌, sym, ◌∙◌}
use Prim.Native.Nat.{◌+◌, ◌-◌}
use native.Mathlib.Omega.{arith}
use lib.ListN.{length}
use Rattle.std.specs.Prelude.{Ok}
use Rattle.decoder.specs.Body.{tables}
use Rattle.steps.specs.Steps.{usable_bits}
use Rattle.steps.specs.Ready.{CallReady}
use Rattle.steps.proofs.CallLaws.{outcome_for, usable_ready, forward_refused, forward_at_end, forward_moved}
use Rattle.steps.proofs.Follows.{forwards}
use Rattle.steps.proofs.by_value.take_forward.Goals as goal

pub returns-then-dial-most : goal.returns-then-dial-most
returns-then-dial-most c =
    let checked : let a = c.args in (Ok tt) ≡ outcome_for a.dial (tables a.values.now a.precisions.now a.marks.now) c.usable_of-most.result = sym c.in-Ok.is ∙ c.check.ensures in
    let a = c.args in
    let held = tables a.values.now a.precisions.now a.marks.now in
    rw c.refused.ensures (forwards (forward_at_end a.declared a.body.now a.dial held c.usable_of-most.result c.usable_of-most.ensures (checked) c.if-dial-most.true))

pub overflow_add-dial : goal.overflow_add-dial
overflow_add-dial c =
    let checked : let a = c.args in (Ok tt) ≡ outcome_for a.dial (tables a.values.now a.precisions.now a.marks.now) c.usable_of-most.result = sym c.in-Ok.is ∙ c.check.ensures in
    let ready : let a = c.args in CallReady a.dial (usable_bits a.declared a.body.now) (length a.values.now) (length a.precisions.now) (length a.marks.now) = let a = c.args in usable_ready a.declared a.body.now a.dial (tables a.values.now a.precisions.now a.marks.now) _ c.usable_of-most.ensures (checked) in
    omega (arith, (ready).few, c.if-dial-most.false, c.usable_of-most.ensures, c.ranges.declared)

pub climb_own-requires : goal.climb_own-requires
climb_own-requires c =
    let checked : let a = c.args in (Ok tt) ≡ outcome_for a.dial (tables a.values.now a.precisions.now a.marks.now) c.usable_of-most.result = sym c.in-Ok.is ∙ c.check.ensures in
    let ready : let a = c.args in CallReady a.dial (usable_bits a.declared a.body.now) (length a.values.now) (length a.precisions.now) (length a.marks.now) = let a = c.args in usable_ready a.declared a.body.now a.dial (tables a.values.now a.precisions.now a.marks.now) _ c.usable_of-most.ensures (checked) in
    ready

pub returns-else-dial-most : goal.returns-else-dial-most
returns-else-dial-most c =
    let checked : let a = c.args in (Ok tt) ≡ outcome_for a.dial (tables a.values.now a.precisions.now a.marks.now) c.usable_of-most.result = sym c.in-Ok.is ∙ c.check.ensures in
    let a = c.args in
    let held = tables a.values.now a.precisions.now a.marks.now in
    let k = c.climb_own in
    forwards (forward_moved a.declared a.body.now a.dial held c.usable_of-most.result c.usable_of-most.ensures (checked) (a.dial.used + 1 - a.dial.used) (omega arith) _ k.ensures)

pub returns-in-Err : goal.returns-in-Err
returns-in-Err c = let a = c.args in
    let held = tables a.values.now a.precisions.now a.marks.now in
    rw c.refused-in-Err.ensures (forwards (forward_refused a.declared a.body.now a.dial held c.usable_of-most.result c.usable_of-most.ensures c.in-Err.why (sym c.in-Err.is ∙ c.check.ensures)))
