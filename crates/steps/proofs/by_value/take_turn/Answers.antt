use mathlib.Core.Path.{◌≡◌, sym, ◌∙◌}
use Rattle.std.specs.Prelude.{Ok}
use Rattle.decoder.specs.Body.{tables}
use Rattle.steps.proofs.CallLaws.{outcome_for, usable_ready, turn_refused, turn_down, turn_up}
use Rattle.steps.proofs.Follows.{turns}
use Rattle.steps.proofs.by_value.take_turn.Goals as goal

pub descend_own-requires : goal.descend_own-requires
descend_own-requires c =
    let checked : let a = c.args in (Ok tt) ≡ outcome_for a.dial (tables a.values.now a.precisions.now a.marks.now) c.usable_of-most.result = sym c.in-Ok.is ∙ c.check.ensures in
    let a = c.args in
    usable_ready a.declared a.body.now a.dial (tables a.values.now a.precisions.now a.marks.now) _ c.usable_of-most.ensures (checked)

pub returns-then-to-dial : goal.returns-then-to-dial
returns-then-to-dial c =
    let checked : let a = c.args in (Ok tt) ≡ outcome_for a.dial (tables a.values.now a.precisions.now a.marks.now) c.usable_of-most.result = sym c.in-Ok.is ∙ c.check.ensures in
    let a = c.args in
    let held = tables a.values.now a.precisions.now a.marks.now in
    let k = c.descend_own in
    turns (turn_down a.declared a.to a.body.now a.dial held c.usable_of-most.result c.usable_of-most.ensures (checked) _ c.if-to-dial.true k.ensures)

pub climb_own-requires : goal.climb_own-requires
climb_own-requires c =
    let checked : let a = c.args in (Ok tt) ≡ outcome_for a.dial (tables a.values.now a.precisions.now a.marks.now) c.usable_of-most.result = sym c.in-Ok.is ∙ c.check.ensures in
    let a = c.args in
    usable_ready a.declared a.body.now a.dial (tables a.values.now a.precisions.now a.marks.now) _ c.usable_of-most.ensures (checked)

pub returns-else-to-dial : goal.returns-else-to-dial
returns-else-to-dial c =
    let checked : let a = c.args in (Ok tt) ≡ outcome_for a.dial (tables a.values.now a.precisions.now a.marks.now) c.usable_of-most.result = sym c.in-Ok.is ∙ c.check.ensures in
    let a = c.args in
    let held = tables a.values.now a.precisions.now a.marks.now in
    let k = c.climb_own in
    turns (turn_up a.declared a.to a.body.now a.dial held c.usable_of-most.result c.usable_of-most.ensures (checked) _ c.if-to-dial.false k.ensures)

pub returns-in-Err : goal.returns-in-Err
returns-in-Err c = let a = c.args in
    let held = tables a.values.now a.precisions.now a.marks.now in
    rw c.refused.ensures (turns (turn_refused a.declared a.to a.body.now a.dial held c.usable_of-most.result c.usable_of-most.ensures c.in-Err.why (sym c.in-Err.is ∙ c.check.ensures)))
