use mathlib.Core.List.{[], ◌∷◌}
use Rattle.decoder.specs.Body.{tables}
use Rattle.steps.proofs.CallLaws.{start_ready, start_done, start_refused}
use Rattle.steps.proofs.by_value.take_start.Goals as goal

pub first-requires : goal.first-requires
first-requires c = let a = c.args in
    let k = c.decode_midpoint in
    let r = start_ready a.n a.l a.p (0 ∷ []) (tables a.values.now a.precisions.now a.marks.now) k.result (tables k.new.values k.new.precisions k.new.marks) k.ensures c.in-Ok.to c.in-Ok.is in
    (r.side, r.levels)

pub returns-in-Ok : goal.returns-in-Ok
returns-in-Ok c = let a = c.args in
    let k = c.decode_midpoint in
    start_done a.n a.l a.p (0 ∷ []) (tables a.values.now a.precisions.now a.marks.now) k.result (tables k.new.values k.new.precisions k.new.marks) k.ensures a.dial c.in-Ok.to c.in-Ok.is c.ending_of.result c.ending_of.ensures c.first.result c.first.ensures

pub returns-in-Err : goal.returns-in-Err
returns-in-Err c = let a = c.args in
    let k = c.decode_midpoint in
    rw c.refused.ensures (start_refused a.n a.l a.p (0 ∷ []) (tables a.values.now a.precisions.now a.marks.now) k.result (tables k.new.values k.new.precisions k.new.marks) k.ensures a.dial c.in-Err.why c.in-Err.is)
