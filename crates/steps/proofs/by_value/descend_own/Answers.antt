use mathlib.Core.Path.{◌≡◌, sym, ◌∙◌}
use Prim.Native.Nat.{◌-◌}
use native.Mathlib.Omega.{arith}
use lib.ListN.{length, take}
use Rattle.sizes.specs.Sizes.{all_of}
use Rattle.decoder.specs.{Body.tables, Ending.ending}
use Rattle.steps.specs.Records.{step}
use Rattle.steps.specs.Steps.{usable_bits}
use Rattle.steps.specs.Ready.{Ready, back_in}
use Rattle.steps.proofs.RecordLaws.{range_all}
use Rattle.steps.proofs.CallLaws.{own_ready, own_steps_lem}
use Rattle.steps.proofs.by_value.descend_own.Goals as goal

pub slice_bounds-descend-end : goal.slice_bounds-descend-end
slice_bounds-descend-end c =
    let all_so : c.all_of-all.result ≡ all_of c.args.dial.n = range_all c.args.dial c.requires.range c.all_of-all.result c.all_of-all.ensures in
    omega (arith, all_so, c.requires.values_room)

pub slice_bounds-descend-end-2 : goal.slice_bounds-descend-end-2
slice_bounds-descend-end-2 c =
    let all_so : c.all_of-all.result ≡ all_of c.args.dial.n = range_all c.args.dial c.requires.range c.all_of-all.result c.all_of-all.ensures in
    let all_so : c.all_of-all.result ≡ all_of c.args.dial.n = range_all c.args.dial c.requires.range c.all_of-all.result c.all_of-all.ensures in
    let own : let a = c.args in Ready a.dial (length (take c.all_of-all.result a.values.now)) (length (take c.all_of-all.result a.precisions.now)) (length (take c.all_of-all.result a.marks.now)) = let a = c.args in own_ready a.dial (usable_bits a.declared a.body.now) (tables a.values.now a.precisions.now a.marks.now) c.requires c.all_of-all.result (all_so) in
    all_so ∙ sym (own).values_size

pub slice_bounds-descend-end-3 : goal.slice_bounds-descend-end-3
slice_bounds-descend-end-3 c =
    let all_so : c.all_of-all.result ≡ all_of c.args.dial.n = range_all c.args.dial c.requires.range c.all_of-all.result c.all_of-all.ensures in
    omega (arith, all_so, c.requires.precisions_room)

pub slice_bounds-descend-end-4 : goal.slice_bounds-descend-end-4
slice_bounds-descend-end-4 c =
    let all_so : c.all_of-all.result ≡ all_of c.args.dial.n = range_all c.args.dial c.requires.range c.all_of-all.result c.all_of-all.ensures in
    let all_so : c.all_of-all.result ≡ all_of c.args.dial.n = range_all c.args.dial c.requires.range c.all_of-all.result c.all_of-all.ensures in
    let own : let a = c.args in Ready a.dial (length (take c.all_of-all.result a.values.now)) (length (take c.all_of-all.result a.precisions.now)) (length (take c.all_of-all.result a.marks.now)) = let a = c.args in own_ready a.dial (usable_bits a.declared a.body.now) (tables a.values.now a.precisions.now a.marks.now) c.requires c.all_of-all.result (all_so) in
    all_so ∙ sym (own).precisions_size

pub slice_bounds-descend-end-5 : goal.slice_bounds-descend-end-5
slice_bounds-descend-end-5 c =
    let all_so : c.all_of-all.result ≡ all_of c.args.dial.n = range_all c.args.dial c.requires.range c.all_of-all.result c.all_of-all.ensures in
    omega (arith, all_so, c.requires.marks_room)

pub slice_bounds-descend-end-6 : goal.slice_bounds-descend-end-6
slice_bounds-descend-end-6 c =
    let all_so : c.all_of-all.result ≡ all_of c.args.dial.n = range_all c.args.dial c.requires.range c.all_of-all.result c.all_of-all.ensures in
    let all_so : c.all_of-all.result ≡ all_of c.args.dial.n = range_all c.args.dial c.requires.range c.all_of-all.result c.all_of-all.ensures in
    let own : let a = c.args in Ready a.dial (length (take c.all_of-all.result a.values.now)) (length (take c.all_of-all.result a.precisions.now)) (length (take c.all_of-all.result a.marks.now)) = let a = c.args in own_ready a.dial (usable_bits a.declared a.body.now) (tables a.values.now a.precisions.now a.marks.now) c.requires c.all_of-all.result (all_so) in
    all_so ∙ sym (own).marks_size

pub descend-requires : goal.descend-requires
descend-requires c =
    let all_so : c.all_of-all.result ≡ all_of c.args.dial.n = range_all c.args.dial c.requires.range c.all_of-all.result c.all_of-all.ensures in
    let own : let a = c.args in Ready a.dial (length (take c.all_of-all.result a.values.now)) (length (take c.all_of-all.result a.precisions.now)) (length (take c.all_of-all.result a.marks.now)) = let a = c.args in own_ready a.dial (usable_bits a.declared a.body.now) (tables a.values.now a.precisions.now a.marks.now) c.requires c.all_of-all.result (all_so) in
    (own, c.requires.few)

pub returns : goal.returns
returns c =
    let all_so : c.all_of-all.result ≡ all_of c.args.dial.n = range_all c.args.dial c.requires.range c.all_of-all.result c.all_of-all.ensures in
    let a = c.args in
    let k = c.descend in
    own_steps_lem (ending a.declared a.body.now) (back_in (ending a.declared a.body.now) a.body.now) (a.dial.used - a.to) a.dial (tables a.values.now a.precisions.now a.marks.now) c.all_of-all.result (all_so)
    (step k.result.answer k.result.dial (tables k.new.values k.new.precisions k.new.marks)) k.ensures
