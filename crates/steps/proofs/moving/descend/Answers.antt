use mathlib.Core.Path.{◌≡◌, sym, ◌∙◌}
use Prim.Native.Nat.{◌-◌}
use native.Mathlib.Omega.{arith}
use lib.ListN.{length}
use Rattle.view.proofs.Laws.{viewed_past}
use Rattle.reading.proofs.ReadLaws.{told_bit}
use Rattle.decoder.specs.Ending.{ending}
use Rattle.steps.specs.Steps.{usable_bits}
use Rattle.steps.proofs.RecordLaws.{range_coarsest}
use Rattle.steps.proofs.DescendLaws.{from_stood, descending_first, descending_last, descending_on}
use Rattle.steps.proofs.moving.descend.Goals as goal

pub stand_of-at-requires : goal.stand_of-at-requires
stand_of-at-requires c = c.requires.0.range

pub loop-used-init : goal.loop-used-init
loop-used-init c = let a = c.args in
    (omega arith, descending_first a.dial c.requires.0.range (ending a.declared a.body.now) a.body.now (usable_bits a.declared a.body.now) a.to c.stand_of-at.result a.values.now a.precisions.now a.marks.now c.stand_of-at.ensures c.requires.1 c.requires.0.values_size c.requires.0.precisions_size c.requires.0.marks_size)

pub untell-requires : goal.untell-requires
untell-requires c = let a = c.args in
    let w = c.loop-used in
    (record { range = c.requires.0.range; values_size = w.invariant.1.values_size; precisions_size = w.invariant.1.precisions_size; marks_size = omega (arith, w.invariant.1.marks_size) }, from_stood a.dial c.requires.0.range (ending a.declared a.body.now) a.body.now w.used w.at w.values w.precisions w.marks w.invariant.1.stood (length w.marks) (length w.values) c.coarsest_of-coarsest.result c.go_back-at.result _ w.invariant.1.marks_size w.invariant.1.values_size (range_coarsest a.dial c.requires.0.range _ c.coarsest_of-coarsest.ensures) c.go_back-at.ensures.value c.go_back-at.ensures.marks_after w.invariant.1.marks_size)

pub loop-used-preserved : goal.loop-used-preserved
loop-used-preserved c = let a = c.args in
    let w = c.loop-used in
    let t = told_bit a.body.now (w.used - 1) a.declared c.read.ensures _ c.in-Ok.is in
    (omega (arith, c.loop-used-test.true), descending_on a.dial c.requires.0.range (ending a.declared a.body.now) a.body.now (usable_bits a.declared a.body.now) a.to _ w.used w.at w.values w.precisions w.marks w.invariant.1 c.loop-used-test.true (length w.marks) (length w.values) c.coarsest_of-coarsest.result c.go_back-at.result _ w.invariant.1.marks_size w.invariant.1.values_size (range_coarsest a.dial c.requires.0.range _ c.coarsest_of-coarsest.ensures) c.go_back-at.ensures.value c.go_back-at.ensures.marks_after _ _ _ t.1 c.untell.ensures.values_after c.untell.ensures.precisions_after (omega (arith, w.invariant.1.values_size)) (omega (arith, w.invariant.1.precisions_size)) (omega (arith, w.invariant.1.marks_size)))

pub refuse-requires : goal.refuse-requires
refuse-requires c = (c.requires.0.range, c.loop-used.invariant.1.stood)

pub shape_of-values-in_default : goal.shape_of-values-in_default
shape_of-values-in_default c = omega (arith, c.loop-used.invariant.1.values_size, c.requires.0.values_size)

pub shape_of-precisions-in_default : goal.shape_of-precisions-in_default
shape_of-precisions-in_default c = omega (arith, c.loop-used.invariant.1.precisions_size, c.requires.0.precisions_size)

pub shape_of-marks-in_default : goal.shape_of-marks-in_default
shape_of-marks-in_default c = omega (arith, c.loop-used.invariant.1.marks_size, c.requires.0.marks_size)

pub returns-in_default : goal.returns-in_default
returns-in_default c = let a = c.args in
    let w = c.loop-used in
    absurd (omega (arith, c.loop-used-test.true, w.invariant.1.few, viewed_past a.body.now (w.used - 1) a.declared _ (sym c.read.ensures ∙ c.in_default.is)))

pub arrive-requires : goal.arrive-requires
arrive-requires c = (c.requires.0.range, c.loop-used.invariant.1.stood)

pub shape_of-values : goal.shape_of-values
shape_of-values c = omega (arith, c.loop-used.invariant.1.values_size, c.requires.0.values_size)

pub shape_of-precisions : goal.shape_of-precisions
shape_of-precisions c = omega (arith, c.loop-used.invariant.1.precisions_size, c.requires.0.precisions_size)

pub shape_of-marks : goal.shape_of-marks
shape_of-marks c = omega (arith, c.loop-used.invariant.1.marks_size, c.requires.0.marks_size)

pub returns : goal.returns
returns c = let a = c.args in
    let w = c.loop-used in
    let done : w.used ≡ c.min.result = omega (arith, c.min.ensures, w.invariant.0) in
    (rw (sym done) at c.arrive.ensures w.values w.precisions w.marks) ∙ descending_last a.dial c.requires.0.range (ending a.declared a.body.now) a.body.now (usable_bits a.declared a.body.now) a.to _ w.used w.at w.values w.precisions w.marks w.invariant.1 (omega (arith, c.loop-used-test.false))
