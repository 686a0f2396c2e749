use mathlib.Core.Path.{◌≡◌, sym, subst, ◌∙◌}
use Prim.Native.Nat.{◌-◌}
use native.Mathlib.Omega.{arith}
use Rattle.refusals.specs.declared.Refusal.TheVariants.{Contradiction, Beyond, Spent}
use Rattle.view.proofs.Laws.{viewed_past}
use Rattle.moves.specs.declared.Stand.{Stand}
use Rattle.decoder.specs.{Body.tables, Ending.ending}
use Rattle.steps.specs.Steps.{usable_bits}
use Rattle.steps.specs.Ready.{Stood, forward_in}
use Rattle.steps.proofs.Standing.{stood_first, stood_onward}
use Rattle.steps.proofs.CallLaws.{steps_none}
use Rattle.steps.proofs.ClimbLaws.{read_bit, forward_spent, forward_beyond, forward_barred, forward_on, climb_begins, climb_ends, climb_goes}
use Rattle.steps.proofs.moving.climb.Goals as goal

pub loop-used-init : goal.loop-used-init
loop-used-init c = let a = c.args in (
  climb_begins a.dial c.requires.range (ending a.declared a.body.now) c.stand_of-at.result c.stand_of-at.ensures a.values.now a.precisions.now a.marks.now (forward_in (ending a.declared a.body.now) (usable_bits a.declared a.body.now) a.body.now) (a.to - a.dial.used),
  subst (λ (x : Stand). Stood a.dial x) (sym c.stand_of-at.ensures) (stood_first a.dial c.requires.range),
  c.requires,
  omega arith,
)

pub shape_of-values-then-at-eq0 : goal.shape_of-values-then-at-eq0
shape_of-values-then-at-eq0 c = c.loop-used.invariant.2.values_size ∙ sym c.requires.values_size

pub shape_of-precisions-then-at-eq0 : goal.shape_of-precisions-then-at-eq0
shape_of-precisions-then-at-eq0 c = c.loop-used.invariant.2.precisions_size ∙ sym c.requires.precisions_size

pub shape_of-marks-then-at-eq0 : goal.shape_of-marks-then-at-eq0
shape_of-marks-then-at-eq0 c = c.loop-used.invariant.2.marks_size ∙ sym c.requires.marks_size

pub returns-then-at-eq0 : goal.returns-then-at-eq0
returns-then-at-eq0 c = let a = c.args in
    let l = c.loop-used in
    let range = c.requires.range in
    let bit = read_bit a.body.now l.used a.declared c.read.ensures _ c.in-Ok.is in
    c.refuse-then-at-eq0.ensures l.marks (tables l.values l.precisions l.marks)
    ∙ climb_ends a.dial range l.at l.invariant.1 (ending a.declared a.body.now) (usable_bits a.declared a.body.now) a.body.now l.used l.values l.precisions l.marks a.to (Beyond l.used) c.loop-used-test.true (forward_beyond a.dial range l.at l.invariant.1 (ending a.declared a.body.now) (usable_bits a.declared a.body.now) a.body.now l.used l.values l.precisions l.marks _ bit c.if-at-eq0.true)
    ∙ l.invariant.0

pub shape_of-values-then-bars : goal.shape_of-values-then-bars
shape_of-values-then-bars c = c.loop-used.invariant.2.values_size ∙ sym c.requires.values_size

pub shape_of-precisions-then-bars : goal.shape_of-precisions-then-bars
shape_of-precisions-then-bars c = c.loop-used.invariant.2.precisions_size ∙ sym c.requires.precisions_size

pub shape_of-marks-then-bars : goal.shape_of-marks-then-bars
shape_of-marks-then-bars c = c.loop-used.invariant.2.marks_size ∙ sym c.requires.marks_size

pub returns-then-bars : goal.returns-then-bars
returns-then-bars c = let a = c.args in
    let l = c.loop-used in
    let range = c.requires.range in
    let bit = read_bit a.body.now l.used a.declared c.read.ensures _ c.in-Ok.is in
    c.refuse-then-bars.ensures l.marks (tables l.values l.precisions l.marks)
    ∙ climb_ends a.dial range l.at l.invariant.1 (ending a.declared a.body.now) (usable_bits a.declared a.body.now) a.body.now l.used l.values l.precisions l.marks a.to (Contradiction l.used) c.loop-used-test.true (forward_barred a.dial range l.at l.invariant.1 (ending a.declared a.body.now) (usable_bits a.declared a.body.now) a.body.now l.used l.values l.precisions l.marks _ bit c.if-at-eq0.false _ c.bars.ensures c.if-bars.true)
    ∙ l.invariant.0

pub loop-used-preserved : goal.loop-used-preserved
loop-used-preserved c = let a = c.args in
    let l = c.loop-used in
    let range = c.requires.range in
    let bit = read_bit a.body.now l.used a.declared c.read.ensures _ c.in-Ok.is in
    let k = c.tell-at in (
      climb_goes a.dial range l.at l.invariant.1 (ending a.declared a.body.now) (usable_bits a.declared a.body.now) a.body.now l.used l.values l.precisions l.marks a.to _ k.result k.new.values k.new.precisions k.new.marks c.loop-used-test.true
          (forward_on a.dial range l.at l.invariant.1 (ending a.declared a.body.now) (usable_bits a.declared a.body.now) a.body.now l.used l.values l.precisions l.marks _ bit c.if-at-eq0.false _ c.bars.ensures c.if-bars.false) k.ensures.stand k.ensures.filled ∙ l.invariant.0,
      subst (λ (x : Stand). Stood a.dial x) (sym k.ensures.stand) (stood_onward a.dial range l.at l.marks _ l.invariant.1 (omega (arith, c.if-at-eq0.false))),
      record {
        range = range;
        values_size = k.auto.values ∙ l.invariant.2.values_size;
        precisions_size = k.auto.precisions ∙ l.invariant.2.precisions_size;
        marks_size = k.auto.marks ∙ l.invariant.2.marks_size;
      },
      omega (arith, c.loop-used-test.true),
    )

pub shape_of-values-in_default : goal.shape_of-values-in_default
shape_of-values-in_default c = c.loop-used.invariant.2.values_size ∙ sym c.requires.values_size

pub shape_of-precisions-in_default : goal.shape_of-precisions-in_default
shape_of-precisions-in_default c = c.loop-used.invariant.2.precisions_size ∙ sym c.requires.precisions_size

pub shape_of-marks-in_default : goal.shape_of-marks-in_default
shape_of-marks-in_default c = c.loop-used.invariant.2.marks_size ∙ sym c.requires.marks_size

pub returns-in_default : goal.returns-in_default
returns-in_default c = let a = c.args in
    let l = c.loop-used in
    let range = c.requires.range in
    c.refuse.ensures l.marks (tables l.values l.precisions l.marks)
    ∙ climb_ends a.dial range l.at l.invariant.1 (ending a.declared a.body.now) (usable_bits a.declared a.body.now) a.body.now l.used l.values l.precisions l.marks a.to Spent c.loop-used-test.true (forward_spent a.dial range l.at l.invariant.1 (ending a.declared a.body.now) (usable_bits a.declared a.body.now) a.body.now l.used l.values l.precisions l.marks (viewed_past a.body.now l.used a.declared _ (sym c.read.ensures ∙ c.in_default.is)))
    ∙ l.invariant.0

pub shape_of-values : goal.shape_of-values
shape_of-values c = c.loop-used.invariant.2.values_size ∙ sym c.requires.values_size

pub shape_of-precisions : goal.shape_of-precisions
shape_of-precisions c = c.loop-used.invariant.2.precisions_size ∙ sym c.requires.precisions_size

pub shape_of-marks : goal.shape_of-marks
shape_of-marks c = c.loop-used.invariant.2.marks_size ∙ sym c.requires.marks_size

pub returns : goal.returns
returns c = let a = c.args in
    let l = c.loop-used in
    let done : l.used ≡ c.max.result = omega (arith, c.max.ensures, l.invariant.3) in
    (rw (sym done) at c.arrive.ensures l.values l.precisions l.marks)
    ∙ steps_none (forward_in (ending a.declared a.body.now) (usable_bits a.declared a.body.now) a.body.now) (a.to - l.used) _ (omega (arith, c.loop-used-test.false))
    ∙ l.invariant.0
