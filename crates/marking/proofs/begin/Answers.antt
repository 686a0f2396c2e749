use mathlib.Core.Path.{refl, sym, ◌∙◌}
use lib.Seq.{length-take-le}
use native.Mathlib.Omega.{arith}
use Rattle.marking.proofs.Laws.{roots_again, start_done}
use Rattle.marking.proofs.begin.Goals as goal

pub slice_bounds-fill-end : goal.slice_bounds-fill-end
slice_bounds-fill-end c = omega arith

pub slice_bounds-fill-end-2 : goal.slice_bounds-fill-end-2
slice_bounds-fill-end-2 c = sym (length-take-le _ c.fill.new.self (omega arith))

pub loop-j-init : goal.loop-j-init
loop-j-init c = (refl, omega arith, refl)

pub overflow_mul-j : goal.overflow_mul-j
overflow_mul-j c = omega arith

pub new_desc-requires : goal.new_desc-requires
new_desc-requires c = omega arith

pub overflow_step-j-in-loop-j : goal.overflow_step-j-in-loop-j
overflow_step-j-in-loop-j c = omega arith

pub loop-j-smaller : goal.loop-j-smaller
loop-j-smaller c = omega arith

pub loop-j-preserved : goal.loop-j-preserved
loop-j-preserved c = (
  c.new_desc.auto.marks ∙ c.loop-j.invariant.0,
  omega arith,
  rw c.new_desc.ensures (roots_again _ _ _ _ _ c.loop-j.invariant.2 (omega arith) (omega arith) (omega arith)),
)

pub shape_of-marks : goal.shape_of-marks
shape_of-marks c = omega arith

pub returns : goal.returns
returns c = start_done _ _ _ c.args.marks.now c.fill.new.self c.fill-2.new.self _ c.requires.4 c.requires.3 c.requires.0 (c.fill.ensures.after (λ y e. e)) (c.fill-2.ensures.after (λ y e. e)) c.loop-j.invariant.2 c.loop-j-test.false
