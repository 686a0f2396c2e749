use mathlib.Core.Path.{refl, ◌∙◌}
use native.Mathlib.Omega.{arith}
use Rattle.walk.proofs.Turns.{resume_all, resume_go, resume_next}
use Rattle.reading.proofs.siblings.scan.Goals as goal

pub overflow_sub-safe : goal.overflow_sub-safe
overflow_sub-safe c = omega arith

pub overflow_mul-turn : goal.overflow_mul-turn
overflow_mul-turn c = omega arith

pub loop-turn-init : goal.loop-turn-init
loop-turn-init c = (record { marks = refl; values = refl; spent = omega arith }, omega arith, resume_all _ _ _)

pub overflow_add-left : goal.overflow_add-left
overflow_add-left c = omega arith

pub overflow_sub-left : goal.overflow_sub-left
overflow_sub-left c = omega arith

pub overflow_mul-left : goal.overflow_mul-left
overflow_mul-left c = omega arith

pub overflow_sub-left-in-loop-turn : goal.overflow_sub-left-in-loop-turn
overflow_sub-left-in-loop-turn c = omega arith

pub pass_on-r-requires : goal.pass_on-r-requires
pass_on-r-requires c = (
  record { below = omega arith; size = omega arith; in_values = omega arith; near = omega arith; there = omega arith; margin = omega arith; plane = omega arith; spent = omega arith },
  c.parsed_table-parsed.ensures,
  c.placed_table-placed.ensures,
  c.row_table-rows.ensures,
  c.requires.3,
  omega arith,
)

pub shape_of-marks-then-r-frame : goal.shape_of-marks-then-r-frame
shape_of-marks-then-r-frame c = c.pass_on-r.auto.marks ∙ c.loop-turn.invariant.0.marks

pub shape_of-values-then-r-frame : goal.shape_of-values-then-r-frame
shape_of-values-then-r-frame c = c.pass_on-r.auto.values ∙ c.loop-turn.invariant.0.values

pub returns-then-r-frame : goal.returns-then-r-frame
returns-then-r-frame c = (resume_go _ _ _ _ _ _ _ c.loop-turn.invariant.2 (omega arith) _ _ c.pass_on-r.ensures.leads, c.loop-turn.invariant.1, c.pass_on-r.ensures.spent)

pub overflow_sub-turn : goal.overflow_sub-turn
overflow_sub-turn c = omega arith

pub loop-turn-smaller : goal.loop-turn-smaller
loop-turn-smaller c = omega arith

pub loop-turn-preserved : goal.loop-turn-preserved
loop-turn-preserved c = (
  record { marks = c.pass_on-r.auto.marks ∙ c.loop-turn.invariant.0.marks; values = c.pass_on-r.auto.values ∙ c.loop-turn.invariant.0.values; spent = c.pass_on-r.ensures.spent },
  omega arith,
  resume_next _ _ _ _ _ _ (resume_go _ _ _ _ _ _ _ c.loop-turn.invariant.2 (omega arith) _ _ c.pass_on-r.ensures.leads) c.loop-turn-test.true c.if-r-frame.false,
)

pub shape_of-marks : goal.shape_of-marks
shape_of-marks c = c.loop-turn.invariant.0.marks

pub shape_of-values : goal.shape_of-values
shape_of-values c = c.loop-turn.invariant.0.values

pub returns : goal.returns
returns c = (c.loop-turn.invariant.2, c.loop-turn.invariant.1, c.loop-turn.invariant.0.spent)
