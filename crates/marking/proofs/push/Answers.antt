use mathlib.Core.Path.{refl}
use lib.ListN.{length-set}
use native.Mathlib.Omega.{arith}
use borrow.Author.Rules.{rules}
use Rattle.marking.proofs.Laws.{push_again, push_done, push_out}
use Rattle.marking.proofs.push.Goals as goal

pub loop-k-init : goal.loop-k-init
loop-k-init c = (search rules, search rules, refl, omega arith, refl)

pub bounds-marks-at : goal.bounds-marks-at
bounds-marks-at c = omega arith

pub overflow_mul-at-in-loop-k : goal.overflow_mul-at-in-loop-k
overflow_mul-at-in-loop-k c = omega arith

pub overflow_step-k : goal.overflow_step-k
overflow_step-k c = omega arith

pub loop-k-smaller : goal.loop-k-smaller
loop-k-smaller c = omega arith

pub loop-k-preserved : goal.loop-k-preserved
loop-k-preserved c = (
  omega arith,
  omega arith,
  simp length-set (omega arith),
  omega arith,
  push_again _ _ _ _ _ c.loop-k.invariant.4 (omega arith) (omega arith),
)

pub shape_of-marks-after-loop-k : goal.shape_of-marks-after-loop-k
shape_of-marks-after-loop-k c = omega arith

pub returns-after-loop-k : goal.returns-after-loop-k
returns-after-loop-k c = push_done _ _ _ _ _ c.loop-k.invariant.4 (omega arith)

pub shape_of-marks-then-all-at : goal.shape_of-marks-then-all-at
shape_of-marks-then-all-at c = omega arith

pub returns-then-all-at : goal.returns-then-all-at
returns-then-all-at c = push_out _ _ _ _ _ c.loop-k.invariant.4 (omega arith)
