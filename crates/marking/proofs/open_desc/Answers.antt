use native.Mathlib.Omega.{arith}
use lib.ListN.{length-set}
use borrow.Author.Tests.{lt-ltb, le-ltb}
use Rattle.marking.proofs.open_desc.Goals as goal

pub shape_of-marks-then-place-all : goal.shape_of-marks-then-place-all
shape_of-marks-then-place-all c = simp length-set (omega arith)

pub returns-then-place-all : goal.returns-then-place-all
returns-then-place-all c = rw (lt-ltb _ _ c.if-place-all.true) (cc)

pub returns-else-place-all : goal.returns-else-place-all
returns-else-place-all c = rw (le-ltb _ _ c.if-place-all.false) (cc)
