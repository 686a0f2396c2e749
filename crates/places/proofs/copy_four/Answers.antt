use native.Mathlib.Omega.{arith}
use lib.ListN.{length-set}
use Rattle.places.proofs.copy_four.Goals as goal

pub bounds-to-first-2 : goal.bounds-to-first-2
bounds-to-first-2 c = simp length-set (omega arith)

pub bounds-to-first-3 : goal.bounds-to-first-3
bounds-to-first-3 c = simp length-set (omega arith)
