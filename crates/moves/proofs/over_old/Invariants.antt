use Prim.Native.Nat.{◌-◌, ◌≤◌}
use lib.ListN.{length}
use Rattle.nls.specs.Scan.{pixels}
use Rattle.moves.specs.Moves.{Passed}
use Rattle.moves.proofs.over_old.Given as goal

abbrev pub invariant-loop-at : goal.invariant-loop-at
invariant-loop-at l = (l.at ≤ length l.marks) × Passed (length l.marks) pixels l.place l.marks l.at l.marks

abbrev pub decreases-loop-at : goal.decreases-loop-at
decreases-loop-at l = length l.marks - l.at

abbrev pub invariant-loop-i : goal.invariant-loop-i
invariant-loop-i l = Passed (length l.marks) pixels l.place l.marks l.i l.marks
