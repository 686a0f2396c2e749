use Prim.Native.Nat.{◌-◌}
use lib.ListN.{length}
use Rattle.nls.specs.Scan.{sets}
use Rattle.moves.specs.Moves.{Passed}
use Rattle.moves.proofs.over_alone.Given as goal

abbrev pub invariant-loop-at : goal.invariant-loop-at
invariant-loop-at l = Passed (length l.marks) sets l.place l.marks l.at l.marks

abbrev pub decreases-loop-at : goal.decreases-loop-at
decreases-loop-at l = length l.marks - l.at
