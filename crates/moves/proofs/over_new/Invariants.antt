use Prim.Native.Nat.{◌-◌, ◌≤◌}
use lib.ListN.{length}
use Rattle.nls.specs.Scan.{refining}
use Rattle.moves.specs.Moves.{Passed}
use Rattle.moves.proofs.over_new.Given as goal

abbrev pub invariant-loop-marks : goal.invariant-loop-marks
invariant-loop-marks l = (l.at ≤ length l.marks) × Passed (length l.fn.marks) refining l.fn.place l.fn.marks l.at l.marks

abbrev pub decreases-loop-marks : goal.decreases-loop-marks
decreases-loop-marks l = length l.marks - l.at

abbrev pub invariant-loop-i : goal.invariant-loop-i
invariant-loop-i l = Passed (length l.fn.marks) refining l.fn.place l.fn.marks l.i l.marks
