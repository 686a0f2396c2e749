use Prim.Native.Nat.{ℕ, ◌≤◌}
use mathlib.Core.Path.{◌≡◌}
use lib.ListN.{length}
use Rattle.nls.specs.Scan.{refining}
use Rattle.undo.specs.Back.{big_in}
use Rattle.undo.specs.Undoing.{Hushed}
use Rattle.undo.proofs.back_new.Given as goal

abbrev pub invariant-loop-marks : goal.invariant-loop-marks
invariant-loop-marks l = (length l.marks ≡ length l.initial.marks) × (l.at ≤ l.initial.at) × ((I D P : ℕ) → l.initial.at ≤ I → l.left ≤ P → Hushed I D P (big_in l.values) l.left refining l.initial.at l.initial.marks l.at l.marks)

abbrev pub decreases-loop-marks : goal.decreases-loop-marks
decreases-loop-marks l = l.at

abbrev pub invariant-loop-i : goal.invariant-loop-i
invariant-loop-i l = (length l.marks ≡ length l.initial.marks) × (l.i ≤ l.initial.at) × ((I D P : ℕ) → l.initial.at ≤ I → l.left ≤ P → Hushed I D P (big_in l.values) l.left refining l.initial.at l.initial.marks l.i l.marks)
