use Prim.Native.Nat.{ℕ, ◌≤◌}
use mathlib.Core.Bool.{Bool}
use lib.ListN.{length}
use Rattle.nls.specs.Scan.{pixels}
use Rattle.undo.specs.Undoing.{Hushed}
use Rattle.undo.proofs.back_old.Given as goal

abbrev pub invariant-loop-at : goal.invariant-loop-at
invariant-loop-at l = (l.at ≤ l.place) × ((D P e : ℕ) (big : ℕ → ℕ → Bool) → e ≤ P → Hushed (length l.marks) D P big e pixels l.place l.marks l.at l.marks)

abbrev pub decreases-loop-at : goal.decreases-loop-at
decreases-loop-at l = l.at

abbrev pub invariant-loop-i : goal.invariant-loop-i
invariant-loop-i l = (l.i ≤ l.place) × ((D P e : ℕ) (big : ℕ → ℕ → Bool) → e ≤ P → Hushed (length l.marks) D P big e pixels l.place l.marks l.i l.marks)
