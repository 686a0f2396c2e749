use Prim.Native.Nat.{ℕ, ◌%◌, ◌≤◌, ◌<◌}
use mathlib.Core.Path.{◌≡◌}
use mathlib.Core.Bool.{Bool, true}
use lib.ListN.{length}
use Rattle.nls.specs.Scan.{sets}
use Rattle.undo.specs.Undoing.{Hushed}
use Rattle.undo.specs.Back.{alone}
use Rattle.undo.proofs.back_alone.Given as goal

abbrev pub invariant-loop-at : goal.invariant-loop-at
invariant-loop-at l = (l.at ≤ l.place) × (l.at % 4 ≡ 0) × (l.at < length l.marks → alone l.marks l.at ≡ true) × ((P e : ℕ) (big : ℕ → ℕ → Bool) → e ≤ P → Hushed (length l.marks) l.coarsest P big e sets l.place l.marks l.at l.marks)

abbrev pub decreases-loop-at : goal.decreases-loop-at
decreases-loop-at l = l.at
