use Prim.Native.Nat.{◌-◌, ◌*◌, ◌≤◌}
use mathlib.Core.Path.{◌≡◌}
use lib.ListN.{length}
use Rattle.nls.specs.Marks.{push_roots}
use Rattle.marking.proofs.begin.Given as goal

abbrev pub invariant-loop-j : goal.invariant-loop-j
invariant-loop-j l = (length l.marks ≡ length l.initial.marks) × (1 ≤ l.j) × (push_roots l.all (l.coarsest - l.j) (4 * l.j) l.marks ≡ push_roots l.all (l.coarsest - l.initial.j) (4 * l.initial.j) l.initial.marks)

abbrev pub decreases-loop-j : goal.decreases-loop-j
decreases-loop-j l = l.coarsest - l.j
