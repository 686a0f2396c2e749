use mathlib.Core.Path.{◌≡◌}
use Prim.Native.Nat.{◌≤◌, ◌<◌}
use lib.ListN.{length}
use Rattle.undo.specs.Back.{big_in, back}
use Rattle.undo.specs.Undoing.{plain}
use Rattle.undo.proofs.Fuel.{behind}
use Rattle.undo.proofs.way_back.Given as goal

abbrev pub invariant-loop-next : goal.invariant-loop-next
invariant-loop-next l = (length l.marks ≡ length l.initial.marks) × (l.last.left ≤ l.planes) × (l.last.pass < 3) × (l.last.place ≤ length l.initial.marks) × (back (length l.initial.marks) l.coarsest l.planes (big_in l.values) (plain l.last l.marks) ≡ back (length l.initial.marks) l.coarsest l.planes (big_in l.values) (plain l.initial.last l.initial.marks))

abbrev pub decreases-loop-next : goal.decreases-loop-next
decreases-loop-next l = behind (length l.initial.marks) l.coarsest l.planes (big_in l.values) (plain l.last l.marks)
