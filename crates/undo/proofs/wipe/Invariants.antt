use Prim.Native.Nat.{◌-◌, ◌*◌, ◌≤◌, ◌<◌}
use mathlib.Core.Path.{◌≡◌}
use lib.ListN.{length}
use Rattle.sizes.specs.Sizes.{most_n, all_of}
use Rattle.undo.specs.Back.{wipe_from}
use Rattle.undo.proofs.wipe.Given as goal

abbrev pub invariant-loop-at : goal.invariant-loop-at
invariant-loop-at l = (1 ≤ l.at) × (l.at < 4 * all_of most_n) × (length l.marks ≡ length l.fn.marks) × (wipe_from (length l.fn.marks) (length l.fn.marks) l.at l.marks ≡ wipe_from (length l.fn.marks) (length l.fn.marks) (4 * l.place) l.initial.marks)

abbrev pub decreases-loop-at : goal.decreases-loop-at
decreases-loop-at l = length l.fn.marks - l.at
