use Prim.Native.Nat.{◌-◌, ◌*◌, ◌≤◌, ◌<◌}
use mathlib.Core.Path.{◌≡◌}
use lib.ListN.{length}
use Rattle.sizes.specs.Sizes.{most_n, all_of}
use Rattle.nls.specs.Marks.{MN, push_from}
use Rattle.marking.specs.Marking.{codes_end}
use Rattle.undo.proofs.push_grand.Given as goal

abbrev pub invariant-loop-k : goal.invariant-loop-k
invariant-loop-k l = (MN 3 ≤ l.k) × (l.k ≤ codes_end) × (length l.marks ≡ length l.initial.marks) × (l.at < 4 * all_of most_n) × (push_from (length l.initial.marks) (codes_end - l.k) l.at l.k l.marks ≡ push_from (length l.initial.marks) (length l.initial.marks) (4 * l.place) (MN 3) l.initial.marks)

abbrev pub decreases-loop-k : goal.decreases-loop-k
decreases-loop-k l = codes_end - l.k
