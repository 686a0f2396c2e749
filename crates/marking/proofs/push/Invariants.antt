use Prim.Native.Nat.{◌-◌, ◌*◌, ◌≤◌, ◌<◌}
use mathlib.Core.Path.{◌≡◌}
use lib.ListN.{length}
use Rattle.sizes.specs.Sizes.{most_n, all_of}
use Rattle.nls.specs.Marks.{push_from}
use Rattle.marking.specs.Marking.{codes_end, push_most}
use Rattle.marking.proofs.push.Given as goal

abbrev pub invariant-loop-k : goal.invariant-loop-k
invariant-loop-k l = (7 ≤ l.k) × (l.k ≤ codes_end) × (length l.marks ≡ length l.initial.marks) × (l.at < 8 * all_of most_n) × (push_from l.all (codes_end - l.k) l.at l.k l.marks ≡ push_most l.all l.place l.initial.marks)

abbrev pub decreases-loop-k : goal.decreases-loop-k
decreases-loop-k l = codes_end - l.k
