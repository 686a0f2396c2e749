use mathlib.Core.Path.{◌≡◌}
use mathlib.Core.List.{◌++◌}
use Prim.Native.Nat.{◌-◌}
use lib.ListN.{length, drop}
use Rattle.sizes.specs.Tables.{table}
use Rattle.nls.specs.Turns.{precision_by}
use Rattle.decoder.proofs.StoodLaws.{Walked}
use Rattle.decoder.proofs.finish.settle.Given as goal

abbrev pub invariant-loop-place : goal.invariant-loop-place
invariant-loop-place l =
    Walked l.marks l.place × (length l.precisions ≡ length l.initial.precisions) × (l.precisions ≡ table l.place (λ i. precision_by (length l.marks) l.marks l.left l.stop i) ++ drop l.place l.initial.precisions)

abbrev pub decreases-loop-place : goal.decreases-loop-place
decreases-loop-place l = l.all - l.place
