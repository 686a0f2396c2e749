use Prim.Native.Nat.{◌+◌, ◌-◌}
use mathlib.Core.Path.{◌≡◌}
use lib.ListN.{length}
use Rattle.reading.specs.Siblings.{Led}
use Rattle.reading.proofs.siblings.pass_on.Given as goal

abbrev pub invariant-loop-place : goal.invariant-loop-place
invariant-loop-place l = (length l.marks ≡ length l.initial.marks) × (length l.values ≡ length l.initial.values) × Led l.body l.sweep.frame.all l.sweep.frame.coarsest l.sweep.frame.top l.sweep.frame.usable l.b l.pass 0 l.initial.marks l.initial.values l.n0 l.place l.n l.marks l.values

abbrev pub decreases-loop-place : goal.decreases-loop-place
decreases-loop-place l = (l.sweep.frame.all - l.place) + (l.sweep.frame.usable - l.n)
