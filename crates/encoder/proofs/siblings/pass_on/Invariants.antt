use Prim.Native.Nat.{◌+◌, ◌*◌, ◌-◌}
use mathlib.Core.Path.{◌≡◌}
use lib.ListN.{length}
use Rattle.encoder.specs.Siblings.{Led}
use Rattle.encoder.proofs.siblings.pass_on.Given as goal

abbrev pub invariant-loop-place : goal.invariant-loop-place
invariant-loop-place l =
    Led l.src.coefs.now l.src.desc.now l.src.grand.now l.limits.all l.limits.budget l.b l.pass 0 l.initial.marks l.initial.out l.initial.s l.place l.s l.marks l.out × (length l.marks ≡ length l.initial.marks) × (length l.out ≡ length l.initial.out)

abbrev pub decreases-loop-place : goal.decreases-loop-place
decreases-loop-place l =
    (l.limits.all - l.place) + (l.limits.budget - (8 * l.s.at + l.s.n))
