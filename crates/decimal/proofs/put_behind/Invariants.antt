use mathlib.Core.Path.{◌≡◌}
use Prim.Native.Nat.{◌+◌, ◌≤◌}
use lib.ListN.{length}
use lib.Seq.{sets}
use Rattle.decimal.specs.Decimal.{decimal}
use Rattle.decimal.proofs.put_behind.Given as goal

-- the k highest digits are left: those of what is left of the number
abbrev pub invariant-loop-left : goal.invariant-loop-left
invariant-loop-left l = (length l.out ≡ length l.initial.out) × (l.k ≡ length (decimal l.left)) × (l.k ≤ l.digits) × (sets l.out (l.at + l.before) (decimal l.left) ≡ sets l.initial.out (l.at + l.before) (decimal l.x))

abbrev pub decreases-loop-left : goal.decreases-loop-left
decreases-loop-left l = l.left
