use mathlib.Core.Path.{◌≡◌}
use Prim.Native.Nat.{◌+◌}
use lib.ListN.{length}
use Rattle.decimal.specs.Decimal.{decimal}
use Rattle.decimal.proofs.count.Given as goal

-- the digits counted, and those of what is left but for its first
abbrev pub invariant-loop-left : goal.invariant-loop-left
invariant-loop-left l = l.digits + length (decimal l.left) ≡ length (decimal l.x) + 1

abbrev pub decreases-loop-left : goal.decreases-loop-left
decreases-loop-left l = l.left
