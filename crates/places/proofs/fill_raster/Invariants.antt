use mathlib.Core.Path.{◌≡◌}
use mathlib.Core.List.{◌++◌}
use Prim.Native.Nat.{◌-◌, ◌%◌, ◌≤◌}
use lib.IntN.{pos}
use lib.ListN.{length, get_or, drop}
use Rattle.sizes.specs.Tables.{table}
use Rattle.places.specs.Order.{to_linear}
use Rattle.places.proofs.fill_raster.Given as goal

abbrev pub invariant-loop-p : goal.invariant-loop-p
invariant-loop-p l = (l.p % 4 ≡ 0) × (l.p ≤ length l.from) × (l.to ≡ table l.p (λ k. get_or l.from (to_linear l.n k) (pos 0)) ++ drop l.p l.initial.to)

abbrev pub decreases-loop-p : goal.decreases-loop-p
decreases-loop-p l = length l.from - l.p
