use mathlib.Core.Path.{◌≡◌}
use mathlib.Core.List.{◌++◌}
use Prim.Native.Nat.{◌-◌, ◌%◌, ◌≤◌}
use lib.IntN.{pos}
use lib.ListN.{length, get_or, drop}
use Rattle.sizes.specs.Tables.{table}
use Rattle.places.specs.Order.{to_raster}
use Rattle.places.proofs.fill_linear.Given as goal

abbrev pub invariant-loop-q : goal.invariant-loop-q
invariant-loop-q l = (l.q % 4 ≡ 0) × (l.q ≤ length l.from) × (l.to ≡ table l.q (λ k. get_or l.from (to_raster l.n k) (pos 0)) ++ drop l.q l.initial.to)

abbrev pub decreases-loop-q : goal.decreases-loop-q
decreases-loop-q l = length l.from - l.q
