use Prim.Native.Nat.{◌-◌, ◌^◌, ◌≤◌}
use mathlib.Core.Path.{◌≡◌}
use Rattle.sizes.specs.Sizes.{most_n}
use Rattle.undo.specs.Back.{block, block_from}
use Rattle.undo.proofs.block.Given as goal

abbrev pub invariant-loop : goal.invariant-loop
invariant-loop l = (l.counter ≤ most_n) × (l.size ≡ 4 ^ l.counter) × (block_from (most_n - l.counter) l.marks l.end l.size ≡ block l.marks l.end)

abbrev pub decreases-loop : goal.decreases-loop
decreases-loop l = most_n - l.counter
