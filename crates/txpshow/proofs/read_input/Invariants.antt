use Rattle.std.proofs.Common.{◌≡◌, ◌-◌, ◌≤◌, length}
use Rattle.txpshow.proofs.read_input.Given as goal

-- what was read is within the room
abbrev pub invariant-loop-got : goal.invariant-loop-got
invariant-loop-got g l = (length l.bytes ≡ length l.initial.bytes) × (l.got ≤ length l.bytes)

abbrev pub decreases-loop-got : goal.decreases-loop-got
decreases-loop-got g l = length l.bytes - l.got
