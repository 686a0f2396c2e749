use Rattle.std.proofs.Common.{◌-◌, ◌≤◌, length}
use Rattle.second.proofs.text.Text.list.Given as goal

abbrev pub invariant-loop-done : goal.invariant-loop-done
invariant-loop-done l = (l.done ≤ l.count) × (l.count ≤ length l.table)

abbrev pub decreases-loop-done : goal.decreases-loop-done
decreases-loop-done l = l.count - l.done
