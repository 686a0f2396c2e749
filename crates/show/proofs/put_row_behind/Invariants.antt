use Prim.Native.Nat.{◌+◌, ◌*◌, ◌≤◌}
use mathlib.Core.List.{map}
use lib.ListN.{drop}
use Rattle.show.specs.Text.{number, words_after}
use Rattle.show.proofs.Puts.{Leaves}
use Rattle.show.proofs.put_row_behind.Given as goal

-- the numbers from the x-index-th on are left; each takes at most 12 characters
abbrev pub invariant-loop-x : goal.invariant-loop-x
invariant-loop-x l = (l.end ≤ l.at + 12 * l.x-index) × Leaves l.initial.out l.at (words_after (map number l.row)) l.out l.end (words_after (map number (drop l.x-index l.row)))
