use mathlib.Core.Path.{◌≡◌}
use Prim.Native.Nat.{◌+◌, ◌*◌, ◌-◌, ◌≤◌}
use lib.ListN.{length}
use Rattle.std.specs.Slice.Iter.{chunks_exact_rest, chunks_exact_size}
use Rattle.show.specs.Text.{text_of, row_lines}
use Rattle.show.proofs.Puts.{Leaves}
use Rattle.show.proofs.put_rows.Given as goal

-- the rows that are not yielded are left; each takes at most 900 characters
abbrev pub invariant-loop-row : goal.invariant-loop-row
invariant-loop-row l =
    (goal.iterator-loop-row).can_next l.row-iterator
    × (goal.iterator-loop-row).is_finite l.row-iterator
    × (chunks_exact_size l.row-iterator ≡ l.side)
    × (length (chunks_exact_rest l.row-iterator) ≡ (l.side - length l.yielded) * l.side)
    × (length l.yielded ≤ l.side)
    × (l.end + 900 * (l.side - length l.yielded) ≤ l.at + 900 * l.side)
    × Leaves l.initial.out l.at (text_of (row_lines l.side l.side l.raster)) l.out l.end (text_of (row_lines l.side (l.side - length l.yielded) (chunks_exact_rest l.row-iterator)))
