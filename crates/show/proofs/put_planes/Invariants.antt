use Prim.Native.Nat.{◌+◌, ◌*◌, ◌-◌, ◌≤◌}
use Rattle.show.specs.Text.{text_of, plane_lines}
use Rattle.show.proofs.Puts.{Leaves}
use Rattle.show.proofs.put_planes.Given as goal

-- the lines of the planes from `plane-start` up to `plane` are left; each takes at most 50 characters
abbrev pub invariant-loop-plane : goal.invariant-loop-plane
invariant-loop-plane l =
    (l.end + 50 * (l.plane - l.plane-start) ≤ l.at + 50 * l.finished)
    × Leaves l.initial.out l.at (text_of (plane_lines l.n l.l l.values l.planes l.finished)) l.out l.end (text_of (plane_lines l.n l.l l.values l.plane (l.plane - l.plane-start)))
