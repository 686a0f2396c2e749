use mathlib.Core.Path.{◌≡◌, ap}
use mathlib.Core.List.{List}
use Prim.Native.Nat.{ℕ, ◌-◌}
use native.Mathlib.Omega.{arith}
use Rattle.figures.specs.declared.Figures.{Figures}
use Rattle.show.specs.Text.{line_text, plane_line}
use Rattle.show.proofs.Puts.{puts_as, leaves_none}
use Rattle.show.proofs.Lines.{leaves_plane, no_planes}
use Rattle.show.proofs.put_planes.Goals as goal

pub loop-plane-preserved : goal.loop-plane-preserved
loop-plane-preserved c = let a = c.args in
    let plane = c.loop-plane.plane in
    let left = plane - (a.planes - a.finished) in
    let fewer : plane - 1 - (a.planes - a.finished) ≡ left - 1 = omega arith in
    rw fewer (
      omega arith,
      leaves_plane a.n a.l a.values.now plane left (omega arith) c.loop-plane.invariant.1
          (puts_as (ap {B = List ℕ} (λ (f : Figures). line_text (plane_line (plane - 1) f)) c.figures_at-f.ensures) c.put_plane-end.ensures.0),
    )

pub returns : goal.returns
returns c = let a = c.args in
    let left = c.loop-plane.plane - (a.planes - a.finished) in (
      leaves_none (rw (no_planes a.n a.l a.values.now c.loop-plane.plane left (omega arith)) at c.loop-plane.invariant.1),
      omega arith,
    )
