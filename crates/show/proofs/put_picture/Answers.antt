use mathlib.Core.Path.{sym, ap}
use Prim.Native.Nat.{ℕ, ◌^◌}
use native.Mathlib.Omega.{arith}
use lib.IntN.{ℤ, pos}
use mathlib.Core.List.{List, ◌++◌}
use lib.ListN.{length-replicate}
use Rattle.places.specs.Order.{rasterly}
use Rattle.show.specs.Text.{line_text, text_of, first_line, plane_lines, row_lines, picture_lines}
use Rattle.show.proofs.Puts.{puts_then, puts_as}
use Rattle.show.proofs.Lines.{text_append}
use Rattle.show.proofs.Drawn.{side_shown}
use Rattle.show.proofs.put_picture.Goals as goal

pub put_planes-planes-requires : goal.put_planes-planes-requires
put_planes-planes-requires c = let p = c.requires in
    let few = (side_shown c.args.d.n p.0.small).2 in (
      omega arith,
      p.0,
      p.1,
      p.2,
      omega (arith, few, length-replicate {A = ℕ} 1024 0),
      omega (arith, few, length-replicate {A = ℕ} 256 0),
    )

pub put_square-requires : goal.put_square-requires
put_square-requires c = let p = c.requires in
    (omega (arith, p.1, p.2), p.0, omega (arith, (side_shown c.args.d.n p.0.small).2, length-replicate {A = ℤ} 4096 (pos 0)))

pub returns : goal.returns
unfolding text_of picture_lines
returns c = let d = c.args.d in
    let values = c.args.values.now in
    let p = c.requires in (
      puts_as
          (ap {B = List ℕ} (λ (s : List ℕ). line_text (first_line d) ++ s)
          (sym (text_append (plane_lines d.n d.l values d.p d.finished) (row_lines (2 ^ d.n) (2 ^ d.n) (rasterly d.n values)))))
          (puts_then c.put_first-first.ensures.0 (puts_then c.put_planes-planes.ensures.0 c.put_square.ensures.0)),
      omega (arith, p.1, p.2),
    )
