use mathlib.Core.Path.{sym, ap, ◌∙◌}
use Prim.Native.Nat.{ℕ, ◌*◌, ◌^◌}
use native.Mathlib.Omega.{arith}
use lib.IntN.{ℤ}
use mathlib.Core.List.{List}
use lib.ListN.{length, take}
use lib.Seq.{length-take-le}
use Rattle.show.specs.Text.{text_of, row_lines}
use Rattle.show.proofs.Puts.{puts_as}
use Rattle.show.proofs.Drawn.{raster_room, raster_is, raster_length, side_square, side_shown}
use Rattle.show.proofs.put_square.Goals as goal

pub side_of-side-requires : goal.side_of-side-requires
side_of-side-requires c = c.requires.1.small

pub slice_bounds-put_rows-end : goal.slice_bounds-put_rows-end
slice_bounds-put_rows-end c = raster_room c.args.n c.args.l c.args.values.now c.requires.1 c.args.raster.now c.reorder_to_raster.new.to c.reorder_to_raster.result c.reorder_to_raster.ensures.0 c.reorder_to_raster.ensures.1 c.requires.2

pub slice_bounds-put_rows-end-2 : goal.slice_bounds-put_rows-end-2
slice_bounds-put_rows-end-2 c = sym (length-take-le _ c.reorder_to_raster.new.to (raster_room c.args.n c.args.l c.args.values.now c.requires.1 c.args.raster.now c.reorder_to_raster.new.to c.reorder_to_raster.result c.reorder_to_raster.ensures.0 c.reorder_to_raster.ensures.1 c.requires.2))

pub put_rows-requires : goal.put_rows-requires
put_rows-requires c = let a = c.args in
    let p = c.requires in
    let side = c.side_of-side.ensures in
    let shown = side_shown a.n p.1.small in
    let is = raster_is c.args.n c.args.l c.args.values.now c.requires.1 c.args.raster.now c.reorder_to_raster.new.to c.reorder_to_raster.result c.reorder_to_raster.ensures.0 c.reorder_to_raster.ensures.1 c.requires.2 in (
      omega arith,
      omega (arith, side, shown.0),
      omega (arith, side, shown.1),
      ap {B = ℕ} length is ∙ raster_length a.n a.values.now ∙ sym (side_square a.n) ∙ ap {B = ℕ} (λ (x : ℕ). x * x) (sym side),
    )

pub returns : goal.returns
returns c = let a = c.args in
    let p = c.requires in
    let side = c.side_of-side.ensures in
    let is = raster_is c.args.n c.args.l c.args.values.now c.requires.1 c.args.raster.now c.reorder_to_raster.new.to c.reorder_to_raster.result c.reorder_to_raster.ensures.0 c.reorder_to_raster.ensures.1 c.requires.2 in (
      puts_as
          (ap {B = List ℕ} (λ (x : ℕ). text_of (row_lines x x (take (length a.values.now) c.reorder_to_raster.new.to))) side
          ∙ ap {B = List ℕ} (λ (s : List ℤ). text_of (row_lines (2 ^ a.n) (2 ^ a.n) s)) is)
          c.put_rows.ensures.0,
      omega (arith, side, (side_shown a.n p.1.small).1),
    )
