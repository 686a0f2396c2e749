use mathlib.Core.Path.{◌≡◌, ◌∙◌}
use Prim.Native.Nat.{◌/◌}
use native.Mathlib.Omega.{arith}
use lib.ListN.{length}
use Rattle.sizes.specs.Sizes.{coarsest_of}
use Rattle.sizes.proofs.Laws.{sized, side_most, all_most, coarsest_all}
use Rattle.steps.proofs.RowLaws.{grand_row, grand_rows, grand_rows_none}
use Rattle.steps.proofs.tables.note_grand.Goals as goal

pub overflow_mul-coarsest_of : goal.overflow_mul-coarsest_of
overflow_mul-coarsest_of c =
    let coarsest_so : c.coarsest_of.result ≡ coarsest_of c.args.n c.args.l = c.coarsest_of.ensures ∙ rw (c.requires.1, c.requires.2) in
    record { fits = omega (arith, coarsest_all c.args.n c.args.l (sized c.args.n c.args.l c.requires.2), all_most c.args.n (side_most c.args.n c.requires.1), coarsest_so) }

pub fill_rows-requires : goal.fill_rows-requires
fill_rows-requires c =
    let coarsest_so : c.coarsest_of.result ≡ coarsest_of c.args.n c.args.l = c.coarsest_of.ensures ∙ rw (c.requires.1, c.requires.2) in
    let a = c.args in
    grand_row a.n a.l c.requires.1 (sized a.n a.l c.requires.2) (length a.precisions.now) (a.place / 16) c.requires.0 (omega (arith, c.if-coarsest_of-first.true, coarsest_so))

pub returns-then-coarsest_of-first : goal.returns-then-coarsest_of-first
returns-then-coarsest_of-first c =
    let coarsest_so : c.coarsest_of.result ≡ coarsest_of c.args.n c.args.l = c.coarsest_of.ensures ∙ rw (c.requires.1, c.requires.2) in
    let a = c.args in
    c.fill_rows.ensures ∙ grand_rows a.n a.l (sized a.n a.l c.requires.2) a.plane a.precisions.now c.requires.0 (a.place / 16) (omega (arith, c.if-coarsest_of-first.true, coarsest_so))

pub returns-else-coarsest_of-first : goal.returns-else-coarsest_of-first
returns-else-coarsest_of-first c =
    let coarsest_so : c.coarsest_of.result ≡ coarsest_of c.args.n c.args.l = c.coarsest_of.ensures ∙ rw (c.requires.1, c.requires.2) in
    let a = c.args in
    grand_rows_none a.n a.l (sized a.n a.l c.requires.2) a.plane a.precisions.now c.requires.0 (a.place / 16) (omega (arith, c.if-coarsest_of-first.false, coarsest_so))
