use mathlib.Core.Path.{◌≡◌, ◌∙◌}
use Prim.Native.Nat.{◌/◌}
use native.Mathlib.Omega.{arith}
use lib.ListN.{length}
use Rattle.sizes.specs.Sizes.{coarsest_of}
use Rattle.sizes.proofs.Laws.{sized}
use Rattle.steps.proofs.RowLaws.{desc_row, desc_rows, desc_rows_none}
use Rattle.steps.proofs.tables.note_desc.Goals as goal

pub fill_rows-requires : goal.fill_rows-requires
fill_rows-requires c =
    let coarsest_so : c.coarsest_of.result ≡ coarsest_of c.args.n c.args.l = c.coarsest_of.ensures ∙ rw (c.requires.1, c.requires.2) in
    let a = c.args in
    desc_row a.n a.l c.requires.1 (sized a.n a.l c.requires.2) (length a.precisions.now) (a.place / 4) c.requires.0 (omega (arith, c.if-coarsest_of-first.true, coarsest_so))

pub returns-then-coarsest_of-first : goal.returns-then-coarsest_of-first
returns-then-coarsest_of-first c =
    let coarsest_so : c.coarsest_of.result ≡ coarsest_of c.args.n c.args.l = c.coarsest_of.ensures ∙ rw (c.requires.1, c.requires.2) in
    let a = c.args in
    c.fill_rows.ensures ∙ desc_rows a.n a.l (sized a.n a.l c.requires.2) a.plane a.precisions.now c.requires.0 (a.place / 4) (omega (arith, c.if-coarsest_of-first.true, coarsest_so))

pub returns-else-coarsest_of-first : goal.returns-else-coarsest_of-first
returns-else-coarsest_of-first c =
    let coarsest_so : c.coarsest_of.result ≡ coarsest_of c.args.n c.args.l = c.coarsest_of.ensures ∙ rw (c.requires.1, c.requires.2) in
    let a = c.args in
    desc_rows_none a.n a.l (sized a.n a.l c.requires.2) a.plane a.precisions.now c.requires.0 (a.place / 4) (omega (arith, c.if-coarsest_of-first.false, coarsest_so))
