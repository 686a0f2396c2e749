use Prim.Native.Nat.{◌/◌}
use mathlib.Core.Path.{refl}
use mathlib.Core.List.{[]}
use lib.ListN.{length}
use native.Mathlib.Omega.{arith}
use Rattle.nls.specs.Scan.{in_desc}
use Rattle.marking.proofs.Laws.{split_desc_so}
use Rattle.marking.specs.Marking.{desc_split_marks}
use Rattle.encoder.proofs.WriteLaws.{tested_none, tested_zero, tested_one}
use Rattle.encoder.proofs.writing.test_desc.Goals as goal

pub returns-then-budget-n : goal.returns-then-budget-n
returns-then-budget-n c =
    let a = c.args in
    tested_none [] a.desc.now [] a.budget a.b a.place (in_desc (a.place / 4) a.b) 4 (desc_split_marks (length a.marks.now) a.place a.marks.now) a.marks.now a.out.now a.n c.if-budget-n.true (omega arith)

pub returns-then-not-x : goal.returns-then-not-x
returns-then-not-x c =
    let a = c.args in
    tested_zero [] a.desc.now [] a.budget a.b a.place (in_desc (a.place / 4) a.b) 4 (desc_split_marks (length a.marks.now) a.place a.marks.now) a.marks.now a.out.now a.n _ c.bit_of-x.ensures c.if-budget-n.false _ c.put.ensures c.if-not-x.true

pub returns : goal.returns
returns c =
    let a = c.args in
    tested_one [] a.desc.now [] a.budget a.b a.place (in_desc (a.place / 4) a.b) 4 (desc_split_marks (length a.marks.now) a.place a.marks.now) a.marks.now a.out.now a.n _ c.bit_of-x.ensures c.if-budget-n.false _ c.put.ensures _ c.if-not-x.false (split_desc_so _ _ c.args.marks.now _ c.split_desc.ensures refl c.requires.1 c.requires.0)
