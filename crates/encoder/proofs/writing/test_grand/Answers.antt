use Prim.Native.Nat.{◌/◌}
use mathlib.Core.Path.{refl}
use mathlib.Core.List.{[]}
use lib.ListN.{length}
use native.Mathlib.Omega.{arith}
use Rattle.nls.specs.Scan.{in_grand}
use Rattle.marking.proofs.Laws.{split_grand_so}
use Rattle.marking.specs.Marking.{grand_split_marks}
use Rattle.encoder.proofs.WriteLaws.{tested_none, tested_zero, tested_one}
use Rattle.encoder.proofs.writing.test_grand.Goals as goal

pub returns-then-budget-n : goal.returns-then-budget-n
returns-then-budget-n c =
    let a = c.args in
    tested_none [] [] a.grand.now a.budget a.b a.place (in_grand (a.place / 16) a.b) 16 (grand_split_marks (length a.marks.now) a.place a.marks.now) a.marks.now a.out.now a.n c.if-budget-n.true (omega arith)

pub returns-then-not-x : goal.returns-then-not-x
returns-then-not-x c =
    let a = c.args in
    tested_zero [] [] a.grand.now a.budget a.b a.place (in_grand (a.place / 16) a.b) 16 (grand_split_marks (length a.marks.now) a.place a.marks.now) a.marks.now a.out.now a.n _ c.bit_of-x.ensures c.if-budget-n.false _ c.put.ensures c.if-not-x.true

pub returns : goal.returns
returns c =
    let a = c.args in
    tested_one [] [] a.grand.now a.budget a.b a.place (in_grand (a.place / 16) a.b) 16 (grand_split_marks (length a.marks.now) a.place a.marks.now) a.marks.now a.out.now a.n _ c.bit_of-x.ensures c.if-budget-n.false _ c.put.ensures _ c.if-not-x.false (split_grand_so _ _ c.args.marks.now _ c.split_grand.ensures refl c.requires.1 c.requires.0)
