use native.Mathlib.Omega.{arith}
use lib.Dec.{lit≤}
use Rattle.marking.proofs.Laws.{split_desc_so}
use Rattle.reading.proofs.ReadLaws.{told_bit, told_none, tested_none, tested_one, tested_bad, tested_zero}
use Rattle.reading.proofs.test_desc.Goals as goal

pub returns-in_default : goal.returns-in_default
returns-in_default c = tested_none _ _ _ _ _ _ _ _ _ _ _ _ _ tt (told_none c.args.body.now c.args.n c.args.frame.usable c.read.ensures c.requires.4 c.in_default.is) (omega arith)

pub overflow_add-result : goal.overflow_add-result
overflow_add-result c = omega (arith, (told_bit c.args.body.now c.args.n c.args.frame.usable c.read.ensures _ c.in-Ok.is).0)

pub returns-then-x : goal.returns-then-x
returns-then-x c = let b = told_bit c.args.body.now c.args.n c.args.frame.usable c.read.ensures _ c.in-Ok.is in
    tested_one _ _ _ _ _ _ _ _ _ _ _ _ _ tt _ b.1 b.0 _ c.if-x.true (split_desc_so _ _ c.args.marks.now _ c.split_desc.ensures c.requires.1 c.requires.5.near c.requires.0)

pub returns-then-desc_clash : goal.returns-then-desc_clash
returns-then-desc_clash c = let b = told_bit c.args.body.now c.args.n c.args.frame.usable c.read.ensures _ c.in-Ok.is in
    tested_bad _ _ _ _ _ _ _ _ _ _ _ _ _ tt _ b.1 b.0 c.if-x.false _ c.desc_clash.ensures c.if-desc_clash.true

pub overflow_add-result-2 : goal.overflow_add-result-2
overflow_add-result-2 c = omega (arith, (told_bit c.args.body.now c.args.n c.args.frame.usable c.read.ensures _ c.in-Ok.is).0)

pub returns : goal.returns
returns c = let b = told_bit c.args.body.now c.args.n c.args.frame.usable c.read.ensures _ c.in-Ok.is in
    tested_zero _ _ _ _ _ _ _ _ _ _ _ _ _ tt _ b.1 b.0 (lit≤ tt) c.if-x.false _ c.desc_clash.ensures c.if-desc_clash.false
