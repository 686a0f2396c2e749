use native.Mathlib.Omega.{arith}
use Prim.Native.Nat.{◌+◌}
use Rattle.reading.proofs.ReadLaws.{told_bit, told_none, coefficient_none, coefficient_cut, coefficient_one, coefficient_bad, coefficient_zero}
use Rattle.reading.proofs.coefficient.Goals as goal

pub returns-in_default : goal.returns-in_default
returns-in_default c = coefficient_none _ _ _ _ _ _ _ _ _ _ _ (told_none c.args.body.now c.args.n c.args.frame.usable c.read.ensures c.requires.held c.in_default.is) (omega arith)

pub overflow_add-k : goal.overflow_add-k
overflow_add-k c = omega (arith, (told_bit c.args.body.now c.args.n c.args.frame.usable c.read.ensures _ c.in-Ok.is).0)

pub returns-in_default-read : goal.returns-in_default-read
returns-in_default-read c = let b = told_bit c.args.body.now c.args.n c.args.frame.usable c.read.ensures _ c.in-Ok.is in
    coefficient_cut _ _ _ _ _ _ _ _ _ _ _ _ b.1 b.0 c.if-x.true (told_none c.args.body.now (c.args.n + 1) c.args.frame.usable c.read-then-x.ensures c.requires.held c.in_default-read.is)

pub overflow_add-result : goal.overflow_add-result
overflow_add-result c = omega (arith, (told_bit c.args.body.now (c.args.n + 1) c.args.frame.usable c.read-then-x.ensures _ c.in-Ok-read.is).0)

pub returns-then-x : goal.returns-then-x
returns-then-x c = let b = told_bit c.args.body.now c.args.n c.args.frame.usable c.read.ensures _ c.in-Ok.is in
    let s = told_bit c.args.body.now (c.args.n + 1) c.args.frame.usable c.read-then-x.ensures _ c.in-Ok-read.is in
    coefficient_one _ _ _ _ _ _ _ _ _ _ _ _ b.1 b.0 c.if-x.true s.0 _ s.1 _ c.found.ensures

pub returns-then-one_clash : goal.returns-then-one_clash
returns-then-one_clash c = let b = told_bit c.args.body.now c.args.n c.args.frame.usable c.read.ensures _ c.in-Ok.is in
    coefficient_bad _ _ _ _ _ _ _ _ _ _ _ _ b.1 b.0 c.if-x.false _ (rw c.requires.size at c.one_clash.ensures) c.if-one_clash.true

pub returns : goal.returns
returns c = let b = told_bit c.args.body.now c.args.n c.args.frame.usable c.read.ensures _ c.in-Ok.is in
    coefficient_zero _ _ _ _ _ _ _ _ _ _ _ _ b.1 b.0 c.if-x.false _ (rw c.requires.size at c.one_clash.ensures) c.if-one_clash.false
