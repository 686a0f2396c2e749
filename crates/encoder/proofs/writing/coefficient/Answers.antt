use native.Mathlib.Omega.{arith}
use Rattle.encoder.proofs.WriteLaws.{coefficient_none, coefficient_zero, coefficient_cut, coefficient_one}
use Rattle.encoder.proofs.writing.coefficient.Goals as goal

pub returns-then-budget-n : goal.returns-then-budget-n
returns-then-budget-n c = coefficient_none _ _ _ _ _ _ _ c.if-budget-n.true (omega arith)

pub returns-then-not-x : goal.returns-then-not-x
returns-then-not-x c = coefficient_zero _ _ _ _ _ _ _ _ c.bit_at-x.ensures c.if-budget-n.false _ c.put.ensures c.if-not-x.true

pub returns-then-budget-k : goal.returns-then-budget-k
returns-then-budget-k c = coefficient_cut _ _ _ _ _ _ _ _ c.bit_at-x.ensures c.if-budget-n.false _ c.put.ensures c.if-not-x.false c.if-budget-k.true

pub returns : goal.returns
returns c = coefficient_one _ _ _ _ _ _ _ _ c.bit_at-x.ensures c.if-budget-n.false _ c.put.ensures c.if-not-x.false c.if-budget-k.false _ c.negative_at.ensures _ c.put-2.ensures
