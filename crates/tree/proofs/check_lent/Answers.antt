use native.Mathlib.Omega.{arith}
use Rattle.tree.proofs.Checks.{no_desc, no_grand, lent_well}
use Rattle.tree.proofs.check_lent.Goals as goal

pub returns-then-descs-all : goal.returns-then-descs-all
returns-then-descs-all c = let a = c.args in
    no_desc a.all a.descs a.grands (omega (arith, c.if-descs-all.true))

pub returns-then-grands-all : goal.returns-then-grands-all
returns-then-grands-all c = let a = c.args in
    no_grand a.all a.descs a.grands (omega (arith, c.if-descs-all.false)) (omega (arith, c.if-grands-all.true))

pub returns : goal.returns
returns c = let a = c.args in
    lent_well a.all a.descs a.grands (omega (arith, c.if-descs-all.false)) (omega (arith, c.if-grands-all.false))
