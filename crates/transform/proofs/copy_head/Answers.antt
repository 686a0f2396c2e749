use mathlib.Core.Path.{sym}
use native.Mathlib.Omega.{arith}
use native.Mathlib.Numerals.{add-one}
use borrow.Author.Rules.{rules}
use Rattle.coef.specs.Coef.{at}
use Rattle.transform.proofs.Arrays.{onward_none, store_up}
use Rattle.transform.proofs.copy_head.Goals as goal

pub loop-i-init : goal.loop-i-init
loop-i-init c = sym (onward_none (at c.args.from.now) (at c.args.to.now))

pub loop-i-preserved : goal.loop-i-preserved
loop-i-preserved c = let a = c.args in
    let l = c.loop-i in
    rw (add-one l.i) (store_up l.to l.i _ (at a.from.now) (at a.to.now) (omega arith) l.invariant (search rules))
