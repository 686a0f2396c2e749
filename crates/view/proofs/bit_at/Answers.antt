use native.Mathlib.Omega.{arith}
use borrow.Author.Tests.{lt-ltb, le-ltb}
use Rattle.view.specs.View.{viewed}
use Rattle.view.proofs.bit_at.Goals as goal

pub returns-then-at-declared : goal.returns-then-at-declared
unfolding viewed
returns-then-at-declared c = let a = c.args in
    rw (lt-ltb a.at a.declared (omega (arith, c.if-at-declared.true))) c.fetch.ensures

pub returns : goal.returns
unfolding viewed
returns c = let a = c.args in
    rw (le-ltb a.at a.declared (omega (arith, c.if-at-declared.false)))
