use native.Mathlib.Omega.{arith}
use lib.ListN.{length}
use Rattle.moves.proofs.Passes.{pass_0, pass_1, pass_2}
use Rattle.moves.proofs.Looks.{rests_either}
use Rattle.moves.proofs.look.Goals as goal

pub returns-then-from : goal.returns-then-from
returns-then-from c = rests_either (length c.args.marks.now) c.args.from c.args.marks.now c.then-from.either

pub returns-in-0 : goal.returns-in-0
returns-in-0 c = rw (pass_0 c.args.from.pass c.in-0.is, c.if-from.false) c.look_pixels.ensures

pub returns-in-1 : goal.returns-in-1
returns-in-1 c = rw (pass_1 c.args.from.pass c.in-1.is, c.if-from.false) c.look_sets.ensures

pub returns-in_default : goal.returns-in_default
returns-in_default c = rw (pass_2 c.args.from.pass (λ e. omega (arith, e)) (λ e. omega (arith, e)), c.if-from.false) c.look_refining.ensures
