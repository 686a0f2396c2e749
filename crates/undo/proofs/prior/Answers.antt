use native.Mathlib.Omega.{arith}
use Rattle.moves.proofs.Passes.{pass_0, pass_1, pass_2}
use Rattle.undo.specs.Back.{big_in}
use Rattle.undo.proofs.prior.Goals as goal

pub returns-in-0 : goal.returns-in-0
returns-in-0 c = rw (pass_0 c.args.from.pass c.in-0.is) (c.prior_pixels.ensures c.args.coarsest (big_in c.args.values.now))

pub returns-in-1 : goal.returns-in-1
returns-in-1 c = rw (pass_1 c.args.from.pass c.in-1.is) (c.prior_sets.ensures c.args.planes (big_in c.args.values.now))

pub returns-in_default : goal.returns-in_default
returns-in_default c = rw (pass_2 c.args.from.pass (λ e. omega (arith, e)) (λ e. omega (arith, e))) (c.prior_refining.ensures c.args.coarsest c.args.planes)
