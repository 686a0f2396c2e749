use native.Mathlib.Omega.{arith}
use Rattle.moves.proofs.Passes.{pass_0, pass_1, pass_2}
use Rattle.undo.proofs.run_back.Goals as goal

pub returns-in-0 : goal.returns-in-0
returns-in-0 c = λ P h. rw (pass_0 c.args.from.pass c.in-0.is) (c.back_old.ensures _ P _ _ h)

pub returns-in-1 : goal.returns-in-1
returns-in-1 c = λ P h. rw (pass_1 c.args.from.pass c.in-1.is) (c.back_alone.ensures P _ _ h)

pub returns-in_default : goal.returns-in_default
returns-in_default c = λ P h. rw (pass_2 c.args.from.pass (λ e. omega (arith, e)) (λ e. omega (arith, e))) (c.back_new.ensures _ P h)
