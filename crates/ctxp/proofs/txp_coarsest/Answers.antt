use mathlib.Core.Path.{sym, ap, ◌∙◌, subst}
use Prim.Native.Nat.{ℕ, ◌<◌, ◌^◌}
use Rattle.ctxp.specs.Answers.{of_value}
use Rattle.ctxp.proofs.Laws.{coarsest_short, answers_by}
use Rattle.ctxp.proofs.txp_coarsest.Goals as goal

pub overflow_cast-done : goal.overflow_cast-done
overflow_cast-done c = record { fits = subst (λ (x : ℕ). x < 2 ^ 32) (sym c.coarsest_of-done.ensures) (coarsest_short c.args.n c.args.l) }

pub returns : goal.returns
returns c = answers_by c.put.result _ (c.value.ensures ∙ ap of_value c.coarsest_of-done.ensures) c.put.ensures
