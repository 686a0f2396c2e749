use mathlib.Core.Path.{◌∙◌, ap}
use Prim.Native.Nat.{ℕ}
use Rattle.refusals.specs.Checks.{first_failing}
use Rattle.refusals.proofs.Laws.{passed_on, then_more}
use Rattle.sizes.specs.Checks.{size_checks}
use Rattle.sizes.proofs.Checks.{sizes_met}
use Rattle.tree.specs.Summaries.{lent_checks}
use Rattle.tree.proofs.check_fill.Goals as goal

pub returns : goal.returns
returns c = let a = c.args in
    let first = c.check_sizes.ensures in
    let done = c.in_ok-check_sizes.was in
    then_more (size_checks a.n a.l a.count) _ first done
    (c.check_lent.ensures ∙ ap (λ (x : ℕ). first_failing (lent_checks x a.descs a.grands)) (sizes_met a.n a.l a.count first done).2)

pub returns-in_err-check_sizes : goal.returns-in_err-check_sizes
returns-in_err-check_sizes c = let a = c.args in
    passed_on (size_checks a.n a.l a.count) _ c.check_sizes.ensures c.from_residual.ensures.1 c.in_err-check_sizes.was
