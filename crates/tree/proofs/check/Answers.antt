use mathlib.Core.Path.{ap, ◌∙◌}
use Prim.Native.Nat.{ℕ}
use native.Mathlib.Omega.{arith}
use lib.ListN.{length}
use Rattle.std.specs.Prelude.{Err}
use Rattle.refusals.specs.declared.Refusal.TheVariants.{Coefficient}
use Rattle.refusals.proofs.Laws.{passed_on}
use Rattle.sizes.proofs.Laws.{side_most, all_most}
use Rattle.sizes.specs.Checks.{size_checks}
use Rattle.sizes.proofs.Checks.{sizes_met}
use Rattle.coef.specs.Coef.{first_over}
use Rattle.coef.proofs.Laws.{first_le}
use Rattle.tree.proofs.Checks.{no_coefficient, within_limit}
use Rattle.tree.proofs.check.Goals as goal

pub returns-in_err-check_sizes : goal.returns-in_err-check_sizes
returns-in_err-check_sizes c = let a = c.args in
    passed_on (size_checks a.n a.l (length a.coefs.now)) _ c.check_sizes.ensures c.from_residual.ensures.1 c.in_err-check_sizes.was

pub overflow_cast-result : goal.overflow_cast-result
overflow_cast-result c = let a = c.args in
    let m = sizes_met a.n a.l (length a.coefs.now) c.check_sizes.ensures c.in_ok-check_sizes.was in
    record { fits = omega (arith, all_most a.n (side_most a.n m.0), m.2, c.if-over-coefs.true) }

pub returns-then-over-coefs : goal.returns-then-over-coefs
returns-then-over-coefs c = let a = c.args in
    ap (λ (x : ℕ). Err (Coefficient x)) c.first_over-over.ensures
    ∙ no_coefficient a.n a.l (first_over a.coefs.now) (length a.coefs.now) a.descs a.grands c.check_sizes.ensures c.in_ok-check_sizes.was (omega (arith, c.first_over-over.ensures, c.if-over-coefs.true))

pub returns : goal.returns
returns c = let a = c.args in
    within_limit a.n a.l (first_over a.coefs.now) (length a.coefs.now) a.descs a.grands c.check_sizes.ensures c.in_ok-check_sizes.was (omega (arith, first_le a.coefs.now, c.first_over-over.ensures, c.if-over-coefs.false)) c.check_lent.ensures
