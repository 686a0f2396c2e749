use mathlib.Core.Path.{sym, ap, ◌∙◌}
use Prim.Native.Nat.{ℕ}
use native.Mathlib.Omega.{arith}
use lib.ListN.{length}
use Rattle.std.specs.Prelude.{Err}
use Rattle.refusals.specs.declared.Refusal.TheVariants.{Coefficient}
use Rattle.refusals.proofs.Laws.{passed_on}
use Rattle.sizes.specs.Checks.{size_checks}
use Rattle.sizes.proofs.Checks.{sizes_met}
use Rattle.sizes.proofs.Laws.{side_most, all_most}
use Rattle.transform.proofs.Checks.{no_coefficient, no_room_back, entry_well}
use Rattle.transform.proofs.check_inverse.Goals as goal

pub returns-in_err-check_sizes : goal.returns-in_err-check_sizes
returns-in_err-check_sizes c = let a = c.args in
    passed_on (size_checks a.n a.l (length a.coefs.now)) _ c.check_sizes.ensures c.from_residual.ensures.1 c.in_err-check_sizes.was

pub overflow_cast-result : goal.overflow_cast-result
overflow_cast-result c = let a = c.args in
    let m = sizes_met a.n a.l (length a.coefs.now) c.check_sizes.ensures c.in_ok-check_sizes.was in
    record { fits = omega (arith, all_most a.n (side_most a.n m.0), m.2, c.if-over-coefs.true) }

pub returns-then-over-coefs : goal.returns-then-over-coefs
returns-then-over-coefs c = let a = c.args in
    let o = c.first_over-over.ensures in
    ap (λ (x : ℕ). Err (Coefficient x)) o
    ∙ no_coefficient a.n a.l a.coefs.now a.out a.work c.check_sizes.ensures c.in_ok-check_sizes.was (omega (arith, o, c.if-over-coefs.true))

pub returns-then-not-has_room : goal.returns-then-not-has_room
returns-then-not-has_room c = let a = c.args in
    let k = c.has_room in
    no_room_back a.n a.l a.coefs.now a.out a.work c.check_sizes.ensures c.in_ok-check_sizes.was (omega (arith, c.first_over-over.ensures, c.if-over-coefs.false)) (sym k.ensures ∙ c.if-not-has_room.true)

pub returns : goal.returns
returns c = let a = c.args in
    let k = c.has_room in
    entry_well a.n a.l a.coefs.now a.out a.work c.check_sizes.ensures c.in_ok-check_sizes.was (omega (arith, c.first_over-over.ensures, c.if-over-coefs.false)) (sym k.ensures ∙ c.if-not-has_room.false)
