use mathlib.Core.Path.{sym, ◌∙◌}
use native.Mathlib.Omega.{arith}
use lib.ListN.{length}
use Rattle.places.proofs.Checks.{arrays_passed}
use Rattle.places.proofs.reorder_to_linear.Goals as goal

pub fill_linear-requires : goal.fill_linear-requires
fill_linear-requires c = let a = c.args in
    let e = arrays_passed a.n (length a.from.now) (length a.to.now) (sym c.check_arrays.ensures ∙ c.in_ok-check_arrays.was) in
    (e.0, omega (arith, e), e.2, e.3)
