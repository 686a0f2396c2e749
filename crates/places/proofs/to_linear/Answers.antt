use mathlib.Core.Path.{sym, ◌∙◌}
use native.Mathlib.Omega.{arith}
use Rattle.places.proofs.Checks.{place_passed}
use Rattle.places.proofs.to_linear.Goals as goal

pub interleave-requires : goal.interleave-requires
interleave-requires c = let a = c.args in
    let e = place_passed a.n a.p.0 (sym c.check_place.ensures ∙ c.in_ok-check_place.was) in
    (c.spread_table-entries.ensures, omega (arith, e), e.1)
