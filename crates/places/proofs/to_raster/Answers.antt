use mathlib.Core.Path.{sym, ◌∙◌}
use native.Mathlib.Omega.{arith}
use Rattle.places.proofs.Checks.{place_passed}
use Rattle.places.proofs.to_raster.Goals as goal

pub separate-requires : goal.separate-requires
separate-requires c = let a = c.args in
    let e = place_passed a.n a.q.0 (sym c.check_place.ensures ∙ c.in_ok-check_place.was) in
    (c.gather_table-entries.ensures, omega (arith, e), e.1)
