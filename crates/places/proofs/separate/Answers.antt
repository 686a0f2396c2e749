use mathlib.Core.Path.{◌≡◌, ap}
use Prim.Native.Nat.{ℕ, ◌+◌, ◌*◌, ◌/◌, ◌%◌, ◌^◌}
use native.Mathlib.Omega.{arith}
use Rattle.places.specs.Order.{row_of, col_of, to_raster}
use Rattle.places.proofs.Laws.{row_below, col_below}
use Rattle.places.proofs.Lookups.{place_gathered, raster_fits}
use Rattle.places.proofs.separate.Goals as goal

pub overflow_add-row : goal.overflow_add-row
overflow_add-row c = let q = c.args.q.0 in
    omega (arith, row_below 8 (q / 65536), col_below 8 (q / 65536), row_below 8 (q % 65536), col_below 8 (q % 65536))

pub overflow_add-result : goal.overflow_add-result
unfolding to_raster
overflow_add-result c =
    let parts : (c.gather_of-high.result / 256 * 256 + c.gather_of-low.result / 256 ≡ row_of c.args.n c.args.q.0) × (c.gather_of-high.result % 256 * 256 + c.gather_of-low.result % 256 ≡ col_of c.args.n c.args.q.0) = place_gathered c.args.n c.args.q.0 c.gather_of-high.result c.gather_of-low.result c.requires.1 c.requires.2 c.gather_of-high.ensures c.gather_of-low.ensures in
    let a = c.args in
    let g = parts in
    omega (arith, g.1, ap (λ (x : ℕ). x * 2 ^ a.n) g.0, raster_fits a.n a.q.0 c.requires.1)

pub returns : goal.returns
unfolding to_raster
returns c =
    let parts : (c.gather_of-high.result / 256 * 256 + c.gather_of-low.result / 256 ≡ row_of c.args.n c.args.q.0) × (c.gather_of-high.result % 256 * 256 + c.gather_of-low.result % 256 ≡ col_of c.args.n c.args.q.0) = place_gathered c.args.n c.args.q.0 c.gather_of-high.result c.gather_of-low.result c.requires.1 c.requires.2 c.gather_of-high.ensures c.gather_of-low.ensures in
    let a = c.args in
    let g = parts in
    omega (arith, g.1, ap (λ (x : ℕ). x * 2 ^ a.n) g.0, raster_fits a.n a.q.0 c.requires.1)
