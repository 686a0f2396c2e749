use mathlib.Core.Path.{◌≡◌, ap}
use Prim.Native.Nat.{◌-◌, ◌*◌, ◌/◌, ◌%◌, ◌^◌, ◌<◌}
use native.Mathlib.Nat.{div-add-mod'}
use native.Mathlib.Omega.{arith}
use borrow.Author.Rules.{rules}
use Rattle.places.specs.Spread.{spread}
use Rattle.places.proofs.Laws.{spread_below, raster_row, raster_col}
use Rattle.places.proofs.Lookups.{col_shifted, side_sixteen, linear_spreads}
use Rattle.places.proofs.interleave.Goals as goal

pub overflow_sub-col : goal.overflow_sub-col
overflow_sub-col c = omega (arith, div-add-mod' c.args.p.0 (2 ^ c.args.n))

pub spread_of-rows-requires : goal.spread_of-rows-requires
spread_of-rows-requires c = let n = c.args.n in
    (c.requires.0, omega (arith, raster_row n c.args.p.0 c.requires.2, side_sixteen n c.requires.1))

pub spread_of-cols-requires : goal.spread_of-cols-requires
spread_of-cols-requires c =
    let column : c.args.p.0 - (c.args.p.0 / 2 ^ c.args.n * 2 ^ c.args.n) % 2 ^ 32 ≡ c.args.p.0 % 2 ^ c.args.n = col_shifted c.args.n c.args.p.0 (search rules) in
    let n = c.args.n in
    (c.requires.0, omega (arith, column, raster_col n c.args.p.0, side_sixteen n c.requires.1))

pub overflow_mul-result : goal.overflow_mul-result
overflow_mul-result c =
    let fits : (c.spread_of-rows.result * 3 < 2 ^ 32) × (c.spread_of-cols.result * 3 < 2 ^ 32) = let n = c.args.n in let p = c.args.p.0 in (omega (arith, spread_below 16 (p / 2 ^ n)), omega (arith, spread_below 16 (p - (p / 2 ^ n * 2 ^ n) % 2 ^ 32))) in
    omega (arith, fits)

pub overflow_add-result : goal.overflow_add-result
overflow_add-result c =
    let fits : (c.spread_of-rows.result * 3 < 2 ^ 32) × (c.spread_of-cols.result * 3 < 2 ^ 32) = let n = c.args.n in let p = c.args.p.0 in (omega (arith, spread_below 16 (p / 2 ^ n)), omega (arith, spread_below 16 (p - (p / 2 ^ n * 2 ^ n) % 2 ^ 32))) in
    omega (arith, fits)

pub returns : goal.returns
returns c =
    let column : c.args.p.0 - (c.args.p.0 / 2 ^ c.args.n * 2 ^ c.args.n) % 2 ^ 32 ≡ c.args.p.0 % 2 ^ c.args.n = col_shifted c.args.n c.args.p.0 (search rules) in
    omega (arith, linear_spreads c.args.n c.args.p.0 c.requires.1 c.requires.2, ap (spread 16) (column))
