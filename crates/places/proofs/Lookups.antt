-- What the code's lookups give.
use mathlib.Core.Path.{◌≡◌, refl, sym, ◌∙◌}
use mathlib.Core.List.{List}
use Prim.Native.Nat.{ℕ, ◌+◌, ◌*◌, ◌-◌, ◌/◌, ◌%◌, ◌^◌, ◌≤◌, ◌<◌}
use native.Mathlib.Nat.{div-add-mod', pow-le-pow_right}
use native.Mathlib.Omega.{arith}
use lib.ListN.{get_or}
use lib.Pow.{pow_mono, high, low}
use Rattle.sizes.proofs.Tables.{table_at}
use Rattle.places.specs.Spread.{Spreads, spread, spreader}
use Rattle.places.specs.Order.{row_of, col_of, to_linear, to_raster}
use Rattle.places.specs.Gather.{gatherer}
use Rattle.places.proofs.Laws.{spread_rule, spread_below, spread_longer, interleaved_spread, raster_row, raster_col, raster_below, row_longer, col_longer, row_below, col_below, row_parts, col_parts}

-- An entry of a table that was tested whole.
pub spread_entry : (t : List ℕ) (x : ℕ) → t ≡ spreader → x < 256 → get_or t x 0 ≡ spread 8 x
unfolding spreader
spread_entry t x e h = rw e (table_at 256 (λ y. spread 8 y) x 0 h)

pub gather_entry : (t : List ℕ) (x : ℕ) → t ≡ gatherer → x < 256 → get_or t x 0 ≡ row_of 4 x * 16 + col_of 4 x
unfolding gatherer
gather_entry t x e h = rw e (table_at 256 (λ y. row_of 4 y * 16 + col_of 4 y) x 0 h)

pub spread_entry_below : (t : List ℕ) (x : ℕ) → t ≡ spreader → x < 256 → get_or t x 0 * 3 < 65536
spread_entry_below t x e h = omega (arith, spread_entry t x e h, spread_below 8 x)

pub gather_entry_below : (t : List ℕ) (x : ℕ) → t ≡ gatherer → x < 256 → get_or t x 0 < 256
gather_entry_below t x e h = omega (arith, gather_entry t x e h, row_below 4 x, col_below 4 x)

-- The rule at every entry of the spreader: "bit k goes to bit 2k, the others are 0".
pub spreader_rule : (x : ℕ) → x < 256 → Spreads x (get_or spreader x 0)
spreader_rule x h = rw (spread_entry spreader x refl h) (spread_rule 8 x h)

-- Row and column out of the entries for the k digits above and for the low k digits.
pub gathered : (k q above below : ℕ)
    → above ≡ row_of k (q / 4 ^ k) * 2 ^ k + col_of k (q / 4 ^ k)
    → below ≡ row_of k (q % 4 ^ k) * 2 ^ k + col_of k (q % 4 ^ k)
    → (above / 2 ^ k * 2 ^ k + below / 2 ^ k ≡ row_of (k + k) q) × (above % 2 ^ k * 2 ^ k + below % 2 ^ k ≡ col_of (k + k) q)
gathered k q above below ea eb =
    let a = q / 4 ^ k in
    let b = q % 4 ^ k in (
      rw (ea, eb, high (row_of k a) k (col_below k a), high (row_of k b) k (col_below k b)) (sym (row_parts k k q)),
      rw (ea, eb, low (row_of k a) k (col_below k a), low (row_of k b) k (col_below k b)) (sym (col_parts k k q)),
    )

-- Places of up to 32 bits: rows and columns have up to 16, and the code takes the column by shifts.
pub col_shifted : (n p : ℕ) → p < 2 ^ 32 → p - (p / 2 ^ n * 2 ^ n) % 2 ^ 32 ≡ p % 2 ^ n
col_shifted n p h = omega (arith, div-add-mod' p (2 ^ n))

pub side_sixteen : (n : ℕ) → n ≤ 16 → 2 ^ n ≤ 65536
side_sixteen n h = pow_mono {i = n} {j = 16} h

pub linear_spreads : (n p : ℕ) → n ≤ 16 → p < 4 ^ n → to_linear n p ≡ spread 16 (p / 2 ^ n) * 2 + spread 16 (p % 2 ^ n)
unfolding to_linear
linear_spreads n p h l =
    omega (arith, interleaved_spread n (p / 2 ^ n) (p % 2 ^ n), spread_longer n 16 (p / 2 ^ n) h (raster_row n p l), spread_longer n 16 (p % 2 ^ n) h (raster_col n p))

pub raster_fits : (n q : ℕ) → n ≤ 16 → to_raster n q < 2 ^ 32
raster_fits n q h = omega (arith, raster_below n q, pow-le-pow_right {n = 4} (omega arith) {i = n} {j = 16} h)

-- Row and column out of the entries for the two halves of a place.
pub place_gathered : (n q above below : ℕ) → n ≤ 16 → q < 4 ^ n
    → above ≡ row_of 8 (q / 65536) * 256 + col_of 8 (q / 65536)
    → below ≡ row_of 8 (q % 65536) * 256 + col_of 8 (q % 65536)
    → (above / 256 * 256 + below / 256 ≡ row_of n q) × (above % 256 * 256 + below % 256 ≡ col_of n q)
place_gathered n q above below h l ea eb =
    let g = gathered 8 q above below ea eb in
    (g.0 ∙ row_longer n 16 q h l, g.1 ∙ col_longer n 16 q h l)
