-- Four places from a multiple of 4 on: in the other order they lie two by two, each two one after the other.
use mathlib.Core.Path.{◌≡◌, sym, ◌∙◌, ap}
use mathlib.Core.List.{List, ◌++◌}
use Prim.Native.Nat.{ℕ, zero, suc, ◌+◌, ◌*◌, ◌-◌, ◌/◌, ◌%◌, ◌^◌, ◌≤◌, ◌<◌}
use native.Mathlib.Nat.{pow-suc, div-add-mod', add-mul, mul_left_comm}
use native.Mathlib.Omega.{arith}
use lib.IntN.{ℤ, pos}
use lib.ListN.{length, get_or, drop, set}
use lib.Pow.{high, low}
use Rattle.sizes.specs.Tables.{table}
use Rattle.sizes.proofs.Tables.{fill_step}
use Rattle.places.specs.Spread.{spread}
use Rattle.places.specs.Order.{row_of, col_of, to_linear, to_raster}
use Rattle.places.proofs.Laws.{interleaved_spread, raster_col}

-- how far the k-th of four lies from the first, where the second two are `step` further than the first two
abbrev pub away : ℕ → ℕ → ℕ
away step k = k / 2 * step + k % 2

-- four linear places lie in two rows
row_four : (n q k : ℕ) → 1 ≤ n → q % 4 ≡ 0 → k < 4 → row_of n (q + k) ≡ row_of n q + k / 2
unfolding row_of
row_four zero q k h e l = absurd (omega arith)
row_four (suc n) q k h e l =
    let d : (q + k) / 4 ≡ q / 4 = omega arith in
    omega (arith, ap (row_of n) d)

col_four : (n q k : ℕ) → 1 ≤ n → q % 4 ≡ 0 → k < 4 → col_of n (q + k) ≡ col_of n q + k % 2
unfolding col_of
col_four zero q k h e l = absurd (omega arith)
col_four (suc n) q k h e l =
    let d : (q + k) / 4 ≡ q / 4 = omega arith in
    omega (arith, ap (col_of n) d)

pub raster_four : (n q k : ℕ) → 1 ≤ n → q % 4 ≡ 0 → k < 4 → to_raster n (q + k) ≡ to_raster n q + away (2 ^ n) k
unfolding to_raster
raster_four n q k h e l =
    omega (arith, ap (λ (x : ℕ). x * 2 ^ n) (row_four n q k h e l), add-mul (row_of n q) (k / 2) (2 ^ n), col_four n q k h e l)

-- four columns lie in two fours of linear places
spread_four : (n x k : ℕ) → 2 ≤ n → x % 4 ≡ 0 → k < 4 → spread n (x + k) ≡ spread n x + away 4 k
unfolding spread
spread_four zero x k h e l = absurd (omega arith)
spread_four (suc zero) x k h e l = absurd (omega arith)
spread_four (suc (suc n)) x k h e l =
    let high : (x + k) / 2 / 2 ≡ x / 2 / 2 = omega arith in
    let mid : (x + k) / 2 % 2 ≡ x / 2 % 2 + k / 2 = omega arith in
    let low : (x + k) % 2 ≡ x % 2 + k % 2 = omega arith in
    rw (high, mid, low) (omega arith)

-- a row has a multiple of 4 places
fours : (n : ℕ) → 2 ≤ n → 2 ^ n ≡ 4 * 2 ^ (n - 2)
fours zero h = absurd (omega arith)
fours (suc zero) h = absurd (omega arith)
fours (suc (suc n)) h = omega (arith, pow-suc 2 (suc n), pow-suc 2 n, ap (λ (m : ℕ). 2 ^ m) {x = suc (suc n) - 2} {y = n} (omega arith))

module _ (n p k : ℕ) (h : 2 ≤ n) (e : p % 4 ≡ 0) (l : k < 4) where
  col_in : p % 2 ^ n % 4 ≡ 0
  col_in = omega (arith, div-add-mod' p (2 ^ n), ap (λ (x : ℕ). p / 2 ^ n * x) (fours n h), mul_left_comm (p / 2 ^ n) 4 (2 ^ (n - 2)))

  further : p + k ≡ p / 2 ^ n * 2 ^ n + (p % 2 ^ n + k)
  further = omega (arith, div-add-mod' p (2 ^ n))

  inside : p % 2 ^ n + k < 2 ^ n
  inside = omega (arith, col_in, fours n h, raster_col n p)

  pub linear_four : to_linear n (p + k) ≡ to_linear n p + away 4 k
  unfolding to_linear
  linear_four =
      let r = p / 2 ^ n in
      let c = p % 2 ^ n in
      rw (ap (λ (x : ℕ). x / 2 ^ n) further ∙ high r n inside, ap (λ (x : ℕ). x % 2 ^ n) further ∙ low r n inside)
      (omega (arith, interleaved_spread n r (c + k), interleaved_spread n r c, spread_four n c k h col_in l))

-- a buffer whose first q entries are filled, and four entries more
pub fill_four : (q at step : ℕ) (f : ℕ → ℤ) (A held to : List ℤ) → to ≡ table q f ++ drop q held → q + 3 < length held → ((k : ℕ) → k < 4 → get_or A (at + away step k) (pos 0) ≡ f (q + k))
    → set (set (set (set to q (get_or A at (pos 0))) (q + 1) (get_or A (at + 1) (pos 0))) (q + 2) (get_or A (at + step) (pos 0))) (q + 3) (get_or A (at + step + 1) (pos 0))
    ≡ table (q + 4) f ++ drop (q + 4) held
fill_four q at step f A held to e h same =
    let e1 : q + 1 ≡ suc q = omega arith in
    let e2 : q + 2 ≡ suc (suc q) = omega arith in
    let e3 : q + 3 ≡ suc (suc (suc q)) = omega arith in
    let e4 : q + 4 ≡ suc (suc (suc (suc q))) = omega arith in
    rw (e, e1, e2, e3, e4, one q at 0 (omega arith) (omega arith) (omega arith), one (suc q) (at + 1) 1 (omega arith) (omega arith) (omega arith), one (suc (suc q)) (at + step) 2 (omega arith) (omega arith) (omega arith))
    (one (suc (suc (suc q))) (at + step + 1) 3 (omega arith) (omega arith) (omega arith))
  where
    one : (j i k : ℕ) → k < 4 → i ≡ at + away step k → j ≡ q + k → set (table j f ++ drop j held) j (get_or A i (pos 0)) ≡ table (suc j) f ++ drop (suc j) held
    one j i k l x y = fill_step j f held (get_or A i (pos 0)) (omega arith) (ap (λ (z : ℕ). get_or A z (pos 0)) x ∙ same k l ∙ ap f (sym y))

-- four entries more of an array in linear order, and of one in raster order
module _ (n q at : ℕ) (A held to : List ℤ) (e : q % 4 ≡ 0) (h : q + 3 < length held) where
  pub linear_more : (side : ℕ) → 1 ≤ n → side ≡ 2 ^ n → at ≡ to_raster n q → to ≡ table q (λ k. get_or A (to_raster n k) (pos 0)) ++ drop q held
      → set (set (set (set to q (get_or A at (pos 0))) (q + 1) (get_or A (at + 1) (pos 0))) (q + 2) (get_or A (at + side) (pos 0))) (q + 3) (get_or A (at + side + 1) (pos 0))
      ≡ table (q + 4) (λ k. get_or A (to_raster n k) (pos 0)) ++ drop (q + 4) held
  linear_more side g s p t =
      fill_four q at side (λ k. get_or A (to_raster n k) (pos 0)) A held to t h
      (λ k l. ap (λ (x : ℕ). get_or A x (pos 0)) {x = at + away side k} {y = to_raster n (q + k)} (omega (arith, ap (λ (x : ℕ). k / 2 * x) s, raster_four n q k g e l)))

  pub raster_more : 2 ≤ n → at ≡ to_linear n q → to ≡ table q (λ k. get_or A (to_linear n k) (pos 0)) ++ drop q held
      → set (set (set (set to q (get_or A at (pos 0))) (q + 1) (get_or A (at + 1) (pos 0))) (q + 2) (get_or A (at + 4) (pos 0))) (q + 3) (get_or A (at + 4 + 1) (pos 0))
      ≡ table (q + 4) (λ k. get_or A (to_linear n k) (pos 0)) ++ drop (q + 4) held
  raster_more g p t =
      fill_four q at 4 (λ k. get_or A (to_linear n k) (pos 0)) A held to t h
      (λ k l. ap (λ (x : ℕ). get_or A x (pos 0)) {x = at + away 4 k} {y = to_linear n (q + k)} (omega (arith, linear_four n q k g e l)))
