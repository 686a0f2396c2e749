-- Laws of places: spreading, rows and columns, children and parents, interleaving, the two orders.
use mathlib.Core.Path.{◌≡◌, refl, sym, ◌∙◌, ap}
use mathlib.Core.Bool.{Bool, true, false}
use mathlib.Core.List.{List}
use Prim.Native.Nat.{ℕ, zero, suc, ◌+◌, ◌*◌, ◌/◌, ◌%◌, ◌^◌, ◌<◌, ◌≤◌}
use native.Mathlib.Nat.{pow-suc, pow-succ', mul_assoc, div-add-mod', mod-lt, div-div-eq-div-mul, zero-add, suc-add}
use native.Mathlib.Omega.{arith}
use borrow.Author.Tests.{eqb-true, eqb-false}
use lib.Arith.{digits_lt}
use lib.Bits.{block_half, block_odd}
use lib.Dec.{eqb}
use lib.IntN.{ℤ, pos}
use lib.ListN.{length, get_or}
use lib.Pow.{pow_pos, pow-add, shr_lt, high, low}
use lib.Seq.{ext_get_or}
use Rattle.bits.specs.Bits.{bit}
use Rattle.bits.proofs.Laws.{bit_none, bit_suc, bit_low, low_bit, no_bits}
use Rattle.sizes.specs.Sizes.{all_of}
use Rattle.sizes.proofs.Laws.{four}
use Rattle.sizes.proofs.Tables.{table_length, table_at}
use Rattle.places.specs.Spread.{Spreads, spread}
use Rattle.places.specs.Order.{interleaved, row_of, col_of, to_linear, to_raster, linearly, rasterly}

-- Spreading.
pub spread_below : (n x : ℕ) → spread n x * 3 < 4 ^ n
unfolding spread
spread_below zero x = omega arith
spread_below (suc n) x = omega (arith, spread_below n (x / 2), pow-suc 4 n)

even_at : (n x k : ℕ) → x < 2 ^ n → bit (spread n x) (2 * k) ≡ bit x k
unfolding spread
even_at zero x k h = let e : x ≡ 0 = omega arith in rw e (bit_none (2 * k) ∙ sym (bit_none k))
even_at (suc n) x zero h = bit_low (spread n (x / 2) * 4 + x % 2) x (omega arith)
even_at (suc n) x (suc k) h =
    let y = spread n (x / 2) * 4 + x % 2 in
    let e : 2 * suc k ≡ suc (suc (2 * k)) = omega arith in
    let d : y / 2 / 2 ≡ spread n (x / 2) = omega arith in
    ap (bit y) e ∙ bit_suc y (suc (2 * k)) ∙ bit_suc (y / 2) (2 * k) ∙ ap (λ (z : ℕ). bit z (2 * k)) d
    ∙ even_at n (x / 2) k (omega (arith, pow-suc 2 n)) ∙ sym (bit_suc x k)

odd_at : (n x k : ℕ) → bit (spread n x) (2 * k + 1) ≡ false
unfolding spread
odd_at zero x k = bit_none (2 * k + 1)
odd_at (suc n) x zero =
    let y = spread n (x / 2) * 4 + x % 2 in
    bit_suc y 0 ∙ bit_low (y / 2) 0 (omega arith) ∙ bit_none 0
odd_at (suc n) x (suc k) =
    let y = spread n (x / 2) * 4 + x % 2 in
    let e : 2 * suc k + 1 ≡ suc (suc (2 * k + 1)) = omega arith in
    let d : y / 2 / 2 ≡ spread n (x / 2) = omega arith in
    ap (bit y) e ∙ bit_suc y (suc (2 * k + 1)) ∙ bit_suc (y / 2) (2 * k + 1) ∙ ap (λ (z : ℕ). bit z (2 * k + 1)) d
    ∙ odd_at n (x / 2) k

pub spread_rule : (n x : ℕ) → x < 2 ^ n → Spreads x (spread n x)
spread_rule n x h = record { even = λ k. even_at n x k h; odd = λ k. odd_at n x k }

-- and no other number obeys the rule
rule_up : (x y : ℕ) → Spreads x y → Spreads (x / 2) (y / 4)
rule_up x y s =
    let d : y / 2 / 2 ≡ y / 4 = omega arith in
    let up : (b : ℕ) → bit (y / 4) b ≡ bit y (suc (suc b)) =
    λ b. sym (bit_suc y (suc b) ∙ bit_suc (y / 2) b ∙ ap (λ (z : ℕ). bit z b) d) in
    record {
      even = λ k.
          let e : suc (suc (2 * k)) ≡ 2 * suc k = omega arith in
          up (2 * k) ∙ ap (bit y) e ∙ s.even (suc k) ∙ bit_suc x k;
      odd = λ k.
          let e : suc (suc (2 * k + 1)) ≡ 2 * suc k + 1 = omega arith in
          up (2 * k + 1) ∙ ap (bit y) e ∙ s.odd (suc k);
    }

rule_none : (y b : ℕ) → Spreads 0 y → bit y b ≡ false
rule_none y b s = tell (eqb (b % 2) 0) refl
  where
    tell : (t : Bool) → eqb (b % 2) 0 ≡ t → bit y b ≡ false
    tell true f =
        let e : b ≡ 2 * (b / 2) = omega (arith, eqb-true (b % 2) 0 f) in
        ap (bit y) e ∙ s.even (b / 2) ∙ bit_none (b / 2)
    tell false f =
        let e : b ≡ 2 * (b / 2) + 1 = omega (arith, eqb-false (b % 2) 0 f) in
        ap (bit y) e ∙ s.odd (b / 2)

pub spread_only : (n x y : ℕ) → x < 2 ^ n → Spreads x y → y ≡ spread n x
unfolding spread
spread_only zero x y h s =
    let e : x ≡ 0 = omega arith in
    no_bits y (λ b. rule_none y b (rw e at s))
spread_only (suc n) x y h s =
    omega (arith, spread_only n (x / 2) (y / 4) (omega (arith, pow-suc 2 n)) (rule_up x y s), low_bit y x (s.even 0), low_bit (y / 2) 0 (sym (bit_suc y 0) ∙ s.odd 0 ∙ sym (bit_none 0)))

spread_zero : (n : ℕ) → spread n 0 ≡ 0
unfolding spread
spread_zero zero = refl
spread_zero (suc n) = omega (arith, spread_zero n)

-- more bits than the number has change nothing
pub spread_longer : (n m x : ℕ) → n ≤ m → x < 2 ^ n → spread m x ≡ spread n x
unfolding spread
spread_longer zero m x h b = let e : x ≡ 0 = omega arith in rw e (spread_zero m)
spread_longer (suc n) zero x h b = absurd (omega arith)
spread_longer (suc n) (suc m) x h b = omega (arith, spread_longer n m (x / 2) (omega arith) (omega (arith, pow-suc 2 n)))

-- what stands above the low n bits is not looked at
spread_high : (n a x : ℕ) → spread n (a * 2 ^ n + x) ≡ spread n x
unfolding spread
spread_high zero a x = refl
spread_high (suc n) a x = omega (arith, ap (spread n) (block_half a n x), spread_high n a (x / 2), block_odd a n x)

spread_above : (k m x : ℕ) → spread (k + m) x ≡ spread m (x / 2 ^ k) * 4 ^ k + spread k x
unfolding spread
spread_above zero m x =
    ap (λ (j : ℕ). spread j x) (zero-add m) ∙ omega (arith, ap (spread m) {x = x / 1} {y = x} (omega arith))
spread_above (suc k) m x =
    let y = spread m (x / 2 ^ suc k) in
    let e : x / 2 / 2 ^ k ≡ x / 2 ^ suc k = div-div-eq-div-mul x 2 (2 ^ k) ∙ ap (λ (j : ℕ). x / j) (sym (pow-succ' 2 k)) in
    ap (λ (j : ℕ). spread j x) (suc-add k m)
    ∙ omega (arith, spread_above k m (x / 2), ap (λ (j : ℕ). spread m j * 4 ^ k) e, ap (λ (j : ℕ). y * j) (pow-suc 4 k), mul_assoc y (4 ^ k) 4)

-- the low k bits and those above them are spread one by one
pub spread_parts : (k m x : ℕ) → spread (k + m) x ≡ spread m (x / 2 ^ k) * 4 ^ k + spread k (x % 2 ^ k)
spread_parts k m x =
    omega (arith, spread_above k m x, spread_high k (x / 2 ^ k) (x % 2 ^ k), ap (spread k) (div-add-mod' x (2 ^ k)))

-- The row and the column of a linear place take one bit of each of its digits to base 4: what holds of any function that does.
record Digits (f : ℕ → ℕ → ℕ) : Type 0 where
  none : (q : ℕ) → f 0 q ≡ 0
  more : (n q : ℕ) → f (suc n) q ≡ f n (q / 4) * 2 + f 1 (q % 4)
  small : (d : ℕ) → f 1 d < 2
  least : f 1 0 ≡ 0

row_digits : Digits row_of
unfolding row_of
row_digits = record { none = λ q. refl; more = λ n q. omega arith; small = λ d. omega arith; least = refl }

col_digits : Digits col_of
unfolding col_of
col_digits = record { none = λ q. refl; more = λ n q. omega arith; small = λ d. omega arith; least = refl }

module _ (f : ℕ → ℕ → ℕ) (z : Digits f) where
  digits_below : (n q : ℕ) → f n q < 2 ^ n
  digits_below zero q = omega (arith, z.none q)
  digits_below (suc n) q = omega (arith, digits_below n (q / 4), z.more n q, z.small (q % 4), pow-suc 2 n)

  digits_zero : (n : ℕ) → f n 0 ≡ 0
  digits_zero zero = z.none 0
  digits_zero (suc n) = omega (arith, digits_zero n, z.more n 0, z.least)

  digits_longer : (n m q : ℕ) → n ≤ m → q < 4 ^ n → f m q ≡ f n q
  digits_longer zero m q h b = let e : q ≡ 0 = omega arith in rw e (digits_zero m ∙ sym (z.none 0))
  digits_longer (suc n) zero q h b = absurd (omega arith)
  digits_longer (suc n) (suc m) q h b =
      omega (arith, z.more n q, z.more m q, digits_longer n m (q / 4) (omega arith) (omega (arith, pow-suc 4 n)))

  digits_high : (n a q : ℕ) → f n (a * 4 ^ n + q) ≡ f n q
  digits_high zero a q = z.none (a * 1 + q) ∙ sym (z.none q)
  digits_high (suc n) a q =
      let w = a * 4 ^ suc n + q in
      let p : a * 4 ^ suc n ≡ a * 4 ^ n * 4 = ap (λ (j : ℕ). a * j) (pow-suc 4 n) ∙ sym (mul_assoc a (4 ^ n) 4) in
      let e : w / 4 ≡ a * 4 ^ n + q / 4 = omega arith in
      let d : w % 4 ≡ q % 4 = omega arith in
      omega (arith, z.more n w, z.more n q, ap (f n) e, ap (f 1) d, digits_high n a (q / 4))

  digits_above : (k m q : ℕ) → f (k + m) q ≡ f m (q / 4 ^ k) * 2 ^ k + f k q
  digits_above zero m q =
      ap (λ (j : ℕ). f j q) (zero-add m) ∙ omega (arith, ap (f m) {x = q / 1} {y = q} (omega arith), z.none q)
  digits_above (suc k) m q =
      let y = f m (q / 4 ^ suc k) in
      let e : q / 4 / 4 ^ k ≡ q / 4 ^ suc k = div-div-eq-div-mul q 4 (4 ^ k) ∙ ap (λ (j : ℕ). q / j) (sym (pow-succ' 4 k)) in
      ap (λ (j : ℕ). f j q) (suc-add k m)
      ∙ omega (arith, digits_above k m (q / 4), z.more (k + m) q, z.more k q, ap (λ (j : ℕ). f m j * 2 ^ k) e, ap (λ (j : ℕ). y * j) (pow-suc 2 k), mul_assoc y (2 ^ k) 2)

  digits_parts : (k m q : ℕ) → f (k + m) q ≡ f m (q / 4 ^ k) * 2 ^ k + f k (q % 4 ^ k)
  digits_parts k m q =
      omega (arith, digits_above k m q, digits_high k (q / 4 ^ k) (q % 4 ^ k), ap (f k) (div-add-mod' q (4 ^ k)))

  digits_child : (N i k : ℕ) → i < all_of N / 4 → k < 4 → f N (4 * i + k) ≡ 2 * f N i + f 1 k
  digits_child zero i k h l = absurd (omega arith)
  digits_child (suc n) i k h l =
      let e : (4 * i + k) / 4 ≡ i = omega arith in
      let d : (4 * i + k) % 4 ≡ k = omega arith in
      omega (arith, z.more n (4 * i + k), ap (f n) e, ap (f 1) d, digits_longer n (suc n) i (omega arith) (omega (arith, pow-suc 4 n)))

  digits_parent : (N j : ℕ) → j < all_of N → f N (j / 4) ≡ f N j / 2
  digits_parent zero j h = omega (arith, z.none j, z.none (j / 4))
  digits_parent (suc n) j h =
      omega (arith, z.more n j, z.small (j % 4), digits_longer n (suc n) (j / 4) (omega arith) (omega (arith, pow-suc 4 n)))

-- Row and column.
pub row_below : (N q : ℕ) → row_of N q < 2 ^ N
row_below = digits_below row_of row_digits

pub col_below : (N q : ℕ) → col_of N q < 2 ^ N
col_below = digits_below col_of col_digits

-- more digits than the place has change nothing
pub row_longer : (n m q : ℕ) → n ≤ m → q < 4 ^ n → row_of m q ≡ row_of n q
row_longer = digits_longer row_of row_digits

pub col_longer : (n m q : ℕ) → n ≤ m → q < 4 ^ n → col_of m q ≡ col_of n q
col_longer = digits_longer col_of col_digits

-- the low k digits and those above them are taken one by one
pub row_parts : (k m q : ℕ) → row_of (k + m) q ≡ row_of m (q / 4 ^ k) * 2 ^ k + row_of k (q % 4 ^ k)
row_parts = digits_parts row_of row_digits

pub col_parts : (k m q : ℕ) → col_of (k + m) q ≡ col_of m (q / 4 ^ k) * 2 ^ k + col_of k (q % 4 ^ k)
col_parts = digits_parts col_of col_digits

-- Children: 4i + k, for k below 4, lies at row 2r + k/2 and column 2c + k%2, where r and c are i's row and column.
pub child_row : (N i k : ℕ) → i < all_of N / 4 → k < 4 → row_of N (4 * i + k) ≡ 2 * row_of N i + k / 2
unfolding row_of
child_row N i k h l = digits_child row_of row_digits N i k h l ∙ omega arith

pub child_col : (N i k : ℕ) → i < all_of N / 4 → k < 4 → col_of N (4 * i + k) ≡ 2 * col_of N i + k % 2
unfolding col_of
child_col N i k h l = digits_child col_of col_digits N i k h l ∙ omega arith

-- Parents: that of j is j/4, at half its row and half its column.
pub parent_row : (N j : ℕ) → j < all_of N → row_of N (j / 4) ≡ row_of N j / 2
parent_row = digits_parent row_of row_digits

pub parent_col : (N j : ℕ) → j < all_of N → col_of N (j / 4) ≡ col_of N j / 2
parent_col = digits_parent col_of col_digits

-- Interleaving.
pub interleaved_spread : (N row col : ℕ) → interleaved N row col ≡ spread N row * 2 + spread N col
unfolding interleaved spread
interleaved_spread zero row col = refl
interleaved_spread (suc n) row col = omega (arith, interleaved_spread n (row / 2) (col / 2))

pub interleaved_below : (N row col : ℕ) → interleaved N row col < all_of N
interleaved_below N row col = omega (arith, interleaved_spread N row col, spread_below N row, spread_below N col)

pub row_interleaved : (N row col : ℕ) → row < 2 ^ N → row_of N (interleaved N row col) ≡ row
unfolding interleaved row_of
row_interleaved zero row col h = omega arith
row_interleaved (suc n) row col h =
    let e : (interleaved n (row / 2) (col / 2) * 4 + (row % 2 * 2 + col % 2)) / 4 ≡ interleaved n (row / 2) (col / 2) = omega arith in
    omega (arith, ap (row_of n) e, row_interleaved n (row / 2) (col / 2) (omega (arith, pow-suc 2 n)))

pub col_interleaved : (N row col : ℕ) → col < 2 ^ N → col_of N (interleaved N row col) ≡ col
unfolding interleaved col_of
col_interleaved zero row col h = omega arith
col_interleaved (suc n) row col h =
    let e : (interleaved n (row / 2) (col / 2) * 4 + (row % 2 * 2 + col % 2)) / 4 ≡ interleaved n (row / 2) (col / 2) = omega arith in
    omega (arith, ap (col_of n) e, col_interleaved n (row / 2) (col / 2) (omega (arith, pow-suc 2 n)))

pub interleaved_again : (N q : ℕ) → q < all_of N → interleaved N (row_of N q) (col_of N q) ≡ q
unfolding interleaved row_of col_of
interleaved_again zero q h = omega arith
interleaved_again (suc n) q h =
    let r : (row_of n (q / 4) * 2 + q % 4 / 2) / 2 ≡ row_of n (q / 4) = omega arith in
    let c : (col_of n (q / 4) * 2 + q % 2) / 2 ≡ col_of n (q / 4) = omega arith in
    rw (r, c) (omega (arith, interleaved_again n (q / 4) (omega (arith, pow-suc 4 n))))

-- "Row 1, column 0 is 2; row 0, column 1 is 1."
pub row_one : (N : ℕ) → 1 ≤ N → interleaved N 1 0 ≡ 2
unfolding spread
row_one zero h = absurd (omega arith)
row_one (suc n) h = omega (arith, interleaved_spread (suc n) 1 0, spread_zero n)

pub column_one : (N : ℕ) → 1 ≤ N → interleaved N 0 1 ≡ 1
unfolding spread
column_one zero h = absurd (omega arith)
column_one (suc n) h = omega (arith, interleaved_spread (suc n) 0 1, spread_zero n)

-- A raster place's row and column.
pub raster_row : (N p : ℕ) → p < all_of N → p / 2 ^ N < 2 ^ N
raster_row N p h = shr_lt N N (omega (arith, four N))

pub raster_col : (N p : ℕ) → p % 2 ^ N < 2 ^ N
raster_col N p = mod-lt p (pow_pos N)

-- The two orders of places are inverse to each other, below I.
pub linear_below : (N p : ℕ) → to_linear N p < all_of N
unfolding to_linear
linear_below N p = interleaved_below N (p / 2 ^ N) (p % 2 ^ N)

pub raster_below : (N q : ℕ) → to_raster N q < all_of N
unfolding to_raster
raster_below N q = rw (← four N, pow-add 2 N N) (digits_lt (row_below N q) (col_below N q))

pub raster_of_linear : (N p : ℕ) → p < all_of N → to_raster N (to_linear N p) ≡ p
unfolding to_linear to_raster
raster_of_linear N p h =
    rw (row_interleaved N (p / 2 ^ N) (p % 2 ^ N) (raster_row N p h), col_interleaved N (p / 2 ^ N) (p % 2 ^ N) (raster_col N p))
    (div-add-mod' p (2 ^ N))

pub linear_of_raster : (N q : ℕ) → q < all_of N → to_linear N (to_raster N q) ≡ q
unfolding to_linear to_raster
linear_of_raster N q h =
    rw (high (row_of N q) N (col_below N q), low (row_of N q) N (col_below N q)) (interleaved_again N q h)

-- Whole arrays: there and back is the array.
pub linearly_length : (N : ℕ) (A : List ℤ) → length (linearly N A) ≡ all_of N
unfolding linearly
linearly_length N A = table_length (all_of N) (λ q. get_or A (to_raster N q) (pos 0))

pub rasterly_length : (N : ℕ) (A : List ℤ) → length (rasterly N A) ≡ all_of N
unfolding rasterly
rasterly_length N A = table_length (all_of N) (λ p. get_or A (to_linear N p) (pos 0))

pub linearly_at : (N : ℕ) (A : List ℤ) (q : ℕ) → q < all_of N → get_or (linearly N A) q (pos 0) ≡ get_or A (to_raster N q) (pos 0)
unfolding linearly
linearly_at N A q h = table_at (all_of N) (λ j. get_or A (to_raster N j) (pos 0)) q (pos 0) h

pub rasterly_at : (N : ℕ) (A : List ℤ) (p : ℕ) → p < all_of N → get_or (rasterly N A) p (pos 0) ≡ get_or A (to_linear N p) (pos 0)
unfolding rasterly
rasterly_at N A p h = table_at (all_of N) (λ j. get_or A (to_linear N j) (pos 0)) p (pos 0) h

pub rasterly_linearly : (N : ℕ) (A : List ℤ) → length A ≡ all_of N → rasterly N (linearly N A) ≡ A
rasterly_linearly N A e =
    ext_get_or (pos 0) (rasterly N (linearly N A)) A (rasterly_length N (linearly N A) ∙ sym e)
    (λ p k.
    let h : p < all_of N = omega (arith, rasterly_length N (linearly N A)) in
    rasterly_at N (linearly N A) p h ∙ linearly_at N A (to_linear N p) (linear_below N p) ∙ ap (λ (j : ℕ). get_or A j (pos 0)) (raster_of_linear N p h))

pub linearly_rasterly : (N : ℕ) (A : List ℤ) → length A ≡ all_of N → linearly N (rasterly N A) ≡ A
linearly_rasterly N A e =
    ext_get_or (pos 0) (linearly N (rasterly N A)) A (linearly_length N (rasterly N A) ∙ sym e)
    (λ q k.
    let h : q < all_of N = omega (arith, linearly_length N (rasterly N A)) in
    linearly_at N (rasterly N A) q h ∙ rasterly_at N A (to_raster N q) (raster_below N q) ∙ ap (λ (j : ℕ). get_or A j (pos 0)) (linear_of_raster N q h))
