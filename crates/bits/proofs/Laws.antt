-- Laws of bits: those of a number and of a body, a bit that is put, and bits packed into bytes.
use mathlib.Core.Path.{◌≡◌, refl, sym, ap, ◌∙◌}
use mathlib.Core.Bool.{Bool, true, false, ◌||◌}
use mathlib.Core.List.{List, [], ◌∷◌, ◌++◌}
use mathlib.Core.Logic.{◌↔◌}
use Prim.Native.Nat.{ℕ, zero, suc, ◌+◌, ◌*◌, ◌-◌, ◌/◌, ◌%◌, ◌^◌, ◌≤◌, ◌<◌, max}
use native.Mathlib.Nat.{pow-suc, zero-div, div-one, div-eq_of_lt-le, mod-lt}
use native.Mathlib.Decide.{dec_lt, ℕ_discrete}
use native.Mathlib.Omega.{arith}
use borrow.Author.Tests.{eqb-true, eqb-false, eq-eqb, ne_eqb, leb-true, leb-false, le-leb, lt-leb}
use mir.Val.{bool_byte}
use lib.Bits.{bit_or, or_step, or_shr, or_lt, or_add_and, and_le_l, and_le_r}
use lib.Count.{count_leading_zeros, leading_length}
use lib.Dec.{leb, eqb, lit<, lit≤}
use lib.ListN.{take-append-drop, length, get_or, take, drop, length-append, length-set, length-drop, get_or-append, get_or-eq_default}
use lib.Arith.{digits_lt, bin_ind}
use lib.Pow.{shr-shr, high, low, field, mod-mod-pow, shl-shr, shl_lt, pow-add, pow_pos, pow_mono}
use lib.Seq.{length-take-le, get_or-set_same, get_or-set_other, set_out, drop-set-lt, drop-append-add, drop-drop, get_or_at, get_or-take, ext_get_or}
use Rattle.sizes.specs.Tables.{table}
use Rattle.sizes.proofs.Tables.{table_length, table_suc, table_at, table_ext, table_is}
use Rattle.bits.specs.Bits.{bit, or_all, digit, bit_at, bits_of, bytes_for, number, packed, byte_with, with_bit}

-- ---- the bits of a number

pub bit_0 : (x : ℕ) → bit x 0 ≡ eqb (x % 2) 1
unfolding bit
bit_0 x = ap (λ (y : ℕ). eqb (y % 2) 1) (div-one x)

pub bit_suc : (x b : ℕ) → bit x (suc b) ≡ bit (x / 2) b
unfolding bit
bit_suc x b =
    ap (λ (y : ℕ). eqb (y % 2) 1) (ap (λ (e : ℕ). x / 2 ^ e) {x = suc b} {y = 1 + b} (omega arith) ∙ sym (shr-shr x 1 b))

pub bit_shr : (x k b : ℕ) → bit (x / 2 ^ k) b ≡ bit x (k + b)
unfolding bit
bit_shr x k b = ap (λ (y : ℕ). eqb (y % 2) 1) (shr-shr x k b)

pub bit_none : (b : ℕ) → bit 0 b ≡ false
unfolding bit
bit_none b = ap (λ (y : ℕ). eqb (y % 2) 1) (zero-div (2 ^ b))

-- a number below 2^n has no bit from n on
pub bit_high : (n x b : ℕ) → x < 2 ^ n → n ≤ b → bit x b ≡ false
bit_high zero x b h k = ap (λ (y : ℕ). bit y b) {x = x} {y = 0} (omega (arith, h)) ∙ bit_none b
bit_high (suc n) x zero h k = absurd (omega arith)
bit_high (suc n) x (suc b) h k = bit_suc x b ∙ bit_high n (x / 2) b (omega (arith, h, pow-suc 2 n)) (omega arith)

-- the highest bit of a number
pub bit_top : (x b : ℕ) → 2 ^ b ≤ x → x < 2 ^ suc b → bit x b ≡ true
unfolding bit
bit_top x b h k =
    ap (λ (y : ℕ). eqb (y % 2) 1) (div-eq_of_lt-le {k = 1} (2 ^ b) {m = x} (omega (arith, h)) (omega (arith, k, pow-suc 2 b)))

-- bit 0 is what is left of a division by 2
pub bit_low : (x y : ℕ) → x % 2 ≡ y % 2 → bit x 0 ≡ bit y 0
bit_low x y e = bit_0 x ∙ ap (λ (z : ℕ). eqb z 1) e ∙ sym (bit_0 y)

pub low_bit : (x y : ℕ) → bit x 0 ≡ bit y 0 → x % 2 ≡ y % 2
low_bit x y e = tell (bit y 0) refl
  where
    tell : (t : Bool) → bit y 0 ≡ t → x % 2 ≡ y % 2
    tell true f = eqb-true (x % 2) 1 (sym (bit_0 x) ∙ e ∙ f) ∙ sym (eqb-true (y % 2) 1 (sym (bit_0 y) ∙ f))
    tell false f = omega (arith, eqb-false (x % 2) 1 (sym (bit_0 x) ∙ e ∙ f), eqb-false (y % 2) 1 (sym (bit_0 y) ∙ f))

-- a number with no bits is 0
pub no_bits : (x : ℕ) → ((b : ℕ) → bit x b ≡ false) → x ≡ 0
no_bits =
    bin_ind (λ (x : ℕ). ((b : ℕ) → bit x b ≡ false) → x ≡ 0) (λ h. refl)
    (λ x ih h. omega (arith, ih (λ b. sym (bit_suc x b) ∙ h (suc b)), low_bit x 0 (h 0 ∙ sym (bit_none 0))))

-- equal bits, equal numbers
pub eq_bits : (n x y : ℕ) → x < 2 ^ n → y < 2 ^ n → ((b : ℕ) → b < n → bit x b ≡ bit y b) → x ≡ y
eq_bits zero x y h k f = omega (arith, h, k)
eq_bits (suc n) x y h k f =
    omega (
      arith,
      low_bit x y (f 0 (omega arith)),
      eq_bits n (x / 2) (y / 2) (omega (arith, h, pow-suc 2 n)) (omega (arith, k, pow-suc 2 n)) (λ b l. sym (bit_suc x b) ∙ f (suc b) (omega arith) ∙ bit_suc y b),
    )

-- equal bits from k on, equal high parts
pub eq_high : (k n x y : ℕ) → x < 2 ^ n → y < 2 ^ n → ((b : ℕ) → k ≤ b → b < n → bit x b ≡ bit y b) → x / 2 ^ k ≡ y / 2 ^ k
eq_high zero n x y h j f = ap (λ (z : ℕ). z / 2 ^ 0) (eq_bits n x y h j (λ b l. f b (omega arith) l))
eq_high (suc k) zero x y h j f = ap (λ (z : ℕ). z / 2 ^ suc k) {x = x} {y = y} (omega (arith, h, j))
eq_high (suc k) (suc n) x y h j f =
    half x ∙ eq_high k n (x / 2) (y / 2) (omega (arith, h, pow-suc 2 n)) (omega (arith, j, pow-suc 2 n)) (λ b l u. sym (bit_suc x b) ∙ f (suc b) (omega arith) (omega arith) ∙ bit_suc y b) ∙ sym (half y)
  where
    half : (z : ℕ) → z / 2 ^ suc k ≡ z / 2 / 2 ^ k
    half z = ap (λ (e : ℕ). z / 2 ^ e) {x = suc k} {y = 1 + k} (omega arith) ∙ sym (shr-shr z 1 k)

or_low : (x y : ℕ) → eqb (bit_or x y % 2) 1 ≡ (eqb (x % 2) 1 || eqb (y % 2) 1)
or_low x y = tell (ℕ_discrete (x % 2) 1) (ℕ_discrete (y % 2) 1)
  where
    both : bit_or x y % 2 ≡ max (x % 2) (y % 2)
    both = omega (arith, or_step x y)

    tell : Dec (x % 2 ≡ 1) → Dec (y % 2 ≡ 1) → eqb (bit_or x y % 2) 1 ≡ (eqb (x % 2) 1 || eqb (y % 2) 1)
    tell (yes p) q = rw (eq-eqb (x % 2) 1 p) (eq-eqb (bit_or x y % 2) 1 (omega (arith, both)))
    tell (no p) (yes q) = rw (ne_eqb (x % 2) 1 p, eq-eqb (y % 2) 1 q) (eq-eqb (bit_or x y % 2) 1 (omega (arith, both)))
    tell (no p) (no q) = rw (ne_eqb (x % 2) 1 p, ne_eqb (y % 2) 1 q) (ne_eqb (bit_or x y % 2) 1 (λ e. omega (arith, both)))

pub bit_or_lem : (x y b : ℕ) → bit (bit_or x y) b ≡ (bit x b || bit y b)
unfolding bit
bit_or_lem x y b = rw (or_shr x y b) (or_low (x / 2 ^ b) (y / 2 ^ b))

-- the low part of a number, and a number put together of a high and a low part
pub bit_mod : (x n b : ℕ) → b < n → bit (x % 2 ^ n) b ≡ bit x b
unfolding bit
bit_mod x n b h =
    let m : n ≡ (n - b - 1 + 1) + b = omega arith in
    ap (λ (y : ℕ). eqb (y % 2) 1) (ap (λ (e : ℕ). x % 2 ^ e / 2 ^ b) m ∙ field x (n - b - 1 + 1) b)
    ∙ ap (λ (y : ℕ). eqb y 1) (mod-mod-pow (x / 2 ^ b) (n - b - 1) 1)

module _ (hi k lo : ℕ) (h : lo < 2 ^ k) where
  pub bit_join_high : (b : ℕ) → bit (hi * 2 ^ k + lo) (k + b) ≡ bit hi b
  bit_join_high b = sym (bit_shr (hi * 2 ^ k + lo) k b) ∙ ap (λ (y : ℕ). bit y b) (high hi k h)

  pub bit_join_low : (b : ℕ) → b < k → bit (hi * 2 ^ k + lo) b ≡ bit lo b
  bit_join_low b l = sym (bit_mod (hi * 2 ^ k + lo) k b l) ∙ ap (λ (y : ℕ). bit y b) (low hi k h)

-- ---- the OR of numbers, and leading zeros

-- neither of two numbers is above their OR, which reaches 2^k exactly if one of them does
pub or_ge_l : (x y : ℕ) → x ≤ bit_or x y
or_ge_l x y = omega (arith, or_add_and x y, and_le_r x y)

pub or_ge_r : (x y : ℕ) → y ≤ bit_or x y
or_ge_r x y = omega (arith, or_add_and x y, and_le_l x y)

pub or_reaches : (k x y : ℕ) → leb (2 ^ k) (bit_or x y) ≡ (leb (2 ^ k) x || leb (2 ^ k) y)
or_reaches k x y = tell (leb (2 ^ k) x) (leb (2 ^ k) y) refl refl
  where
    tell : (s t : Bool) → leb (2 ^ k) x ≡ s → leb (2 ^ k) y ≡ t → leb (2 ^ k) (bit_or x y) ≡ (s || t)
    tell true t e f = le-leb (2 ^ k) (bit_or x y) (omega (arith, leb-true (2 ^ k) x e, or_ge_l x y))
    tell false true e f = le-leb (2 ^ k) (bit_or x y) (omega (arith, leb-true (2 ^ k) y f, or_ge_r x y))
    tell false false e f = lt-leb (2 ^ k) (bit_or x y) (or_lt k x y (leb-false (2 ^ k) x e) (leb-false (2 ^ k) y f))

pub zero_below : (k : ℕ) → leb (2 ^ k) 0 ≡ false
zero_below k = lt-leb (2 ^ k) 0 (pow_pos k)

pub or_assoc : (a b c : ℕ) → bit_or (bit_or a b) c ≡ bit_or a (bit_or b c)
or_assoc a = bin_ind (λ (a : ℕ). (b c : ℕ) → bit_or (bit_or a b) c ≡ bit_or a (bit_or b c)) (λ b c. refl) (λ n ih b c. step n b c (ih (b / 2) (c / 2))) a
  where
    step : (n b c : ℕ) → bit_or (bit_or (n / 2) (b / 2)) (c / 2) ≡ bit_or (n / 2) (bit_or (b / 2) (c / 2)) → bit_or (bit_or n b) c ≡ bit_or n (bit_or b c)
    step n b c ih =
        let p : bit_or n b / 2 ≡ bit_or (n / 2) (b / 2) = omega (arith, or_step n b) in
        let q : bit_or n b % 2 ≡ max (n % 2) (b % 2) = omega (arith, or_step n b) in
        let r : bit_or b c / 2 ≡ bit_or (b / 2) (c / 2) = omega (arith, or_step b c) in
        let s : bit_or b c % 2 ≡ max (b % 2) (c % 2) = omega (arith, or_step b c) in
        or_step (bit_or n b) c ∙ rw (p, q, ih) (sym (or_step n (bit_or b c) ∙ rw (r, s) (omega arith)))

-- the OR of a list is below 2^k exactly if each of its numbers is
pub or_below : (k : ℕ) (l : List ℕ) → (or_all l < 2 ^ k) ↔ ((i : ℕ) → get_or l i 0 < 2 ^ k)
unfolding or_all
or_below k [] = ((λ h i. h), (λ h. h 0))
or_below k (x ∷ l) =
    let rest = or_below k l in
    ((λ h i. each i h rest.0), (λ h. or_lt k x (or_all l) (h 0) (rest.1 (λ i. h (suc i)))))
  where
    each : (i : ℕ) → bit_or x (or_all l) < 2 ^ k → (or_all l < 2 ^ k → (j : ℕ) → get_or l j 0 < 2 ^ k) → get_or (x ∷ l) i 0 < 2 ^ k
    each zero h rest = omega (arith, or_ge_l x (or_all l))
    each (suc i) h rest = rest (omega (arith, or_ge_r x (or_all l))) i

-- a number of w digits is below 2^k exactly if its leading zeros leave at most k of them
pub zeros_below : (w x k : ℕ) → x < 2 ^ w → (x < 2 ^ k) ↔ (w - count_leading_zeros w x ≤ k)
zeros_below w x k h =
    let m = leading_length w x h in
    let own : w - count_leading_zeros w x ≡ m.0 = omega (arith, m.1) in
    rw own ((λ l. least m.0 m.3 l (dec_lt k m.0)), (λ l. omega (arith, m.2, pow_mono {i = m.0} {j = k} l)))
  where
    least : (m : ℕ) → 2 ^ m ≤ 2 * x + 1 → x < 2 ^ k → Dec (k < m) → m ≤ k
    least m g l (yes f) = absurd (omega (arith, pow_mono {i = suc k} {j = m} f, pow-suc 2 k))
    least m g l (no f) = omega arith

-- ---- a number of given digits

pub digit_le : (x : Bool) → digit x ≤ 1
digit_le true = lit≤ tt
digit_le false = lit≤ tt

-- what the code has for a bit
pub as_digit : (x : Bool) → bool_byte x ≡ digit x
as_digit true = refl
as_digit false = refl

pub digit_bit : (x : Bool) → bit (digit x) 0 ≡ x
unfolding bit
digit_bit true = refl
digit_bit false = refl

digit_lt : (x : Bool) → digit x < 2 ^ 1
digit_lt x = omega (arith, digit_le x)

pub number_lt : (n : ℕ) (f : ℕ → Bool) → number n f < 2 ^ n
unfolding number
number_lt zero f = lit< tt
number_lt (suc n) f = omega (arith, number_lt n f, digit_le (f n), pow-suc 2 n)

pub number_bit : (n : ℕ) (f : ℕ → Bool) (k : ℕ) → k < n → bit (number n f) (n - 1 - k) ≡ f k
unfolding number
number_bit zero f k h = absurd (omega arith)
number_bit (suc n) f k h = tell (ℕ_discrete k n) (λ l. number_bit n f k l)
  where
    tell : Dec (k ≡ n) → (k < n → bit (number n f) (n - 1 - k) ≡ f k) → bit (number n f * 2 + digit (f n)) (suc n - 1 - k) ≡ f k
    tell (yes e) ih =
        let z : suc n - 1 - k ≡ 0 = omega arith in
        rw (z, e) (bit_join_low (number n f) 1 (digit (f n)) (digit_lt (f n)) 0 (lit< tt) ∙ digit_bit (f n))
    tell (no e) ih =
        let z : suc n - 1 - k ≡ 1 + (n - 1 - k) = omega arith in
        rw z (bit_join_high (number n f) 1 (digit (f n)) (digit_lt (f n)) (n - 1 - k) ∙ ih (omega arith))

pub number_ext : (n : ℕ) (f g : ℕ → Bool) → ((k : ℕ) → k < n → f k ≡ g k) → number n f ≡ number n g
unfolding number
number_ext zero f g h = refl
number_ext (suc n) f g h = rw (number_ext n f g (λ k l. h k (omega arith)), h n (omega arith))

-- ---- a bit put into a byte

shl_bit : (a m : ℕ) → bit (a * 2 ^ m) m ≡ bit a 0
unfolding bit
shl_bit a m = ap (λ (y : ℕ). eqb (y % 2) 1) (shl-shr a m ∙ sym (div-one a))

shl_none : (a m b : ℕ) → b < m → bit (a * 2 ^ m) b ≡ false
shl_none a m b l =
    ap (λ (y : ℕ). bit y b) {x = a * 2 ^ m} {y = a * 2 ^ m + 0} (omega arith) ∙ bit_join_low a m 0 (pow_pos m) b l ∙ bit_none b

module _ (v k : ℕ) (x : Bool) (h : k < 8) where
  under : digit x * 2 ^ (7 - k) < 2 ^ (8 - k)
  under = let e : 8 - k ≡ 1 + (7 - k) = omega arith in rw e (shl_lt 1 (7 - k) (digit_lt x))

  pub byte_lt : byte_with v k x < 256
  unfolding byte_with
  byte_lt =
      omega (arith, digits_lt (mod-lt (v / 2 ^ (8 - k)) (pow_pos k)) under, pow-add 2 k (8 - k), ap (λ (e : ℕ). 2 ^ e) {x = k + (8 - k)} {y = 8} (omega arith))

  pub byte_same : bit (byte_with v k x) (7 - k) ≡ x
  unfolding byte_with
  byte_same =
      bit_join_low (v / 2 ^ (8 - k) % 2 ^ k) (8 - k) (digit x * 2 ^ (7 - k)) under (7 - k) (omega arith)
      ∙ shl_bit (digit x) (7 - k)
      ∙ digit_bit x

  pub byte_above : (j : ℕ) → j < k → bit (byte_with v k x) (7 - j) ≡ bit v (7 - j)
  unfolding byte_with
  byte_above j l =
      let e : 7 - j ≡ (8 - k) + (k - 1 - j) = omega arith in
      rw e
      (bit_join_high (v / 2 ^ (8 - k) % 2 ^ k) (8 - k) (digit x * 2 ^ (7 - k)) under (k - 1 - j)
      ∙ bit_mod (v / 2 ^ (8 - k)) k (k - 1 - j) (omega arith)
      ∙ bit_shr v (8 - k) (k - 1 - j))

  pub byte_below : (j : ℕ) → k < j → j < 8 → bit (byte_with v k x) (7 - j) ≡ false
  unfolding byte_with
  byte_below j l g =
      bit_join_low (v / 2 ^ (8 - k) % 2 ^ k) (8 - k) (digit x * 2 ^ (7 - k)) under (7 - j) (omega arith)
      ∙ shl_none (digit x) (7 - k) (7 - j) (omega arith)

-- ---- a bit put into a body

pub with_length : (s : List ℕ) (at : ℕ) (x : Bool) → length (with_bit s at x) ≡ length s
unfolding with_bit
with_length s at x = length-set s (at / 8) (byte_with (get_or s (at / 8) 0) (at % 8) x)

-- the byte that is written, and the others
pub with_here : (s : List ℕ) (at : ℕ) (x : Bool) → at / 8 < length s
    → get_or (with_bit s at x) (at / 8) 0 ≡ byte_with (get_or s (at / 8) 0) (at % 8) x
unfolding with_bit
with_here s at x h = get_or-set_same s (at / 8) (byte_with (get_or s (at / 8) 0) (at % 8) x) 0 h

pub with_other : (s : List ℕ) (at : ℕ) (x : Bool) (j : ℕ) → (j ≡ at / 8 → ⊥) → get_or (with_bit s at x) j 0 ≡ get_or s j 0
unfolding with_bit
with_other s at x j h = get_or-set_other s (at / 8) j (byte_with (get_or s (at / 8) 0) (at % 8) x) 0 h

pub with_drop : (s : List ℕ) (at : ℕ) (x : Bool) (m : ℕ) → at / 8 < m → drop m (with_bit s at x) ≡ drop m s
unfolding with_bit
with_drop s at x m h = drop-set-lt m s (at / 8) (byte_with (get_or s (at / 8) 0) (at % 8) x) h

pub with_past : (s : List ℕ) (at : ℕ) (x : Bool) → length s ≤ at / 8 → with_bit s at x ≡ s
unfolding with_bit
with_past s at x h = set_out s (at / 8) (byte_with (get_or s (at / 8) 0) (at % 8) x) h

-- bytes stay bytes
pub with_bytes : (s : List ℕ) (at : ℕ) (x : Bool) → ((j : ℕ) → get_or s j 0 < 256) → (j : ℕ) → get_or (with_bit s at x) j 0 < 256
with_bytes s at x h j = tell (dec_lt (at / 8) (length s)) (ℕ_discrete j (at / 8))
  where
    tell : Dec (at / 8 < length s) → Dec (j ≡ at / 8) → get_or (with_bit s at x) j 0 < 256
    tell (yes l) (yes e) = rw (e, with_here s at x l) (byte_lt (get_or s (at / 8) 0) (at % 8) x (omega arith))
    tell (no l) (yes e) = rw (with_past s at x (omega arith)) (h j)
    tell l (no e) = rw (with_other s at x j e) (h j)

-- what is put is what is fetched, the bits before it stay, and those after it in its byte are 0
pub with_at : (s : List ℕ) (at : ℕ) (x : Bool) → at / 8 < length s → bit_at (with_bit s at x) at ≡ x
unfolding bit_at
with_at s at x h = rw (with_here s at x h) (byte_same (get_or s (at / 8) 0) (at % 8) x (omega arith))

pub with_before : (s : List ℕ) (at : ℕ) (x : Bool) (j : ℕ) → j < at → bit_at (with_bit s at x) j ≡ bit_at s j
unfolding bit_at
with_before s at x j l = tell (dec_lt (at / 8) (length s)) (ℕ_discrete (j / 8) (at / 8))
  where
    tell : Dec (at / 8 < length s) → Dec (j / 8 ≡ at / 8) → bit (get_or (with_bit s at x) (j / 8) 0) (7 - j % 8) ≡ bit (get_or s (j / 8) 0) (7 - j % 8)
    tell (yes h) (yes e) = rw (e, with_here s at x h) (byte_above (get_or s (at / 8) 0) (at % 8) x (omega arith) (j % 8) (omega arith))
    tell (no h) (yes e) = rw (with_past s at x (omega arith))
    tell h (no e) = rw (with_other s at x (j / 8) e)

pub with_after : (s : List ℕ) (at : ℕ) (x : Bool) (j : ℕ) → at / 8 < length s → at < j → j / 8 ≡ at / 8 → bit_at (with_bit s at x) j ≡ false
unfolding bit_at
with_after s at x j h l e =
    rw (e, with_here s at x h) (byte_below (get_or s (at / 8) 0) (at % 8) x (omega arith) (j % 8) (omega arith) (omega arith))

-- ---- the first bits of a body

pub bits_of_length : (n : ℕ) (s : List ℕ) → length (bits_of n s) ≡ n
bits_of_length n s = table_length n (λ k. bit_at s k)

pub bits_of_at : (n : ℕ) (s : List ℕ) (k : ℕ) → k < n → get_or (bits_of n s) k false ≡ bit_at s k
bits_of_at n s k h = table_at n (λ k. bit_at s k) k false h

pub bits_of_suc : (n : ℕ) (s : List ℕ) → bits_of (suc n) s ≡ bits_of n s ++ (bit_at s n ∷ [])
bits_of_suc n s = table_suc n (λ k. bit_at s k)

pub take_bits_of : (m n : ℕ) (s : List ℕ) → m ≤ n → take m (bits_of n s) ≡ bits_of m s
take_bits_of m n s h =
    table_is m (λ k. bit_at s k) false (take m (bits_of n s)) (length-take-le m (bits_of n s) (omega (arith, bits_of_length n s)))
    (λ k l. get_or-take m (bits_of n s) k false l ∙ bits_of_at n s k (omega arith))

pub bit_at_byte : (s : List ℕ) (j i : ℕ) → i < 8 → bit_at s (8 * j + i) ≡ bit (get_or s j 0) (7 - i)
unfolding bit_at
bit_at_byte s j i h =
    let q : (8 * j + i) / 8 ≡ j = omega arith in
    let p : (8 * j + i) % 8 ≡ i = omega arith in
    rw (p, q)

pub bit_at_append : (s t : List ℕ) (k : ℕ) → k < 8 * length s → bit_at (s ++ t) k ≡ bit_at s k
unfolding bit_at
bit_at_append s t k h = rw (get_or-append s t 0 (k / 8) (omega arith))

pub bits_of_append : (n : ℕ) (s t : List ℕ) → n ≤ 8 * length s → bits_of n (s ++ t) ≡ bits_of n s
bits_of_append n s t h = table_ext n (λ k. bit_at (s ++ t) k) (λ k. bit_at s k) (λ k l. bit_at_append s t k (omega arith))

pub bit_at_past : (s : List ℕ) (k : ℕ) → 8 * length s ≤ k → bit_at s k ≡ false
unfolding bit_at
bit_at_past s k h = rw (get_or-eq_default s 0 {n = k / 8} (omega arith)) (bit_none (7 - k % 8))

-- bytes with the same bits are equal
pub eq_bytes : (s t : List ℕ) → length s ≡ length t → ((j : ℕ) → get_or s j 0 < 256) → ((j : ℕ) → get_or t j 0 < 256) → ((k : ℕ) → bit_at s k ≡ bit_at t k) → s ≡ t
eq_bytes s t e f g h = ext_get_or 0 s t e (λ j l. eq_bits 8 (get_or s j 0) (get_or t j 0) (f j) (g j) (λ b m. here j b m))
  where
    here : (j b : ℕ) → b < 8 → bit (get_or s j 0) b ≡ bit (get_or t j 0) b
    here j b m =
        let p : 7 - (7 - b) ≡ b = omega arith in
        rw p at (sym (bit_at_byte s j (7 - b) (omega arith)) ∙ h (8 * j + (7 - b)) ∙ bit_at_byte t j (7 - b) (omega arith))

-- ---- bits packed into bytes

pub packed_nil : packed [] ≡ []
unfolding packed table
packed_nil = refl

pub packed_length : (u : List Bool) → length (packed u) ≡ bytes_for (length u)
unfolding packed
packed_length u = table_length (bytes_for (length u)) (λ j. number 8 (λ k. get_or u (8 * j + k) false))

pub packed_byte : (u : List Bool) (j : ℕ) → j < bytes_for (length u) → get_or (packed u) j 0 ≡ number 8 (λ k. get_or u (8 * j + k) false)
unfolding packed
packed_byte u j h = table_at (bytes_for (length u)) (λ j. number 8 (λ k. get_or u (8 * j + k) false)) j 0 h

pub packed_bytes : (u : List Bool) (j : ℕ) → get_or (packed u) j 0 < 256
packed_bytes u j = tell (dec_lt j (bytes_for (length u)))
  where
    tell : Dec (j < bytes_for (length u)) → get_or (packed u) j 0 < 256
    tell (yes h) = rw (packed_byte u j h) (number_lt 8 (λ k. get_or u (8 * j + k) false))
    tell (no h) = rw (get_or-eq_default (packed u) 0 {n = j} (omega (arith, packed_length u))) (lit< tt)

-- every bit of packed bits: those of the list, and then 0
packed_within : (u : List Bool) (k : ℕ) → k / 8 < bytes_for (length u) → bit_at (packed u) k ≡ get_or u k false
unfolding bit_at
packed_within u k h =
    let e : 8 * (k / 8) + k % 8 ≡ k = omega arith in
    rw (packed_byte u (k / 8) h)
    (number_bit 8 (λ i. get_or u (8 * (k / 8) + i) false) (k % 8) (omega arith) ∙ ap (λ (i : ℕ). get_or u i false) e)

pub packed_bit : (u : List Bool) (k : ℕ) → bit_at (packed u) k ≡ get_or u k false
packed_bit u k = tell (dec_lt (k / 8) (bytes_for (length u)))
  where
    tell : Dec (k / 8 < bytes_for (length u)) → bit_at (packed u) k ≡ get_or u k false
    tell (yes h) = packed_within u k h
    tell (no h) = bit_at_past (packed u) k (omega (arith, packed_length u)) ∙ sym (get_or-eq_default u false {n = k} (omega arith))

pub packed_past : (u : List Bool) (k : ℕ) → length u ≤ k → bit_at (packed u) k ≡ false
packed_past u k h = packed_bit u k ∙ get_or-eq_default u false h

pub bits_of_packed : (u : List Bool) → bits_of (length u) (packed u) ≡ u
bits_of_packed u = sym (table_is (length u) (λ k. bit_at (packed u) k) false u refl (λ k l. sym (packed_bit u k)))

-- bytes are their bits packed, where the bits past the last one are 0
pub packed_bits_of : (n : ℕ) (s : List ℕ) → ((j : ℕ) → get_or s j 0 < 256) → bytes_for n ≡ length s → ((k : ℕ) → n ≤ k → bit_at s k ≡ false) → packed (bits_of n s) ≡ s
packed_bits_of n s f e h =
    eq_bytes (packed (bits_of n s)) s (packed_length (bits_of n s) ∙ ap bytes_for (bits_of_length n s) ∙ e) (packed_bytes (bits_of n s)) f (λ k. packed_bit (bits_of n s) k ∙ tell k (dec_lt k n))
  where
    tell : (k : ℕ) → Dec (k < n) → get_or (bits_of n s) k false ≡ bit_at s k
    tell k (yes l) = bits_of_at n s k l
    tell k (no l) = get_or-eq_default (bits_of n s) false {n = k} (omega (arith, bits_of_length n s)) ∙ sym (h k (omega arith))

-- ---- one bit more

drop_past : (p s : List ℕ) (n m : ℕ) → length p ≡ n → n ≤ m → drop m (p ++ drop n s) ≡ drop m s
drop_past p s n m e h =
    let q : m ≡ length p + (m - n) = omega arith in
    let r : n + (m - n) ≡ m = omega arith in
    ap (λ (i : ℕ). drop i (p ++ drop n s)) q ∙ drop-append-add p (drop n s) (m - n) ∙ drop-drop (m - n) n s ∙ ap (λ (i : ℕ). drop i s) r

module _ (u : List Bool) (s : List ℕ) (x : Bool) (h : length u / 8 < length s) where
  -- a body that holds the bits u, and u with x at its end
  abbrev held : List ℕ
  held = packed u ++ drop (bytes_for (length u)) s

  abbrev more : List Bool
  more = u ++ (x ∷ [])

  more_length : length more ≡ suc (length u)
  more_length = omega (arith, length-append u (x ∷ []))

  more_before : (k : ℕ) → k < length u → get_or more k false ≡ get_or u k false
  more_before k l = get_or-append u (x ∷ []) false k l

  held_length : length held ≡ length s
  held_length = omega (arith, length-append (packed u) (drop (bytes_for (length u)) s), packed_length u, length-drop (bytes_for (length u)) s)

  held_bit : (k : ℕ) → k < length u → bit_at held k ≡ get_or u k false
  held_bit k l = bit_at_append (packed u) (drop (bytes_for (length u)) s) k (omega (arith, packed_length u)) ∙ packed_bit u k

  -- the bytes before the last one
  front : (j : ℕ) → j < length u / 8 → get_or held j 0 ≡ get_or (packed more) j 0
  front j l =
      get_or-append (packed u) (drop (bytes_for (length u)) s) 0 j (omega (arith, packed_length u))
      ∙ packed_byte u j (omega arith)
      ∙ number_ext 8 (λ k. get_or u (8 * j + k) false) (λ k. get_or more (8 * j + k) false) (λ k i. sym (more_before (8 * j + k) (omega arith)))
      ∙ sym (packed_byte more j (omega (arith, more_length)))

  -- the last one, bit by bit
  abbrev last : ℕ
  last = byte_with (get_or held (length u / 8) 0) (length u % 8) x

  last_bit : (i : ℕ) → i < 8 → bit last (7 - i) ≡ get_or more (8 * (length u / 8) + i) false
  last_bit i l = tell (dec_lt i (length u % 8)) (ℕ_discrete i (length u % 8))
    where
      tell : Dec (i < length u % 8) → Dec (i ≡ length u % 8) → bit last (7 - i) ≡ get_or more (8 * (length u / 8) + i) false
      tell (yes g) e =
          byte_above (get_or held (length u / 8) 0) (length u % 8) x (omega arith) i g
          ∙ sym (bit_at_byte held (length u / 8) i l)
          ∙ held_bit (8 * (length u / 8) + i) (omega arith)
          ∙ sym (more_before (8 * (length u / 8) + i) (omega arith))
      tell (no g) (yes e) =
          rw e
          (byte_same (get_or held (length u / 8) 0) (length u % 8) x (omega arith)
          ∙ sym (get_or_at u x [] false (8 * (length u / 8) + length u % 8) (omega arith)))
      tell (no g) (no e) =
          byte_below (get_or held (length u / 8) 0) (length u % 8) x (omega arith) i (omega arith) l
          ∙ sym (get_or-eq_default more false {n = 8 * (length u / 8) + i} (omega (arith, more_length)))

  last_is : last ≡ get_or (packed more) (length u / 8) 0
  last_is =
      eq_bits 8 last (get_or (packed more) (length u / 8) 0)
      (byte_lt (get_or held (length u / 8) 0) (length u % 8) x (omega arith))
      (packed_bytes more (length u / 8))
      (λ b l.
      let p : 7 - (7 - b) ≡ b = omega arith in
      rw p at
      (last_bit (7 - b) (omega arith)
      ∙ sym (packed_bit more (8 * (length u / 8) + (7 - b)))
      ∙ bit_at_byte (packed more) (length u / 8) (7 - b) (omega arith)))

  put_front : take (suc (length u / 8)) (with_bit held (length u) x) ≡ packed more
  put_front =
      ext_get_or 0 (take (suc (length u / 8)) (with_bit held (length u) x)) (packed more)
      (taken ∙ sym (packed_length more ∙ omega (arith, more_length)))
      (λ i l. get_or-take (suc (length u / 8)) (with_bit held (length u) x) i 0 (omega (arith, taken)) ∙ tell i (omega (arith, taken)) (ℕ_discrete i (length u / 8)))
    where
      taken : length (take (suc (length u / 8)) (with_bit held (length u) x)) ≡ suc (length u / 8)
      taken = length-take-le (suc (length u / 8)) (with_bit held (length u) x) (omega (arith, with_length held (length u) x, held_length))

      tell : (i : ℕ) → i ≤ length u / 8 → Dec (i ≡ length u / 8) → get_or (with_bit held (length u) x) i 0 ≡ get_or (packed more) i 0
      tell i l (yes e) = rw e (with_here held (length u) x (omega (arith, held_length)) ∙ last_is)
      tell i l (no e) = with_other held (length u) x i e ∙ front i (omega arith)

  -- a bit put behind packed bits
  pub put_packed : with_bit (packed u ++ drop (bytes_for (length u)) s) (length u) x ≡ packed (u ++ (x ∷ [])) ++ drop (bytes_for (length u + 1)) s
  put_packed =
      let e : bytes_for (length u + 1) ≡ suc (length u / 8) = omega arith in
      rw e
      (sym (take-append-drop (suc (length u / 8)) (with_bit held (length u) x))
      ∙ ap (λ (l : List ℕ). l ++ drop (suc (length u / 8)) (with_bit held (length u) x)) put_front
      ∙ ap (λ (l : List ℕ). packed more ++ l) (with_drop held (length u) x (suc (length u / 8)) (omega arith) ∙ drop_past (packed u) s (bytes_for (length u)) (suc (length u / 8)) (packed_length u) (omega arith)))
