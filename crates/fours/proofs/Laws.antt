-- Laws of four marks as one word, of four choices as a number of four bits, and of the tables' entries.
use Prim.Native.Nat.{ℕ, suc, ◌+◌, ◌*◌, ◌/◌, ◌%◌, ◌^◌, ◌≤◌, ◌<◌, min}
use mathlib.Core.Path.{◌≡◌, refl, sym, ap, ap₂, ◌∙◌, subst}
use mathlib.Core.Bool.{Bool, true, false, not, cond, ◌&&◌, ◌||◌}
use mathlib.Core.List.{List, [], ◌∷◌, ◌++◌}
use native.Mathlib.Nat.{pow-suc, add_assoc, add-mul, mul_assoc, mul_comm}
use native.Mathlib.Decide.{ℕ_discrete}
use native.Mathlib.Omega.{arith}
use borrow.Author.Tests.{ltb-true, le-leb, eq-eqb, ne_eqb, eqb-true}
use lib.Bits.{bit_and, bit_or, bit_xor, and_step, and_shr, xor_shr, xor_add_and, and_block, and_mask, and_le_l, or_lt, xor_lt}
use lib.Dec.{ltb, eqb, lit<, lit≤}
use lib.ListN.{length, get_or, length-append}
use lib.Pow.{pow_mono}
use Rattle.sizes.specs.Tables.{table}
use Rattle.sizes.proofs.Laws.{both_left, both_right}
use Rattle.sizes.proofs.Tables.{table_at}
use Rattle.bits.specs.Bits.{bit, digit}
use Rattle.bits.proofs.Laws.{bit_or_lem, digit_le}
use Rattle.marking.specs.Marking.{put_four}
use Rattle.fours.specs.Words.{word_of, nibble_of, word_at, with_word, low_word, FourBytes, FourLow, which_are, refined_word, spread_of, count_of, key}
use Rattle.fours.specs.Tables.{value_of, entry_of, four, own_bits, code_bits, sent_table, pick_bits, picked_table, in_byte, end4, found_of, minus_of, parsed_entry, parsed_table, in_nibble, placed_of, placed_table, row_table}

-- ---- tests over all cases, computed

pub same_at : {A : Type 0} (n : ℕ) (f g : ℕ → A) → table n f ≡ table n g → (i : ℕ) → i < n → f i ≡ g i
same_at {A} n f g e i h = sym (table_at n f i (f 0) h) ∙ ap (λ (l : List A). get_or l i (f 0)) e ∙ table_at n g i (f 0) h

-- a number of four bits and a byte
pub same_pairs : (f g : ℕ → ℕ → ℕ) → table 16 (λ k. table 256 (λ y. f k y)) ≡ table 16 (λ k. table 256 (λ y. g k y))
    → (k y : ℕ) → k < 16 → y < 256 → f k y ≡ g k y
same_pairs f g e k y hk hy = same_at 256 (f k) (g k) (same_at 16 (λ k. table 256 (λ y. f k y)) (λ k. table 256 (λ y. g k y)) e k hk) y hy

-- four numbers below 4
pub same_fours : (f g : ℕ → ℕ → ℕ → ℕ → ℕ)
    → table 256 (λ e. f (e % 4) (e / 4 % 4) (e / 16 % 4) (e / 64 % 4)) ≡ table 256 (λ e. g (e % 4) (e / 4 % 4) (e / 16 % 4) (e / 64 % 4))
    → (a b c d : ℕ) → a < 4 → b < 4 → c < 4 → d < 4 → f a b c d ≡ g a b c d
same_fours f g t a b c d ha hb hc hd =
    let e : ℕ = a + 4 * (b + 4 * (c + 4 * d)) in
    let p : e % 4 ≡ a = low a (b + 4 * (c + 4 * d)) ha in
    let q : e / 4 % 4 ≡ b = ap (λ (x : ℕ). x % 4) {x = e / 4} {y = b + 4 * (c + 4 * d)} (omega arith) ∙ low b (c + 4 * d) hb in
    let r : e / 16 % 4 ≡ c = ap (λ (x : ℕ). x % 4) {x = e / 16} {y = c + 4 * d} (omega arith) ∙ low c d hc in
    let s : e / 64 % 4 ≡ d = ap (λ (x : ℕ). x % 4) {x = e / 64} {y = d} (omega arith) ∙ omega arith in
    rw (p, q, r, s) at
    (same_at 256 (λ e. f (e % 4) (e / 4 % 4) (e / 16 % 4) (e / 64 % 4)) (λ e. g (e % 4) (e / 4 % 4) (e / 16 % 4) (e / 64 % 4)) t e (omega arith))
  where
    low : (x y : ℕ) → x < 4 → (x + 4 * y) % 4 ≡ x
    low x y h = omega arith

-- ---- the bytes of a word

word_bytes : (w : ℕ) → w ≡ word_of (w % 256) (w / 256 % 256) (w / 65536 % 256) (w / 16777216)
word_bytes w = omega arith

pub and_word : (w p q r s : ℕ) → p < 256 → q < 256 → r < 256
    → bit_and w (word_of p q r s) ≡ word_of (bit_and (w % 256) p) (bit_and (w / 256 % 256) q) (bit_and (w / 65536 % 256) r) (bit_and (w / 16777216) s)
and_word w p q r s hp hq hr =
    let a : ℕ = w % 256 in
    let b : ℕ = w / 256 % 256 in
    let c : ℕ = w / 65536 % 256 in
    let d : ℕ = w / 16777216 in
    let l : w ≡ ((d * 256 + c) * 256 + b) * 256 + a = omega arith in
    let m : word_of p q r s ≡ ((s * 256 + r) * 256 + q) * 256 + p = omega arith in
    ap₂ bit_and l m
    ∙ and_block 8 ((d * 256 + c) * 256 + b) ((s * 256 + r) * 256 + q) a p (omega arith) hp
    ∙ omega (
      arith,
      and_block 8 (d * 256 + c) (s * 256 + r) b q (omega arith) hq,
      and_block 8 d s c r (omega arith) hr,
    )

-- the two low bits of each
pub and_threes : (w : ℕ) → bit_and w 50529027 ≡ word_of (w % 4) (w / 256 % 4) (w / 65536 % 4) (w / 16777216 % 4)
and_threes w =
    and_word w 3 3 3 3 (lit< tt) (lit< tt) (lit< tt)
    ∙ rw (and_three w, and_three (w / 256), and_three (w / 65536), and_mask (w / 16777216) 2) refl
  where
    and_three : (n : ℕ) → bit_and (n % 256) 3 ≡ n % 4
    and_three n = and_mask (n % 256) 2 ∙ omega arith

-- a byte has nothing under n just where it is below MCP: each byte is tried
abbrev pub UnderLow : ℕ → Type 0
UnderLow n = table 256 (λ b. eqb (bit_and b n) 0) ≡ table 256 (λ b. ltb b 4)

none_0 : (a b c d : ℕ) → eqb (word_of a b c d) 0 ≡ (eqb a 0 && (eqb b 0 && (eqb c 0 && eqb d 0)))
none_0 a b c d = tell (ℕ_discrete a 0) (ℕ_discrete b 0) (ℕ_discrete c 0) (ℕ_discrete d 0)
  where
    tell : Dec (a ≡ 0) → Dec (b ≡ 0) → Dec (c ≡ 0) → Dec (d ≡ 0) → eqb (word_of a b c d) 0 ≡ (eqb a 0 && (eqb b 0 && (eqb c 0 && eqb d 0)))
    tell (yes e) (yes f) (yes g) (yes k) = rw (eq-eqb a 0 e, eq-eqb b 0 f, eq-eqb c 0 g, eq-eqb d 0 k) (eq-eqb (word_of a b c d) 0 (omega arith))
    tell (yes e) (yes f) (yes g) (no k) = rw (eq-eqb a 0 e, eq-eqb b 0 f, eq-eqb c 0 g, ne_eqb d 0 k) (ne_eqb (word_of a b c d) 0 (λ z. k (omega arith)))
    tell (yes e) (yes f) (no g) k = rw (eq-eqb a 0 e, eq-eqb b 0 f, ne_eqb c 0 g) (ne_eqb (word_of a b c d) 0 (λ z. g (omega arith)))
    tell (yes e) (no f) g k = rw (eq-eqb a 0 e, ne_eqb b 0 f) (ne_eqb (word_of a b c d) 0 (λ z. f (omega arith)))
    tell (no e) f g k = rw (ne_eqb a 0 e) (ne_eqb (word_of a b c d) 0 (λ z. e (omega arith)))

-- a word has nothing under a mask of such bytes just where each mark is below MCP
pub low_is : (m w : ℕ) → w < 4294967296 → UnderLow (m % 256) → UnderLow (m / 256 % 256) → UnderLow (m / 65536 % 256) → UnderLow (m / 16777216)
    → eqb (bit_and w m) 0 ≡ low_word w
unfolding low_word
low_is m w h p q r s =
    ap (λ (x : ℕ). eqb x 0) (ap (bit_and w) (word_bytes m) ∙ and_word w (m % 256) (m / 256 % 256) (m / 65536 % 256) (m / 16777216) (omega arith) (omega arith) (omega arith))
    ∙ none_0 (bit_and (w % 256) (m % 256)) (bit_and (w / 256 % 256) (m / 256 % 256)) (bit_and (w / 65536 % 256) (m / 65536 % 256)) (bit_and (w / 16777216) (m / 16777216))
    ∙ rw (under (m % 256) p (w % 256) (omega arith), under (m / 256 % 256) q (w / 256 % 256) (omega arith), under (m / 65536 % 256) r (w / 65536 % 256) (omega arith), under (m / 16777216) s (w / 16777216) (omega arith)) refl
  where
    under : (n : ℕ) → UnderLow n → (b : ℕ) → b < 256 → eqb (bit_and b n) 0 ≡ ltb b 4
    under n e b l = same_at 256 (λ b. eqb (bit_and b n) 0) (λ b. ltb b 4) e b l

-- ---- four choices

-- a bit is the digit
of_digit : (n j : ℕ) (x : Bool) → n / 2 ^ j % 2 ≡ digit x → bit n j ≡ x
unfolding bit
of_digit n j true e = eq-eqb (n / 2 ^ j % 2) 1 e
of_digit n j false e = ne_eqb (n / 2 ^ j % 2) 1 (λ o. omega (arith, e, o))

module _ (x y z t : Bool) where
  pub nibble_lt : nibble_of x y z t < 16
  nibble_lt = omega (arith, digit_le x, digit_le y, digit_le z, digit_le t)

  nibble_digits : (nibble_of x y z t % 2 ≡ digit x) × (nibble_of x y z t / 2 % 2 ≡ digit y) × (nibble_of x y z t / 4 % 2 ≡ digit z) × (nibble_of x y z t / 8 % 2 ≡ digit t)
  nibble_digits =
      let a = digit_le x in
      let b = digit_le y in
      let c = digit_le z in
      let d = digit_le t in
      (omega (arith, a, b, c, d), omega (arith, a, b, c, d), omega (arith, a, b, c, d), omega (arith, a, b, c, d))

  pub nibble_0 : bit (nibble_of x y z t) 0 ≡ x
  nibble_0 = of_digit (nibble_of x y z t) 0 x (omega (arith, nibble_digits.0))

  pub nibble_1 : bit (nibble_of x y z t) 1 ≡ y
  nibble_1 = of_digit (nibble_of x y z t) 1 y nibble_digits.1

  pub nibble_2 : bit (nibble_of x y z t) 2 ≡ z
  nibble_2 = of_digit (nibble_of x y z t) 2 z nibble_digits.2

  pub nibble_3 : bit (nibble_of x y z t) 3 ≡ t
  nibble_3 = of_digit (nibble_of x y z t) 3 t nibble_digits.3

  pub spread_nibble : spread_of (nibble_of x y z t) ≡ word_of (digit x) (digit y) (digit z) (digit t)
  spread_nibble = rw (nibble_digits.0, nibble_digits.1, nibble_digits.2, nibble_digits.3) refl

  pub count_nibble : count_of (nibble_of x y z t) ≡ digit x + digit y + digit z + digit t
  count_nibble = rw (nibble_digits.0, nibble_digits.1, nibble_digits.2, nibble_digits.3) refl

-- none of four is chosen
pub none_of : (x y z t : Bool) → nibble_of x y z t ≡ 0 → (x ≡ false) × (y ≡ false) × (z ≡ false) × (t ≡ false)
none_of false false false false e = (refl, refl, refl, refl)
none_of true y z t e = absurd (omega arith)
none_of false true z t e = absurd (omega arith)
none_of false false true t e = absurd (omega arith)
none_of false false false true e = absurd (omega arith)

pub same_choices : {A : Type 0} (f g : Bool → Bool → Bool → Bool → A)
    → table 16 (λ e. f (bit e 0) (bit e 1) (bit e 2) (bit e 3)) ≡ table 16 (λ e. g (bit e 0) (bit e 1) (bit e 2) (bit e 3))
    → (x y z t : Bool) → f x y z t ≡ g x y z t
same_choices f g e x y z t =
    rw (nibble_0 x y z t, nibble_1 x y z t, nibble_2 x y z t, nibble_3 x y z t) at
    (same_at 16 (λ e. f (bit e 0) (bit e 1) (bit e 2) (bit e 3)) (λ e. g (bit e 0) (bit e 1) (bit e 2) (bit e 3)) e (nibble_of x y z t) (nibble_lt x y z t))

-- only the four low bits count
low_digits : (a : ℕ) → (a % 16 % 2 ≡ a % 2) × (a % 16 / 2 % 2 ≡ a / 2 % 2) × (a % 16 / 4 % 2 ≡ a / 4 % 2) × (a % 16 / 8 % 2 ≡ a / 8 % 2)
low_digits a = (omega arith, omega arith, omega arith, omega arith)

pub spread_low : (a : ℕ) → spread_of (a % 16) ≡ spread_of a
spread_low a = rw ((low_digits a).0, (low_digits a).1, (low_digits a).2, (low_digits a).3) refl

pub count_low : (k : ℕ) → count_of (k % 16) ≡ count_of k
count_low k = rw ((low_digits k).0, (low_digits k).1, (low_digits k).2, (low_digits k).3) refl

-- a mark that becomes one more stays a byte
pub refined_lt : (w : ℕ) → w < 4294967296 → refined_word w < 4294967296
refined_lt w h =
    subst (λ (v : ℕ). v + word_of (digit (eqb (w % 4) 2)) (digit (eqb (w / 256 % 4) 2)) (digit (eqb (w / 65536 % 4) 2)) (digit (eqb (w / 16777216 % 4) 2)) < 4294967296) (sym (word_bytes w))
    (sum_lt (w % 256) (w / 256 % 256) (w / 65536 % 256) (w / 16777216) (digit (eqb (w % 4) 2)) (digit (eqb (w / 256 % 4) 2)) (digit (eqb (w / 65536 % 4) 2)) (digit (eqb (w / 16777216 % 4) 2))
    (byte w (eqb (w % 4) 2) refl)
    (byte (w / 256) (eqb (w / 256 % 4) 2) refl)
    (byte (w / 65536) (eqb (w / 65536 % 4) 2) refl)
    (rw (last w h) at (byte (w / 16777216) (eqb (w / 16777216 % 4) 2) refl)))
  where
    last : (n : ℕ) → n < 4294967296 → n / 16777216 % 256 ≡ n / 16777216
    last n l = omega arith

    sum_lt : (a b c d p q r s : ℕ) → a + p < 256 → b + q < 256 → c + r < 256 → d + s < 256 → word_of a b c d + word_of p q r s < 4294967296
    sum_lt a b c d p q r s ha hb hc hd = omega arith

    byte : (n : ℕ) (t : Bool) → eqb (n % 4) 2 ≡ t → n % 256 + digit t < 256
    byte n true e = omega (arith, eqb-true (n % 4) 2 e)
    byte n false e = omega arith

-- ---- words of a table

-- the bytes of a word made of bytes
module _ (a b c d : ℕ) (ha : a < 256) (hb : b < 256) (hc : c < 256) where
  pub byte_0 : word_of a b c d % 256 ≡ a
  byte_0 = omega arith

  above_1 : word_of a b c d / 256 ≡ b + 256 * (c + 256 * d)
  above_1 = omega arith

  pub byte_1 : word_of a b c d / 256 % 256 ≡ b
  byte_1 = rw above_1 (omega arith)

  above_2 : word_of a b c d / 65536 ≡ c + 256 * d
  above_2 = omega arith

  pub byte_2 : word_of a b c d / 65536 % 256 ≡ c
  byte_2 = rw above_2 (omega arith)

  pub byte_3 : word_of a b c d / 16777216 ≡ d
  byte_3 = omega arith

pub word_is : (m : List ℕ) (i : ℕ) → i + 4 ≤ length m → word_at m i ≡ word_of (get_or m i 0) (get_or m (i + 1) 0) (get_or m (i + 2) 0) (get_or m (i + 3) 0)
unfolding word_at
word_is m i h = rw (le-leb (i + 4) (length m) h) refl

low_parts : (a b c d : ℕ) → a < 256 → b < 256 → c < 256 → low_word (word_of a b c d) ≡ true → (a < 4) × (b < 4) × (c < 4) × (d < 4)
unfolding low_word
low_parts a b c d ha hb hc e =
    let e0 = rw (byte_0 a b c d ha hb hc, byte_1 a b c d ha hb hc, byte_2 a b c d ha hb hc, byte_3 a b c d ha hb hc) at e in
    let e1 = both_right (ltb a 4) _ e0 in
    let e2 = both_right (ltb b 4) _ e1 in (
      ltb-true a 4 (both_left (ltb a 4) _ e0),
      ltb-true b 4 (both_left (ltb b 4) _ e1),
      ltb-true c 4 (both_left (ltb c 4) _ e2),
      ltb-true d 4 (both_right (ltb c 4) _ e2),
    )

pub low_marks : (m : List ℕ) (i : ℕ) → i + 4 ≤ length m → FourBytes m i → low_word (word_at m i) ≡ true → FourLow m i
low_marks m i h f e =
    let p = low_parts (get_or m i 0) (get_or m (i + 1) 0) (get_or m (i + 2) 0) (get_or m (i + 3) 0) f.first f.second f.third (rw (word_is m i h) at e) in
    record { first = p.0; second = p.1; third = p.2; fourth = p.3 }

-- four marks below MCP and four bits as bytes are a number of 32 bits
pub low_fits : (m : List ℕ) (i : ℕ) → i + 4 ≤ length m → FourLow m i → (a : ℕ) → word_at m i + spread_of a < 4294967296
low_fits m i h f a = omega (arith, word_is m i h, f.first, f.second, f.third, f.fourth)

-- the two low bits of four marks below MCP are all of them
module _ (a b c d : ℕ) (ha : a < 4) (hb : b < 4) (hc : c < 4) (hd : d < 4) where
  low_0 : word_of a b c d % 4 ≡ a
  low_0 = omega arith

  low_1 : word_of a b c d / 256 % 4 ≡ b
  low_1 = rw (above_1 a b c d (omega arith) (omega arith) (omega arith)) (omega arith)

  low_2 : word_of a b c d / 65536 % 4 ≡ c
  low_2 = rw (above_2 a b c d (omega arith) (omega arith) (omega arith)) (omega arith)

  low_3 : word_of a b c d / 16777216 % 4 ≡ d
  low_3 = rw (byte_3 a b c d (omega arith) (omega arith) (omega arith)) (omega arith)

  which_word : (v : ℕ) → which_are v (word_of a b c d) ≡ nibble_of (eqb a v) (eqb b v) (eqb c v) (eqb d v)
  which_word v = rw (low_0, low_1, low_2, low_3) refl

  next_word : refined_word (word_of a b c d) ≡ word_of (cond (eqb a 2) 3 a) (cond (eqb b 2) 3 b) (cond (eqb c 2) 3 c) (cond (eqb d 2) 3 d)
  next_word = rw (low_0, low_1, low_2, low_3) (omega (arith, next a (eqb a 2) refl, next b (eqb b 2) refl, next c (eqb c 2) refl, next d (eqb d 2) refl))
    where
      next : (v : ℕ) (t : Bool) → eqb v 2 ≡ t → v + digit t ≡ cond t 3 v
      next v true e = omega (arith, eqb-true v 2 e)
      next v false e = omega arith

pub which_lt : (v w k : ℕ) → k ≡ which_are v w → k < 16
which_lt v w k e = omega (arith, e, nibble_lt (eqb (w % 4) v) (eqb (w / 256 % 4) v) (eqb (w / 65536 % 4) v) (eqb (w / 16777216 % 4) v))

pub which_are_lem : (m : List ℕ) (i v : ℕ) → i + 4 ≤ length m → FourLow m i
    → which_are v (word_at m i) ≡ nibble_of (eqb (get_or m i 0) v) (eqb (get_or m (i + 1) 0) v) (eqb (get_or m (i + 2) 0) v) (eqb (get_or m (i + 3) 0) v)
which_are_lem m i v h f =
    ap (which_are v) (word_is m i h)
    ∙ which_word (get_or m i 0) (get_or m (i + 1) 0) (get_or m (i + 2) 0) (get_or m (i + 3) 0) f.first f.second f.third f.fourth v

pub with_word_lem : (m : List ℕ) (i a b c d : ℕ) → i + 4 ≤ length m → a < 256 → b < 256 → c < 256 → d < 256 → with_word m i (word_of a b c d) ≡ put_four m i a b c d
unfolding with_word
with_word_lem m i a b c d h ha hb hc hd =
    rw (le-leb (i + 4) (length m) h, byte_0 a b c d ha hb hc, byte_1 a b c d ha hb hc, byte_2 a b c d ha hb hc, byte_3 a b c d ha hb hc) refl

pub refined_word_lem : (m : List ℕ) (i : ℕ) → i + 4 ≤ length m → FourLow m i
    → with_word m i (refined_word (word_at m i)) ≡ put_four m i (cond (eqb (get_or m i 0) 2) 3 (get_or m i 0)) (cond (eqb (get_or m (i + 1) 0) 2) 3 (get_or m (i + 1) 0)) (cond (eqb (get_or m (i + 2) 0) 2) 3 (get_or m (i + 2) 0)) (cond (eqb (get_or m (i + 3) 0) 2) 3 (get_or m (i + 3) 0))
refined_word_lem m i h f =
    let a = get_or m i 0 in
    let b = get_or m (i + 1) 0 in
    let c = get_or m (i + 2) 0 in
    let d = get_or m (i + 3) 0 in
    ap (λ (w : ℕ). with_word m i (refined_word w)) (word_is m i h)
    ∙ ap (with_word m i) (next_word a b c d f.first f.second f.third f.fourth)
    ∙ with_word_lem m i (cond (eqb a 2) 3 a) (cond (eqb b 2) 3 b) (cond (eqb c 2) 3 c) (cond (eqb d 2) 3 d) h (next_lt a (eqb a 2) f.first) (next_lt b (eqb b 2) f.second) (next_lt c (eqb c 2) f.third) (next_lt d (eqb d 2) f.fourth)
  where
    next_lt : (v : ℕ) (t : Bool) → v < 4 → cond t 3 v < 256
    next_lt v true l = lit< tt
    next_lt v false l = omega arith

-- words add place by place
sum_word : (a b c d p q r s : ℕ) → word_of a b c d + word_of p q r s ≡ word_of (a + p) (b + q) (c + r) (d + s)
sum_word a b c d p q r s = omega arith

pub found_word : (m : List ℕ) (i : ℕ) (x y z t : Bool) → i + 4 ≤ length m → FourLow m i
    → with_word m i (word_at m i + spread_of (nibble_of x y z t)) ≡ put_four m i (get_or m i 0 + digit x) (get_or m (i + 1) 0 + digit y) (get_or m (i + 2) 0 + digit z) (get_or m (i + 3) 0 + digit t)
found_word m i x y z t h f =
    let a = get_or m i 0 in
    let b = get_or m (i + 1) 0 in
    let c = get_or m (i + 2) 0 in
    let d = get_or m (i + 3) 0 in
    ap₂ (λ (w s : ℕ). with_word m i (w + s)) (word_is m i h) (spread_nibble x y z t)
    ∙ ap (with_word m i) (sum_word a b c d (digit x) (digit y) (digit z) (digit t))
    ∙ with_word_lem m i (a + digit x) (b + digit y) (c + digit z) (d + digit t) h (one_more a x f.first) (one_more b y f.second) (one_more c z f.third) (one_more d t f.fourth)
  where
    one_more : (v : ℕ) (x : Bool) → v < 4 → v + digit x < 256
    one_more v x l = omega (arith, digit_le x)

pub child_word : (m : List ℕ) (i : ℕ) (x y z t : Bool) → i + 4 ≤ length m
    → with_word m i (16843009 + spread_of (nibble_of x y z t)) ≡ put_four m i (1 + digit x) (1 + digit y) (1 + digit z) (1 + digit t)
child_word m i x y z t h =
    ap (λ (s : ℕ). with_word m i (16843009 + s)) (spread_nibble x y z t)
    ∙ ap (with_word m i) (sum_word 1 1 1 1 (digit x) (digit y) (digit z) (digit t))
    ∙ with_word_lem m i (1 + digit x) (1 + digit y) (1 + digit z) (1 + digit t) h (one_more x) (one_more y) (one_more z) (one_more t)
  where
    one_more : (x : Bool) → 1 + digit x < 256
    one_more x = omega (arith, digit_le x)

pub same_word : (m : List ℕ) (i : ℕ) → i + 4 ≤ length m → FourBytes m i → word_at m i ≡ 16843009
    → (get_or m i 0 ≡ 1) × (get_or m (i + 1) 0 ≡ 1) × (get_or m (i + 2) 0 ≡ 1) × (get_or m (i + 3) 0 ≡ 1)
same_word m i h f e =
    let a = get_or m i 0 in
    let b = get_or m (i + 1) 0 in
    let c = get_or m (i + 2) 0 in
    let d = get_or m (i + 3) 0 in
    let s : word_of a b c d ≡ 16843009 = sym (word_is m i h) ∙ e in (
      sym (byte_0 a b c d f.first f.second f.third) ∙ ap (λ (w : ℕ). w % 256) s,
      sym (byte_1 a b c d f.first f.second f.third) ∙ ap (λ (w : ℕ). w / 256 % 256) s,
      sym (byte_2 a b c d f.first f.second f.third) ∙ ap (λ (w : ℕ). w / 65536 % 256) s,
      sym (byte_3 a b c d f.first f.second f.third) ∙ ap (λ (w : ℕ). w / 16777216) s,
    )

-- ---- bits as an entry

-- (a 2 + d) n, and a (n 2) + d n
step_value : (a d n v : ℕ) → (a * 2 + d) * n + v ≡ a * (n * 2) + (d * n + v)
step_value a d n v =
    let e : a * 2 * n ≡ a * (n * 2) = mul_assoc a 2 n ∙ ap (λ (y : ℕ). a * y) (mul_comm 2 n) in
    ap (λ (y : ℕ). y + v) (add-mul (a * 2) d n ∙ ap (λ (y : ℕ). y + d * n) e) ∙ add_assoc (a * (n * 2)) (d * n) v

pub value_after : (a : ℕ) (u : List Bool) → value_of a u ≡ a * 2 ^ length u + value_of 0 u
unfolding value_of
value_after a [] = omega arith
value_after a (x ∷ u) =
    let e : 0 * 2 + digit x ≡ digit x = omega arith in
    value_after (a * 2 + digit x) u
    ∙ step_value a (digit x) (2 ^ length u) (value_of 0 u)
    ∙ ap₂ (λ (p q : ℕ). a * p + q) (sym (pow-suc 2 (length u))) (sym (value_after (0 * 2 + digit x) u ∙ ap (λ (y : ℕ). y * 2 ^ length u + value_of 0 u) e))

pub value_lt : (u : List Bool) → value_of 0 u < 2 ^ length u
unfolding value_of
value_lt [] = lit< tt
value_lt (x ∷ u) = rw (value_after (0 * 2 + digit x) u) (tell x (value_lt u))
  where
    tell : (x : Bool) → value_of 0 u < 2 ^ length u → (0 * 2 + digit x) * 2 ^ length u + value_of 0 u < 2 ^ suc (length u)
    tell true h = omega (arith, h, pow-suc 2 (length u))
    tell false h = omega (arith, h, pow-suc 2 (length u))

pub entry_parts : (u : List Bool) → length u ≤ 8 → (entry_of u / 256 ≡ length u) × (entry_of u % 256 ≡ value_of 0 u)
entry_parts u h =
    let l : value_of 0 u < 256 = omega (arith, value_lt u, pow_mono {i = length u} {j = 8} h) in
    ((parts (length u) (value_of 0 u) l).0, (parts (length u) (value_of 0 u) l).1)
  where
    parts : (n v : ℕ) → v < 256 → ((256 * n + v) / 256 ≡ n) × ((256 * n + v) % 256 ≡ v)
    parts n v l = (omega arith, omega arith)

-- a list for each of four places
four_length : (f : ℕ → List Bool) (n : ℕ) → ((j : ℕ) → length (f j) ≤ n) → length (four f) ≤ 4 * n
four_length f n h =
    omega (arith, length-append (f 0) (f 1 ++ (f 2 ++ f 3)), length-append (f 1) (f 2 ++ f 3), length-append (f 2) (f 3), h 0, h 1, h 2, h 3)

four_same : (f g : ℕ → List Bool) → ((j : ℕ) → f j ≡ g j) → four f ≡ four g
four_same f g h = rw (h 0, h 1, h 2, h 3) refl

pub own_length : (k x s : ℕ → Bool) → length (four (λ j. own_bits (k j) (x j) (s j))) ≤ 8
own_length k x s = four_length (λ j. own_bits (k j) (x j) (s j)) 2 (λ j. one (k j) (x j) (s j))
  where
    one : (k x s : Bool) → length (own_bits k x s) ≤ 2
    one true true s = lit≤ tt
    one true false s = lit≤ tt
    one false x s = lit≤ tt

pub pick_length : (k x : ℕ → Bool) → length (four (λ j. pick_bits (k j) (x j))) ≤ 4
pick_length k x = four_length (λ j. pick_bits (k j) (x j)) 1 (λ j. one (k j) (x j))
  where
    one : (k x : Bool) → length (pick_bits k x) ≤ 1
    one true x = lit≤ tt
    one false x = lit≤ tt

-- ---- bits of an AND and of an XOR

and_low : (p q : ℕ) → eqb (bit_and p q % 2) 1 ≡ (eqb (p % 2) 1 && eqb (q % 2) 1)
and_low p q = tell (ℕ_discrete (p % 2) 1) (ℕ_discrete (q % 2) 1)
  where
    both : bit_and p q % 2 ≡ min (p % 2) (q % 2)
    both = omega (arith, and_step p q)

    tell : Dec (p % 2 ≡ 1) → Dec (q % 2 ≡ 1) → eqb (bit_and p q % 2) 1 ≡ (eqb (p % 2) 1 && eqb (q % 2) 1)
    tell (yes e) (yes f) = rw (eq-eqb (p % 2) 1 e, eq-eqb (q % 2) 1 f) (eq-eqb (bit_and p q % 2) 1 (omega (arith, both)))
    tell (yes e) (no f) = rw (eq-eqb (p % 2) 1 e, ne_eqb (q % 2) 1 f) (ne_eqb (bit_and p q % 2) 1 (λ o. omega (arith, both)))
    tell (no e) f = rw (ne_eqb (p % 2) 1 e) (ne_eqb (bit_and p q % 2) 1 (λ o. omega (arith, both)))

pub and_bit : (k x j : ℕ) → bit (bit_and k x) j ≡ (bit k j && bit x j)
unfolding bit
and_bit k x j = rw (and_shr k x j) (and_low (k / 2 ^ j) (x / 2 ^ j))

xor_low : (p q : ℕ) → eqb (bit_xor p q % 2) 1 ≡ cond (eqb (p % 2) 1) (not (eqb (q % 2) 1)) (eqb (q % 2) 1)
xor_low p q = tell (ℕ_discrete (p % 2) 1) (ℕ_discrete (q % 2) 1)
  where
    tell : Dec (p % 2 ≡ 1) → Dec (q % 2 ≡ 1) → eqb (bit_xor p q % 2) 1 ≡ cond (eqb (p % 2) 1) (not (eqb (q % 2) 1)) (eqb (q % 2) 1)
    tell (yes e) (yes f) = rw (eq-eqb (p % 2) 1 e, eq-eqb (q % 2) 1 f) (ne_eqb (bit_xor p q % 2) 1 (λ o. omega (arith, xor_add_and p q)))
    tell (yes e) (no f) = rw (eq-eqb (p % 2) 1 e, ne_eqb (q % 2) 1 f) (eq-eqb (bit_xor p q % 2) 1 (omega (arith, xor_add_and p q)))
    tell (no e) (yes f) = rw (ne_eqb (p % 2) 1 e, eq-eqb (q % 2) 1 f) (eq-eqb (bit_xor p q % 2) 1 (omega (arith, xor_add_and p q)))
    tell (no e) (no f) = rw (ne_eqb (p % 2) 1 e, ne_eqb (q % 2) 1 f) (ne_eqb (bit_xor p q % 2) 1 (λ o. omega (arith, xor_add_and p q)))

pub xor_bit : (k x j : ℕ) → bit (bit_xor k x) j ≡ cond (bit k j) (not (bit x j)) (bit x j)
unfolding bit
xor_bit k x j = rw (xor_shr k x j) (xor_low (k / 2 ^ j) (x / 2 ^ j))

-- ---- entries of the tables

module _ (k x s : ℕ) (hk : k < 16) (hx : x < 16) (hs : s < 16) where
  found_lt : bit_and k x < 16
  found_lt = omega (arith, and_le_l k x)

  abbrev others : ℕ
  others = bit_or (bit_xor k (bit_and k x)) (bit_and (bit_and k x) s)

  others_lt : others < 16
  others_lt = or_lt 4 (bit_xor k (bit_and k x)) (bit_and (bit_and k x) s) (xor_lt 4 k (bit_and k x) hk found_lt) (omega (arith, and_le_l (bit_and k x) s, found_lt))

  pub key_lt : key k x s < 256
  key_lt = omega (arith, found_lt, others_lt)

  pub key_found : key k x s / 16 ≡ bit_and k x
  key_found = omega (arith, others_lt)

  key_others : key k x s % 16 ≡ others
  key_others = omega (arith, others_lt)

  key_bits : (j : ℕ) → code_bits (bit (key k x s / 16) j) (bit (key k x s % 16) j) ≡ own_bits (bit k j) (bit x j) (bit s j)
  key_bits j =
      rw (key_found, key_others, bit_or_lem (bit_xor k (bit_and k x)) (bit_and (bit_and k x) s) j, xor_bit k (bit_and k x) j, and_bit (bit_and k x) s j, and_bit k x j)
      (tell (bit k j) (bit x j) (bit s j))
    where
      tell : (k x s : Bool) → code_bits (k && x) (cond k (not (k && x)) (k && x) || ((k && x) && s)) ≡ own_bits k x s
      tell true true true = refl
      tell true true false = refl
      tell true false s = refl
      tell false x s = refl

pub sent_entry : (t : List ℕ) (k x s : ℕ) → t ≡ sent_table → k < 16 → x < 16 → s < 16
    → get_or t (key k x s) 0 ≡ entry_of (four (λ j. own_bits (bit k j) (bit x j) (bit s j)))
unfolding sent_table
sent_entry t k x s e hk hx hs =
    ap (λ (l : List ℕ). get_or l (key k x s) 0) e
    ∙ table_at 256 (λ e. entry_of (four (λ j. code_bits (bit (e / 16) j) (bit (e % 16) j)))) (key k x s) 0 (key_lt k x s hk hx hs)
    ∙ ap entry_of (four_same (λ j. code_bits (bit (key k x s / 16) j) (bit (key k x s % 16) j)) (λ j. own_bits (bit k j) (bit x j) (bit s j)) (key_bits k x s hk hx hs))

-- an index of two numbers of four bits
two_lt : (k x : ℕ) → k < 16 → x < 16 → 16 * k + x < 256
two_lt k x hk hx = omega arith

two_high : (k x : ℕ) → x < 16 → (16 * k + x) / 16 ≡ k
two_high k x hx = omega arith

two_low : (k x : ℕ) → x < 16 → (16 * k + x) % 16 ≡ x
two_low k x hx = omega arith

pub picked_entry : (t : List ℕ) (k x : ℕ) → t ≡ picked_table → k < 16 → x < 16 → get_or t (16 * k + x) 0 ≡ entry_of (four (λ j. pick_bits (bit k j) (bit x j)))
unfolding picked_table
picked_entry t k x e hk hx =
    ap (λ (l : List ℕ). get_or l (16 * k + x) 0) e
    ∙ table_at 256 (λ e. entry_of (four (λ j. pick_bits (bit (e / 16) j) (bit (e % 16) j)))) (16 * k + x) 0 (two_lt k x hk hx)
    ∙ ap₂ (λ (p q : ℕ). entry_of (four (λ j. pick_bits (bit p j) (bit q j)))) (two_high k x hx) (two_low k x hx)

pub placed_entry : (t : List ℕ) (k y : ℕ) → t ≡ placed_table → k < 16 → y < 16 → get_or t (16 * k + y) 0 ≡ placed_of (bit k) (in_nibble y)
unfolding placed_table
placed_entry t k y e hk hy =
    ap (λ (l : List ℕ). get_or l (16 * k + y) 0) e
    ∙ table_at 256 (λ e. placed_of (bit (e / 16)) (in_nibble (e % 16))) (16 * k + y) 0 (two_lt k y hk hy)
    ∙ ap₂ (λ (p q : ℕ). placed_of (bit p) (in_nibble q)) (two_high k y hy) (two_low k y hy)

pub row_entry : (t : List ℕ) (a j : ℕ) → t ≡ row_table → a < 16 → j < 4 → get_or t (4 * a + j) 0 ≡ cond (bit a j) 4294967295 0
unfolding row_table
row_entry t a j e ha hj =
    ap (λ (l : List ℕ). get_or l (4 * a + j) 0) e
    ∙ table_at 64 (λ e. cond (bit (e / 4) (e % 4)) 4294967295 0) (4 * a + j) 0 (omega arith)
    ∙ ap₂ (λ (p q : ℕ). cond (bit p q) 4294967295 0) (high a j hj) (low a j hj)
  where
    high : (a j : ℕ) → j < 4 → (4 * a + j) / 4 ≡ a
    high a j h = omega arith

    low : (a j : ℕ) → j < 4 → (4 * a + j) % 4 ≡ j
    low a j h = omega arith

pub parsed_entry_lem : (t : List ℕ) (y : ℕ) → t ≡ parsed_table → y < 256 → get_or t y 0 ≡ parsed_entry (in_byte y)
unfolding parsed_table
parsed_entry_lem t y e h = ap (λ (l : List ℕ). get_or l y 0) e ∙ table_at 256 (λ y. parsed_entry (in_byte y)) y 0 h

below_all : table 256 (λ y. ltb (parsed_entry (in_byte y)) 268435456) ≡ table 256 (λ y. true)
unfolding table bit
below_all = refl

pub parsed_below : (t : List ℕ) (y : ℕ) → t ≡ parsed_table → y < 256 → get_or t y 0 < 268435456
parsed_below t y e h =
    rw (parsed_entry_lem t y e h)
    (ltb-true (parsed_entry (in_byte y)) 268435456 (same_at 256 (λ y. ltb (parsed_entry (in_byte y)) 268435456) (λ y. true) below_all y h))

-- what the codes are and where they are placed is what the coefficients of k hear, for each of them and each byte
found_all : table 16 (λ k. table 256 (λ y. placed_of (bit k) (in_nibble (parsed_entry (in_byte y) / 1048576 % 16)))) ≡ table 16 (λ k. table 256 (λ y. found_of (bit k) (in_byte y)))
unfolding table bit
found_all = refl

minus_all : table 16 (λ k. table 256 (λ y. placed_of (bit k) (in_nibble (parsed_entry (in_byte y) / 16777216)))) ≡ table 16 (λ k. table 256 (λ y. minus_of (bit k) (in_byte y)))
unfolding table bit
minus_all = refl

end_all : table 16 (λ k. table 256 (λ y. parsed_entry (in_byte y) / 2 ^ (4 * count_of k) % 16)) ≡ table 16 (λ k. table 256 (λ y. end4 (bit k) (in_byte y)))
unfolding table bit
end_all = refl

pub heard : (p q : List ℕ) (k y : ℕ) → p ≡ parsed_table → q ≡ placed_table → k < 16 → y < 256
    → (get_or q (16 * k + get_or p y 0 / 1048576 % 16) 0 ≡ found_of (bit k) (in_byte y))
    × (get_or q (16 * k + get_or p y 0 / 16777216) 0 ≡ minus_of (bit k) (in_byte y))
    × (get_or p y 0 / 2 ^ (4 * count_of k) % 16 ≡ end4 (bit k) (in_byte y))
heard p q k y ep eq hk hy = (
  placed_entry q k (get_or p y 0 / 1048576 % 16) eq hk (omega arith)
      ∙ ap (λ (v : ℕ). placed_of (bit k) (in_nibble (v / 1048576 % 16))) (parsed_entry_lem p y ep hy)
      ∙ same_pairs (λ k y. placed_of (bit k) (in_nibble (parsed_entry (in_byte y) / 1048576 % 16))) (λ k y. found_of (bit k) (in_byte y)) found_all k y hk hy,
  placed_entry q k (get_or p y 0 / 16777216) eq hk (omega (arith, parsed_below p y ep hy))
      ∙ ap (λ (v : ℕ). placed_of (bit k) (in_nibble (v / 16777216))) (parsed_entry_lem p y ep hy)
      ∙ same_pairs (λ k y. placed_of (bit k) (in_nibble (parsed_entry (in_byte y) / 16777216))) (λ k y. minus_of (bit k) (in_byte y)) minus_all k y hk hy,
  ap (λ (v : ℕ). v / 2 ^ (4 * count_of k) % 16) (parsed_entry_lem p y ep hy)
      ∙ same_pairs (λ k y. parsed_entry (in_byte y) / 2 ^ (4 * count_of k) % 16) (λ k y. end4 (bit k) (in_byte y)) end_all k y hk hy,
)
