-- Bits held in a number: more of them are held, and the highest are written.
use Prim.Native.Nat.{ℕ, zero, suc, ◌+◌, ◌*◌, ◌-◌, ◌%◌, ◌/◌, ◌^◌, ◌≤◌, ◌<◌}
use mathlib.Core.Path.{◌≡◌, refl, sym, ap, ◌∙◌, subst}
use mathlib.Core.Bool.{Bool}
use mathlib.Core.List.{List, [], ◌∷◌, ◌++◌}
use native.Mathlib.Omega.{arith}
use native.Mathlib.Nat.{add-zero, zero-add, add-mul, mul_assoc, mul_comm, pow-suc, mod-eq_of_lt, mod-lt}
use native.Mathlib.Numerals.{add-one}
use lib.Arith.{digits_lt}
use lib.Pow.{pow-add, pow_pos, pow_mono, shl_exact, shl_lt, shl-shr, shr_lt, split}
use lib.ListN.{length, set, get_or, length-set}
use lib.Seq.{get_or-set_same, set-set}
use Rattle.bits.specs.Bits.{bit, digit, byte_with, with_bit}
use Rattle.bits.proofs.Laws.{bit_shr, bit_mod, bit_low, low_bit, digit_bit, digit_le}
use Rattle.fours.specs.Tables.{value_of}
use Rattle.fours.proofs.Laws.{value_after}
use Rattle.encoder.specs.Writing.{Bytes, bytes}
use Rattle.encoder.specs.declared.Sink.{Sink}
use Rattle.encoder.specs.Sinks.{plus_bit, plus_bits, Holding, put_all, low_bits, with_held, held, SameHeld}

-- a number with one bit more, shifted
double : (a b n : ℕ) → (a * 2 + b) * 2 ^ n ≡ a * 2 ^ suc n + b * 2 ^ n
double a b n = add-mul (a * 2) b (2 ^ n) ∙ ap (λ (k : ℕ). k + b * 2 ^ n) (mul_assoc a 2 (2 ^ n) ∙ ap (λ (k : ℕ). a * k) (mul_comm 2 (2 ^ n) ∙ sym (pow-suc 2 n)))

-- ---- more bits are held

-- the bits of a list are put into the number
value_held : (s : Sink) (u : List Bool) → record { acc = value_of s.acc u; n = s.n + length u; at = s.at } ≡ plus_bits s u
unfolding value_of plus_bits
value_held s [] = rw (add-zero s.n)
value_held s (x ∷ u) =
    let e : s.n + suc (length u) ≡ s.n + 1 + length u = omega arith in
    rw e (value_held (plus_bit s x) u)

pub put_bits : (s : Sink) (u : List Bool) → record { acc = s.acc * 2 ^ length u + value_of 0 u; n = s.n + length u; at = s.at } ≡ plus_bits s u
put_bits s u = rw (← value_after s.acc u) (value_held s u)

pub bits_count : (s : Sink) (u : List Bool) → ((plus_bits s u).n ≡ s.n + length u) × ((plus_bits s u).at ≡ s.at)
bits_count s u = (ap (λ (t : Sink). t.n) (sym (value_held s u)), ap (λ (t : Sink). t.at) (sym (value_held s u)))

pub bits_join : (s : Sink) (u v : List Bool) → plus_bits (plus_bits s u) v ≡ plus_bits s (u ++ v)
unfolding plus_bits
bits_join s [] v = refl
bits_join s (x ∷ u) v = bits_join (plus_bit s x) u v

pub fewer_held : (s : Sink) (j k : ℕ) → j ≤ k → Holding s k → Holding s j
fewer_held s j k l h = record { small = h.small; free = omega arith }

pub holds_bits : (s : Sink) (u : List Bool) (k : ℕ) → Holding s (length u + k) → Holding (plus_bits s u) k
unfolding plus_bits
holds_bits s [] k h = fewer_held s k (0 + k) (omega arith) h
holds_bits s (x ∷ u) k h =
    holds_bits (plus_bit s x) u k (record { small = omega (arith, digit_le x, pow-add 2 s.n 1); free = omega arith })

-- nothing is shifted out
pub put_is : (s : Sink) (k : ℕ) → Holding s k → s.acc * 2 ^ k % 2 ^ 64 ≡ s.acc * 2 ^ k
put_is s k h = shl_exact s.n k 64 h.small (omega arith)

pub put_fits : (s : Sink) (k v : ℕ) → Holding s k → v < 2 ^ k → s.acc * 2 ^ k % 2 ^ 64 + v < 2 ^ 64
put_fits s k v h l =
    omega (arith, put_is s k h, digits_lt h.small l, pow-add 2 s.n k, pow_mono {i = s.n + k} {j = 63} h.free)

pub put_holds : (s : Sink) (k v : ℕ) → Holding s k → v < 2 ^ k → Holding (record { acc = s.acc * 2 ^ k + v; n = s.n + k; at = s.at }) 0
put_holds s k v h l = record { small = omega (arith, digits_lt h.small l, pow-add 2 s.n k); free = omega (arith, h.free) }

-- ---- what is held is put as bits

-- the bits of a number: those above bit k, and then the k lowest
put_split : (j k at x : ℕ) (o : List ℕ) → put_all o at (low_bits (j + k) x) ≡ put_all (put_all o at (low_bits j (x / 2 ^ k))) (at + j) (low_bits k x)
unfolding put_all low_bits
put_split zero k at x o = rw (zero-add, add-zero)
put_split (suc j) k at x o =
    let e : suc j + k ≡ suc (j + k) = omega arith in
    let f : at + suc j ≡ at + 1 + j = omega arith in
    let g : j + k ≡ k + j = omega arith in
    let b : bit x (j + k) ≡ bit (x / 2 ^ k) j = ap (bit x) g ∙ sym (bit_shr x k j) in
    rw (e, f, ← b) (put_split j k (at + 1) x (with_bit o at (bit x (j + k))))

pub held_more : (o : List ℕ) (s : Sink) (x : Bool) → held o (plus_bit s x) ≡ bytes (with_bit (with_held o s) (8 * s.at + s.n) x) (8 * s.at + s.n + 1)
unfolding put_all low_bits
held_more o s x =
    let y = s.acc * 2 + digit x in
    let h : y / 2 ^ 1 ≡ s.acc = omega (arith, digit_le x) in
    let l : bit y 0 ≡ x = bit_low y (digit x) (omega arith) ∙ digit_bit x in
    let e : 8 * s.at + (s.n + 1) ≡ 8 * s.at + s.n + 1 = omega arith in
    rw (put_split s.n 1 (8 * s.at) y o, h, l, e)

-- the lowest bits do not hang on what is above them
low_mod : (n k x : ℕ) → n ≤ k → low_bits n (x % 2 ^ k) ≡ low_bits n x
unfolding low_bits
low_mod zero k x h = refl
low_mod (suc n) k x h = rw (bit_mod x k n (omega arith), low_mod n k x (omega arith))

-- ---- what is held is written

-- bit j of byte a is the last bit of y, and those before it are the others
put_in : (o : List ℕ) (a j y : ℕ) → j < 8 → get_or o a 0 / 2 ^ (8 - j) % 2 ^ j ≡ y / 2 → with_bit o (8 * a + j) (bit y 0) ≡ set o a (y * 2 ^ (8 - suc j))
unfolding with_bit byte_with
put_in o a j y h e =
    let p : (8 * a + j) / 8 ≡ a = omega arith in
    let q : (8 * a + j) % 8 ≡ j = omega arith in
    let r : 8 - j ≡ suc (8 - suc j) = omega arith in
    let f : 7 - j ≡ 8 - suc j = omega arith in
    let d : y / 2 * 2 + digit (bit y 0) ≡ y = omega (arith, low_bit (digit (bit y 0)) y (digit_bit (bit y 0)), digit_le (bit y 0)) in
    rw (p, q, e, r, f, ← double (y / 2) (digit (bit y 0)) (8 - suc j), d)

-- the first bits of a byte, one or more of them
byte_put : (n a y : ℕ) (o : List ℕ) → 0 < n → n ≤ 8 → a < length o → y < 2 ^ n → put_all o (8 * a) (low_bits n y) ≡ set o a (y * 2 ^ (8 - n))
unfolding put_all low_bits
byte_put zero a y o z h l b = absurd (omega arith)
byte_put (suc zero) a y o z h l b = put_split 0 1 (8 * a) y o ∙ put_in o a 0 y (omega arith) (omega arith)
byte_put (suc (suc j)) a y o z h l b =
    let m = suc j in
    let w = y / 2 * 2 ^ (8 - m) in
    let small : y / 2 < 2 ^ m = omega (arith, pow-suc 2 m) in
    let c : put_all o (8 * a) (low_bits m (y / 2)) ≡ set o a w = byte_put (suc j) a (y / 2) o (omega arith) (omega arith) l small in
    let g : get_or (set o a w) a 0 / 2 ^ (8 - m) % 2 ^ m ≡ y / 2 = rw (get_or-set_same o a w 0 l, shl-shr (y / 2) (8 - m)) (mod-eq_of_lt small) in
    ap (λ (n : ℕ). put_all o (8 * a) (low_bits n y)) (sym (add-one m)) ∙ put_split m 1 (8 * a) y o ∙ rw (c, put_in (set o a w) a m y (omega arith) g, set-set)

-- the highest byte is written, and the k bits below it stay
module _ (s : Sink) (h : Holding s 0) (g : 8 ≤ s.n) where
  abbrev k : ℕ
  k = s.n - 8

  abbrev w : ℕ
  w = s.acc / 2 ^ k

  all : s.n ≡ 8 + k
  all = omega arith

  pub top_byte : s.acc / 2 ^ (s.n - 8) < 256
  top_byte = shr_lt 8 k (subst (λ (n : ℕ). s.acc < 2 ^ n) all h.small)

  kept : w * 2 ^ k % 2 ^ 64 ≡ w * 2 ^ k
  kept = shl_exact 8 k 64 top_byte (omega arith)

  pub kept_le : s.acc / 2 ^ (s.n - 8) * 2 ^ (s.n - 8) % 2 ^ 64 ≤ s.acc
  kept_le = omega (arith, kept, split s.acc k)

  rest_is : s.acc - w * 2 ^ k % 2 ^ 64 ≡ s.acc % 2 ^ k
  rest_is = omega (arith, kept, split s.acc k)

  module _ (o : List ℕ) (l : s.at < length o) where
    put_byte : put_all o (8 * s.at) (low_bits 8 w) ≡ set o s.at w
    put_byte = byte_put 8 s.at w o (omega arith) (omega arith) l top_byte ∙ ap (set o s.at) (omega arith)

    put_rest : with_held o s ≡ put_all (set o s.at w) (8 * (s.at + 1)) (low_bits k (s.acc % 2 ^ k))
    put_rest =
        let e : 8 * (s.at + 1) ≡ 8 * s.at + 8 = omega arith in
        rw (e, low_mod k k s.acc (omega arith), ← put_byte) (ap (λ (n : ℕ). put_all o (8 * s.at) (low_bits n s.acc)) all ∙ put_split 8 k (8 * s.at) s.acc o)

    pub one_out : SameHeld o s (set o s.at (s.acc / 2 ^ (s.n - 8))) (record { acc = s.acc - s.acc / 2 ^ (s.n - 8) * 2 ^ (s.n - 8) % 2 ^ 64; n = s.n - 8; at = s.at + 1 })
    one_out =
        let e : 8 * (s.at + 1) + k ≡ 8 * s.at + s.n = omega arith in
        rw rest_is
        (record { same = λ i. bytes (sym put_rest i) (e i); long = length-set o s.at w; holds = record { small = mod-lt s.acc (pow_pos k); free = omega arith } })

pub same_held : (o : List ℕ) (s : Sink) → Holding s 0 → SameHeld o s o s
same_held o s h = record { same = refl; long = refl; holds = h }

pub then_held : (o o₁ o₂ : List ℕ) (s s₁ s₂ : Sink) → SameHeld o s o₁ s₁ → SameHeld o₁ s₁ o₂ s₂ → SameHeld o s o₂ s₂
then_held o o₁ o₂ s s₁ s₂ a b = record { same = b.same ∙ a.same; long = b.long ∙ a.long; holds = b.holds }

-- the end: o₁ and t hold what o and s did
module _ (o o₁ : List ℕ) (s t : Sink) (h : SameHeld o s o₁ t) where
  pub held_count : 8 * t.at + t.n ≡ 8 * s.at + s.n
  held_count = ap (λ (b : Bytes). b.n) h.same

  pub none_left : t.n ≡ 0 → o₁ ≡ with_held o s
  unfolding put_all low_bits
  none_left e = ap (λ (n : ℕ). put_all o₁ (8 * t.at) (low_bits n t.acc)) (sym e) ∙ ap (λ (b : Bytes). b.out) h.same

  last_is : t.n < 8 → t.acc * 2 ^ (8 - t.n) % 2 ^ 64 ≡ t.acc * 2 ^ (8 - t.n)
  last_is l = put_is t (8 - t.n) (record { small = h.holds.small; free = omega arith })

  pub last_fits : t.n < 8 → t.acc * 2 ^ (8 - t.n) % 2 ^ 64 < 256
  last_fits l =
      let e : t.n + (8 - t.n) ≡ 8 = omega arith in
      rw (last_is l) (subst (λ (n : ℕ). t.acc * 2 ^ (8 - t.n) < 2 ^ n) e (shl_lt t.n (8 - t.n) h.holds.small))

  pub last_out : 0 < t.n → t.n < 8 → t.at < length o₁ → set o₁ t.at (t.acc * 2 ^ (8 - t.n) % 2 ^ 64) ≡ with_held o s
  last_out z l a =
      rw (last_is l) (sym (byte_put t.n t.at t.acc o₁ z (omega arith) a h.holds.small) ∙ ap (λ (b : Bytes). b.out) h.same)
