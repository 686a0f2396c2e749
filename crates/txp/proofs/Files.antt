-- A file that was written is read back bit by bit, also where it was cut; and what refusal 11 means.
use mathlib.Core.Path.{◌≡◌, refl, sym, ap, subst, ◌∙◌}
use mathlib.Core.Bool.{Bool, true, false, cond, false≢true}
use mathlib.Core.List.{List, [], ◌++◌}
use Prim.Native.Nat.{ℕ, zero, suc, ◌+◌, ◌*◌, ◌-◌, ◌/◌, ◌%◌, ◌^◌, min, ◌≤◌, ◌<◌}
use native.Mathlib.Omega.{arith}
use native.Mathlib.Nat.{pow-suc, mod-lt}
use lib.Dec.{leb, eqb}
use lib.Pow.{pow_pos}
use lib.ListN.{length, get_or, take, drop, length-take, take-append-drop}
use lib.Seq.{take-append-add, take_all}
use borrow.Author.Tests.{eqb-true, eqb-false, eq-eqb, le-leb, leb-true, leb-false}
use Rattle.bits.specs.Bits.{bit, bit_at, bits_of, bytes_for, packed}
use Rattle.bits.proofs.Laws.{packed_length, packed_past, bits_of_packed, take_bits_of, bits_of_append, bit_at_byte, bit_at_past, eq_bits, bit_0, bit_suc, bit_mod, bit_none}
use Rattle.txp.specs.declared.Header.{Header}
use Rattle.txp.specs.Header.{header_size, header_bytes}
use Rattle.txp.specs.File.{usable_bits}
use Rattle.txp.specs.Calls.{padding_fits}
use Rattle.txp.proofs.Headers.{Fits, header_length, header_read, body_read}

-- the first m bits of packed bits
packed_take : (u : List Bool) (m : ℕ) → m ≤ length u → bits_of m (packed u) ≡ take m u
packed_take u m h = sym (take_bits_of m (length u) (packed u) h) ∙ ap (λ (v : List Bool). take m v) (bits_of_packed u)

module _ (h : Header) (fits : Fits h) (u : List Bool) (says : h.declared ≡ length u) where
  -- cut k bytes into its body, it is the header and the first k bytes of the body
  pub cut_file : (k : ℕ) → take (header_size + k) (header_bytes h ++ packed u) ≡ header_bytes h ++ take k (packed u)
  cut_file k = subst (λ (n : ℕ). take (n + k) (header_bytes h ++ packed u) ≡ header_bytes h ++ take k (packed u)) (header_length h []) (take-append-add (header_bytes h) (packed u) k)

  part : ℕ → List ℕ
  part k = take k (packed u)

  -- so many of u's bits stand in the first k bytes
  kept : (k : ℕ) → take (min (length u) (8 * length (part k))) u ≡ take (8 * k) u
  unfolding part
  kept k =
      let bytes : length (take k (packed u)) ≡ min k (bytes_for (length u)) =
      length-take k (packed u) ∙ ap (λ (n : ℕ). min k n) (packed_length u) in
      tell bytes (leb (length u) (8 * k)) refl
    where
      tell : length (take k (packed u)) ≡ min k (bytes_for (length u)) → (t : Bool) → leb (length u) (8 * k) ≡ t
          → take (min (length u) (8 * length (take k (packed u)))) u ≡ take (8 * k) u
      tell bytes true e =
          let all : length u ≤ 8 * k = leb-true (length u) (8 * k) e in
          take_all (min (length u) (8 * length (take k (packed u)))) u (omega (arith, bytes)) ∙ sym (take_all (8 * k) u all)
      tell bytes false e =
          let some : 8 * k < length u = leb-false (length u) (8 * k) e in
          ap (λ (n : ℕ). take n u) {x = min (length u) (8 * length (take k (packed u)))} {y = 8 * k} (omega (arith, bytes))

  -- the usable bits of a file cut k bytes into its body: the first 8k, or all
  pub cut_bits : (k : ℕ) → usable_bits (header_bytes h ++ take k (packed u)) ≡ take (8 * k) u
  unfolding part
  cut_bits k =
      let m : ℕ = min (length u) (8 * length (take k (packed u))) in
      rw (header_read h (take k (packed u)) fits, body_read h (take k (packed u)), says)
      (sym (bits_of_append m (take k (packed u)) (drop k (packed u)) (omega arith))
      ∙ ap (λ (s : List ℕ). bits_of m s) (take-append-drop k (packed u))
      ∙ packed_take u m (omega arith)
      ∙ kept k)

  -- of the whole file, all of them
  pub all_bits : usable_bits (header_bytes h ++ packed u) ≡ u
  all_bits =
      ap (λ (s : List ℕ). usable_bits (header_bytes h ++ s)) (sym (take_all (length u) (packed u) (omega (arith, packed_length u))))
      ∙ cut_bits (length u)
      ∙ take_all (8 * length u) u (omega arith)

  -- the declared bits need the bytes that are there
  pub no_surplus : (k : ℕ) → leb (length (take k (packed u))) (bytes_for h.declared) ≡ true
  no_surplus k = le-leb (length (take k (packed u))) (bytes_for h.declared) (omega (arith, says, length-take k (packed u), packed_length u))

  -- and the padding is 0, where it is there
  zero_padding : padding_fits h.declared (packed u) ≡ true
  unfolding padding_fits
  zero_padding =
      let n : ℕ = length u in
      let low : get_or (packed u) (n / 8) 0 % 2 ^ (8 - n % 8) ≡ 0 =
      eq_bits (8 - n % 8) (get_or (packed u) (n / 8) 0 % 2 ^ (8 - n % 8)) 0 (mod-lt (get_or (packed u) (n / 8) 0) (pow_pos (8 - n % 8))) (pow_pos (8 - n % 8))
      (λ b l. bit_mod (get_or (packed u) (n / 8) 0) (8 - n % 8) b l ∙ past b l ∙ sym (bit_none b)) in
      rw (says, packed_length u, eq-eqb (bytes_for n) (bytes_for n) refl) (eq-eqb (get_or (packed u) (n / 8) 0 % 2 ^ (8 - n % 8)) 0 low)
    where
      past : (b : ℕ) → b < 8 - length u % 8 → bit (get_or (packed u) (length u / 8) 0) b ≡ false
      past b l =
          ap (λ (c : ℕ). bit (get_or (packed u) (length u / 8) 0) c) {x = b} {y = 7 - (7 - b)} (omega arith)
          ∙ sym (bit_at_byte (packed u) (length u / 8) (7 - b) (omega arith))
          ∙ packed_past u (8 * (length u / 8) + (7 - b)) (omega arith)

  pub padding_zero : (k : ℕ) → padding_fits h.declared (take k (packed u)) ≡ true
  unfolding padding_fits
  padding_zero k = tell (eqb (length (take k (packed u))) (bytes_for h.declared)) refl
    where
      tell : (t : Bool) → eqb (length (take k (packed u))) (bytes_for h.declared) ≡ t → padding_fits h.declared (take k (packed u)) ≡ true
      tell true e =
          let all : length (packed u) ≤ k =
          omega (arith, says, eqb-true (length (take k (packed u))) (bytes_for h.declared) e, length-take k (packed u), packed_length u) in
          ap (λ (s : List ℕ). padding_fits h.declared s) (take_all k (packed u) all) ∙ zero_padding
      tell false e = rw e

-- a number below 2^n that is not 0 has a bit below n
some_bit : (n x : ℕ) → x < 2 ^ n → (x ≡ 0 → ⊥) → (b : ℕ) × (b < n) × (bit x b ≡ true)
some_bit zero x h f = absurd (f (omega (arith, h)))
some_bit (suc n) x h f = tell (eqb (x % 2) 1) refl (λ g. some_bit n (x / 2) (omega (arith, h, pow-suc 2 n)) g)
  where
    tell : (t : Bool) → eqb (x % 2) 1 ≡ t → ((x / 2 ≡ 0 → ⊥) → (b : ℕ) × (b < n) × (bit (x / 2) b ≡ true)) → (b : ℕ) × (b < suc n) × (bit x b ≡ true)
    tell true e more = (0, omega arith, bit_0 x ∙ e)
    tell false e more =
        let s = more (λ z. f (omega (arith, z, eqb-false (x % 2) 1 e))) in
        (suc s.0, omega (arith, s.1), bit_suc x s.0 ∙ s.2)

-- what refusal 11 means: all bytes are there, and a bit behind the declared ones is 1
module _ (declared : ℕ) (body : List ℕ) where
  last : ℕ
  last = get_or body (declared / 8) 0

  -- the bits behind the declared ones are the low bits of the last byte
  behind : (b : ℕ) → b < 8 - declared % 8 → bit_at body (8 * (declared / 8) + (7 - b)) ≡ bit (last % 2 ^ (8 - declared % 8)) b
  unfolding last
  behind b l =
      bit_at_byte body (declared / 8) (7 - b) (omega arith)
      ∙ ap (λ (c : ℕ). bit (get_or body (declared / 8) 0) c) {x = 7 - (7 - b)} {y = b} (omega arith)
      ∙ sym (bit_mod (get_or body (declared / 8) 0) (8 - declared % 8) b l)

  within : (k : ℕ) → bit_at body k ≡ true → k < 8 * length body
  within k e = tell (leb (8 * length body) k) refl
    where
      tell : (t : Bool) → leb (8 * length body) k ≡ t → k < 8 * length body
      tell true f = absurd (false≢true (sym (bit_at_past body k (leb-true (8 * length body) k f)) ∙ e))
      tell false f = leb-false (8 * length body) k f

  pub padding_refused : padding_fits declared body ≡ false
      → (length body ≡ bytes_for declared) × ((k : ℕ) × (declared ≤ k) × (k < 8 * length body) × (bit_at body k ≡ true))
  unfolding padding_fits last
  padding_refused = tell (eqb (length body) (bytes_for declared)) refl
    where
      tell : (t : Bool) → eqb (length body) (bytes_for declared) ≡ t → cond t (eqb (get_or body (declared / 8) 0 % 2 ^ (8 - declared % 8)) 0) true ≡ false
          → (length body ≡ bytes_for declared) × ((k : ℕ) × (declared ≤ k) × (k < 8 * length body) × (bit_at body k ≡ true))
      tell false e f = absurd (false≢true (sym f))
      tell true e f =
          let low : ℕ = get_or body (declared / 8) 0 % 2 ^ (8 - declared % 8) in
          let s = some_bit (8 - declared % 8) low (mod-lt (get_or body (declared / 8) 0) (pow_pos (8 - declared % 8))) (eqb-false low 0 f) in
          let one : bit_at body (8 * (declared / 8) + (7 - s.0)) ≡ true = behind s.0 s.1 ∙ s.2 in
          (eqb-true (length body) (bytes_for declared) e, (8 * (declared / 8) + (7 - s.0), omega (arith, s.1), within (8 * (declared / 8) + (7 - s.0)) one, one))

  pub refused_padding : length body ≡ bytes_for declared → (k : ℕ) → declared ≤ k → k < 8 * length body → bit_at body k ≡ true → padding_fits declared body ≡ false
  unfolding padding_fits last
  refused_padding e k from to one = rw (eq-eqb (length body) (bytes_for declared) e) (tell (eqb (get_or body (declared / 8) 0 % 2 ^ (8 - declared % 8)) 0) refl)
    where
      tell : (t : Bool) → eqb (get_or body (declared / 8) 0 % 2 ^ (8 - declared % 8)) 0 ≡ t → eqb (get_or body (declared / 8) 0 % 2 ^ (8 - declared % 8)) 0 ≡ false
      tell false f = f
      tell true f =
          let low : get_or body (declared / 8) 0 % 2 ^ (8 - declared % 8) ≡ 0 = eqb-true (get_or body (declared / 8) 0 % 2 ^ (8 - declared % 8)) 0 f in
          let here : k ≡ 8 * (declared / 8) + (7 - (7 - k % 8)) = omega (arith, e, from, to) in
          let none : bit_at body k ≡ false =
          ap (λ (i : ℕ). bit_at body i) here ∙ behind (7 - k % 8) (omega (arith, e, from, to)) ∙ ap (λ (x : ℕ). bit x (7 - k % 8)) low ∙ bit_none (7 - k % 8) in
          absurd (false≢true (sym none ∙ one))
