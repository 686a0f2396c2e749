-- Four coefficients by themselves, as the encoder sends them: what is held and what the marks are after them.
use Prim.Native.Nat.{ℕ, zero, suc, ◌+◌, ◌*◌, ◌/◌, ◌%◌, ◌^◌, ◌≤◌, ◌<◌}
use mathlib.Core.Path.{◌≡◌, refl, sym, ap, ◌∙◌, subst}
use mathlib.Core.Bool.{Bool, true, false, cond, ◌&&◌}
use mathlib.Core.List.{List, [], ◌∷◌, ◌++◌}
use native.Mathlib.Omega.{arith}
use borrow.Author.Tests.{eqb-true}
use lib.Bits.{bit_and, and_le_r}
use lib.Dec.{eqb}
use lib.IntN.{ℤ}
use lib.ListN.{length, get_or}
use Rattle.bits.specs.Bits.{bit, digit, with_bit}
use Rattle.bits.proofs.Laws.{eq_bits}
use Rattle.coef.specs.Coef.{at, mag_at, negative}
use Rattle.nls.specs.Scan.{Pass, pixels, sets}
use Rattle.marking.specs.Marking.{put_four}
use Rattle.walk.specs.Visits.{Source}
use Rattle.walk.specs.Fours.{own_rest, Own, of_pixel, of_refining, of_child, kept1, kept2, kept3, kept4, four_marks}
use Rattle.fours.specs.Words.{nibble_of, spread_of, which_are, refined_word, with_word, word_at, FourLow}
use Rattle.fours.specs.Tables.{value_of, entry_of, four, own_bits, pick_bits}
use Rattle.fours.proofs.Laws.{nibble_lt, nibble_0, nibble_1, nibble_2, nibble_3, and_bit, found_word, child_word, which_are_lem, refined_word_lem, value_lt, entry_parts}
use Rattle.encoder.specs.Writing.{Bytes, bytes, writer}
use Rattle.encoder.specs.Sinks.{plus_bit, plus_bits, Holding, with_held, held, SameHeld}
use Rattle.encoder.specs.Siblings.{bits_at, signs_at}
use Rattle.encoder.specs.declared.Sink.{Sink}
use Rattle.encoder.proofs.SinkLaws.{held_more, bits_join, put_bits}

-- those that are found, of those that are asked
pub and_nibble : (a b c d x y z t : Bool) → bit_and (nibble_of a b c d) (nibble_of x y z t) ≡ nibble_of (a && x) (b && y) (c && z) (d && t)
and_nibble a b c d x y z t =
    eq_bits 4 (bit_and k n) (nibble_of (a && x) (b && y) (c && z) (d && t)) (omega (arith, and_le_r k n, nibble_lt x y z t)) (nibble_lt (a && x) (b && y) (c && z) (d && t)) (λ j h. and_bit k n j ∙ on j h)
  where
    k : ℕ
    k = nibble_of a b c d

    n : ℕ
    n = nibble_of x y z t

    on : (j : ℕ) → j < 4 → (bit k j && bit n j) ≡ bit (nibble_of (a && x) (b && y) (c && z) (d && t)) j
    on zero h = (λ i. nibble_0 a b c d i && nibble_0 x y z t i) ∙ sym (nibble_0 (a && x) (b && y) (c && z) (d && t))
    on (suc zero) h = (λ i. nibble_1 a b c d i && nibble_1 x y z t i) ∙ sym (nibble_1 (a && x) (b && y) (c && z) (d && t))
    on (suc (suc zero)) h = (λ i. nibble_2 a b c d i && nibble_2 x y z t i) ∙ sym (nibble_2 (a && x) (b && y) (c && z) (d && t))
    on (suc (suc (suc zero))) h = (λ i. nibble_3 a b c d i && nibble_3 x y z t i) ∙ sym (nibble_3 (a && x) (b && y) (c && z) (d && t))
    on (suc (suc (suc (suc j)))) h = absurd (omega (arith, h))

-- the bits of an entry, held
module _ (o : List ℕ) (s r : Sink) (o₁ : List ℕ) (u : List Bool) (e : ℕ) (is : e ≡ entry_of u) (short : length u ≤ 8) where
  length_is : e / 256 ≡ length u
  length_is = ap (λ (x : ℕ). x / 256) is ∙ (entry_parts u short).0

  value_is : e % 256 ≡ value_of 0 u
  value_is = ap (λ (x : ℕ). x % 256) is ∙ (entry_parts u short).1

  pub entry_room : Holding s 8 → Holding s (e / 256)
  entry_room h = record { small = h.small; free = omega (arith, h.free, length_is) }

  pub entry_fits : e % 256 < 2 ^ (e / 256)
  entry_fits = subst (λ (x : ℕ). x < 2 ^ (e / 256)) (sym value_is) (subst (λ (k : ℕ). value_of 0 u < 2 ^ k) (sym length_is) (value_lt u))

  entry_put : record { acc = s.acc * 2 ^ (e / 256) + e % 256; n = s.n + e / 256; at = s.at } ≡ plus_bits s u
  entry_put = (λ i. record { acc = s.acc * 2 ^ length_is i + value_is i; n = s.n + length_is i; at = s.at }) ∙ put_bits s u

  pub entry_held : SameHeld o (record { acc = s.acc * 2 ^ (e / 256) + e % 256; n = s.n + e / 256; at = s.at }) o₁ r → SameHeld o (plus_bits s u) o₁ r
  entry_held h = subst (λ (t : Sink). SameHeld o t o₁ r) entry_put h

module _ (A : List ℤ) (d g : List ℕ) (budget b : ℕ) (o : List ℕ) where
  abbrev K : Source Bytes
  K = writer A d g budget

  -- one coefficient
  abbrev of_one : Bool → ℕ → List Bool
  of_one k i = own_bits k (bit (mag_at A i) b) (negative (at A i))

  own_held : (p : Pass) (i : ℕ) (s : Sink) → own_rest (writer A d g budget) p b i (held o s) ≡ held o (plus_bits s (of_one true i))
  unfolding plus_bits
  own_held p i s = on (bit (mag_at A i) b)
    where
      on : (x : Bool) → cond x (bytes (with_bit (with_bit (with_held o s) (8 * s.at + s.n) x) (8 * s.at + s.n + 1) (negative (at A i))) (8 * s.at + s.n + 1 + 1)) (bytes (with_bit (with_held o s) (8 * s.at + s.n) x) (8 * s.at + s.n + 1))
          ≡ held o (plus_bits s (cond x (true ∷ negative (at A i) ∷ []) (false ∷ [])))
      on true =
          (λ j. bytes (with_bit (sym (held_more o s true) j).out (sym (held_more o s true) j).n (negative (at A i))) ((sym (held_more o s true) j).n + 1))
          ∙ sym (held_more o (plus_bit s true) (negative (at A i)))
      on false = sym (held_more o s false)

  pixel_held : (i v : ℕ) (s : Sink) → (of_pixel (writer A d g budget) b).rest i v (held o s) ≡ held o (plus_bits s (of_one (eqb v 1) i))
  unfolding plus_bits
  pixel_held i v s = on (eqb v 1)
    where
      on : (t : Bool) → cond t (own_rest (writer A d g budget) pixels b i (held o s)) (held o s) ≡ held o (plus_bits s (of_one t i))
      on true = own_held pixels i s
      on false = refl

  pixel_mark : (i v : ℕ) (q : Bytes) → (of_pixel (writer A d g budget) b).mark i v q ≡ v + digit (eqb v 1 && bit (mag_at A i) b)
  pixel_mark i v q = on (eqb v 1) refl (bit (mag_at A i) b)
    where
      on : (t : Bool) → eqb v 1 ≡ t → (x : Bool) → cond t (cond x 2 1) v ≡ v + digit (t && x)
      on true e true = omega (arith, eqb-true v 1 e)
      on true e false = omega (arith, eqb-true v 1 e)
      on false e x = omega arith

  -- four places whose bits are these, one after the other
  module _ (D : Own Bytes) (i : ℕ) (m : List ℕ) (s : Sink) (u0 u1 u2 u3 : List Bool)
      (e0 : (t : Sink) → D.rest i (get_or m i 0) (held o t) ≡ held o (plus_bits t u0))
      (e1 : (t : Sink) → D.rest (i + 1) (get_or m (i + 1) 0) (held o t) ≡ held o (plus_bits t u1))
      (e2 : (t : Sink) → D.rest (i + 2) (get_or m (i + 2) 0) (held o t) ≡ held o (plus_bits t u2))
      (e3 : (t : Sink) → D.rest (i + 3) (get_or m (i + 3) 0) (held o t) ≡ held o (plus_bits t u3)) where
    at1 : kept1 D i m (held o s) ≡ held o (plus_bits s u0)
    at1 = e0 s

    at2 : kept2 D i m (held o s) ≡ held o (plus_bits (plus_bits s u0) u1)
    at2 = ap (λ (q : Bytes). D.rest (i + 1) (get_or m (i + 1) 0) q) at1 ∙ e1 (plus_bits s u0)

    at3 : kept3 D i m (held o s) ≡ held o (plus_bits (plus_bits (plus_bits s u0) u1) u2)
    at3 = ap (λ (q : Bytes). D.rest (i + 2) (get_or m (i + 2) 0) q) at2 ∙ e2 (plus_bits (plus_bits s u0) u1)

    pub four_held : kept4 D i m (held o s) ≡ held o (plus_bits s (u0 ++ (u1 ++ (u2 ++ u3))))
    four_held =
        ap (λ (q : Bytes). D.rest (i + 3) (get_or m (i + 3) 0) q) at3 ∙ e3 (plus_bits (plus_bits (plus_bits s u0) u1) u2)
        ∙ ap (λ (t : Sink). held o t) (bits_join (plus_bits (plus_bits s u0) u1) u2 u3 ∙ bits_join (plus_bits s u0) u1 (u2 ++ u3) ∙ bits_join s u0 (u1 ++ (u2 ++ u3)))

  child_held : (i v : ℕ) (s : Sink) → (of_child (writer A d g budget) b).rest i v (held o s) ≡ held o (plus_bits s (of_one true i))
  child_held i v s = own_held sets i s

  child_mark : (i v : ℕ) (q : Bytes) → (of_child (writer A d g budget) b).mark i v q ≡ 1 + digit (true && bit (mag_at A i) b)
  child_mark i v q = on (bit (mag_at A i) b)
    where
      on : (x : Bool) → cond x 2 1 ≡ 1 + digit (true && x)
      on true = refl
      on false = refl

  refining_held : (i v : ℕ) (s : Sink) → (of_refining (writer A d g budget) b).rest i v (held o s) ≡ held o (plus_bits s (pick_bits (eqb v 3) (bit (mag_at A i) b)))
  unfolding plus_bits
  refining_held i v s = on (eqb v 3)
    where
      on : (t : Bool) → cond t (bytes (with_bit (with_held o s) (8 * s.at + s.n) (bit (mag_at A i) b)) (8 * s.at + s.n + 1)) (held o s) ≡ held o (plus_bits s (cond t (bit (mag_at A i) b ∷ []) []))
      on true = sym (held_more o s (bit (mag_at A i) b))
      on false = refl

  -- what the table of those of k has, of four places whose answers these are
  module _ (c0 c1 c2 c3 : Bool) (i : ℕ) where
    pub sent_four : four (λ j. own_bits (bit (nibble_of c0 c1 c2 c3) j) (bit (bits_at A b i) j) (bit (signs_at A i) j)) ≡ of_one c0 i ++ (of_one c1 (i + 1) ++ (of_one c2 (i + 2) ++ of_one c3 (i + 3)))
    sent_four =
        λ j. own_bits (nibble_0 c0 c1 c2 c3 j) (nibble_0 (bit (mag_at A i) b) (bit (mag_at A (i + 1)) b) (bit (mag_at A (i + 2)) b) (bit (mag_at A (i + 3)) b) j) (nibble_0 (negative (at A i)) (negative (at A (i + 1))) (negative (at A (i + 2))) (negative (at A (i + 3))) j)
        ++ (own_bits (nibble_1 c0 c1 c2 c3 j) (nibble_1 (bit (mag_at A i) b) (bit (mag_at A (i + 1)) b) (bit (mag_at A (i + 2)) b) (bit (mag_at A (i + 3)) b) j) (nibble_1 (negative (at A i)) (negative (at A (i + 1))) (negative (at A (i + 2))) (negative (at A (i + 3))) j)
        ++ (own_bits (nibble_2 c0 c1 c2 c3 j) (nibble_2 (bit (mag_at A i) b) (bit (mag_at A (i + 1)) b) (bit (mag_at A (i + 2)) b) (bit (mag_at A (i + 3)) b) j) (nibble_2 (negative (at A i)) (negative (at A (i + 1))) (negative (at A (i + 2))) (negative (at A (i + 3))) j)
        ++ own_bits (nibble_3 c0 c1 c2 c3 j) (nibble_3 (bit (mag_at A i) b) (bit (mag_at A (i + 1)) b) (bit (mag_at A (i + 2)) b) (bit (mag_at A (i + 3)) b) j) (nibble_3 (negative (at A i)) (negative (at A (i + 1))) (negative (at A (i + 2))) (negative (at A (i + 3))) j)))

    pub picked_four : four (λ j. pick_bits (bit (nibble_of c0 c1 c2 c3) j) (bit (bits_at A b i) j)) ≡ pick_bits c0 (bit (mag_at A i) b) ++ (pick_bits c1 (bit (mag_at A (i + 1)) b) ++ (pick_bits c2 (bit (mag_at A (i + 2)) b) ++ pick_bits c3 (bit (mag_at A (i + 3)) b)))
    picked_four =
        λ j. pick_bits (nibble_0 c0 c1 c2 c3 j) (nibble_0 (bit (mag_at A i) b) (bit (mag_at A (i + 1)) b) (bit (mag_at A (i + 2)) b) (bit (mag_at A (i + 3)) b) j)
        ++ (pick_bits (nibble_1 c0 c1 c2 c3 j) (nibble_1 (bit (mag_at A i) b) (bit (mag_at A (i + 1)) b) (bit (mag_at A (i + 2)) b) (bit (mag_at A (i + 3)) b) j)
        ++ (pick_bits (nibble_2 c0 c1 c2 c3 j) (nibble_2 (bit (mag_at A i) b) (bit (mag_at A (i + 1)) b) (bit (mag_at A (i + 2)) b) (bit (mag_at A (i + 3)) b) j)
        ++ pick_bits (nibble_3 c0 c1 c2 c3 j) (nibble_3 (bit (mag_at A i) b) (bit (mag_at A (i + 1)) b) (bit (mag_at A (i + 2)) b) (bit (mag_at A (i + 3)) b) j)))

  -- four places of the pixel pass
  module _ (i : ℕ) (m : List ℕ) (s : Sink) (inside : i + 4 ≤ length m) (low : FourLow m i) where
    asked_is : which_are 1 (word_at m i) ≡ nibble_of (eqb (get_or m i 0) 1) (eqb (get_or m (i + 1) 0) 1) (eqb (get_or m (i + 2) 0) 1) (eqb (get_or m (i + 3) 0) 1)
    asked_is = which_are_lem m i 1 inside low

    pub pixel_bits : kept4 (of_pixel (writer A d g budget) b) i m (held o s) ≡ held o (plus_bits s (four (λ j. own_bits (bit (which_are 1 (word_at m i)) j) (bit (bits_at A b i) j) (bit (signs_at A i) j))))
    pixel_bits =
        four_held (of_pixel (writer A d g budget) b) i m s (of_one (eqb (get_or m i 0) 1) i) (of_one (eqb (get_or m (i + 1) 0) 1) (i + 1)) (of_one (eqb (get_or m (i + 2) 0) 1) (i + 2)) (of_one (eqb (get_or m (i + 3) 0) 1) (i + 3))
        (λ t. pixel_held i (get_or m i 0) t) (λ t. pixel_held (i + 1) (get_or m (i + 1) 0) t) (λ t. pixel_held (i + 2) (get_or m (i + 2) 0) t) (λ t. pixel_held (i + 3) (get_or m (i + 3) 0) t)
        ∙ ap (λ (u : List Bool). held o (plus_bits s u))
        (sym (ap (λ (k : ℕ). four (λ j. own_bits (bit k j) (bit (bits_at A b i) j) (bit (signs_at A i) j))) asked_is
        ∙ sent_four (eqb (get_or m i 0) 1) (eqb (get_or m (i + 1) 0) 1) (eqb (get_or m (i + 2) 0) 1) (eqb (get_or m (i + 3) 0) 1) i))

    pub pixel_marks : (q : Bytes) → four_marks (of_pixel (writer A d g budget) b) i m q ≡ with_word m i (word_at m i + spread_of (bit_and (which_are 1 (word_at m i)) (bits_at A b i)))
    pixel_marks q =
        (λ j. put_four m i (pixel_mark i (get_or m i 0) q j) (pixel_mark (i + 1) (get_or m (i + 1) 0) (kept1 (of_pixel (writer A d g budget) b) i m q) j) (pixel_mark (i + 2) (get_or m (i + 2) 0) (kept2 (of_pixel (writer A d g budget) b) i m q) j) (pixel_mark (i + 3) (get_or m (i + 3) 0) (kept3 (of_pixel (writer A d g budget) b) i m q) j))
        ∙ sym (ap (λ (k : ℕ). with_word m i (word_at m i + spread_of (bit_and k (bits_at A b i)))) asked_is
        ∙ ap (λ (a : ℕ). with_word m i (word_at m i + spread_of a)) (and_nibble (eqb (get_or m i 0) 1) (eqb (get_or m (i + 1) 0) 1) (eqb (get_or m (i + 2) 0) 1) (eqb (get_or m (i + 3) 0) 1) (bit (mag_at A i) b) (bit (mag_at A (i + 1)) b) (bit (mag_at A (i + 2)) b) (bit (mag_at A (i + 3)) b))
        ∙ found_word m i (eqb (get_or m i 0) 1 && bit (mag_at A i) b) (eqb (get_or m (i + 1) 0) 1 && bit (mag_at A (i + 1)) b) (eqb (get_or m (i + 2) 0) 1 && bit (mag_at A (i + 2)) b) (eqb (get_or m (i + 3) 0) 1 && bit (mag_at A (i + 3)) b) inside low)

    -- four places of the refinement pass
    pub refined_bits : kept4 (of_refining (writer A d g budget) b) i m (held o s) ≡ held o (plus_bits s (four (λ j. pick_bits (bit (which_are 3 (word_at m i)) j) (bit (bits_at A b i) j))))
    refined_bits =
        four_held (of_refining (writer A d g budget) b) i m s (pick_bits (eqb (get_or m i 0) 3) (bit (mag_at A i) b)) (pick_bits (eqb (get_or m (i + 1) 0) 3) (bit (mag_at A (i + 1)) b)) (pick_bits (eqb (get_or m (i + 2) 0) 3) (bit (mag_at A (i + 2)) b)) (pick_bits (eqb (get_or m (i + 3) 0) 3) (bit (mag_at A (i + 3)) b))
        (λ t. refining_held i (get_or m i 0) t) (λ t. refining_held (i + 1) (get_or m (i + 1) 0) t) (λ t. refining_held (i + 2) (get_or m (i + 2) 0) t) (λ t. refining_held (i + 3) (get_or m (i + 3) 0) t)
        ∙ ap (λ (u : List Bool). held o (plus_bits s u))
        (sym (ap (λ (k : ℕ). four (λ j. pick_bits (bit k j) (bit (bits_at A b i) j))) (which_are_lem m i 3 inside low)
        ∙ picked_four (eqb (get_or m i 0) 3) (eqb (get_or m (i + 1) 0) 3) (eqb (get_or m (i + 2) 0) 3) (eqb (get_or m (i + 3) 0) 3) i))

    pub refined_marks : (q : Bytes) → four_marks (of_refining (writer A d g budget) b) i m q ≡ with_word m i (refined_word (word_at m i))
    refined_marks q = sym (refined_word_lem m i inside low)

  -- four children
  module _ (i : ℕ) (m : List ℕ) (s : Sink) (inside : i + 4 ≤ length m) where
    pub child_bits : kept4 (of_child (writer A d g budget) b) i m (held o s) ≡ held o (plus_bits s (four (λ j. own_bits (bit 15 j) (bit (bits_at A b i) j) (bit (signs_at A i) j))))
    child_bits =
        four_held (of_child (writer A d g budget) b) i m s (of_one true i) (of_one true (i + 1)) (of_one true (i + 2)) (of_one true (i + 3))
        (λ t. child_held i (get_or m i 0) t) (λ t. child_held (i + 1) (get_or m (i + 1) 0) t) (λ t. child_held (i + 2) (get_or m (i + 2) 0) t) (λ t. child_held (i + 3) (get_or m (i + 3) 0) t)
        ∙ ap (λ (u : List Bool). held o (plus_bits s u)) (sym (sent_four true true true true i))

    pub child_marks : (q : Bytes) → four_marks (of_child (writer A d g budget) b) i m q ≡ with_word m i (16843009 + spread_of (bit_and 15 (bits_at A b i)))
    child_marks q =
        (λ j. put_four m i (child_mark i (get_or m i 0) q j) (child_mark (i + 1) (get_or m (i + 1) 0) (kept1 (of_child (writer A d g budget) b) i m q) j) (child_mark (i + 2) (get_or m (i + 2) 0) (kept2 (of_child (writer A d g budget) b) i m q) j) (child_mark (i + 3) (get_or m (i + 3) 0) (kept3 (of_child (writer A d g budget) b) i m q) j))
        ∙ sym (ap (λ (a : ℕ). with_word m i (16843009 + spread_of a)) (and_nibble true true true true (bit (mag_at A i) b) (bit (mag_at A (i + 1)) b) (bit (mag_at A (i + 2)) b) (bit (mag_at A (i + 3)) b))
        ∙ child_word m i (true && bit (mag_at A i) b) (true && bit (mag_at A (i + 1)) b) (true && bit (mag_at A (i + 2)) b) (true && bit (mag_at A (i + 3)) b) inside)
