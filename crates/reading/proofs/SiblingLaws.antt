-- Four coefficients by themselves, as the decoder hears them: codes, marks and the number of bits used after them.
use Prim.Native.Nat.{ℕ, zero, suc, ◌+◌, ◌*◌, ◌-◌, ◌/◌, ◌%◌, ◌≤◌, ◌<◌}
use mathlib.Core.Path.{◌≡◌, refl, sym, ap, ◌∙◌}
use mathlib.Core.Bool.{Bool, true, false, cond, ◌&&◌, ◌||◌}
use mathlib.Core.List.{List}
use native.Mathlib.Omega.{arith}
use borrow.Author.Tests.{eqb-true, eq-eqb, ne_eqb, leb-true}
use lib.Dec.{leb, eqb}
use lib.IntN.{ℤ, pos}
use lib.ListN.{length, get_or, set, length-set}
use lib.Seq.{set-get_or, get_or-set_same, get_or-set_other}
use Rattle.bits.specs.Bits.{bit, digit, bit_at}
use Rattle.bits.proofs.Laws.{bit_shr, bit_mod, bit_high, bit_top}
use Rattle.coef.specs.Coef.{at}
use Rattle.nls.specs.Scan.{pixels}
use Rattle.marking.specs.Marking.{put_four}
use Rattle.walk.specs.Visits.{Source}
use Rattle.walk.specs.Fours.{own_mark, own_rest, Own, of_pixel, of_refining, of_child, kept1, kept2, kept3, kept4, four_marks}
use Rattle.walk.proofs.Fours.{NotBarred}
use Rattle.fours.specs.Words.{nibble_of, spread_of, count_of, which_are, refined_word, with_word, word_at, FourLow}
use Rattle.fours.specs.Tables.{takes, in_byte, in_nibble, end1, end2, end3, end4, found_of, minus_of, placed_of}
use Rattle.fours.proofs.Laws.{nibble_lt, nibble_0, nibble_1, nibble_2, nibble_3, found_word, child_word, which_are_lem, refined_word_lem, count_nibble}
use Rattle.reading.specs.Reading.{Read, read, new_code, more_code, is, child_clash, reader}
use Rattle.reading.specs.Siblings.{put_codes, found_at, found_four, refined_four, Fixed, Shows}

-- a code that is put back where it stood
same_code : (v : List ℤ) (i : ℕ) → set v i (at v i) ≡ v
same_code v i = set-get_or v i (pos 0)

other_code : (v : List ℤ) (i j : ℕ) (z : ℤ) → (j ≡ i → ⊥) → at (set v i z) j ≡ at v j
other_code v i j z d = get_or-set_other v i j z (pos 0) d

module _ (body : List ℕ) (usable I D P b : ℕ) where
  abbrev K : Source Read
  K = reader body usable I D P

  -- one coefficient: its bit is the next one, and after a 1 its sign
  heard_read : (x minus : Bool) (i : ℕ) (v : List ℤ) (n : ℕ) → cond x (read (set v i (new_code minus b)) (n + 1 + 1)) (read v (n + 1)) ≡ read (set v i (found_at v i b x minus)) (n + takes true x)
  heard_read true minus i v n = let e : n + 1 + 1 ≡ n + 2 = omega arith in ap (λ (k : ℕ). read (set v i (new_code minus b)) k) e
  heard_read false minus i v n = ap (λ (w : List ℤ). read w (n + 1)) (sym (same_code v i))

  pub pixel_read : (i k : ℕ) (v : List ℤ) (n : ℕ)
      → (of_pixel (reader body usable I D P) b).rest i k (read v n) ≡ read (set v i (found_at v i b (eqb k 1 && bit_at body n) (bit_at body (n + 1)))) (n + takes (eqb k 1) (bit_at body n))
  pixel_read i k v n = on (eqb k 1)
    where
      on : (t : Bool) → cond t (own_rest (reader body usable I D P) pixels b i (read v n)) (read v n) ≡ read (set v i (found_at v i b (t && bit_at body n) (bit_at body (n + 1)))) (n + takes t (bit_at body n))
      on true = heard_read (bit_at body n) (bit_at body (n + 1)) i v n
      on false = let e : n ≡ n + 0 = omega arith in λ j. read (sym (same_code v i) j) (e j)

  pub child_read : (i k : ℕ) (v : List ℤ) (n : ℕ)
      → (of_child (reader body usable I D P) b).rest i k (read v n) ≡ read (set v i (found_at v i b (true && bit_at body n) (bit_at body (n + 1)))) (n + takes true (bit_at body n))
  child_read i k v n = heard_read (bit_at body n) (bit_at body (n + 1)) i v n

  pub refining_read : (i k : ℕ) (v : List ℤ) (n : ℕ)
      → (of_refining (reader body usable I D P) b).rest i k (read v n) ≡ read (set v i (cond (eqb k 3) (more_code (bit_at body n) b (at v i)) (at v i))) (n + digit (eqb k 3))
  refining_read i k v n = on (eqb k 3)
    where
      on : (t : Bool) → cond t (read (set v i (more_code (bit_at body n) b (at v i))) (n + 1)) (read v n) ≡ read (set v i (cond t (more_code (bit_at body n) b (at v i)) (at v i))) (n + digit t)
      on true = refl
      on false = let e : n ≡ n + 0 = omega arith in λ j. read (sym (same_code v i) j) (e j)

  -- four places, of which each changes its own code only: x0 to x3 are what they become, by the code that was there, and n1 to n4 the bits used
  module _ (Q : Own Read) (i : ℕ) (m : List ℕ) (v : List ℤ) (n : ℕ) (f : ℕ → ℕ → ℤ → ℤ) (g : ℕ → ℕ → ℕ)
      (each : (j : ℕ) (w : List ℤ) (k : ℕ) → Q.rest j (get_or m j 0) (read w k) ≡ read (set w j (f j k (at w j))) (k + g j k)) where
    abbrev n1 : ℕ
    n1 = n + g i n

    abbrev n2 : ℕ
    n2 = n1 + g (i + 1) n1

    abbrev n3 : ℕ
    n3 = n2 + g (i + 2) n2

    abbrev n4 : ℕ
    n4 = n3 + g (i + 3) n3

    abbrev v1 : List ℤ
    v1 = set v i (f i n (at v i))

    abbrev v2 : List ℤ
    v2 = set v1 (i + 1) (f (i + 1) n1 (at v (i + 1)))

    abbrev v3 : List ℤ
    v3 = set v2 (i + 2) (f (i + 2) n2 (at v (i + 2)))

    pub after1 : kept1 Q i m (read v n) ≡ read (set v i (f i n (at v i))) (n + g i n)
    after1 = each i v n

    on : (j k : ℕ) (w : List ℤ) → at w j ≡ at v j → Q.rest j (get_or m j 0) (read w k) ≡ read (set w j (f j k (at v j))) (k + g j k)
    on j k w e = each j w k ∙ ap (λ (z : ℤ). read (set w j (f j k z)) (k + g j k)) e

    pub after2 : kept2 Q i m (read v n) ≡ read v2 n2
    after2 = ap (λ (o : Read). Q.rest (i + 1) (get_or m (i + 1) 0) o) after1 ∙ on (i + 1) n1 v1 (other_code v i (i + 1) _ (λ (z : i + 1 ≡ i). omega arith))

    pub after3 : kept3 Q i m (read v n) ≡ read v3 n3
    after3 =
        ap (λ (o : Read). Q.rest (i + 2) (get_or m (i + 2) 0) o) after2
        ∙ on (i + 2) n2 v2 (other_code v1 (i + 1) (i + 2) _ (λ (z : i + 2 ≡ i + 1). omega arith) ∙ other_code v i (i + 2) _ (λ (z : i + 2 ≡ i). omega arith))

    pub after4 : kept4 Q i m (read v n) ≡ read (put_codes v i (f i n (at v i)) (f (i + 1) n1 (at v (i + 1))) (f (i + 2) n2 (at v (i + 2))) (f (i + 3) n3 (at v (i + 3)))) n4
    after4 =
        ap (λ (o : Read). Q.rest (i + 3) (get_or m (i + 3) 0) o) after3
        ∙ on (i + 3) n3 v3
        (other_code v2 (i + 2) (i + 3) _ (λ (z : i + 3 ≡ i + 2). omega arith) ∙ other_code v1 (i + 1) (i + 3) _ (λ (z : i + 3 ≡ i + 1). omega arith) ∙ other_code v i (i + 3) _ (λ (z : i + 3 ≡ i). omega arith))

-- what four coefficients hear depends on which of them are asked and on eight bits
takes_le : (k x : Bool) → takes k x ≤ 2
takes_le true true = omega arith
takes_le true false = omega arith
takes_le false x = omega arith

module _ (k l u w : ℕ → Bool) (e0 : k 0 ≡ l 0) (e1 : k 1 ≡ l 1) (e2 : k 2 ≡ l 2) (e3 : k 3 ≡ l 3) (same : (p : ℕ) → p < 8 → u p ≡ w p) where
  pub ends1 : end1 k u ≡ end1 l w
  ends1 = λ j. takes (e0 j) (same 0 (omega arith) j)

  at1 : u (end1 k u) ≡ w (end1 l w)
  at1 = ap (λ (p : ℕ). u p) ends1 ∙ same (end1 l w) (omega (arith, takes_le (l 0) (w 0)))

  pub ends2 : end2 k u ≡ end2 l w
  ends2 = λ j. ends1 j + takes (e1 j) (at1 j)

  end2_le : end2 l w ≤ 4
  end2_le = omega (arith, takes_le (l 0) (w 0), takes_le (l 1) (w (end1 l w)))

  at2 : u (end2 k u) ≡ w (end2 l w)
  at2 = ap (λ (p : ℕ). u p) ends2 ∙ same (end2 l w) (omega (arith, end2_le))

  pub ends3 : end3 k u ≡ end3 l w
  ends3 = λ j. ends2 j + takes (e2 j) (at2 j)

  end3_le : end3 l w ≤ 6
  end3_le = omega (arith, end2_le, takes_le (l 2) (w (end2 l w)))

  at3 : u (end3 k u) ≡ w (end3 l w)
  at3 = ap (λ (p : ℕ). u p) ends3 ∙ same (end3 l w) (omega (arith, end3_le))

  pub ends4 : end4 k u ≡ end4 l w
  ends4 = λ j. ends3 j + takes (e3 j) (at3 j)

  sign1 : u (end1 k u + 1) ≡ w (end1 l w + 1)
  sign1 = ap (λ (p : ℕ). u (p + 1)) ends1 ∙ same (end1 l w + 1) (omega (arith, takes_le (l 0) (w 0)))

  sign2 : u (end2 k u + 1) ≡ w (end2 l w + 1)
  sign2 = ap (λ (p : ℕ). u (p + 1)) ends2 ∙ same (end2 l w + 1) (omega (arith, end2_le))

  sign3 : u (end3 k u + 1) ≡ w (end3 l w + 1)
  sign3 = ap (λ (p : ℕ). u (p + 1)) ends3 ∙ same (end3 l w + 1) (omega (arith, end3_le))

  pub found_same : found_of k u ≡ found_of l w
  found_same = λ j. nibble_of (e0 j && same 0 (omega arith) j) (e1 j && at1 j) (e2 j && at2 j) (e3 j && at3 j)

  pub minus_same : minus_of k u ≡ minus_of l w
  minus_same =
      λ j. nibble_of (e0 j && (same 0 (omega arith) j && same 1 (omega arith) j)) (e1 j && (at1 j && sign1 j)) (e2 j && (at2 j && sign2 j)) (e3 j && (at3 j && sign3 j))

pub found_small : (k u : ℕ → Bool) → found_of k u < 16
found_small k u = nibble_lt (k 0 && u 0) (k 1 && u (end1 k u)) (k 2 && u (end2 k u)) (k 3 && u (end3 k u))

pub minus_small : (k u : ℕ → Bool) → minus_of k u < 16
minus_small k u = nibble_lt (k 0 && (u 0 && u 1)) (k 1 && (u (end1 k u) && u (end1 k u + 1))) (k 2 && (u (end2 k u) && u (end2 k u + 1))) (k 3 && (u (end3 k u) && u (end3 k u + 1)))

pub end4_le : (k u : ℕ → Bool) → end4 k u ≤ 8
end4_le k u = omega (arith, takes_le (k 0) (u 0), takes_le (k 1) (u (end1 k u)), takes_le (k 2) (u (end2 k u)), takes_le (k 3) (u (end3 k u)))

-- the bits of a window
pub byte_shows : (body : List ℕ) (n w : ℕ) → Shows body n w → (p : ℕ) → p < 8 → in_byte (w / 256) p ≡ bit_at body (n + p)
byte_shows body n w s p h =
    bit_shr w 8 (7 - p) ∙ ap (λ (j : ℕ). bit w j) {x = 8 + (7 - p)} {y = 15 - p} (omega arith) ∙ s.bits p (omega arith)

pub next_shows : (body : List ℕ) (n w : ℕ) → Shows body n w → (p : ℕ) → p < 8 → in_byte (w / 128 % 256) p ≡ bit_at body (n + 1 + p)
next_shows body n w s p h =
    bit_mod (w / 128) 8 (7 - p) (omega arith) ∙ bit_shr w 7 (7 - p) ∙ ap (λ (j : ℕ). bit w j) {x = 7 + (7 - p)} {y = 15 - (p + 1)} (omega arith)
    ∙ s.bits (p + 1) (omega arith) ∙ ap (λ (j : ℕ). bit_at body j) {x = n + (p + 1)} {y = n + 1 + p} (omega arith)

pub nibble_shows : (body : List ℕ) (n w : ℕ) → Shows body n w → (p : ℕ) → p < 4 → in_nibble (w / 4096) p ≡ bit_at body (n + p)
nibble_shows body n w s p h =
    bit_shr w 12 (3 - p) ∙ ap (λ (j : ℕ). bit w j) {x = 12 + (3 - p)} {y = 15 - p} (omega arith) ∙ s.bits p (omega arith)

-- the bit that is next, by the window's size
first_bit : (body : List ℕ) (n w : ℕ) → Shows body n w → bit_at body n ≡ bit w 15
first_bit body n w s = ap (λ (j : ℕ). bit_at body j) {x = n} {y = n + 0} (omega arith) ∙ sym (s.bits 0 (omega arith))

pub zero_shows : (body : List ℕ) (n w : ℕ) → Shows body n w → w < 32768 → bit_at body n ≡ false
zero_shows body n w s h = first_bit body n w s ∙ bit_high 15 w 15 h (omega arith)

pub one_shows : (body : List ℕ) (n w : ℕ) → Shows body n w → 32768 ≤ w → bit_at body n ≡ true
one_shows body n w s h = first_bit body n w s ∙ bit_top w 15 h s.small

-- a code that is found, by a sign that is asked for where it is found only
sign_there : (k x s : Bool) (b : ℕ) (z : ℤ) → cond (k && x) (new_code s b) z ≡ cond (k && x) (new_code (k && (x && s)) b) z
sign_there true true s b z = refl
sign_there true false s b z = refl
sign_there false x s b z = refl

-- a child's 0 at another place than the fourth, and at the fourth where one before it was found
not_fourth : (I t : ℕ) (m : List ℕ) → (t % 4 ≡ 3 → ⊥) → child_clash I t m ≡ false
unfolding child_clash
not_fourth I t m d = ap (λ (x : Bool). x && (leb I (16 * (t / 4)) && (is m (t - 1) 1 && (is m (t - 2) 1 && is m (t - 3) 1)))) (ne_eqb (t % 4) 3 d)

fourth_free : (I i : ℕ) (m : List ℕ) (x y z : Bool) → i % 4 ≡ 0 → i + 3 < length m → (I ≤ 4 * i → (x || (y || z)) ≡ true)
    → child_clash I (i + 3) (set (set (set m i (cond x 2 1)) (i + 1) (cond y 2 1)) (i + 2) (cond z 2 1)) ≡ false
unfolding child_clash
fourth_free I i m x y z a h f =
    let e : (i + 3) % 4 ≡ 3 = omega (arith, a) in
    let q : 16 * ((i + 3) / 4) ≡ 4 * i = omega (arith, a) in
    let r2 : i + 3 - 1 ≡ i + 2 = omega arith in
    let r1 : i + 3 - 2 ≡ i + 1 = omega arith in
    let r0 : i + 3 - 3 ≡ i = omega arith in
    (λ j. eq-eqb ((i + 3) % 4) 3 e j && (leb I (q j) && (is r (r2 j) 1 && (is r (r1 j) 1 && is r (r0 j) 1)))) ∙ below (leb I (4 * i)) refl
  where
    r : List ℕ
    r = set (set (set m i (cond x 2 1)) (i + 1) (cond y 2 1)) (i + 2) (cond z 2 1)

    there2 : get_or r (i + 2) 0 ≡ cond z 2 1
    there2 = get_or-set_same (set (set m i (cond x 2 1)) (i + 1) (cond y 2 1)) (i + 2) (cond z 2 1) 0 (omega (arith, h, length-set m i (cond x 2 1), length-set (set m i (cond x 2 1)) (i + 1) (cond y 2 1)))

    there1 : get_or r (i + 1) 0 ≡ cond y 2 1
    there1 =
        get_or-set_other (set (set m i (cond x 2 1)) (i + 1) (cond y 2 1)) (i + 2) (i + 1) (cond z 2 1) 0 (λ (w : i + 1 ≡ i + 2). omega arith)
        ∙ get_or-set_same (set m i (cond x 2 1)) (i + 1) (cond y 2 1) 0 (omega (arith, h, length-set m i (cond x 2 1)))

    there0 : get_or r i 0 ≡ cond x 2 1
    there0 =
        get_or-set_other (set (set m i (cond x 2 1)) (i + 1) (cond y 2 1)) (i + 2) i (cond z 2 1) 0 (λ (w : i ≡ i + 2). omega arith)
        ∙ get_or-set_other (set m i (cond x 2 1)) (i + 1) i (cond y 2 1) 0 (λ (w : i ≡ i + 1). omega arith)
        ∙ get_or-set_same m i (cond x 2 1) 0 (omega arith)

    marks : (x y z : Bool) → (x || (y || z)) ≡ true → (eqb (cond z 2 1) 1 && (eqb (cond y 2 1) 1 && eqb (cond x 2 1) 1)) ≡ false
    marks x y true e = refl
    marks x true false e = refl
    marks true false false e = refl
    marks false false false e = sym e

    below : (t : Bool) → leb I (4 * i) ≡ t → (t && (is r (i + 2) 1 && (is r (i + 1) 1 && is r i 1))) ≡ false
    below true e = (λ j. eqb (there2 j) 1 && (eqb (there1 j) 1 && eqb (there0 j) 1)) ∙ marks x y z (f (leb-true I (4 * i) e))
    below false e = refl

-- four choices as a function of the place
abbrev pub choices : Bool → Bool → Bool → Bool → ℕ → Bool
choices x y z t zero = x
choices x y z t (suc zero) = y
choices x y z t (suc (suc zero)) = z
choices x y z t (suc (suc (suc j))) = t

module _ (body : List ℕ) (usable I D P b : ℕ) (i : ℕ) (m : List ℕ) (v : List ℤ) (n : ℕ) where
  abbrev U : ℕ → Bool
  U p = bit_at body (n + p)

  at_zero : bit_at body n ≡ U 0
  at_zero = ap (λ (j : ℕ). bit_at body j) {x = n} {y = n + 0} (omega arith)

  -- of four coefficients asked as k says, the codes and the bits used, in the words of the tables
  module _ (k : ℕ → Bool) where
    abbrev p1 : ℕ
    p1 = n + takes (k 0) (bit_at body n)

    abbrev p2 : ℕ
    p2 = p1 + takes (k 1) (bit_at body p1)

    abbrev p3 : ℕ
    p3 = p2 + takes (k 2) (bit_at body p2)

    abbrev p4 : ℕ
    p4 = p3 + takes (k 3) (bit_at body p3)

    is1 : p1 ≡ n + end1 k U
    is1 = ap (λ (x : Bool). n + takes (k 0) x) at_zero

    is2 : p2 ≡ n + end2 k U
    is2 = (λ j. is1 j + takes (k 1) (bit_at body (is1 j))) ∙ omega arith

    is3 : p3 ≡ n + end3 k U
    is3 = (λ j. is2 j + takes (k 2) (bit_at body (is2 j))) ∙ omega arith

    pub is4 : p4 ≡ n + end4 k U
    is4 = (λ j. is3 j + takes (k 3) (bit_at body (is3 j))) ∙ omega arith

    abbrev a : ℕ
    a = found_of k U

    abbrev s : ℕ
    s = minus_of k U

    code0 : cond (k 0 && bit_at body n) (new_code (bit_at body (n + 1)) b) (at v i) ≡ found_at v i b (bit a 0) (bit s 0)
    code0 =
        (λ j. cond (k 0 && at_zero j) (new_code (bit_at body (n + 1)) b) (at v i))
        ∙ sign_there (k 0) (U 0) (U 1) b (at v i)
        ∙ (λ j. cond (sym (nibble_0 (k 0 && U 0) (k 1 && U (end1 k U)) (k 2 && U (end2 k U)) (k 3 && U (end3 k U))) j) (new_code (sym (nibble_0 (k 0 && (U 0 && U 1)) (k 1 && (U (end1 k U) && U (end1 k U + 1))) (k 2 && (U (end2 k U) && U (end2 k U + 1))) (k 3 && (U (end3 k U) && U (end3 k U + 1)))) j) b) (at v i))

    after : (p e : ℕ) → p ≡ n + e → bit_at body (p + 1) ≡ U (e + 1)
    after p e q = ap (λ (j : ℕ). bit_at body j) {x = p + 1} {y = n + (e + 1)} (omega (arith, q))

    code1 : cond (k 1 && bit_at body p1) (new_code (bit_at body (p1 + 1)) b) (at v (i + 1)) ≡ found_at v (i + 1) b (bit a 1) (bit s 1)
    code1 =
        (λ j. cond (k 1 && bit_at body (is1 j)) (new_code (after p1 (end1 k U) is1 j) b) (at v (i + 1)))
        ∙ sign_there (k 1) (U (end1 k U)) (U (end1 k U + 1)) b (at v (i + 1))
        ∙ (λ j. cond (sym (nibble_1 (k 0 && U 0) (k 1 && U (end1 k U)) (k 2 && U (end2 k U)) (k 3 && U (end3 k U))) j) (new_code (sym (nibble_1 (k 0 && (U 0 && U 1)) (k 1 && (U (end1 k U) && U (end1 k U + 1))) (k 2 && (U (end2 k U) && U (end2 k U + 1))) (k 3 && (U (end3 k U) && U (end3 k U + 1)))) j) b) (at v (i + 1)))

    code2 : cond (k 2 && bit_at body p2) (new_code (bit_at body (p2 + 1)) b) (at v (i + 2)) ≡ found_at v (i + 2) b (bit a 2) (bit s 2)
    code2 =
        (λ j. cond (k 2 && bit_at body (is2 j)) (new_code (after p2 (end2 k U) is2 j) b) (at v (i + 2)))
        ∙ sign_there (k 2) (U (end2 k U)) (U (end2 k U + 1)) b (at v (i + 2))
        ∙ (λ j. cond (sym (nibble_2 (k 0 && U 0) (k 1 && U (end1 k U)) (k 2 && U (end2 k U)) (k 3 && U (end3 k U))) j) (new_code (sym (nibble_2 (k 0 && (U 0 && U 1)) (k 1 && (U (end1 k U) && U (end1 k U + 1))) (k 2 && (U (end2 k U) && U (end2 k U + 1))) (k 3 && (U (end3 k U) && U (end3 k U + 1)))) j) b) (at v (i + 2)))

    code3 : cond (k 3 && bit_at body p3) (new_code (bit_at body (p3 + 1)) b) (at v (i + 3)) ≡ found_at v (i + 3) b (bit a 3) (bit s 3)
    code3 =
        (λ j. cond (k 3 && bit_at body (is3 j)) (new_code (after p3 (end3 k U) is3 j) b) (at v (i + 3)))
        ∙ sign_there (k 3) (U (end3 k U)) (U (end3 k U + 1)) b (at v (i + 3))
        ∙ (λ j. cond (sym (nibble_3 (k 0 && U 0) (k 1 && U (end1 k U)) (k 2 && U (end2 k U)) (k 3 && U (end3 k U))) j) (new_code (sym (nibble_3 (k 0 && (U 0 && U 1)) (k 1 && (U (end1 k U) && U (end1 k U + 1))) (k 2 && (U (end2 k U) && U (end2 k U + 1))) (k 3 && (U (end3 k U) && U (end3 k U + 1)))) j) b) (at v (i + 3)))

    pub found_codes : put_codes v i (cond (k 0 && bit_at body n) (new_code (bit_at body (n + 1)) b) (at v i)) (cond (k 1 && bit_at body p1) (new_code (bit_at body (p1 + 1)) b) (at v (i + 1))) (cond (k 2 && bit_at body p2) (new_code (bit_at body (p2 + 1)) b) (at v (i + 2))) (cond (k 3 && bit_at body p3) (new_code (bit_at body (p3 + 1)) b) (at v (i + 3)))
        ≡ found_four v i b (found_of k U) (minus_of k U)
    found_codes = λ j. put_codes v i (code0 j) (code1 j) (code2 j) (code3 j)

    -- which are found, one after the other, as bits of the body
    pub find0 : (k 0 && bit_at body n) ≡ (k 0 && U 0)
    find0 = ap (λ (x : Bool). k 0 && x) at_zero

    pub find1 : (k 1 && bit_at body p1) ≡ (k 1 && U (end1 k U))
    find1 = ap (λ (p : ℕ). k 1 && bit_at body p) is1

    pub find2 : (k 2 && bit_at body p2) ≡ (k 2 && U (end2 k U))
    find2 = ap (λ (p : ℕ). k 2 && bit_at body p) is2

    pub find3 : (k 3 && bit_at body p3) ≡ (k 3 && U (end3 k U))
    find3 = ap (λ (p : ℕ). k 3 && bit_at body p) is3

  -- four places of the pixel pass
  module _ (inside : i + 4 ≤ length m) (low : FourLow m i) (y : ℕ) (shows : (p : ℕ) → p < 8 → in_byte y p ≡ bit_at body (n + p)) where
    abbrev c0 : Bool
    c0 = eqb (get_or m i 0) 1

    abbrev c1 : Bool
    c1 = eqb (get_or m (i + 1) 0) 1

    abbrev c2 : Bool
    c2 = eqb (get_or m (i + 2) 0) 1

    abbrev c3 : Bool
    c3 = eqb (get_or m (i + 3) 0) 1

    abbrev k : ℕ → Bool
    k = choices c0 c1 c2 c3

    abbrev q : ℕ
    q = which_are 1 (word_at m i)

    q_is : which_are 1 (word_at m i) ≡ nibble_of (eqb (get_or m i 0) 1) (eqb (get_or m (i + 1) 0) 1) (eqb (get_or m (i + 2) 0) 1) (eqb (get_or m (i + 3) 0) 1)
    q_is = which_are_lem m i 1 inside low

    b0 : bit q 0 ≡ c0
    b0 = ap (λ (x : ℕ). bit x 0) q_is ∙ nibble_0 c0 c1 c2 c3

    b1 : bit q 1 ≡ c1
    b1 = ap (λ (x : ℕ). bit x 1) q_is ∙ nibble_1 c0 c1 c2 c3

    b2 : bit q 2 ≡ c2
    b2 = ap (λ (x : ℕ). bit x 2) q_is ∙ nibble_2 c0 c1 c2 c3

    b3 : bit q 3 ≡ c3
    b3 = ap (λ (x : ℕ). bit x 3) q_is ∙ nibble_3 c0 c1 c2 c3

    abbrev f : ℕ → ℕ → ℤ → ℤ
    f j p z = cond (eqb (get_or m j 0) 1 && bit_at body p) (new_code (bit_at body (p + 1)) b) z

    abbrev g : ℕ → ℕ → ℕ
    g j p = takes (eqb (get_or m j 0) 1) (bit_at body p)

    each : (j : ℕ) (w : List ℤ) (p : ℕ) → (of_pixel (reader body usable I D P) b).rest j (get_or m j 0) (read w p) ≡ read (set w j (f j p (at w j))) (p + g j p)
    each j w p = pixel_read body usable I D P b j (get_or m j 0) w p

    pub pixel_codes : kept4 (of_pixel (reader body usable I D P) b) i m (read v n) ≡ read (found_four v i b (found_of (bit (which_are 1 (word_at m i))) (in_byte y)) (minus_of (bit (which_are 1 (word_at m i))) (in_byte y))) (n + end4 (bit (which_are 1 (word_at m i))) (in_byte y))
    pixel_codes =
        after4 body usable I D P b (of_pixel (reader body usable I D P) b) i m v n f g each
        ∙ (λ j. read (found_codes k j) (is4 k j))
        ∙ (λ j. read (found_four v i b (sym (found_same (bit q) k (in_byte y) U b0 b1 b2 b3 shows) j) (sym (minus_same (bit q) k (in_byte y) U b0 b1 b2 b3 shows) j)) (n + sym (ends4 (bit q) k (in_byte y) U b0 b1 b2 b3 shows) j))

    more_mark : (z : ℕ) (x : Bool) → cond (eqb z 1) (cond x 2 1) z ≡ z + digit (eqb z 1 && x)
    more_mark z x = on (eqb z 1) refl x
      where
        on : (t : Bool) → eqb z 1 ≡ t → (x : Bool) → cond t (cond x 2 1) z ≡ z + digit (t && x)
        on true e true = omega (arith, eqb-true z 1 e)
        on true e false = omega (arith, eqb-true z 1 e)
        on false e x = omega arith

    mark1 : (o : Read) (p : ℕ) (w : List ℤ) (j : ℕ) → o ≡ read w p → (of_pixel (reader body usable I D P) b).mark j (get_or m j 0) o ≡ get_or m j 0 + digit (eqb (get_or m j 0) 1 && bit_at body p)
    mark1 o p w j e = ap (λ (r : Read). (of_pixel (reader body usable I D P) b).mark j (get_or m j 0) r) e ∙ more_mark (get_or m j 0) (bit_at body p)

    pub pixel_marks : four_marks (of_pixel (reader body usable I D P) b) i m (read v n) ≡ with_word m i (word_at m i + spread_of (found_of (bit (which_are 1 (word_at m i))) (in_byte y)))
    pixel_marks =
        (λ j. put_four m i (mark1 (read v n) n v i refl j)
        (mark1 (kept1 (of_pixel (reader body usable I D P) b) i m (read v n)) _ _ (i + 1) (after1 body usable I D P b (of_pixel (reader body usable I D P) b) i m v n f g each) j)
        (mark1 (kept2 (of_pixel (reader body usable I D P) b) i m (read v n)) _ _ (i + 2) (after2 body usable I D P b (of_pixel (reader body usable I D P) b) i m v n f g each) j)
        (mark1 (kept3 (of_pixel (reader body usable I D P) b) i m (read v n)) _ _ (i + 3) (after3 body usable I D P b (of_pixel (reader body usable I D P) b) i m v n f g each) j))
        ∙ (λ j. put_four m i (get_or m i 0 + digit (find0 k j)) (get_or m (i + 1) 0 + digit (find1 k j)) (get_or m (i + 2) 0 + digit (find2 k j)) (get_or m (i + 3) 0 + digit (find3 k j)))
        ∙ sym (found_word m i (k 0 && U 0) (k 1 && U (end1 k U)) (k 2 && U (end2 k U)) (k 3 && U (end3 k U)) inside low)
        ∙ ap (λ (a : ℕ). with_word m i (word_at m i + spread_of a)) (sym (found_same (bit q) k (in_byte y) U b0 b1 b2 b3 shows))

  -- four places of the refinement pass
  module _ (inside : i + 4 ≤ length m) (low : FourLow m i) (y : ℕ) (shows : (p : ℕ) → p < 4 → in_nibble y p ≡ bit_at body (n + p)) (fixed : Fixed v i b) where
    abbrev t0 : Bool
    t0 = eqb (get_or m i 0) 3

    abbrev t1 : Bool
    t1 = eqb (get_or m (i + 1) 0) 3

    abbrev t2 : Bool
    t2 = eqb (get_or m (i + 2) 0) 3

    abbrev t3 : Bool
    t3 = eqb (get_or m (i + 3) 0) 3

    abbrev own : ℕ
    own = which_are 3 (word_at m i)

    own_is : which_are 3 (word_at m i) ≡ nibble_of (eqb (get_or m i 0) 3) (eqb (get_or m (i + 1) 0) 3) (eqb (get_or m (i + 2) 0) 3) (eqb (get_or m (i + 3) 0) 3)
    own_is = which_are_lem m i 3 inside low

    o0 : bit own 0 ≡ t0
    o0 = ap (λ (x : ℕ). bit x 0) own_is ∙ nibble_0 t0 t1 t2 t3

    o1 : bit own 1 ≡ t1
    o1 = ap (λ (x : ℕ). bit x 1) own_is ∙ nibble_1 t0 t1 t2 t3

    o2 : bit own 2 ≡ t2
    o2 = ap (λ (x : ℕ). bit x 2) own_is ∙ nibble_2 t0 t1 t2 t3

    o3 : bit own 3 ≡ t3
    o3 = ap (λ (x : ℕ). bit x 3) own_is ∙ nibble_3 t0 t1 t2 t3

    abbrev fr : ℕ → ℕ → ℤ → ℤ
    fr j p z = cond (eqb (get_or m j 0) 3) (more_code (bit_at body p) b z) z

    abbrev gr : ℕ → ℕ → ℕ
    gr j p = digit (eqb (get_or m j 0) 3)

    each_refined : (j : ℕ) (w : List ℤ) (p : ℕ) → (of_refining (reader body usable I D P) b).rest j (get_or m j 0) (read w p) ≡ read (set w j (fr j p (at w j))) (p + gr j p)
    each_refined j w p = refining_read body usable I D P b j (get_or m j 0) w p

    -- what is put, by the table
    abbrev placed : ℕ
    placed = placed_of (bit own) (in_nibble y)

    put : (t x : Bool) (z : ℤ) → more_code false b z ≡ z → cond t (more_code x b z) z ≡ more_code (t && x) b z
    put true x z e = refl
    put false x z e = sym e

    digit_small : (x : Bool) → digit x ≤ 1
    digit_small true = omega arith
    digit_small false = omega arith

    -- bit number d of those that follow, where so many places before took one
    bit_there : (p d : ℕ) → p ≡ n + d → d < 4 → bit_at body p ≡ in_nibble y d
    bit_there p d e h = ap (λ (k : ℕ). bit_at body k) e ∙ sym (shows d h)

    put0 : cond t0 (more_code (bit_at body n) b (at v i)) (at v i) ≡ more_code (bit placed 0) b (at v i)
    put0 =
        put t0 (bit_at body n) (at v i) fixed.first
        ∙ (λ j. more_code (sym o0 j && bit_there n 0 (omega arith) (omega arith) j) b (at v i))
        ∙ ap (λ (x : Bool). more_code x b (at v i)) (sym (nibble_0 (bit own 0 && in_nibble y 0) (bit own 1 && in_nibble y (digit (bit own 0))) (bit own 2 && in_nibble y (digit (bit own 0) + digit (bit own 1))) (bit own 3 && in_nibble y (digit (bit own 0) + digit (bit own 1) + digit (bit own 2)))))

    put1 : cond t1 (more_code (bit_at body (n + digit t0)) b (at v (i + 1))) (at v (i + 1)) ≡ more_code (bit placed 1) b (at v (i + 1))
    put1 =
        put t1 (bit_at body (n + digit t0)) (at v (i + 1)) fixed.second
        ∙ (λ j. more_code (sym o1 j && bit_there (n + digit t0) (digit t0) refl (omega (arith, digit_small t0)) j) b (at v (i + 1)))
        ∙ (λ j. more_code (bit own 1 && in_nibble y (digit (sym o0 j))) b (at v (i + 1)))
        ∙ ap (λ (x : Bool). more_code x b (at v (i + 1))) (sym (nibble_1 (bit own 0 && in_nibble y 0) (bit own 1 && in_nibble y (digit (bit own 0))) (bit own 2 && in_nibble y (digit (bit own 0) + digit (bit own 1))) (bit own 3 && in_nibble y (digit (bit own 0) + digit (bit own 1) + digit (bit own 2)))))

    put2 : cond t2 (more_code (bit_at body (n + digit t0 + digit t1)) b (at v (i + 2))) (at v (i + 2)) ≡ more_code (bit placed 2) b (at v (i + 2))
    put2 =
        put t2 (bit_at body (n + digit t0 + digit t1)) (at v (i + 2)) fixed.third
        ∙ (λ j. more_code (sym o2 j && bit_there (n + digit t0 + digit t1) (digit t0 + digit t1) (omega arith) (omega (arith, digit_small t0, digit_small t1)) j) b (at v (i + 2)))
        ∙ (λ j. more_code (bit own 2 && in_nibble y (digit (sym o0 j) + digit (sym o1 j))) b (at v (i + 2)))
        ∙ ap (λ (x : Bool). more_code x b (at v (i + 2))) (sym (nibble_2 (bit own 0 && in_nibble y 0) (bit own 1 && in_nibble y (digit (bit own 0))) (bit own 2 && in_nibble y (digit (bit own 0) + digit (bit own 1))) (bit own 3 && in_nibble y (digit (bit own 0) + digit (bit own 1) + digit (bit own 2)))))

    put3 : cond t3 (more_code (bit_at body (n + digit t0 + digit t1 + digit t2)) b (at v (i + 3))) (at v (i + 3)) ≡ more_code (bit placed 3) b (at v (i + 3))
    put3 =
        put t3 (bit_at body (n + digit t0 + digit t1 + digit t2)) (at v (i + 3)) fixed.fourth
        ∙ (λ j. more_code (sym o3 j && bit_there (n + digit t0 + digit t1 + digit t2) (digit t0 + digit t1 + digit t2) (omega arith) (omega (arith, digit_small t0, digit_small t1, digit_small t2)) j) b (at v (i + 3)))
        ∙ (λ j. more_code (bit own 3 && in_nibble y (digit (sym o0 j) + digit (sym o1 j) + digit (sym o2 j))) b (at v (i + 3)))
        ∙ ap (λ (x : Bool). more_code x b (at v (i + 3))) (sym (nibble_3 (bit own 0 && in_nibble y 0) (bit own 1 && in_nibble y (digit (bit own 0))) (bit own 2 && in_nibble y (digit (bit own 0) + digit (bit own 1))) (bit own 3 && in_nibble y (digit (bit own 0) + digit (bit own 1) + digit (bit own 2)))))

    counted : n + digit t0 + digit t1 + digit t2 + digit t3 ≡ n + count_of own
    counted = let e = ap (λ (x : ℕ). count_of x) own_is ∙ count_nibble t0 t1 t2 t3 in omega (arith, e)

    pub refined_codes : kept4 (of_refining (reader body usable I D P) b) i m (read v n) ≡ read (refined_four v i b (placed_of (bit (which_are 3 (word_at m i))) (in_nibble y))) (n + count_of (which_are 3 (word_at m i)))
    refined_codes =
        after4 body usable I D P b (of_refining (reader body usable I D P) b) i m v n fr gr each_refined
        ∙ (λ j. read (put_codes v i (put0 j) (put1 j) (put2 j) (put3 j)) (counted j))

    pub refined_marks : (o : Read) → four_marks (of_refining (reader body usable I D P) b) i m o ≡ with_word m i (refined_word (word_at m i))
    refined_marks o = sym (refined_word_lem m i inside low)

  -- four children
  module _ (inside : i + 4 ≤ length m) (y : ℕ) (shows : (p : ℕ) → p < 8 → in_byte y p ≡ bit_at body (n + p)) where
    abbrev every : ℕ → Bool
    every = choices true true true true

    a0 : bit 15 0 ≡ true
    a0 = nibble_0 true true true true

    a1 : bit 15 1 ≡ true
    a1 = nibble_1 true true true true

    a2 : bit 15 2 ≡ true
    a2 = nibble_2 true true true true

    a3 : bit 15 3 ≡ true
    a3 = nibble_3 true true true true

    abbrev fc : ℕ → ℕ → ℤ → ℤ
    fc j p z = cond (true && bit_at body p) (new_code (bit_at body (p + 1)) b) z

    abbrev gc : ℕ → ℕ → ℕ
    gc j p = takes true (bit_at body p)

    each_child : (j : ℕ) (w : List ℤ) (p : ℕ) → (of_child (reader body usable I D P) b).rest j (get_or m j 0) (read w p) ≡ read (set w j (fc j p (at w j))) (p + gc j p)
    each_child j w p = child_read body usable I D P b j (get_or m j 0) w p

    pub child_codes : kept4 (of_child (reader body usable I D P) b) i m (read v n) ≡ read (found_four v i b (found_of (bit 15) (in_byte y)) (minus_of (bit 15) (in_byte y))) (n + end4 (bit 15) (in_byte y))
    child_codes =
        after4 body usable I D P b (of_child (reader body usable I D P) b) i m v n fc gc each_child
        ∙ (λ j. read (found_codes every j) (is4 every j))
        ∙ (λ j. read (found_four v i b (sym (found_same (bit 15) every (in_byte y) U a0 a1 a2 a3 shows) j) (sym (minus_same (bit 15) every (in_byte y) U a0 a1 a2 a3 shows) j)) (n + sym (ends4 (bit 15) every (in_byte y) U a0 a1 a2 a3 shows) j))

    one_mark : (x : Bool) → cond x 2 1 ≡ 1 + digit (true && x)
    one_mark true = refl
    one_mark false = refl

    -- which of them are found, one after the other
    abbrev h0 : Bool
    h0 = bit_at body n

    abbrev h1 : Bool
    h1 = bit_at body (n + gc i n)

    abbrev h2 : Bool
    h2 = bit_at body (n + gc i n + gc (i + 1) (n + gc i n))

    abbrev h3 : Bool
    h3 = bit_at body (n + gc i n + gc (i + 1) (n + gc i n) + gc (i + 2) (n + gc i n + gc (i + 1) (n + gc i n)))

    asked1 : (kept1 (of_child (reader body usable I D P) b) i m (read v n)).n ≡ n + gc i n
    asked1 = ap (λ (o : Read). o.n) (after1 body usable I D P b (of_child (reader body usable I D P) b) i m v n fc gc each_child)

    asked2 : (kept2 (of_child (reader body usable I D P) b) i m (read v n)).n ≡ n + gc i n + gc (i + 1) (n + gc i n)
    asked2 = ap (λ (o : Read). o.n) (after2 body usable I D P b (of_child (reader body usable I D P) b) i m v n fc gc each_child)

    asked3 : (kept3 (of_child (reader body usable I D P) b) i m (read v n)).n ≡ n + gc i n + gc (i + 1) (n + gc i n) + gc (i + 2) (n + gc i n + gc (i + 1) (n + gc i n))
    asked3 = ap (λ (o : Read). o.n) (after3 body usable I D P b (of_child (reader body usable I D P) b) i m v n fc gc each_child)

    found_is : found_of (bit 15) (in_byte y) ≡ nibble_of (true && h0) (true && h1) (true && h2) (true && h3)
    found_is = found_same (bit 15) every (in_byte y) U a0 a1 a2 a3 shows ∙ (λ j. nibble_of (sym (find0 every) j) (sym (find1 every) j) (sym (find2 every) j) (sym (find3 every) j))

    pub child_marks : four_marks (of_child (reader body usable I D P) b) i m (read v n) ≡ with_word m i (16843009 + spread_of (found_of (bit 15) (in_byte y)))
    child_marks =
        (λ j. put_four m i (cond h0 2 1) (cond (bit_at body (asked1 j)) 2 1) (cond (bit_at body (asked2 j)) 2 1) (cond (bit_at body (asked3 j)) 2 1))
        ∙ (λ j. put_four m i (one_mark h0 j) (one_mark h1 j) (one_mark h2 j) (one_mark h3 j))
        ∙ sym (child_word m i (true && h0) (true && h1) (true && h2) (true && h3) inside)
        ∙ ap (λ (a : ℕ). with_word m i (16843009 + spread_of a)) (sym found_is)

    -- a child's 0 is barred at the fourth only, where the others were 0 and nothing lies below
    module _ (aligned : i % 4 ≡ 0) (some : found_of (bit 15) (in_byte y) ≡ 0 → 4 * i < I) where
      pub free0 : NotBarred (reader body usable I D P) b i m (read v n)
      free0 = record { zero_free = λ _. not_fourth I i m (omega (arith, aligned)) }

      pub free1 : (w : List ℕ) (o : Read) → NotBarred (reader body usable I D P) b (i + 1) w o
      free1 w o = record { zero_free = λ _. not_fourth I (i + 1) w (omega (arith, aligned)) }

      pub free2 : (w : List ℕ) (o : Read) → NotBarred (reader body usable I D P) b (i + 2) w o
      free2 w o = record { zero_free = λ _. not_fourth I (i + 2) w (omega (arith, aligned)) }

      none : h3 ≡ false → I ≤ 4 * i → (h0 || (h1 || h2)) ≡ true
      none e l = on h0 h1 h2 (λ f. some (found_is ∙ (λ j. nibble_of h0 h1 h2 (e j)) ∙ f))
        where
          on : (x y z : Bool) → (nibble_of x y z false ≡ 0 → 4 * i < I) → (x || (y || z)) ≡ true
          on true y z g = refl
          on false true z g = refl
          on false false true g = refl
          on false false false g = absurd (omega (arith, g refl, l))

      pub free3 : NotBarred (reader body usable I D P) b (i + 3)
          (set (set (set m i (own_mark (reader body usable I D P) b i (read v n))) (i + 1) (own_mark (reader body usable I D P) b (i + 1) (kept1 (of_child (reader body usable I D P) b) i m (read v n)))) (i + 2) (own_mark (reader body usable I D P) b (i + 2) (kept2 (of_child (reader body usable I D P) b) i m (read v n))))
          (kept3 (of_child (reader body usable I D P) b) i m (read v n))
      free3 =
          record {
            zero_free = λ e.
                (λ j. child_clash I (i + 3) (set (set (set m i (cond h0 2 1)) (i + 1) (cond (bit_at body (asked1 j)) 2 1)) (i + 2) (cond (bit_at body (asked2 j)) 2 1)))
                ∙ fourth_free I i m h0 h1 h2 aligned (omega (arith, inside)) (none (sym (ap (λ (p : ℕ). bit_at body p) asked3) ∙ e));
          }
