-- Tallies by length in binary: how one is made, and what it says of those that reach a level.
use mathlib.Core.Path.{◌≡◌, refl, sym, ap, subst, ◌∙◌}
use mathlib.Core.Bool.{Bool, true, false, false≢true, ◌&&◌}
use mathlib.Core.List.{List, [], ◌∷◌, replicate}
use Prim.Native.Nat.{ℕ, zero, suc, ◌+◌, ◌*◌, ◌-◌, ◌^◌, ◌≤◌, ◌<◌}
use native.Mathlib.Nat.{pow-succ'}
use native.Mathlib.Decide.{dec_lt}
use native.Mathlib.Omega.{arith}
use borrow.Author.Tests.{eqb-true, eqb-false, ltb-true, leb-true, leb-false, lt-ltb, le-ltb, le-leb, lt-leb}
use lib.Count.{count_leading_zeros, leading_length, leading_unique}
use lib.Dec.{eqb, leb, ltb}
use lib.IntN.{ℤ}
use lib.ListN.{length, get_or, get_or-eq_default, set, length-set}
use lib.Seq.{get_or-set_same, get_or-set_other}
use Rattle.sizes.specs.Tables.{table}
use Rattle.sizes.proofs.Laws.{both_left, both_right, both}
use Rattle.sizes.proofs.Tables.{table_length, table_at, table_is}
use Rattle.bits.specs.Bits.{digit}
use Rattle.coef.specs.Coef.{mag_at}
use Rattle.nls.specs.Parts.{sum_to, count_to}
use Rattle.figures.specs.Tables.{reach_of, has_length, tally_of, reach_less, Within}
use Rattle.figures.proofs.Sums.{sum_suc, sum_same, sum_add, count_most}

module _ (k x : ℕ) where
  length_is : x < 2 ^ k → 2 ^ k ≤ 2 * x + 1 → has_length k x ≡ true
  unfolding has_length
  length_is h g = both (lt-ltb x (2 ^ k) h) (le-leb (2 ^ k) (2 * x + 1) g)

  length_below : has_length k x ≡ true → x < 2 ^ k
  unfolding has_length
  length_below e = ltb-true x (2 ^ k) (both_left (ltb x (2 ^ k)) (leb (2 ^ k) (2 * x + 1)) e)

  length_least : has_length k x ≡ true → 2 ^ k ≤ 2 * x + 1
  unfolding has_length
  length_least e = leb-true (2 ^ k) (2 * x + 1) (both_right (ltb x (2 ^ k)) (leb (2 ^ k) (2 * x + 1)) e)

-- a number below 2^32 has 32 - z digits exactly if it has z leading zeros
by_zeros : (x z : ℕ) → x < 2 ^ 32 → z ≤ 32 → digit (has_length (32 - z) x) ≡ digit (eqb z (count_leading_zeros 32 x))
by_zeros x z h k = tell (has_length (32 - z) x) (eqb z (count_leading_zeros 32 x)) refl refl
  where
    tell : (s t : Bool) → has_length (32 - z) x ≡ s → eqb z (count_leading_zeros 32 x) ≡ t → digit s ≡ digit t
    tell true true e f = refl
    tell true false e f =
        absurd (eqb-false z (count_leading_zeros 32 x) f (leading_unique 32 x z (32 - z) (omega arith) (length_below (32 - z) x e) (length_least (32 - z) x e)))
    tell false true e f =
        let m = leading_length 32 x h in
        let own : 32 - z ≡ m.0 = omega (arith, eqb-true z (count_leading_zeros 32 x) f, m.1) in
        absurd (false≢true (sym e ∙ rw own (length_is m.0 x m.2 m.3)))
    tell false false e f = refl

module _ (n : ℕ) (x : ℕ → ℕ) where
  pub tally_at : (z : ℕ) → z ≤ 32 → get_or (tally_of n x) z 0 ≡ count_to n (λ i. has_length (32 - z) (x i))
  unfolding tally_of
  tally_at z h = table_at 33 (λ k. count_to n (λ i. has_length (32 - k) (x i))) z 0 (omega arith)

  pub tally_most : (z : ℕ) → z ≤ 32 → get_or (tally_of n x) z 0 ≤ n
  tally_most z h = omega (arith, tally_at z h, count_most n (λ i. has_length (32 - z) (x i)))

  tally_length : length (tally_of n x) ≡ 33
  unfolding tally_of
  tally_length = table_length 33 (λ k. count_to n (λ i. has_length (32 - k) (x i)))

-- no numbers yet
pub tally_none : (x : ℕ → ℕ) → replicate 33 0 ≡ tally_of 0 x
unfolding tally_of table sum_to
tally_none x = refl

-- an entry counted up by one, where none is over m
pub counted_up : (l : List ℕ) (k m : ℕ) → ((z : ℕ) → get_or l z 0 ≤ m) → (z : ℕ) → get_or (set l k (get_or l k 0 + 1)) z 0 ≤ m + 1
counted_up [] k m h z = omega (arith, h z)
counted_up (x ∷ l) zero m h zero = omega (arith, h 0)
counted_up (x ∷ l) zero m h (suc z) = omega (arith, h (suc z))
counted_up (x ∷ l) (suc k) m h zero = omega (arith, h 0)
counted_up (x ∷ l) (suc k) m h (suc z) = counted_up l k m (λ j. h (suc j)) z

pub none_most : (z : ℕ) → get_or (replicate 33 0) z 0 ≤ 0
none_most z = subst (λ (l : List ℕ). get_or l z 0 ≤ 0) (sym (tally_none (λ i. 0))) (tell (dec_lt z 33))
  where
    tell : Dec (z < 33) → get_or (tally_of 0 (λ i. 0)) z 0 ≤ 0
    tell (yes h) = tally_most 0 (λ i. 0) z (omega arith)
    tell (no h) = omega (arith, get_or-eq_default (tally_of 0 (λ i. 0)) 0 {n = z} (omega (arith, tally_length 0 (λ i. 0))))

-- one number more
module _ (n : ℕ) (x : ℕ → ℕ) (h : x n < 2 ^ 32) where
  more : List ℕ
  more = set (tally_of n x) (count_leading_zeros 32 (x n)) (get_or (tally_of n x) (count_leading_zeros 32 (x n)) 0 + 1)

  more_at : (z : ℕ) → z ≤ 32 → get_or more z 0 ≡ count_to (suc n) (λ i. has_length (32 - z) (x i))
  unfolding more
  more_at z k = tell (eqb z (count_leading_zeros 32 (x n))) refl
    where
      tell : (t : Bool) → eqb z (count_leading_zeros 32 (x n)) ≡ t
          → get_or (set (tally_of n x) (count_leading_zeros 32 (x n)) (get_or (tally_of n x) (count_leading_zeros 32 (x n)) 0 + 1)) z 0 ≡ count_to (suc n) (λ i. has_length (32 - z) (x i))
      tell true e =
          let same = eqb-true z (count_leading_zeros 32 (x n)) e in
          rw (← same)
          (get_or-set_same (tally_of n x) z (get_or (tally_of n x) z 0 + 1) 0 (omega (arith, tally_length n x))
          ∙ omega (arith, tally_at n x z k, sum_suc n (λ i. digit (has_length (32 - z) (x i))), by_zeros (x n) z h k, ap digit e))
      tell false e =
          get_or-set_other (tally_of n x) (count_leading_zeros 32 (x n)) z (get_or (tally_of n x) (count_leading_zeros 32 (x n)) 0 + 1) 0 (eqb-false z (count_leading_zeros 32 (x n)) e)
          ∙ omega (arith, tally_at n x z k, sum_suc n (λ i. digit (has_length (32 - z) (x i))), by_zeros (x n) z h k, ap digit e)

  pub tally_more : set (tally_of n x) (count_leading_zeros 32 (x n)) (get_or (tally_of n x) (count_leading_zeros 32 (x n)) 0 + 1) ≡ tally_of (suc n) x
  unfolding more tally_of
  tally_more =
      table_is 33 (λ z. count_to (suc n) (λ i. has_length (32 - z) (x i))) 0 more
      (length-set (tally_of n x) (count_leading_zeros 32 (x n)) (get_or (tally_of n x) (count_leading_zeros 32 (x n)) 0 + 1) ∙ tally_length n x)
      (λ z k. more_at z (omega arith))

-- from one level to the next: those of k digits reach the first and not the second
abbrev pub Next : ℕ → ℕ → ℕ → Type 0
Next level next k = (x : ℕ) → digit (leb level x) ≡ digit (leb next x) + digit (has_length k x)

pub first_next : Next 0 1 0
unfolding has_length
first_next zero = refl
first_next (suc x) = rw (le-ltb (suc x) 1 (omega arith), le-leb 0 (suc x) (omega arith), le-leb 1 (suc x) (omega arith)) refl

pub plane_next : (b : ℕ) → Next (2 ^ b) (2 * 2 ^ b) (suc b)
unfolding has_length
plane_next b x = rw (pow-succ' 2 b) (tell (leb (2 ^ b) x) (leb (2 * 2 ^ b) x) refl refl)
  where
    tell : (s t : Bool) → leb (2 ^ b) x ≡ s → leb (2 * 2 ^ b) x ≡ t → digit s ≡ digit t + digit (ltb x (2 * 2 ^ b) && leb (2 * 2 ^ b) (2 * x + 1))
    tell true true e f = rw (le-ltb x (2 * 2 ^ b) (leb-true (2 * 2 ^ b) x f)) refl
    tell true false e f =
        rw (lt-ltb x (2 * 2 ^ b) (leb-false (2 * 2 ^ b) x f), le-leb (2 * 2 ^ b) (2 * x + 1) (omega (arith, leb-true (2 ^ b) x e))) refl
    tell false true e f = absurd (omega (arith, leb-false (2 ^ b) x e, leb-true (2 * 2 ^ b) x f))
    tell false false e f =
        rw (lt-ltb x (2 * 2 ^ b) (leb-false (2 * 2 ^ b) x f), lt-leb (2 * 2 ^ b) (2 * x + 1) (omega (arith, leb-false (2 ^ b) x e))) refl

-- the same, with the zeros that lead b + 1 digits
pub zeros_next : (b : ℕ) → b ≤ 31 → Next (2 ^ b) (2 * 2 ^ b) (32 - (31 - b))
zeros_next b h x =
    let e : 32 - (31 - b) ≡ suc b = omega arith in
    rw e (plane_next b x)

pub next_count : (level next k : ℕ) → Next level next k → (n : ℕ) (x : ℕ → ℕ)
    → count_to n (λ i. leb level (x i)) ≡ count_to n (λ i. leb next (x i)) + count_to n (λ i. has_length k (x i))
next_count level next k one n x =
    sum_same n (λ i. digit (leb level (x i))) (λ i. digit (leb next (x i)) + digit (has_length k (x i))) (λ i. one (x i))
    ∙ sum_add n (λ i. digit (leb next (x i))) (λ i. digit (has_length k (x i)))

pub all_reach : (n : ℕ) (x : ℕ → ℕ) → count_to n (λ i. leb 0 (x i)) ≡ n
unfolding sum_to
all_reach zero x = refl
all_reach (suc n) x = omega (arith, all_reach n x, ap digit (le-leb 0 (x n) (omega arith)))

-- so four counts at a level and four tallies give the counts at the next
module _ (A : List ℤ) (desc grand : List ℕ) (level next z : ℕ) (one : Next level next (32 - z)) (h : z ≤ 32) where
  tallied : (n : ℕ) (x : ℕ → ℕ) → count_to n (λ i. leb level (x i)) ≡ count_to n (λ i. leb next (x i)) + get_or (tally_of n x) z 0
  tallied n x = omega (arith, next_count level next (32 - z) one n x, tally_at n x z h)

  left : (n : ℕ) (x : ℕ → ℕ) → count_to n (λ i. leb level (x i)) - get_or (tally_of n x) z 0 ≡ count_to n (λ i. leb next (x i))
  left n x = omega (arith, tallied n x)

  pub reach_next : reach_less (reach_of level A desc grand) z (tally_of (length desc) (λ i. get_or desc i 0)) (tally_of (length grand) (λ i. get_or desc i 0)) (tally_of (length grand) (λ i. get_or grand i 0)) (tally_of (length A) (λ i. mag_at A i))
      ≡ reach_of next A desc grand
  reach_next =
      rw (
        left (length desc) (λ i. get_or desc i 0),
        left (length grand) (λ i. get_or desc i 0),
        left (length grand) (λ i. get_or grand i 0),
        left (length A) (λ i. mag_at A i),
      )

  pub reach_within : Within (reach_of level A desc grand) z (tally_of (length desc) (λ i. get_or desc i 0)) (tally_of (length grand) (λ i. get_or desc i 0)) (tally_of (length grand) (λ i. get_or grand i 0)) (tally_of (length A) (λ i. mag_at A i))
  reach_within =
      record {
        zeros = h;
        descs_less = omega (arith, tallied (length desc) (λ i. get_or desc i 0));
        inner_less = omega (arith, tallied (length grand) (λ i. get_or desc i 0));
        grands_less = omega (arith, tallied (length grand) (λ i. get_or grand i 0));
        large_less = omega (arith, tallied (length A) (λ i. mag_at A i));
      }
