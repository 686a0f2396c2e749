-- The bits of a plane number the parts that stand after it, and what it splits and finds.
use Prim.Native.Nat.{ℕ, zero, suc, ◌+◌, ◌*◌, ◌-◌, ◌^◌, ◌/◌, ◌%◌, ◌≤◌, ◌<◌}
use mathlib.Core.Path.{◌≡◌, refl, ap, sym, ◌∙◌}
use mathlib.Core.Bool.{Bool, true, false, not, ◌&&◌, ◌||◌, cond, and-false}
use mathlib.Core.List.{List, [], ◌∷◌, ◌++◌}
use native.Mathlib.Nat.{le_trans, zero-add, pow-succ'}
use native.Mathlib.Omega.{arith}
use borrow.Author.Tests.{lt-ltb, le-ltb, le-leb, lt-leb, ne_eqb}
use lib.Dec.{T, ltb, leb, eqb, leb→le, le→leb, ltb→lt, lt→ltb, nltb→le, T_not, not_T}
use lib.ListN.{length, length-append}
use Rattle.bits.specs.Bits.{bit}
use Rattle.nls.proofs.Booleans.{T_false}
use Rattle.nls.proofs.Counting.Sums.{sum, each, each_length, sum_cong, sum_add, sum_at, sum_four, sum_last, sum_tail, sum_first, sum_two, sum_four_two, by_four}
use Rattle.nls.proofs.Counting.Tree.{Size, D, Q, I, desc, grand, child_le, desc_le, grand_le, desc_mono, grand_mono}
use Rattle.nls.proofs.Counting.Parts.{ι, over_desc, over_grand, over_all, big, split_desc, split_grand, alone, stands_desc, stands_grand, parts, splits, bigs, coded, pixel, refine, test_grand, test_desc, children, group, plane, body, top_bit}

-- tests and numbers
T→1 : (t : Bool) → T t → 1 ≤ ι t
T→1 true h = omega arith
T→1 false h = absurd h

pub ι_mono : (s t : Bool) → (T s → T t) → ι s ≤ ι t
ι_mono false t h = omega arith
ι_mono true t h = T→1 t (h tt)

or_intro : (s t : Bool) → (T (not s) → T t) → T (s || t)
or_intro true t h = tt
or_intro false t h = h tt

-- the laws of one coefficient and of one set
coef_law : (d p p1 s s1 : Bool) → (T s1 → T s) → (T p1 → T p) → (T s → T (d || p)) → (T s1 → T (d || p1))
    → cond ((d || p1) && not s1) (suc (ι s)) 0 + cond s1 1 0 + cond (not d && (p && not p1)) (suc (ι s)) 0 + ι s1 ≡ ι (d || p) + ι s
coef_law true p p1 true true a b c e = refl
coef_law true p p1 false true a b c e = absurd (a tt)
coef_law true p p1 true false a b c e = refl
coef_law true p p1 false false a b c e = refl
coef_law false true true true true a b c e = refl
coef_law false false true true true a b c e = absurd (b tt)
coef_law false p false true true a b c e = absurd (e tt)
coef_law false p p1 false true a b c e = absurd (a tt)
coef_law false false true s false a b c e = absurd (b tt)
coef_law false true true s false a b c e = omega arith
coef_law false true false s false a b c e = omega arith
coef_law false false false true false a b c e = absurd (c tt)
coef_law false false false false false a b c e = refl

test_law : (x s s1 : Bool) → (T s1 → T s) → (T s → T x) → ι (x && not s1) + ι s1 ≡ ι (x && not s) + ι s
test_law true true true a b = refl
test_law true true false a b = refl
test_law true false true a b = refl
test_law true false false a b = refl
test_law false true s1 a b = absurd (b tt)
test_law false false true a b = absurd (a tt)
test_law false false false a b = refl

test_law' : (x s s1 : Bool) → (T s1 → T s) → (T s → T x) → ι (x && not s1) + ι s1 ≡ ι (not s && x) + ι s
test_law' true true true a b = refl
test_law' true true false a b = refl
test_law' true false true a b = refl
test_law' true false false a b = refl
test_law' false true s1 a b = absurd (b tt)
test_law' false false true a b = absurd (a tt)
test_law' false false false a b = refl

length_cond : {X : Type 0} (t : Bool) (xs : List X) → length (cond t xs []) ≡ cond t (length xs) 0
length_cond true xs = refl
length_cond false xs = refl

-- under a test, lengths need be known only where it passes
cond_cong : (t : Bool) (m n : ℕ) → (T t → m ≡ n) → cond t m 0 ≡ cond t n 0
cond_cong true m n h = h tt
cond_cong false m n h = refl

pub and_right : (s t : Bool) → T (s && t) → T t
and_right true t h = h
and_right false t h = absurd h

-- below 2 ^ (b + 1), bit b says whether a magnitude is at least 2 ^ b
pub bit_big : (mag : ℕ → ℕ) (b i : ℕ) → T (not (big mag (suc b) i)) → bit (mag i) b ≡ big mag b i
unfolding big
bit_big mag b i t = top_bit b (mag i) (T_false (leb (2 ^ suc b) (mag i)) (T_not (leb (2 ^ suc b) (mag i)) t))

module _ (z : Size) (mag : ℕ → ℕ) where
  pub big_mono : (b i : ℕ) → T (big mag (suc b) i) → T (big mag b i)
  unfolding big
  big_mono b i t = le→leb (2 ^ b) (mag i) (omega (arith, leb→le (2 ^ suc b) (mag i) t, pow-succ' 2 b))

  counted_mono : (b i : ℕ) → ι (big mag (suc b) i) ≤ ι (big mag b i)
  counted_mono b i = ι_mono (big mag (suc b) i) (big mag b i) (big_mono b i)

  pub desc_shrinks : (b i : ℕ) → T (split_desc z mag (suc b) i) → T (split_desc z mag b i)
  unfolding split_desc
  desc_shrinks b i t =
      lt→ltb 0 (desc z (λ c. ι (big mag b c)) i)
      (le_trans (ltb→lt 0 (desc z (λ c. ι (big mag (suc b) c)) i) t)
      (desc_mono z (λ c. ι (big mag (suc b) c)) (λ c. ι (big mag b c)) (counted_mono b) i))

  pub grand_shrinks : (b i : ℕ) → T (split_grand z mag (suc b) i) → T (split_grand z mag b i)
  unfolding split_grand
  grand_shrinks b i t =
      lt→ltb 0 (grand z (λ c. ι (big mag b c)) i)
      (le_trans (ltb→lt 0 (grand z (λ c. ι (big mag (suc b) c)) i) t)
      (grand_mono z (λ c. ι (big mag (suc b) c)) (λ c. ι (big mag b c)) (counted_mono b) i))

  -- a child that is big splits DESC, a child's DESC that is split splits GRAND, and GRAND splits DESC
  pub child_splits : (b i c : ℕ) → 1 ≤ i → i < Q z → 4 * i ≤ c → c < 4 * i + 4 → T (big mag b c) → T (split_desc z mag b i)
  unfolding split_desc
  child_splits b i c p q r s t =
      lt→ltb 0 (desc z (λ k. ι (big mag b k)) i)
      (le_trans (T→1 (big mag b c) t) (child_le z (λ k. ι (big mag b k)) i c p q r s))

  pub desc_splits : (b i c : ℕ) → 4 * i ≤ c → c < 4 * i + 4 → T (split_desc z mag b c) → T (split_grand z mag b i)
  unfolding split_desc split_grand
  desc_splits b i c r s t =
      lt→ltb 0 (grand z (λ k. ι (big mag b k)) i)
      (le_trans (ltb→lt 0 (desc z (λ k. ι (big mag b k)) c) t) (desc_le z (λ k. ι (big mag b k)) i c r s))

  pub grand_splits : (b i : ℕ) → 1 ≤ i → i < Q z → T (split_grand z mag b i) → T (split_desc z mag b i)
  unfolding split_desc split_grand
  grand_splits b i p q t =
      lt→ltb 0 (desc z (λ k. ι (big mag b k)) i)
      (le_trans (ltb→lt 0 (grand z (λ k. ι (big mag b k)) i) t) (grand_le z (λ k. ι (big mag b k)) i p q))

  -- what is big stands alone, and a set that is split has been a part
  pub big_alone : (b i : ℕ) → i < I z → T (big mag b i) → T (ltb i (D z) || split_desc z mag b (i / 4))
  big_alone b i h t =
      or_intro (ltb i (D z)) (split_desc z mag b (i / 4))
      (λ n. let m : D z ≤ i = nltb→le i (D z) n in child_splits b (i / 4) i (omega arith) (omega arith) (omega arith) (omega arith) t)

  pub desc_known : (b i : ℕ) → T (split_desc z mag b i) → T (ltb i (D z) || split_grand z mag b (i / 4))
  desc_known b i t =
      or_intro (ltb i (D z)) (split_grand z mag b (i / 4)) (λ n. desc_splits b (i / 4) i (omega arith) (omega arith) t)

  -- one coefficient, one DESC, one GRAND
  coef_at : (b i : ℕ) → i < I z
      → cond (alone z mag (suc b) i && not (big mag (suc b) i)) (suc (ι (big mag b i))) 0
      + cond (big mag (suc b) i) 1 0
      + cond (not (ltb i (D z)) && (split_desc z mag b (i / 4) && not (split_desc z mag (suc b) (i / 4)))) (suc (ι (big mag b i))) 0
      + ι (big mag (suc b) i)
      ≡ ι (alone z mag b i) + ι (big mag b i)
  unfolding alone
  coef_at b i h =
      coef_law (ltb i (D z)) (split_desc z mag b (i / 4)) (split_desc z mag (suc b) (i / 4)) (big mag b i) (big mag (suc b) i)
      (big_mono b i) (desc_shrinks b (i / 4)) (big_alone b i h) (big_alone (suc b) i h)

  desc_at : (b i : ℕ)
      → ι ((ltb i (D z) || split_grand z mag b (i / 4)) && not (split_desc z mag (suc b) i)) + ι (split_desc z mag (suc b) i)
      ≡ ι (stands_desc z mag b i) + ι (split_desc z mag b i)
  unfolding stands_desc
  desc_at b i =
      test_law' (ltb i (D z) || split_grand z mag b (i / 4)) (split_desc z mag b i) (split_desc z mag (suc b) i) (desc_shrinks b i) (desc_known b i)

  grand_at : (b i : ℕ) → 1 ≤ i → i < Q z
      → ι (split_desc z mag b i && not (split_grand z mag (suc b) i)) + ι (split_grand z mag (suc b) i)
      ≡ ι (stands_grand z mag b i) + ι (split_grand z mag b i)
  unfolding stands_grand
  grand_at b i p q =
      test_law (split_desc z mag b i) (split_grand z mag b i) (split_grand z mag (suc b) i) (grand_shrinks b i) (grand_splits b i p q)

  -- the numbers of bits
  module _ (neg : ℕ → Bool) where
    coded_length : (b i : ℕ) → T (not (big mag (suc b) i)) → length (coded mag neg b i) ≡ suc (ι (big mag b i))
    unfolding coded
    coded_length b i t = rw (bit_big mag b i t) (ap suc (go (big mag b i)))
      where
        go : (s : Bool) → length (cond s (neg i ∷ []) []) ≡ ι s
        go true = refl
        go false = refl

    pixel_length : (b i : ℕ) → length (pixel z mag neg b i)
        ≡ cond (alone z mag (suc b) i && not (big mag (suc b) i)) (suc (ι (big mag b i))) 0
    unfolding pixel
    pixel_length b i =
        length_cond (alone z mag (suc b) i && not (big mag (suc b) i)) (coded mag neg b i)
        ∙ cond_cong (alone z mag (suc b) i && not (big mag (suc b) i)) (length (coded mag neg b i)) (suc (ι (big mag b i)))
        (λ t. coded_length b i (and_right (alone z mag (suc b) i) (not (big mag (suc b) i)) t))

    refine_length : (b i : ℕ) → length (refine mag b i) ≡ cond (big mag (suc b) i) 1 0
    unfolding refine
    refine_length b i = length_cond (big mag (suc b) i) (bit (mag i) b ∷ [])

    children_length : (b p : ℕ) → 1 ≤ p → p < Q z → length (children z mag neg b p)
        ≡ cond (split_desc z mag b p && not (split_desc z mag (suc b) p)) (sum (4 * p) 4 (λ c. suc (ι (big mag b c)))) 0
    unfolding children
    children_length b p h k =
        length_cond (split_desc z mag b p && not (split_desc z mag (suc b) p)) (each (4 * p) 4 (λ c. coded mag neg b c))
        ∙ cond_cong (split_desc z mag b p && not (split_desc z mag (suc b) p)) (length (each (4 * p) 4 (λ c. coded mag neg b c)))
        (sum (4 * p) 4 (λ c. suc (ι (big mag b c))))
        (λ t. each_length (4 * p) 4 (λ c. coded mag neg b c)
        ∙ sum_cong (4 * p) 4 (λ c. length (coded mag neg b c)) (λ c. suc (ι (big mag b c)))
        (λ c u v. coded_length b c
        (not_T (big mag (suc b) c)
        (λ w. T_not (split_desc z mag (suc b) p) (and_right (split_desc z mag b p) (not (split_desc z mag (suc b) p)) t)
        (child_splits (suc b) p c h k u v w)))))

    test_desc_length : (b p : ℕ) → length (test_desc z mag b p)
        ≡ ι ((ltb p (D z) || split_grand z mag b (p / 4)) && not (split_desc z mag (suc b) p))
    unfolding test_desc
    test_desc_length b p = go ((ltb p (D z) || split_grand z mag b (p / 4)) && not (split_desc z mag (suc b) p))
      where
        go : (s : Bool) → length (cond s (split_desc z mag b p ∷ []) []) ≡ ι s
        go true = refl
        go false = refl

    test_grand_length : (b p : ℕ) → length (test_grand z mag b p) ≡ ι (split_desc z mag b p && not (split_grand z mag (suc b) p))
    unfolding test_grand
    test_grand_length b p = go (split_desc z mag b p && not (split_grand z mag (suc b) p))
      where
        go : (s : Bool) → length (cond s (split_grand z mag b p ∷ []) []) ≡ ι s
        go true = refl
        go false = refl

-- the children of all that have them are all the places from D on
pub by_parent : (z : Size) (t : ℕ → Bool) (f : ℕ → ℕ)
    → over_desc z (λ p. cond (t p) (sum (4 * p) 4 f) 0) ≡ over_all z (λ i. cond (not (ltb i (D z)) && t (i / 4)) (f i) 0)
by_parent z t f =
    by_four z.e (Q z - z.e) t f
    ∙ sum_at (4 * z.e) (0 + D z) (4 * (Q z - z.e)) (I z - D z) (λ i. cond (t (i / 4)) (f i) 0) (omega arith) (omega arith)
    ∙ sum_cong (0 + D z) (I z - D z) (λ i. cond (t (i / 4)) (f i) 0) h (λ i u v. late i (omega arith))
    ∙ sym (sum_tail 0 (D z) (I z - D z) h (λ i u v. early i (omega arith)))
    ∙ sum_at 0 0 (D z + (I z - D z)) (I z) h refl (omega arith)
  where
    h : ℕ → ℕ
    h i = cond (not (ltb i (D z)) && t (i / 4)) (f i) 0

    late : (i : ℕ) → D z ≤ i → cond (t (i / 4)) (f i) 0 ≡ h i
    late i u = rw (le-ltb i (D z) u)

    early : (i : ℕ) → i < D z → h i ≡ 0
    early i u = rw (lt-ltb i (D z) u)

-- every fourth place from D on that has children is the first child of one that has grandchildren
by_first : (z : Size) (g : ℕ → ℕ) → over_desc z (λ p. cond (leb (D z) p && eqb (p % 4) 0) (g (p / 4)) 0) ≡ over_grand z g
by_first z g =
    sum_at z.e z.e (Q z - z.e) (3 * z.e + 4 * (z.j - z.e)) h refl (omega arith)
    ∙ sum_tail z.e (3 * z.e) (4 * (z.j - z.e)) h (λ p u v. early p (omega arith))
    ∙ sum_at (z.e + 3 * z.e) (4 * z.e) (4 * (z.j - z.e)) (4 * (z.j - z.e)) h (omega arith) refl
    ∙ sum_four z.e (z.j - z.e) h
    ∙ sum_cong z.e (z.j - z.e) (λ q. sum (4 * q) 4 h) g
    (λ q u v. sum_first (4 * q) 3 h (λ p k l. other q p k (omega arith)) ∙ first q u)
  where
    h : ℕ → ℕ
    h p = cond (leb (D z) p && eqb (p % 4) 0) (g (p / 4)) 0

    early : (p : ℕ) → p < D z → h p ≡ 0
    early p u = rw (lt-leb (D z) p u)

    other : (q p : ℕ) → 4 * q < p → p < 4 * q + 4 → h p ≡ 0
    other q p k l =
        let odd : eqb (p % 4) 0 ≡ false = ne_eqb (p % 4) 0 (omega arith) in
        rw (odd, and-false (leb (D z) p))

    first : (q : ℕ) → z.e ≤ q → h (4 * q) ≡ g q
    first q u =
        let late : leb (D z) (4 * q) ≡ true = le-leb (D z) (4 * q) (omega arith) in
        let even : 4 * q % 4 ≡ 0 = omega arith in
        let up : 4 * q / 4 ≡ q = omega arith in
        rw (late, even, up)

module _ (z : Size) (mag : ℕ → ℕ) (neg : ℕ → Bool) where
  -- what plane b writes at a coefficient, and at a set
  pixels : ℕ → ℕ → ℕ
  pixels b i = cond (alone z mag (suc b) i && not (big mag (suc b) i)) (suc (ι (big mag b i))) 0

  refines : ℕ → ℕ → ℕ
  refines b i = cond (big mag (suc b) i) 1 0

  fresh : ℕ → ℕ → Bool
  fresh b p = split_desc z mag b p && not (split_desc z mag (suc b) p)

  grand_tests : ℕ → ℕ → ℕ
  grand_tests b q = ι (split_desc z mag b q && not (split_grand z mag (suc b) q))

  desc_tests : ℕ → ℕ → ℕ
  desc_tests b p = ι ((ltb p (D z) || split_grand z mag b (p / 4)) && not (split_desc z mag (suc b) p))

  group_length : (b p : ℕ) → 1 ≤ p → p < Q z → length (group z mag neg b p)
      ≡ cond (leb (D z) p && eqb (p % 4) 0) (grand_tests b (p / 4)) 0
      + (desc_tests b p + cond (fresh b p) (sum (4 * p) 4 (λ c. suc (ι (big mag b c)))) 0)
  unfolding group grand_tests desc_tests fresh
  group_length b p h k =
      let whole : length (cond (leb (D z) p && eqb (p % 4) 0) (test_grand z mag b (p / 4)) [] ++ (test_desc z mag b p ++ children z mag neg b p))
      ≡ length (cond (leb (D z) p && eqb (p % 4) 0) (test_grand z mag b (p / 4)) [])
      + (length (test_desc z mag b p) + length (children z mag neg b p)) =
      rw (length-append, length-append) in
      let one : length (cond (leb (D z) p && eqb (p % 4) 0) (test_grand z mag b (p / 4)) [])
      ≡ cond (leb (D z) p && eqb (p % 4) 0) (grand_tests b (p / 4)) 0 =
      length_cond (leb (D z) p && eqb (p % 4) 0) (test_grand z mag b (p / 4))
      ∙ ap (λ (n : ℕ). cond (leb (D z) p && eqb (p % 4) 0) n 0) (test_grand_length z mag neg b (p / 4)) in
      omega (arith, test_desc_length z mag neg b p, children_length z mag neg b p h k)

  plane_sums : (b : ℕ) → length (plane z mag neg b)
      ≡ over_all z (λ i. pixels b i)
      + (over_grand z (λ q. grand_tests b q)
      + (over_desc z (λ p. desc_tests b p) + over_all z (λ i. cond (not (ltb i (D z)) && fresh b (i / 4)) (suc (ι (big mag b i))) 0))
      + over_all z (λ i. refines b i))
  unfolding plane
  plane_sums b =
      let whole : length (plane z mag neg b) ≡ length (each 0 (I z) (λ i. pixel z mag neg b i))
      + (length (each z.e (Q z - z.e) (λ p. group z mag neg b p)) + length (each 0 (I z) (λ i. refine mag b i))) =
      rw (length-append, length-append) in
      let first : length (each 0 (I z) (λ i. pixel z mag neg b i)) ≡ over_all z (λ i. pixels b i) =
      each_length 0 (I z) (λ i. pixel z mag neg b i)
      ∙ sum_cong 0 (I z) (λ i. length (pixel z mag neg b i)) (λ i. pixels b i) (λ i u v. unfold pixels in pixel_length z mag neg b i) in
      let last : length (each 0 (I z) (λ i. refine mag b i)) ≡ over_all z (λ i. refines b i) =
      each_length 0 (I z) (λ i. refine mag b i)
      ∙ sum_cong 0 (I z) (λ i. length (refine mag b i)) (λ i. refines b i) (λ i u v. unfold refines in refine_length z mag neg b i) in
      let sets : length (each z.e (Q z - z.e) (λ p. group z mag neg b p))
      ≡ over_desc z (λ p. cond (leb (D z) p && eqb (p % 4) 0) (grand_tests b (p / 4)) 0)
      + (over_desc z (λ p. desc_tests b p) + over_desc z (λ p. cond (fresh b p) (sum (4 * p) 4 (λ c. suc (ι (big mag b c)))) 0)) =
      each_length z.e (Q z - z.e) (λ p. group z mag neg b p)
      ∙ sum_cong z.e (Q z - z.e) (λ p. length (group z mag neg b p))
      (λ p. cond (leb (D z) p && eqb (p % 4) 0) (grand_tests b (p / 4)) 0
      + (desc_tests b p + cond (fresh b p) (sum (4 * p) 4 (λ c. suc (ι (big mag b c)))) 0))
      (λ p u v. group_length b p (omega arith) (omega arith))
      ∙ sum_add z.e (Q z - z.e) (λ p. cond (leb (D z) p && eqb (p % 4) 0) (grand_tests b (p / 4)) 0)
      (λ p. desc_tests b p + cond (fresh b p) (sum (4 * p) 4 (λ c. suc (ι (big mag b c)))) 0)
      ∙ rw (sum_add z.e (Q z - z.e) (λ p. desc_tests b p) (λ p. cond (fresh b p) (sum (4 * p) 4 (λ c. suc (ι (big mag b c)))) 0)) in
      omega (arith, by_first z (λ q. grand_tests b q), by_parent z (λ p. fresh b p) (λ c. suc (ι (big mag b c))))

  coefs : (b : ℕ) → over_all z (λ i. pixels b i) + over_all z (λ i. refines b i)
      + over_all z (λ i. cond (not (ltb i (D z)) && fresh b (i / 4)) (suc (ι (big mag b i))) 0) + over_all z (λ i. ι (big mag (suc b) i))
      ≡ over_all z (λ i. ι (alone z mag b i)) + over_all z (λ i. ι (big mag b i))
  unfolding pixels refines fresh
  coefs b =
      sum_four_two 0 (I z) (λ i. pixels b i) (λ i. refines b i)
      (λ i. cond (not (ltb i (D z)) && fresh b (i / 4)) (suc (ι (big mag b i))) 0) (λ i. ι (big mag (suc b) i))
      (λ i. ι (alone z mag b i)) (λ i. ι (big mag b i)) (λ i u v. coef_at z mag b i (omega arith))

  descs : (b : ℕ) → over_desc z (λ p. desc_tests b p) + over_desc z (λ p. ι (split_desc z mag (suc b) p))
      ≡ over_desc z (λ p. ι (stands_desc z mag b p)) + over_desc z (λ p. ι (split_desc z mag b p))
  unfolding desc_tests
  descs b =
      sum_two z.e (Q z - z.e) (λ p. desc_tests b p) (λ p. ι (split_desc z mag (suc b) p))
      (λ p. ι (stands_desc z mag b p)) (λ p. ι (split_desc z mag b p)) (λ p u v. desc_at z mag b p)

  grands : (b : ℕ) → over_grand z (λ p. grand_tests b p) + over_grand z (λ p. ι (split_grand z mag (suc b) p))
      ≡ over_grand z (λ p. ι (stands_grand z mag b p)) + over_grand z (λ p. ι (split_grand z mag b p))
  unfolding grand_tests
  grands b =
      sum_two z.e (z.j - z.e) (λ p. grand_tests b p) (λ p. ι (split_grand z mag (suc b) p))
      (λ p. ι (stands_grand z mag b p)) (λ p. ι (split_grand z mag b p)) (λ p u v. grand_at z mag b p (omega arith) (omega arith))

  -- the bits of one plane
  pub plane_count : (b : ℕ) → length (plane z mag neg b) + splits z mag (suc b) + bigs z mag (suc b)
      ≡ parts z mag b + splits z mag b + bigs z mag b
  unfolding parts splits bigs
  plane_count b = omega (arith, plane_sums b, coefs b, descs b, grands b)

  -- and of all
  pub body_count : (n : ℕ) → length (body z mag neg n) + splits z mag n + bigs z mag n
      ≡ sum 0 n (λ b. parts z mag b) + splits z mag 0 + bigs z mag 0
  unfolding body sum
  body_count zero = refl
  body_count (suc b) =
      let e : parts z mag (0 + b) ≡ parts z mag b = ap (λ (n : ℕ). parts z mag n) (zero-add b) in
      omega (arith, length-append (plane z mag neg b) (body z mag neg b), body_count b, plane_count b, sum_last 0 b (λ k. parts z mag k))
