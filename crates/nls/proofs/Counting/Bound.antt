-- The number of a body's bits; its bound; and an array that reaches it.
use Prim.Native.Nat.{ℕ, suc, ◌+◌, ◌*◌, ◌-◌, ◌^◌, ◌/◌, ◌≤◌, ◌<◌}
use mathlib.Core.Path.{◌≡◌, refl, ap, sym, ◌∙◌}
use mathlib.Core.Bool.{Bool, true, false, ◌||◌}
use native.Mathlib.Nat.{le_trans, pow-succ', pow-le-pow_right}
use native.Mathlib.Omega.{arith}
use borrow.Author.Tests.{lt-ltb, lt-leb}
use lib.Dec.{T, ltb, leb, le→leb}
use lib.Pow.{pow_mono, pow_pos}
use lib.ListN.{length}
use Rattle.nls.proofs.Booleans.{T_true}
use Rattle.nls.proofs.Counting.Sums.{sum, sum_cong, sum_le, sum_const, sum_zero}
use Rattle.nls.proofs.Counting.Tree.{Size, D, Q, I, desc_zero, grand_zero}
use Rattle.nls.proofs.Counting.Parts.{ι, over_all, big, split_desc, split_grand, alone, stands_desc, stands_grand, parts, splits, bigs, body}
use Rattle.nls.proofs.Counting.Count.{body_count, big_alone, child_splits, desc_splits}
use Rattle.nls.proofs.Counting.Sizes.{parts_le}

-- the coefficients that are not zero
unfoldable pub nonzeros : Size → (ℕ → ℕ) → ℕ
nonzeros z mag = over_all z (λ i. ι (ltb 0 (mag i)))

-- the worst body of P planes, for P of at least 1
unfoldable pub worst : Size → ℕ → ℕ
worst z P = I z * (P + 1) + (I z - D z) / 4 + (I z - 4 * D z) / 16

ι_le : (t : Bool) → ι t ≤ 1
ι_le true = omega arith
ι_le false = omega arith

module _ (z : Size) (mag : ℕ → ℕ) where
  -- parts that stand after each of n planes, sets that are split in the end and coefficients that are not zero: no more parts than places in
  -- a plane, no more sets than have members, no more coefficients than there are
  pub counted_bound : (n : ℕ) → sum 0 n (λ b. parts z mag b) + splits z mag 0 + nonzeros z mag ≤ worst z n
  unfolding worst splits nonzeros
  counted_bound n =
      omega (
        arith,
        sum_le 0 n (λ b. parts z mag b) (λ _. I z) (λ b u v. parts_le z mag b),
        sum_const 0 n (I z),
        sum_le z.e (Q z - z.e) (λ i. ι (split_desc z mag 0 i)) (λ _. 1) (λ i u v. ι_le (split_desc z mag 0 i)),
        sum_const z.e (Q z - z.e) 1,
        sum_le z.e (z.j - z.e) (λ i. ι (split_grand z mag 0 i)) (λ _. 1) (λ i u v. ι_le (split_grand z mag 0 i)),
        sum_const z.e (z.j - z.e) 1,
        sum_le 0 (I z) (λ i. ι (ltb 0 (mag i))) (λ _. 1) (λ i u v. ι_le (ltb 0 (mag i))),
        sum_const 0 (I z) 1,
      )

  -- from a plane on nothing is big, so nothing is split
  module _ (n : ℕ) (small : (i : ℕ) → i < I z → mag i < 2 ^ n) where
    pub none_big : (i : ℕ) → i < I z → ι (big mag n i) ≡ 0
    unfolding big
    none_big i u = let t : leb (2 ^ n) (mag i) ≡ false = lt-leb (2 ^ n) (mag i) (small i u) in rw t

    no_bigs : bigs z mag n ≡ 0
    unfolding bigs
    no_bigs = sum_zero 0 (I z) (λ i. ι (big mag n i)) (λ i u v. none_big i (omega arith))

    no_splits : splits z mag n ≡ 0
    unfolding splits split_desc split_grand
    no_splits =
        omega (
          arith,
          sum_zero z.e (Q z - z.e) (λ i. ι (split_desc z mag n i)) (λ i u v. rw (desc_zero z (λ c. ι (big mag n c)) none_big i)),
          sum_zero z.e (z.j - z.e) (λ i. ι (split_grand z mag n i)) (λ i u v. rw (grand_zero z (λ c. ι (big mag n c)) none_big i)),
        )

    -- the number of bits
    pub bits_count : (neg : ℕ → Bool) → length (body z mag neg n) ≡ sum 0 n (λ b. parts z mag b) + splits z mag 0 + nonzeros z mag
    unfolding bigs big nonzeros
    bits_count neg = omega (arith, body_count z mag neg n, no_bigs, no_splits)

    -- the bound
    pub bits_bound : (neg : ℕ → Bool) → length (body z mag neg n) ≤ worst z n
    bits_bound neg = omega (arith, bits_count neg, counted_bound n)

  -- where all is big, all is split and every part is a coefficient
  module _ (b : ℕ) (all : (i : ℕ) → i < I z → T (big mag b i)) where
    desc_split : (i : ℕ) → z.e ≤ i → i < Q z → split_desc z mag b i ≡ true
    desc_split i u v =
        T_true (split_desc z mag b i) (child_splits z mag b i (4 * i) (omega arith) v (omega arith) (omega arith) (all (4 * i) (omega arith)))

    grand_split : (i : ℕ) → z.e ≤ i → i < z.j → split_grand z mag b i ≡ true
    grand_split i u v =
        T_true (split_grand z mag b i)
        (desc_splits z mag b i (4 * i) (omega arith) (omega arith) (rw (desc_split (4 * i) (omega arith) (omega arith)) tt))

    full_parts : parts z mag b ≡ I z
    unfolding parts alone stands_desc stands_grand
    full_parts =
        omega (
          arith,
          sum_cong 0 (I z) (λ i. ι (alone z mag b i)) (λ _. 1)
              (λ i u v. ap (λ (t : Bool). ι t) (T_true (ltb i (D z) || split_desc z mag b (i / 4)) (big_alone z mag b i (omega arith) (all i (omega arith))))),
          sum_const 0 (I z) 1,
          sum_zero z.e (Q z - z.e) (λ i. ι (stands_desc z mag b i)) (λ i u v. rw (desc_split i u (omega arith))),
          sum_zero z.e (z.j - z.e) (λ i. ι (stands_grand z mag b i))
              (λ i u v. rw (desc_split i u (omega arith), grand_split i u (omega arith))),
        )

    full_splits : splits z mag b ≡ (Q z - z.e) + (z.j - z.e)
    unfolding splits
    full_splits =
        omega (
          arith,
          sum_cong z.e (Q z - z.e) (λ i. ι (split_desc z mag b i)) (λ _. 1) (λ i u v. rw (desc_split i u (omega arith))),
          sum_const z.e (Q z - z.e) 1,
          sum_cong z.e (z.j - z.e) (λ i. ι (split_grand z mag b i)) (λ _. 1) (λ i u v. rw (grand_split i u (omega arith))),
          sum_const z.e (z.j - z.e) 1,
        )

-- the bound is reached where all magnitudes are from 2 ^ (P - 1) to 2 ^ P - 1
module _ (z : Size) (mag : ℕ → ℕ) (n : ℕ) (small : (i : ℕ) → i < I z → mag i < 2 ^ suc n) (large : (i : ℕ) → i < I z → 2 ^ n ≤ mag i) where
  large_big : (b : ℕ) → b ≤ n → (i : ℕ) → i < I z → T (big mag b i)
  unfolding big
  large_big b h i u = le→leb (2 ^ b) (mag i) (le_trans (pow_mono h) (large i u))

  pub bound_reached : (neg : ℕ → Bool) → length (body z mag neg (suc n)) ≡ worst z (suc n)
  unfolding worst nonzeros
  bound_reached neg =
      omega (
        arith,
        bits_count z mag (suc n) small neg,
        sum_cong 0 (suc n) (λ b. parts z mag b) (λ _. I z) (λ b u v. full_parts z mag b (large_big b (omega arith))),
        sum_const 0 (suc n) (I z),
        full_splits z mag 0 (large_big 0 (omega arith)),
        sum_cong 0 (I z) (λ i. ι (ltb 0 (mag i))) (λ _. 1)
            (λ i u v. rw (lt-ltb 0 (mag i) (le_trans (pow_pos n) (large i (omega arith))))),
        sum_const 0 (I z) 1,
      )

-- The sizes of document 01: side 2 ^ N, L levels.
pub pow_four : (m n : ℕ) → n ≡ suc m → 4 * 4 ^ m ≡ 4 ^ n
pow_four m n e = sym (ap (λ (k : ℕ). 4 ^ k) e ∙ pow-succ' 4 m)

pub pow_sixteen : (m n : ℕ) → n ≡ suc (suc m) → 16 * 4 ^ m ≡ 4 ^ n
pow_sixteen m n e = omega (arith, pow_four m (suc m) refl, pow_four (suc m) n e)

abbrev pub size : (N L : ℕ) → 1 ≤ L → L < N → Size
size N L b c =
    record {
      e = 4 ^ (N - L - 1);
      j = 4 ^ (N - 2);
      deep = N;
      some = pow-le-pow_right {n = 4} (omega arith) {i = 0} {j = N - L - 1} (omega arith);
      below = pow-le-pow_right {n = 4} (omega arith) {i = N - L - 1} {j = N - 2} (omega arith);
      high = omega (arith, pow_sixteen (N - 2) N (omega arith));
    }

-- I is 4 ^ N and D is 4 ^ (N - L)
pub all_is : (N L : ℕ) (b : 1 ≤ L) (c : L < N) → I (size N L b c) ≡ 4 ^ N
all_is N L b c = pow_sixteen (N - 2) N (omega arith)

pub coarsest_is : (N L : ℕ) (b : 1 ≤ L) (c : L < N) → D (size N L b c) ≡ 4 ^ (N - L)
coarsest_is N L b c = pow_four (N - L - 1) (N - L) (omega arith)

-- The worst body of P planes, P of at least 1, as the document has it.
pub worst_is : (N L P : ℕ) (b : 1 ≤ L) (c : L < N)
    → worst (size N L b c) P ≡ 4 ^ N * (P + 1) + (4 ^ N - 4 ^ (N - L)) / 4 + (4 ^ N - 4 * 4 ^ (N - L)) / 16
unfolding worst
worst_is N L P b c = rw (all_is N L b c, coarsest_is N L b c)
