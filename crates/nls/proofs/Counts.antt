-- Demand 3: how many bits the stream of an array has, in all and plane by plane; its bound, and an array that reaches it;
-- the sizes of the parts that stand.
use Prim.Native.Nat.{ℕ, zero, suc, ◌+◌, ◌*◌, ◌-◌, ◌^◌, ◌≤◌, ◌<◌}
use mathlib.Core.Path.{◌≡◌, refl, ap, sym, ◌∙◌}
use mathlib.Core.Bool.{Bool, true, false}
use mathlib.Core.List.{List, [], ◌∷◌}
use mathlib.Core.Logic.{⊎_elim}
use native.Mathlib.Nat.{le_refl, pow-succ'}
use native.Mathlib.Omega.{arith}
use borrow.Author.Tests.{leb-true, le-leb, lt-leb}
use lib.IntN.{ℤ, pos}
use lib.ListN.{length, replicate, length-append, length-replicate, get_or-replicate, get_or-eq_default}
use lib.Pow.{pow-lt, pow_mono, pow_pos}
use Rattle.sizes.specs.Sizes.{all_of, Sized}
use Rattle.bits.specs.Bits.{digit}
use Rattle.coef.specs.Coef.{mag_at, IsPlanes}
use Rattle.tree.specs.Tree.{desc, grand, any_in}
use Rattle.tree.proofs.Lists.{either, or_left, or_right}
use Rattle.nls.specs.Stream.{answers, begin, worst_body, stream, during}
use Rattle.nls.specs.Parts.{sum_to, count_to, found, desc_split, grand_split, parts, part_sizes, splits, founds, nonzeros, splits_in, found_in}
use Rattle.nls.proofs.Arrays.{Arr}
use Rattle.nls.proofs.Counting.Sums.{sum, sum_cong, order}
use Rattle.nls.proofs.Counting.Tree.{Size}
use Rattle.nls.proofs.Counting.Parts as counting
use Rattle.nls.proofs.Counting.Parts.{plane, body}
use Rattle.nls.proofs.Counting.Sizes.{sizes_all}
use Rattle.nls.proofs.Counting.Bound as counted
use Rattle.nls.proofs.Counting.Bound.{all_is}
use Rattle.nls.proofs.Counting.Tiles.{pow4_pos}
use Rattle.nls.proofs.Joined.Whole as joined
use Rattle.nls.proofs.Joined.Whole.{whole, whole_is_body, plane_bits, plane_by_plane}
use Rattle.nls.proofs.Worst.{worst_none, worst_some}
use Rattle.nls.proofs.Lists.{arr_of, stream_same}
use Rattle.nls.proofs.Sets.{sum_to_lem, size_of, mags, parts_is, sizes_is, splits_is, founds_is, nonzeros_is}

-- sums below n
sum_same : (n : ℕ) (f g : ℕ → ℕ) → ((i : ℕ) → i < n → f i ≡ g i) → sum_to n f ≡ sum_to n g
unfolding sum_to
sum_same zero f g h = refl
sum_same (suc n) f g h = omega (arith, sum_same n f g (λ i p. h i (omega arith)), h n (omega arith))

-- a test that passes wherever another does
count_le : (n : ℕ) (p q : ℕ → Bool) → ((i : ℕ) → p i ≡ true → q i ≡ true) → count_to n p ≤ count_to n q
unfolding sum_to
count_le zero p q h = omega arith
count_le (suc n) p q h = omega (arith, count_le n p q h, one (p n) (q n) (h n))
  where
    one : (s t : Bool) → (s ≡ true → t ≡ true) → digit s ≤ digit t
    one false t k = omega arith
    one true t k = rw (k refl) (le_refl 1)

count_none : (n : ℕ) (p : ℕ → Bool) → ((i : ℕ) → p i ≡ false) → count_to n p ≡ 0
unfolding sum_to
count_none zero p h = refl
count_none (suc n) p h = omega (arith, count_none n p h, ap digit (h n))

-- what falls from step to step adds up to the first less the last
falls_sum : (n : ℕ) (f : ℕ → ℕ) → ((b : ℕ) → f (suc b) ≤ f b) → sum_to n (λ b. f b - f (suc b)) + f n ≡ f 0
unfolding sum_to
falls_sum zero f h = omega arith
falls_sum (suc n) f h = omega (arith, falls_sum n f h, h n)

any_none : (p : ℕ → Bool) (l : List ℕ) → ((j : ℕ) → p j ≡ false) → any_in p l ≡ false
unfolding any_in
any_none p [] h = refl
any_none p (j ∷ l) h = rw (h j, any_none p l h)

any_le : (p q : ℕ → Bool) (l : List ℕ) → ((j : ℕ) → p j ≡ true → q j ≡ true) → any_in p l ≡ true → any_in q l ≡ true
unfolding any_in
any_le p q [] h e = e
any_le p q (j ∷ l) h e =
    either (p j) (any_in p l) e (λ k. or_left (q j) (any_in q l) (h j k)) (λ k. or_right (q j) (any_in q l) (any_le p q l h k))

-- from plane to plane no set that is split and no coefficient that is found is lost
module _ (N L : ℕ) (A : List ℤ) (b : ℕ) where
  found_stays : (i : ℕ) → found N L A (suc b) i ≡ true → found N L A b i ≡ true
  unfolding found
  found_stays i e = le-leb (2 ^ b) (mag_at A i) (omega (arith, leb-true (2 ^ suc b) (mag_at A i) e, pow-succ' 2 b))

  pub founds_fall : founds N L A (suc b) ≤ founds N L A b
  unfolding founds
  founds_fall = count_le (all_of N) (λ i. found N L A (suc b) i) (λ i. found N L A b i) found_stays

  pub splits_fall : splits N L A (suc b) ≤ splits N L A b
  unfolding splits desc_split grand_split
  splits_fall =
      omega (
        arith,
        count_le (all_of N) (λ i. desc_split N L A (suc b) i) (λ i. desc_split N L A b i)
            (λ i e. any_le (λ j. found N L A (suc b) j) (λ j. found N L A b j) (desc N L i) found_stays e),
        count_le (all_of N) (λ i. grand_split N L A (suc b) i) (λ i. grand_split N L A b i)
            (λ i e. any_le (λ j. found N L A (suc b) j) (λ j. found N L A b j) (grand N L i) found_stays e),
      )

-- in the end those are found that are not zero
pub founds_all : (N L : ℕ) (A : List ℤ) → founds N L A 0 ≡ nonzeros N L A
unfolding founds found nonzeros
founds_all N L A = refl

-- above the highest plane nothing is split or found, so the planes' own numbers add up to those of the end
module _ (N L P : ℕ) (A : List ℤ) (planes : IsPlanes A P) where
  found_none : (i : ℕ) → found N L A P i ≡ false
  unfolding found
  found_none i = lt-leb (2 ^ P) (mag_at A i) (planes.below i)

  pub founds_none : founds N L A P ≡ 0
  unfolding founds
  founds_none = count_none (all_of N) (λ i. found N L A P i) found_none

  pub splits_none : splits N L A P ≡ 0
  unfolding splits desc_split grand_split
  splits_none =
      omega (
        arith,
        count_none (all_of N) (λ i. desc_split N L A P i) (λ i. any_none (λ j. found N L A P j) (desc N L i) found_none),
        count_none (all_of N) (λ i. grand_split N L A P i) (λ i. any_none (λ j. found N L A P j) (grand N L i) found_none),
      )

  pub splits_sum : sum_to P (λ b. splits_in N L A b) ≡ splits N L A 0
  splits_sum = omega (arith, falls_sum P (λ b. splits N L A b) (λ b. splits_fall N L A b), splits_none)

  pub founds_sum : sum_to P (λ b. found_in N L A b) ≡ nonzeros N L A
  founds_sum = omega (arith, falls_sum P (λ b. founds N L A b) (λ b. founds_fall N L A b), founds_none, founds_all N L A)

-- the sizes of the parts that stand add up to I, after any plane
pub sizes_add_up : (N L : ℕ) → Sized N L → (A : List ℤ) (b : ℕ) → part_sizes N L A b ≡ all_of N
sizes_add_up N L s A b = sizes_is N L s A b ∙ sizes_all (size_of N L s) (mags A) b ∙ all_is N L s.least s.most

-- no planes, no bits
pub empty : (N L : ℕ) (A : List ℤ) → stream N L 0 A ≡ []
unfolding stream answers
empty N L A = let e : 4 * all_of N * 0 ≡ 0 = omega arith in ap (λ (n : ℕ). answers N L A n (begin N L 0)) e

-- the bits of planes n - 1 to 0 of the magnitudes
body_sum : (z : Size) (A : Arr) (n : ℕ) → length (body z A.mag A.neg n) ≡ sum_to n (λ b. length (plane z A.mag A.neg b))
unfolding body sum_to
body_sum z A zero = refl
body_sum z A (suc b) = omega (arith, length-append (plane z A.mag A.neg b) (body z A.mag A.neg b), body_sum z A b)

-- the array with 2^(P-1) everywhere: it has exactly P planes
abbrev pub flat : ℕ → ℕ → List ℤ
flat N P = replicate (all_of N) (pos (2 ^ (P - 1)))

flat_in : (N P i : ℕ) → i < all_of N → mag_at (flat N P) i ≡ 2 ^ (P - 1)
flat_in N P i h = rw (get_or-replicate (all_of N) i (pos (2 ^ (P - 1))) (pos 0) h)

flat_out : (N P i : ℕ) → all_of N ≤ i → mag_at (flat N P) i ≡ 0
flat_out N P i h = rw (get_or-eq_default (flat N P) (pos 0) {n = i} (omega (arith, length-replicate (all_of N) (pos (2 ^ (P - 1))))))

flat_planes : (N P : ℕ) → 1 ≤ P → IsPlanes (flat N P) P
flat_planes N P h =
    record {
      below = λ i. ⊎_elim (λ l. rw (flat_out N P i l) (pow_pos P)) (λ l. rw (flat_in N P i l) (pow-lt (omega arith))) (order (all_of N) i);
      least = λ R k. ⊎_elim (λ l. l)
          (λ l. absurd (omega (arith, pow_mono {i = R} {j = P - 1} (omega arith), flat_in N P 0 (pow4_pos N), k 0)))
          (order P R);
    }

module _ (N L P : ℕ) (s : Sized N L) (A : List ℤ) where
  -- parts that stand after each plane, sets split in the end and coefficients that are not zero, in the words of Counting
  counted_is : sum_to P (λ b. parts N L A b) + splits N L A 0 + nonzeros N L A
      ≡ sum 0 P (λ b. counting.parts (size_of N L s) (mags A) b) + counting.splits (size_of N L s) (mags A) 0 + counted.nonzeros (size_of N L s) (mags A)
  counted_is =
      omega (
        arith,
        sum_to_lem P (λ b. parts N L A b),
        sum_cong 0 P (λ b. parts N L A b) (λ b. counting.parts (size_of N L s) (mags A) b) (λ b p q. parts_is N L s A b),
        splits_is N L s A 0,
        nonzeros_is N L s A,
      )

  -- they number no more than the worst body of at least one plane
  pub bound : 1 ≤ P → sum_to P (λ b. parts N L A b) + splits N L A 0 + nonzeros N L A ≤ worst_body N L P
  bound h =
      rw (worst_some N L P h) (omega (arith, counted_is, counted.counted_bound (size_of N L s) (mags A) P, counted.worst_is N L P s.least s.most))

module _ (N L P : ℕ) (s : Sized N L) where
  module _ (A : List ℤ) (planes : IsPlanes A P) where
    small : (i : ℕ) → i < 4 ^ N → mag_at A i < 2 ^ P
    small i p = planes.below i

    -- the bits number the parts that stand after each plane, the sets split in the end and the coefficients that are not zero
    pub count : length (stream N L P A) ≡ sum_to P (λ b. parts N L A b) + splits N L A 0 + nonzeros N L A
    count =
        omega (
          arith,
          ap (λ (u : List Bool). length u) (stream_same N L s A P),
          joined.count N L s.least s.most P (arr_of A) small,
          counted_is N L P s A,
        )

    -- and are no more than the worst body
    pub stream_bound : length (stream N L P A) ≤ worst_body N L P
    stream_bound = tell P refl
      where
        tell : (n : ℕ) → P ≡ n → length (stream N L P A) ≤ worst_body N L P
        tell zero e = rw e (rw (empty N L A) (omega arith))
        tell (suc n) e = omega (arith, count, bound N L P s A (omega (arith, e)))

    -- what is taken in plane b
    taken : (b : ℕ) → during N b (begin N L P) (stream N L P A) ≡ during N b (begin N L P) (whole N L P (arr_of A))
    taken b =
        ap (λ (u : List Bool). during N b (begin N L P) u) (stream_same N L s A P)

    -- in plane b they number the parts that stand after it, the sets split in it and the coefficients found in it
    pub plane_count : (b : ℕ) → b < P
        → length (during N b (begin N L P) (stream N L P A)) ≡ parts N L A b + splits_in N L A b + found_in N L A b
    plane_count b h =
        omega (
          arith,
          ap (λ (u : List Bool). length u) (taken b),
          plane_by_plane N L s.least s.most P (arr_of A) small b h,
          parts_is N L s A b,
          splits_is N L s A b,
          splits_is N L s A (suc b),
          founds_is N L s A b,
          founds_is N L s A (suc b),
        )

    -- and the planes' bits are all of them
    pub planes_sum : sum_to P (λ b. length (during N b (begin N L P) (stream N L P A))) ≡ length (stream N L P A)
    planes_sum =
        sum_same P (λ b. length (during N b (begin N L P) (stream N L P A))) (λ b. length (plane (size_of N L s) (arr_of A).mag (arr_of A).neg b))
        (λ b h. ap (λ (u : List Bool). length u) (taken b ∙ plane_bits N L s.least s.most P (arr_of A) small b h))
        ∙ sym (body_sum (size_of N L s) (arr_of A) P)
        ∙ sym (ap (λ (u : List Bool). length u) (stream_same N L s A P ∙ whole_is_body N L s.least s.most P (arr_of A) small))

  -- the bound is reached, by 2^(P-1) everywhere
  pub reached : 1 ≤ P → (length (flat N P) ≡ all_of N) × IsPlanes (flat N P) P × (length (stream N L P (flat N P)) ≡ worst_body N L P)
  reached h =
      let e : P ≡ suc (P - 1) = omega arith in (
        length-replicate (all_of N) (pos (2 ^ (P - 1))),
        flat_planes N P h,
        ap (λ (u : List Bool). length u) (stream_same N L s (flat N P) P)
            ∙ ap (λ (n : ℕ). length (whole N L n (arr_of (flat N P)))) e
            ∙ joined.reached N L s.least s.most (P - 1) (arr_of (flat N P)) (flat_in N P)
            ∙ ap (λ (n : ℕ). joined.bound N L n) (sym e)
            ∙ sym (worst_some N L P h),
      )

-- no planes: no bits, nothing split, nothing that is not zero
pub no_planes : (N L : ℕ) (A : List ℤ) → IsPlanes A 0
    → (stream N L 0 A ≡ []) × (worst_body N L 0 ≡ 0) × (splits N L A 0 ≡ 0) × (nonzeros N L A ≡ 0)
no_planes N L A planes = (
  empty N L A,
  worst_none N L 0 refl,
  splits_none N L 0 A planes,
  sym (founds_all N L A) ∙ founds_none N L 0 A planes,
)
