-- The parts that stand, by the sets that are split: where a DESC is split, four coefficients and its GRAND, if there is one, take its place;
-- where a GRAND is split, four sets do.
use mathlib.Core.Path.{◌≡◌, refl, sym, ap, ◌∙◌}
use mathlib.Core.Bool.{Bool, true, false, false≢true, not, ◌&&◌, ◌||◌}
use mathlib.Core.List.{List}
use Prim.Native.Nat.{ℕ, zero, suc, ◌+◌, ◌*◌, ◌/◌, ◌≤◌, ◌<◌, min}
use native.Mathlib.Decide.{dec_lt}
use native.Mathlib.Omega.{arith}
use borrow.Author.Tests.{lt-ltb, le-ltb, le-leb, lt-leb}
use lib.Dec.{leb, ltb}
use lib.IntN.{ℤ}
use Rattle.sizes.specs.Sizes.{all_of, coarsest_of, Sized}
use Rattle.sizes.proofs.Laws.{all_sixteen, coarsest_four, coarsest_all}
use Rattle.bits.specs.Bits.{digit}
use Rattle.tree.specs.Tree.{children, desc, grand, any_in}
use Rattle.tree.proofs.Lists.{any_append, any_flat, any_four, or_right}
use Rattle.tree.proofs.Laws.{children_some, desc_is, desc_low, desc_high, grand_low, grand_high}
use Rattle.nls.specs.Parts.{sum_to, count_to, found, desc_split, grand_split, stands_alone, desc_stands, grand_stands, parts}
use Rattle.figures.proofs.Sums.{sum_add, sum_short}
use Rattle.figures.proofs.Members.{desc_range, grand_range}

-- sums whose terms agree below n
sum_within : (n : ℕ) (f g : ℕ → ℕ) → ((i : ℕ) → i < n → f i ≡ g i) → sum_to n f ≡ sum_to n g
unfolding sum_to
sum_within zero f g h = refl
sum_within (suc n) f g h = omega (arith, sum_within n f g (λ i k. h i (omega arith)), h n (omega arith))

-- each place counted for its four children
sum_fours : (n : ℕ) (f : ℕ → ℕ) → sum_to (4 * n) (λ i. f (i / 4)) ≡ 4 * sum_to n f
unfolding sum_to
sum_fours zero f = refl
sum_fours (suc n) f =
    let e : 4 * suc n ≡ suc (suc (suc (suc (4 * n)))) = omega arith in
    let e0 : 4 * n / 4 ≡ n = omega arith in
    let e1 : suc (4 * n) / 4 ≡ n = omega arith in
    let e2 : suc (suc (4 * n)) / 4 ≡ n = omega arith in
    let e3 : suc (suc (suc (4 * n))) / 4 ≡ n = omega arith in
    rw e (omega (arith, sum_fours n f, ap f e0, ap f e1, ap f e2, ap f e3))

-- the places below d
count_below : (n d : ℕ) → count_to n (λ i. ltb i d) ≡ min n d
unfolding sum_to
count_below zero d = omega arith
count_below (suc n) d = tell (dec_lt n d) (count_below n d)
  where
    tell : Dec (n < d) → count_to n (λ i. ltb i d) ≡ min n d → sum_to n (λ i. digit (ltb i d)) + digit (ltb n d) ≡ min (suc n) d
    tell (yes l) ih = rw (lt-ltb n d l) (omega arith)
    tell (no l) ih = rw (le-ltb n d (omega arith)) (omega arith)

module _ (N L : ℕ) (z : Sized N L) (A : List ℤ) (b : ℕ) where
  desc_off : (i : ℕ) → i < coarsest_of N L / 4 → desc_split N L A b i ≡ false
  unfolding desc_split any_in
  desc_off i p = rw (desc_low N L i p) refl

  grand_off : (i : ℕ) → i < coarsest_of N L / 4 → grand_split N L A b i ≡ false
  unfolding grand_split any_in
  grand_off i p = rw (grand_low N L i p) refl

  -- a split GRAND is in a split DESC, and a split DESC in the split GRAND of its parent
  grand_in : (i : ℕ) → grand_split N L A b i ≡ true → desc_split N L A b i ≡ true
  unfolding desc_split grand_split
  grand_in i e =
      let p : ℕ → Bool = λ j. found N L A b j in
      ap (any_in p) (desc_is N L z i) ∙ any_append p (children N L i) (grand N L i) ∙ or_right (any_in p (children N L i)) (any_in p (grand N L i)) e

  desc_in : (i : ℕ) → coarsest_of N L ≤ i → i < all_of N / 4 → desc_split N L A b i ≡ true → grand_split N L A b (i / 4) ≡ true
  unfolding desc_split grand_split grand
  desc_in i p q e =
      let t : ℕ → Bool = λ j. found N L A b j in
      any_flat t (λ c. desc N L c) (children N L (i / 4))
      ∙ ap (any_in (λ c. any_in t (desc N L c))) (children_some N L (i / 4) (omega (arith, coarsest_four N L z)) (omega arith))
      ∙ any_four (λ c. any_in t (desc N L c)) (i / 4) i refl e

  -- below D, by the parent
  below_coarsest : (i : ℕ) → ltb i (coarsest_of N L) ≡ ltb (i / 4) (coarsest_of N L / 4)
  below_coarsest i = tell (dec_lt i (coarsest_of N L))
    where
      tell : Dec (i < coarsest_of N L) → ltb i (coarsest_of N L) ≡ ltb (i / 4) (coarsest_of N L / 4)
      tell (yes l) = lt-ltb i (coarsest_of N L) l ∙ sym (lt-ltb (i / 4) (coarsest_of N L / 4) (omega (arith, coarsest_four N L z)))
      tell (no l) = le-ltb i (coarsest_of N L) (omega arith) ∙ sym (le-ltb (i / 4) (coarsest_of N L / 4) (omega (arith, coarsest_four N L z)))

  -- one place at a time
  alone_place : (i : ℕ) → digit (stands_alone N L A b i) ≡ digit (ltb (i / 4) (coarsest_of N L / 4)) + digit (desc_split N L A b (i / 4))
  unfolding stands_alone
  alone_place i = rw (below_coarsest i) (tell (dec_lt (i / 4) (coarsest_of N L / 4)))
    where
      tell : Dec (i / 4 < coarsest_of N L / 4)
          → digit (ltb (i / 4) (coarsest_of N L / 4) || desc_split N L A b (i / 4)) ≡ digit (ltb (i / 4) (coarsest_of N L / 4)) + digit (desc_split N L A b (i / 4))
      tell (yes l) = rw (lt-ltb (i / 4) (coarsest_of N L / 4) l, desc_off (i / 4) l) refl
      tell (no l) = rw (le-ltb (i / 4) (coarsest_of N L / 4) (omega arith)) (omega arith)

  grand_place : (i : ℕ) → i < all_of N / 16 → digit (grand_stands N L A b i) + digit (grand_split N L A b i) ≡ digit (desc_split N L A b i)
  unfolding grand_stands
  grand_place i h = rw (grand_range N L z i, lt-ltb i (all_of N / 16) h) (tell (dec_lt i (coarsest_of N L / 4)))
    where
      both : (s g : Bool) → (g ≡ true → s ≡ true) → digit (s && not g) + digit g ≡ digit s
      both true true k = refl
      both true false k = refl
      both false true k = absurd (false≢true (k refl))
      both false false k = refl

      tell : Dec (i < coarsest_of N L / 4)
          → digit (leb (coarsest_of N L / 4) i && true && (desc_split N L A b i && not (grand_split N L A b i))) + digit (grand_split N L A b i) ≡ digit (desc_split N L A b i)
      tell (yes l) = rw (lt-leb (coarsest_of N L / 4) i l, desc_off i l, grand_off i l) refl
      tell (no l) = rw (le-leb (coarsest_of N L / 4) i (omega arith)) (both (desc_split N L A b i) (grand_split N L A b i) (grand_in i))

  desc_place : (i : ℕ) → i < all_of N / 4
      → digit (desc_stands N L A b i) + digit (desc_split N L A b i) + digit (ltb i (coarsest_of N L / 4)) ≡ digit (ltb (i / 4) (coarsest_of N L / 4)) + digit (grand_split N L A b (i / 4))
  unfolding desc_stands
  desc_place i h =
      rw (desc_range N L z i, lt-ltb i (all_of N / 4) h, below_coarsest i)
      (tell (dec_lt i (coarsest_of N L / 4)) (dec_lt (i / 4) (coarsest_of N L / 4)))
    where
      inner : (s : Bool) → digit (not s && true) + digit s + 0 ≡ 1 + 0
      inner true = refl
      inner false = refl

      outer : (s g : Bool) → (s ≡ true → g ≡ true) → digit (not s && g) + digit s + 0 ≡ 0 + digit g
      outer true true k = refl
      outer true false k = absurd (false≢true (k refl))
      outer false true k = refl
      outer false false k = refl

      tell : Dec (i < coarsest_of N L / 4) → Dec (i / 4 < coarsest_of N L / 4)
          → digit (leb (coarsest_of N L / 4) i && true && (not (desc_split N L A b i) && (ltb (i / 4) (coarsest_of N L / 4) || grand_split N L A b (i / 4)))) + digit (desc_split N L A b i) + digit (ltb i (coarsest_of N L / 4))
          ≡ digit (ltb (i / 4) (coarsest_of N L / 4)) + digit (grand_split N L A b (i / 4))
      tell (yes l) m =
          rw (lt-leb (coarsest_of N L / 4) i l, lt-ltb i (coarsest_of N L / 4) l, desc_off i l, lt-ltb (i / 4) (coarsest_of N L / 4) (omega arith), grand_off (i / 4) (omega arith)) refl
      tell (no l) (yes m) =
          rw (le-leb (coarsest_of N L / 4) i (omega arith), le-ltb i (coarsest_of N L / 4) (omega arith), lt-ltb (i / 4) (coarsest_of N L / 4) m, grand_off (i / 4) m) (inner (desc_split N L A b i))
      tell (no l) (no m) =
          rw (le-leb (coarsest_of N L / 4) i (omega arith), le-ltb i (coarsest_of N L / 4) (omega arith), le-ltb (i / 4) (coarsest_of N L / 4) (omega arith))
          (outer (desc_split N L A b i) (grand_split N L A b (i / 4)) (desc_in i (omega (arith, coarsest_four N L z)) h))

  -- places past the tables have no sets
  desc_none : (i : ℕ) → all_of N / 4 ≤ i → digit (desc_stands N L A b i) ≡ 0
  unfolding desc_stands
  desc_none i p = rw (desc_high N L i p) refl

  grand_none : (i : ℕ) → all_of N / 16 ≤ i → digit (grand_stands N L A b i) ≡ 0
  unfolding grand_stands
  grand_none i p = rw (grand_high N L z i p) refl

  -- the coefficients, the DESCs and the GRANDs that stand
  alone_sum : count_to (all_of N) (λ i. stands_alone N L A b i) ≡ 4 * (coarsest_of N L / 4 + count_to (all_of N / 4) (λ i. desc_split N L A b i))
  alone_sum =
      let F : ℕ → ℕ = λ j. digit (ltb j (coarsest_of N L / 4)) + digit (desc_split N L A b j) in
      let e : all_of N ≡ 4 * (all_of N / 4) = omega (arith, all_sixteen N L z) in
      sum_within (all_of N) (λ i. digit (stands_alone N L A b i)) (λ i. F (i / 4)) (λ i k. alone_place i)
      ∙ ap (λ (n : ℕ). sum_to n (λ i. F (i / 4))) e
      ∙ sum_fours (all_of N / 4) F
      ∙ omega (
        arith,
        sum_add (all_of N / 4) (λ j. digit (ltb j (coarsest_of N L / 4))) (λ j. digit (desc_split N L A b j)),
        count_below (all_of N / 4) (coarsest_of N L / 4),
        coarsest_all N L z,
      )

  desc_sum : count_to (all_of N) (λ i. desc_stands N L A b i) + count_to (all_of N / 4) (λ i. desc_split N L A b i) + coarsest_of N L / 4
      ≡ 4 * (coarsest_of N L / 4 + count_to (all_of N / 16) (λ i. grand_split N L A b i))
  desc_sum =
      let H : ℕ → ℕ = λ j. digit (ltb j (coarsest_of N L / 4)) + digit (grand_split N L A b j) in
      let e : all_of N / 4 ≡ 4 * (all_of N / 16) = omega (arith, all_sixteen N L z) in
      let places = sum_within (all_of N / 4) (λ i. digit (desc_stands N L A b i) + digit (desc_split N L A b i) + digit (ltb i (coarsest_of N L / 4))) (λ i. H (i / 4)) (λ i k. desc_place i k) in
      let by : sum_to (all_of N / 4) (λ i. H (i / 4)) ≡ 4 * sum_to (all_of N / 16) H = ap (λ (n : ℕ). sum_to n (λ i. H (i / 4))) e ∙ sum_fours (all_of N / 16) H in
      omega (
        arith,
        places,
        by,
        sum_short (all_of N) (all_of N / 4) (λ i. digit (desc_stands N L A b i)) (omega arith) (λ i p. desc_none i p),
        sum_add (all_of N / 4) (λ i. digit (desc_stands N L A b i)) (λ i. digit (desc_split N L A b i)),
        sum_add (all_of N / 4) (λ i. digit (desc_stands N L A b i) + digit (desc_split N L A b i)) (λ i. digit (ltb i (coarsest_of N L / 4))),
        sum_add (all_of N / 16) (λ j. digit (ltb j (coarsest_of N L / 4))) (λ j. digit (grand_split N L A b j)),
        count_below (all_of N / 4) (coarsest_of N L / 4),
        count_below (all_of N / 16) (coarsest_of N L / 4),
        coarsest_all N L z,
      )

  grand_sum : count_to (all_of N) (λ i. grand_stands N L A b i) + count_to (all_of N / 16) (λ i. grand_split N L A b i) ≡ count_to (all_of N / 16) (λ i. desc_split N L A b i)
  grand_sum =
      omega (
        arith,
        sum_within (all_of N / 16) (λ i. digit (grand_stands N L A b i) + digit (grand_split N L A b i)) (λ i. digit (desc_split N L A b i)) (λ i k. grand_place i k),
        sum_short (all_of N) (all_of N / 16) (λ i. digit (grand_stands N L A b i)) (omega arith) (λ i p. grand_none i p),
        sum_add (all_of N / 16) (λ i. digit (grand_stands N L A b i)) (λ i. digit (grand_split N L A b i)),
      )

  -- and all parts
  pub parts_split : parts N L A b
      ≡ 7 * (coarsest_of N L / 4) + 3 * count_to (all_of N / 4) (λ i. desc_split N L A b i) + 3 * count_to (all_of N / 16) (λ i. grand_split N L A b i)
      + count_to (all_of N / 16) (λ i. desc_split N L A b i)
  unfolding parts
  parts_split = omega (arith, alone_sum, desc_sum, grand_sum)
