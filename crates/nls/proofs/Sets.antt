-- DESC and GRAND as lists of places against the sums over the tree in Counting, and with them the parts that stand.
use Prim.Native.Nat.{ℕ, zero, suc, ◌+◌, ◌*◌, ◌-◌, ◌^◌, ◌/◌, ◌≤◌, ◌<◌}
use mathlib.Core.Path.{◌≡◌, refl, ap, sym, ◌∙◌}
use mathlib.Core.Bool.{Bool, true, false, not, ◌&&◌, ◌||◌, cond}
use mathlib.Core.List.{List, [], ◌∷◌}
use mathlib.Core.Logic.{⊎_elim}
use native.Mathlib.Nat.{zero-add, pow-succ', mul-le-mul_left}
use native.Mathlib.Omega.{arith}
use borrow.Author.Tests.{lt-ltb, le-ltb}
use lib.Dec.{ltb}
use lib.IntN.{ℤ}
use lib.ListN.{length}
use Rattle.sizes.specs.Sizes.{all_of, coarsest_of, Sized}
use Rattle.bits.specs.Bits.{digit}
use Rattle.coef.specs.Coef.{mag_at}
use Rattle.tree.specs.Tree.{desc, grand, any_in}
use Rattle.tree.proofs.Laws.{desc_low, desc_high, grand_low, grand_high}
use Rattle.tree.proofs.Sums.{sum_over}
use Rattle.tree.proofs.Sums as over
use Rattle.nls.specs.Parts.{sum_to, count_to, not_empty, found, desc_split, grand_split, stands_alone, desc_stands, grand_stands, parts, part_sizes, splits, founds, nonzeros}
use Rattle.nls.proofs.Counting.Sums.{sum, sum_cong, sum_zero, sum_split, sum_at, sum_last, order}
use Rattle.nls.proofs.Counting.Tree as tree
use Rattle.nls.proofs.Counting.Tree.{Size, D, Q, I, desc_none, desc_step, desc_le, child_le}
use Rattle.nls.proofs.Counting.Parts as counting
use Rattle.nls.proofs.Counting.Parts.{ι, big, split_desc, split_grand, alone, stands_desc, stands_grand, over_all, over_desc, over_grand}
use Rattle.nls.proofs.Counting.Bound as bounds
use Rattle.nls.proofs.Counting.Bound.{size, all_is, coarsest_is}

-- ---- lists
-- the length of a list, and whether some member has p, as sums
length_sum : (l : List ℕ) → length l ≡ sum_over (λ _. 1) l
unfolding sum_over
length_sum [] = refl
length_sum (j ∷ l) = omega (arith, length_sum l)

any_sum : (p : ℕ → Bool) (l : List ℕ) → any_in p l ≡ ltb 0 (sum_over (λ j. ι (p j)) l)
unfolding any_in sum_over
any_sum p [] = refl
any_sum p (j ∷ l) = go (p j) (any_sum p l)
  where
    go : (t : Bool) → any_in p l ≡ ltb 0 (sum_over (λ j. ι (p j)) l) → (t || any_in p l) ≡ ltb 0 (ι t + sum_over (λ j. ι (p j)) l)
    go true e = sym (lt-ltb 0 (1 + sum_over (λ j. ι (p j)) l) (omega arith))
    go false e = let z : 0 + sum_over (λ j. ι (p j)) l ≡ sum_over (λ j. ι (p j)) l = omega arith in rw (z, e)

-- ---- runs
-- the four terms of a run of four
four_terms : (i : ℕ) (f : ℕ → ℕ) → sum (4 * i) 4 f ≡ f (4 * i) + f (4 * i + 1) + f (4 * i + 2) + f (4 * i + 3)
four_terms i f = omega (arith, sum_last (4 * i) 3 f, sum_last (4 * i) 2 f, sum_last (4 * i) 1 f, first)
  where
    first : sum (4 * i) 1 f ≡ f (4 * i)
    first = unfold sum in omega arith

-- a sum over the places below n is one over a run from 0
pub sum_to_lem : (n : ℕ) (f : ℕ → ℕ) → sum_to n f ≡ sum 0 n f
unfolding sum_to sum
sum_to_lem zero f = refl
sum_to_lem (suc n) f = omega (arith, sum_to_lem n f, sum_last 0 n f, ap f (zero-add n))

-- or from a to m, where there is nothing outside
inner_run : (a m n : ℕ) (f g : ℕ → ℕ) → a ≤ m → m ≤ n → ((i : ℕ) → i < a → f i ≡ 0) → ((i : ℕ) → m ≤ i → f i ≡ 0)
    → ((i : ℕ) → a ≤ i → i < m → f i ≡ g i) → sum_to n f ≡ sum a (m - a) g
inner_run a m n f g p q low high same =
    omega (
      arith,
      sum_to_lem n f,
      sum_at 0 0 n (a + ((m - a) + (n - m))) f refl (omega arith),
      sum_split 0 a ((m - a) + (n - m)) f,
      sum_zero 0 a f (λ i u v. low i (omega arith)),
      sum_at (0 + a) a ((m - a) + (n - m)) ((m - a) + (n - m)) f (omega arith) refl,
      sum_split a (m - a) (n - m) f,
      sum_zero (a + (m - a)) (n - m) f (λ i u v. high i (omega arith)),
      sum_cong a (m - a) f g (λ i u v. same i u (omega arith)),
    )

-- the magnitudes by place
abbrev pub mags : List ℤ → ℕ → ℕ
mags A i = mag_at A i

module _ (N L : ℕ) (s : Sized N L) where
  -- the sizes
  abbrev pub size_of : Size
  size_of = size N L s.least s.most

  all_four : all_of N / 4 ≡ Q size_of
  all_four = omega (arith, all_is N L s.least s.most)

  all_sixteen : all_of N / 16 ≡ size_of.j
  all_sixteen = omega (arith, all_is N L s.least s.most)

  coarsest_four : coarsest_of N L / 4 ≡ size_of.e
  coarsest_four = omega (arith, coarsest_is N L s.least s.most)

  -- sums over DESC and GRAND are those over the tree
  module _ (g : ℕ → ℕ) where
    sum_high : (i : ℕ) → Q size_of ≤ i → sum_over g (desc N L i) ≡ tree.desc size_of g i
    sum_high i h = over.desc_sum_high N L s g i (omega (arith, all_four)) ∙ sym (desc_none size_of g i h)

    -- n generations above the last
    sum_from : (n i : ℕ) → size_of.e ≤ i → I size_of ≤ 4 ^ n * i → sum_over g (desc N L i) ≡ tree.desc size_of g i
    unfolding tree.grand
    sum_from zero i p h = sum_high i (omega arith)
    sum_from (suc n) i p h =
        ⊎_elim (λ l. sum_high i l)
        (λ l. low l (λ c q. sum_from n c (omega arith) (omega (arith, ap (λ (x : ℕ). x * i) (pow-succ' 4 n), mul-le-mul_left (4 ^ n) q))))
        (order (Q size_of) i)
      where
        low : i < Q size_of → ((c : ℕ) → 4 * i ≤ c → sum_over g (desc N L c) ≡ tree.desc size_of g c)
            → sum_over g (desc N L i) ≡ tree.desc size_of g i
        low l ih =
            omega (
              arith,
              over.desc_sum N L s g i (omega (arith, coarsest_four)) (omega (arith, all_four)),
              over.grand_sum N L s g i (omega (arith, coarsest_four)),
              ih (4 * i) (omega arith),
              ih (4 * i + 1) (omega arith),
              ih (4 * i + 2) (omega arith),
              ih (4 * i + 3) (omega arith),
              desc_step size_of g i (omega (arith, size_of.some)) l,
              four_terms i g,
              four_terms i (λ c. tree.desc size_of g c),
            )

    pub desc_sum : (i : ℕ) → size_of.e ≤ i → sum_over g (desc N L i) ≡ tree.desc size_of g i
    desc_sum i p =
        let one : 1 ≤ i = omega (arith, size_of.some) in
        sum_from N i p (omega (arith, all_is N L s.least s.most, mul-le-mul_left (4 ^ N) one))

    pub grand_sum : (i : ℕ) → size_of.e ≤ i → sum_over g (grand N L i) ≡ tree.grand size_of g i
    unfolding tree.grand
    grand_sum i p =
        omega (
          arith,
          over.grand_sum N L s g i (omega (arith, coarsest_four)),
          desc_sum (4 * i) (omega arith),
          desc_sum (4 * i + 1) (omega arith),
          desc_sum (4 * i + 2) (omega arith),
          desc_sum (4 * i + 3) (omega arith),
          four_terms i (λ c. tree.desc size_of g c),
        )

  -- ---- lengths
  pub desc_length : (i : ℕ) → size_of.e ≤ i → length (desc N L i) ≡ tree.desc size_of (λ _. 1) i
  desc_length i p = length_sum (desc N L i) ∙ desc_sum (λ _. 1) i p

  pub grand_length : (i : ℕ) → size_of.e ≤ i → length (grand N L i) ≡ tree.grand size_of (λ _. 1) i
  grand_length i p = length_sum (grand N L i) ∙ grand_sum (λ _. 1) i p

  -- where they are empty, and where they are not
  pub desc_none_low : (i : ℕ) → i < size_of.e → desc N L i ≡ []
  desc_none_low i p = desc_low N L i (omega (arith, coarsest_four))

  pub desc_none_high : (i : ℕ) → Q size_of ≤ i → desc N L i ≡ []
  desc_none_high i p = desc_high N L i (omega (arith, all_four))

  pub grand_none_low : (i : ℕ) → i < size_of.e → grand N L i ≡ []
  grand_none_low i p = grand_low N L i (omega (arith, coarsest_four))

  pub grand_none_high : (i : ℕ) → size_of.j ≤ i → grand N L i ≡ []
  grand_none_high i p = grand_high N L s i (omega (arith, all_sixteen))

  pub desc_some : (i : ℕ) → size_of.e ≤ i → i < Q size_of → not_empty (desc N L i) ≡ true
  desc_some i p q =
      lt-ltb 0 (length (desc N L i))
      (omega (arith, desc_length i p, child_le size_of (λ _. 1) i (4 * i) (omega (arith, size_of.some)) q (omega arith) (omega arith)))

  pub grand_some : (i : ℕ) → size_of.e ≤ i → i < size_of.j → not_empty (grand N L i) ≡ true
  grand_some i p q =
      lt-ltb 0 (length (grand N L i))
      (omega (
        arith,
        grand_length i p,
        desc_le size_of (λ _. 1) i (4 * i) (omega arith) (omega arith),
        child_le size_of (λ _. 1) (4 * i) (16 * i) (omega (arith, size_of.some)) (omega arith) (omega arith) (omega arith),
      ))

  -- sums over all places, where only those with a DESC or a GRAND count
  all_run : (f g : ℕ → ℕ) → ((i : ℕ) → f i ≡ g i) → sum_to (all_of N) f ≡ over_all size_of g
  all_run f g h = sum_to_lem (all_of N) f ∙ sum_at 0 0 (all_of N) (I size_of) f refl (sym (all_is N L s.least s.most)) ∙ sum_cong 0 (I size_of) f g (λ i p q. h i)

  desc_run : (f g : ℕ → ℕ) → ((i : ℕ) → desc N L i ≡ [] → f i ≡ 0) → ((i : ℕ) → size_of.e ≤ i → i < Q size_of → f i ≡ g i)
      → sum_to (all_of N) f ≡ over_desc size_of g
  desc_run f g none h =
      inner_run size_of.e (Q size_of) (all_of N) f g (omega (arith, size_of.below)) (omega (arith, all_is N L s.least s.most))
      (λ i p. none i (desc_none_low i p)) (λ i p. none i (desc_none_high i p)) h

  grand_run : (f g : ℕ → ℕ) → ((i : ℕ) → grand N L i ≡ [] → f i ≡ 0) → ((i : ℕ) → size_of.e ≤ i → i < size_of.j → f i ≡ g i)
      → sum_to (all_of N) f ≡ over_grand size_of g
  grand_run f g none h =
      inner_run size_of.e size_of.j (all_of N) f g size_of.below (omega (arith, all_is N L s.least s.most))
      (λ i p. none i (grand_none_low i p)) (λ i p. none i (grand_none_high i p)) h

  module _ (A : List ℤ) where
    -- ---- what is split
    pub desc_split_is : (b i : ℕ) → size_of.e ≤ i → desc_split N L A b i ≡ split_desc size_of (mags A) b i
    unfolding desc_split split_desc found big
    desc_split_is b i p =
        any_sum (λ j. found N L A b j) (desc N L i) ∙ ap (λ (n : ℕ). ltb 0 n) (desc_sum (λ j. ι (found N L A b j)) i p)

    pub grand_split_is : (b i : ℕ) → size_of.e ≤ i → grand_split N L A b i ≡ split_grand size_of (mags A) b i
    unfolding grand_split split_grand found big
    grand_split_is b i p =
        any_sum (λ j. found N L A b j) (grand N L i) ∙ ap (λ (n : ℕ). ltb 0 n) (grand_sum (λ j. ι (found N L A b j)) i p)

    -- an empty set is not
    pub desc_empty_split : (b i : ℕ) → desc N L i ≡ [] → desc_split N L A b i ≡ false
    unfolding desc_split any_in
    desc_empty_split b i e = rw e

    pub grand_empty_split : (b i : ℕ) → grand N L i ≡ [] → grand_split N L A b i ≡ false
    unfolding grand_split any_in
    grand_empty_split b i e = rw e

    -- ---- what stands
    below_or : (i : ℕ) (t u : Bool) → (D size_of ≤ i → t ≡ u) → (ltb i (coarsest_of N L) || t) ≡ (ltb i (D size_of) || u)
    below_or i t u h =
        ap (λ (d : ℕ). ltb i d || t) (sym (coarsest_is N L s.least s.most)) ∙ ⊎_elim (λ p. rw (le-ltb i (D size_of) p) (h p)) (λ p. rw (lt-ltb i (D size_of) p)) (order (D size_of) i)

    pub alone_is : (b i : ℕ) → stands_alone N L A b i ≡ alone size_of (mags A) b i
    unfolding stands_alone alone
    alone_is b i =
        below_or i (desc_split N L A b (i / 4)) (split_desc size_of (mags A) b (i / 4)) (λ p. desc_split_is b (i / 4) (omega arith))

    pub desc_stands_is : (b i : ℕ) → size_of.e ≤ i → i < Q size_of → desc_stands N L A b i ≡ stands_desc size_of (mags A) b i
    unfolding desc_stands stands_desc
    desc_stands_is b i p q =
        rw (desc_some i p q, desc_split_is b i p)
        (ap (λ (t : Bool). not (split_desc size_of (mags A) b i) && t)
        (below_or i (grand_split N L A b (i / 4)) (split_grand size_of (mags A) b (i / 4)) (λ r. grand_split_is b (i / 4) (omega arith))))

    pub grand_stands_is : (b i : ℕ) → size_of.e ≤ i → i < size_of.j → grand_stands N L A b i ≡ stands_grand size_of (mags A) b i
    unfolding grand_stands stands_grand
    grand_stands_is b i p q = rw (grand_some i p q, desc_split_is b i p, grand_split_is b i p)

    -- an empty set does not
    desc_empty_stands : (b i : ℕ) → desc N L i ≡ [] → desc_stands N L A b i ≡ false
    unfolding desc_stands
    desc_empty_stands b i e = rw e

    grand_empty_stands : (b i : ℕ) → grand N L i ≡ [] → grand_stands N L A b i ≡ false
    unfolding grand_stands
    grand_empty_stands b i e = rw e

    -- ---- the counts
    alones : (b : ℕ) → count_to (all_of N) (λ i. stands_alone N L A b i) ≡ over_all size_of (λ i. ι (alone size_of (mags A) b i))
    alones b = all_run (λ i. digit (stands_alone N L A b i)) (λ i. ι (alone size_of (mags A) b i)) (λ i. ap ι (alone_is b i))

    pub parts_is : (b : ℕ) → parts N L A b ≡ counting.parts size_of (mags A) b
    unfolding parts counting.parts
    parts_is b =
        omega (
          arith,
          alones b,
          desc_run (λ i. digit (desc_stands N L A b i)) (λ i. ι (stands_desc size_of (mags A) b i))
              (λ i e. ap digit (desc_empty_stands b i e)) (λ i p q. ap ι (desc_stands_is b i p q)),
          grand_run (λ i. digit (grand_stands N L A b i)) (λ i. ι (stands_grand size_of (mags A) b i))
              (λ i e. ap digit (grand_empty_stands b i e)) (λ i p q. ap ι (grand_stands_is b i p q)),
        )

    pub sizes_is : (b : ℕ) → part_sizes N L A b ≡ counting.sizes size_of (mags A) b
    unfolding part_sizes counting.sizes
    sizes_is b =
        omega (
          arith,
          alones b,
          desc_run (λ i. cond (desc_stands N L A b i) (length (desc N L i)) 0)
              (λ i. cond (stands_desc size_of (mags A) b i) (tree.desc size_of (λ _. 1) i) 0)
              (λ i e. rw (desc_empty_stands b i e)) (λ i p q. rw (desc_stands_is b i p q, desc_length i p)),
          grand_run (λ i. cond (grand_stands N L A b i) (length (grand N L i)) 0)
              (λ i. cond (stands_grand size_of (mags A) b i) (tree.grand size_of (λ _. 1) i) 0)
              (λ i e. rw (grand_empty_stands b i e)) (λ i p q. rw (grand_stands_is b i p q, grand_length i p)),
        )

    pub splits_is : (b : ℕ) → splits N L A b ≡ counting.splits size_of (mags A) b
    unfolding splits counting.splits
    splits_is b =
        omega (
          arith,
          desc_run (λ i. digit (desc_split N L A b i)) (λ i. ι (split_desc size_of (mags A) b i))
              (λ i e. ap digit (desc_empty_split b i e)) (λ i p q. ap ι (desc_split_is b i p)),
          grand_run (λ i. digit (grand_split N L A b i)) (λ i. ι (split_grand size_of (mags A) b i))
              (λ i e. ap digit (grand_empty_split b i e)) (λ i p q. ap ι (grand_split_is b i p)),
        )

    pub founds_is : (b : ℕ) → founds N L A b ≡ counting.bigs size_of (mags A) b
    unfolding founds counting.bigs found big
    founds_is b = all_run (λ i. digit (found N L A b i)) (λ i. ι (big (mags A) b i)) (λ i. refl)

    pub nonzeros_is : nonzeros N L A ≡ bounds.nonzeros size_of (mags A)
    unfolding nonzeros bounds.nonzeros
    nonzeros_is = all_run (λ i. digit (ltb 0 (mag_at A i))) (λ i. ι (ltb 0 (mags A i))) (λ i. refl)
