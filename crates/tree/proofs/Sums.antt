-- Sums over lists of places, and over DESC and GRAND.
use mathlib.Core.Path.{◌≡◌, refl, ap, ◌∙◌}
use mathlib.Core.List.{List, [], ◌∷◌, ◌++◌, flat_map}
use Prim.Native.Nat.{ℕ, ◌+◌, ◌*◌, ◌/◌, ◌≤◌, ◌<◌}
use native.Mathlib.Decide.{dec_lt}
use native.Mathlib.Omega.{arith}
use Rattle.sizes.specs.Sizes.{all_of, coarsest_of, Sized}
use Rattle.tree.specs.Tree.{fours, children, desc, grand}
use Rattle.tree.proofs.Lists.{Each, each_to}
use Rattle.tree.proofs.Laws.{children_some, desc_is, desc_low, desc_high, grand_low, grand_high}
use Rattle.tree.proofs.Members.{InDesc, InGrand, each_desc, each_grand}

-- the sum of g over the members of a list
unfoldable pub sum_over : (ℕ → ℕ) → List ℕ → ℕ
sum_over g [] = 0
sum_over g (j ∷ rest) = g j + sum_over g rest

pub sum_append : (g : ℕ → ℕ) (s t : List ℕ) → sum_over g (s ++ t) ≡ sum_over g s + sum_over g t
unfolding sum_over
sum_append g [] t = omega arith
sum_append g (j ∷ s) t = omega (arith, sum_append g s t)

pub sum_flat : (g : ℕ → ℕ) (f : ℕ → List ℕ) (l : List ℕ) → sum_over g (flat_map f l) ≡ sum_over (λ c. sum_over g (f c)) l
unfolding sum_over flat_map
sum_flat g f [] = refl
sum_flat g f (c ∷ l) = omega (arith, sum_append g (f c) (flat_map f l), sum_flat g f l)

pub sum_four : (g : ℕ → ℕ) (i : ℕ) → sum_over g (fours i) ≡ g (4 * i) + g (4 * i + 1) + g (4 * i + 2) + g (4 * i + 3)
unfolding sum_over
sum_four g i = omega arith

pub sum_same : (g h : ℕ → ℕ) (l : List ℕ) → Each (λ j. g j ≡ h j) l → sum_over g l ≡ sum_over h l
unfolding sum_over Each
sum_same g h [] e = refl
sum_same g h (j ∷ l) e = omega (arith, e.0, sum_same g h l e.1)

pub sum_le : (g h : ℕ → ℕ) (l : List ℕ) → Each (λ j. g j ≤ h j) l → sum_over g l ≤ sum_over h l
unfolding sum_over Each
sum_le g h [] e = omega arith
sum_le g h (j ∷ l) e = omega (arith, e.0, sum_le g h l e.1)

-- ---- over DESC and GRAND

module _ (N L : ℕ) (z : Sized N L) (g : ℕ → ℕ) where
  -- nothing below D/4
  pub desc_sum_low : (i : ℕ) → i < coarsest_of N L / 4 → sum_over g (desc N L i) ≡ 0
  unfolding sum_over
  desc_sum_low i p = rw (desc_low N L i p)

  pub grand_sum_low : (i : ℕ) → i < coarsest_of N L / 4 → sum_over g (grand N L i) ≡ 0
  unfolding sum_over
  grand_sum_low i p = rw (grand_low N L i p)

  -- nothing for places without children, or without grandchildren
  pub desc_sum_high : (i : ℕ) → all_of N / 4 ≤ i → sum_over g (desc N L i) ≡ 0
  unfolding sum_over
  desc_sum_high i p = rw (desc_high N L i p)

  pub grand_sum_high : (i : ℕ) → all_of N / 16 ≤ i → sum_over g (grand N L i) ≡ 0
  unfolding sum_over
  grand_sum_high i p = rw (grand_high N L z i p)

  -- DESC is the four children and GRAND
  pub desc_sum : (i : ℕ) → coarsest_of N L / 4 ≤ i → i < all_of N / 4
      → sum_over g (desc N L i) ≡ g (4 * i) + g (4 * i + 1) + g (4 * i + 2) + g (4 * i + 3) + sum_over g (grand N L i)
  desc_sum i p q =
      ap (λ (l : List ℕ). sum_over g l) (desc_is N L z i) ∙ sum_append g (children N L i) (grand N L i)
      ∙ rw (children_some N L i p q, sum_four g i)

  -- GRAND is DESC of the four children
  pub grand_sum : (i : ℕ) → coarsest_of N L / 4 ≤ i
      → sum_over g (grand N L i) ≡ sum_over g (desc N L (4 * i)) + sum_over g (desc N L (4 * i + 1)) + sum_over g (desc N L (4 * i + 2)) + sum_over g (desc N L (4 * i + 3))
  grand_sum i p = tell (dec_lt i (all_of N / 4))
    where
      tell : Dec (i < all_of N / 4)
          → sum_over g (grand N L i) ≡ sum_over g (desc N L (4 * i)) + sum_over g (desc N L (4 * i + 1)) + sum_over g (desc N L (4 * i + 2)) + sum_over g (desc N L (4 * i + 3))
      tell (yes q) =
          let e : grand N L i ≡ flat_map (λ c. desc N L c) (fours i) = unfold grand in rw (children_some N L i p q) in
          rw e (sum_flat g (λ c. desc N L c) (fours i) ∙ sum_four (λ c. sum_over g (desc N L c)) i)
      tell (no q) = omega (arith, grand_sum_high i (omega arith), desc_sum_high (4 * i) (omega arith), desc_sum_high (4 * i + 1) (omega arith), desc_sum_high (4 * i + 2) (omega arith), desc_sum_high (4 * i + 3) (omega arith))

-- where g is at most h, or equal to it, at every place from D to I - 1, so are their sums
module _ (N L : ℕ) (z : Sized N L) (g h : ℕ → ℕ) (le : (j : ℕ) → coarsest_of N L ≤ j → j < all_of N → g j ≤ h j) where
  pub desc_sum_le : (i : ℕ) → sum_over g (desc N L i) ≤ sum_over h (desc N L i)
  desc_sum_le i = sum_le g h (desc N L i) (each_to (InDesc N L i) (λ j. g j ≤ h j) (λ j m. le j m.0 m.1) (desc N L i) (each_desc N L z i))

  pub grand_sum_le : (i : ℕ) → sum_over g (grand N L i) ≤ sum_over h (grand N L i)
  grand_sum_le i = sum_le g h (grand N L i) (each_to (InGrand N L i) (λ j. g j ≤ h j) (λ j m. le j m.0 m.1) (grand N L i) (each_grand N L z i))

module _ (N L : ℕ) (z : Sized N L) (g h : ℕ → ℕ) (same : (j : ℕ) → coarsest_of N L ≤ j → j < all_of N → g j ≡ h j) where
  pub desc_sum_same : (i : ℕ) → sum_over g (desc N L i) ≡ sum_over h (desc N L i)
  desc_sum_same i = sum_same g h (desc N L i) (each_to (InDesc N L i) (λ j. g j ≡ h j) (λ j m. same j m.0 m.1) (desc N L i) (each_desc N L z i))

  pub grand_sum_same : (i : ℕ) → sum_over g (grand N L i) ≡ sum_over h (grand N L i)
  grand_sum_same i = sum_same g h (grand N L i) (each_to (InGrand N L i) (λ j. g j ≡ h j) (λ j m. same j m.0 m.1) (grand N L i) (each_grand N L z i))
