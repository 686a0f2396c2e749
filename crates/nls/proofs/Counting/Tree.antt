-- The tree of places: sums over the descendants of a place.
use Prim.Native.Nat.{ℕ, zero, suc, ◌+◌, ◌*◌, ◌^◌, ◌≤◌, ◌<◌}
use mathlib.Core.Path.{◌≡◌, refl, ap, ◌∙◌}
use mathlib.Core.Bool.{Bool, true, false, cond}
use native.Mathlib.Nat.{pow-succ', le-mul_of_pos_right, mul-le-mul_left}
use native.Mathlib.Omega.{arith}
use borrow.Author.Tests.{lt-ltb, le-ltb, ltb-true, ltb-false}
use lib.Dec.{ltb}
use Rattle.nls.proofs.Counting.Sums.{sum, sum_cong, sum_le, sum_add, sum_zero, le_sum}

-- The sizes: `e` is D / 4 and `j` is I / 16; `deep` bounds the depth of the tree.
pub record Size : Type 0 where
  pub e : ℕ
  pub j : ℕ
  pub deep : ℕ
  pub some : 1 ≤ e
  pub below : e ≤ j
  pub high : 16 * j ≤ 4 ^ deep

-- the coarsest band; all that have children are from D / 4 to I / 4 - 1; all coefficients
abbrev pub D : Size → ℕ
D z = 4 * z.e

abbrev pub Q : Size → ℕ
Q z = 4 * z.j

abbrev pub I : Size → ℕ
I z = 16 * z.j

-- g over the descendants of i that are at most d steps down: those of a child c, and c itself
unfoldable pub tree : ℕ → (ℕ → ℕ) → ℕ → ℕ
tree zero g i = 0
tree (suc d) g i = sum (4 * i) 4 (λ c. g c + tree d g c)

-- g below I, and 0 from there on
unfoldable pub within : Size → (ℕ → ℕ) → ℕ → ℕ
within z g i = cond (ltb i (I z)) (g i) 0

-- g over DESC(i)
unfoldable pub desc : Size → (ℕ → ℕ) → ℕ → ℕ
desc z g i = tree z.deep (within z g) i

-- g over GRAND(i): DESC(i) without the children
unfoldable pub grand : Size → (ℕ → ℕ) → ℕ → ℕ
grand z g i = sum (4 * i) 4 (λ c. desc z g c)

pub tree_le : (d : ℕ) (f g : ℕ → ℕ) → ((i : ℕ) → f i ≤ g i) → (i : ℕ) → tree d f i ≤ tree d g i
unfolding tree
tree_le zero f g h i = omega arith
tree_le (suc d) f g h i =
    sum_le (4 * i) 4 (λ c. f c + tree d f c) (λ c. g c + tree d g c) (λ c p q. omega (arith, h c, tree_le d f g h c))

-- from a depth on there is nothing more
pub tree_deep : (n : ℕ) (g : ℕ → ℕ) → ((i : ℕ) → n ≤ i → g i ≡ 0) → (d i : ℕ) → n ≤ 4 ^ suc d * i → tree (suc d) g i ≡ tree d g i
unfolding tree
tree_deep n g h zero i p = sum_zero (4 * i) 4 (λ c. g c + tree zero g c) (λ c q r. omega (arith, h c (omega arith)))
tree_deep n g h (suc d) i p =
    sum_cong (4 * i) 4 (λ c. g c + tree (suc d) g c) (λ c. g c + tree d g c)
    (λ c q r. omega (arith, tree_deep n g h d c (omega (arith, ap (λ (x : ℕ). x * i) (pow-succ' 4 (suc d)), mul-le-mul_left (4 ^ suc d) q))))

pub tree_none : (n : ℕ) (g : ℕ → ℕ) → ((i : ℕ) → n ≤ i → g i ≡ 0) → (d i : ℕ) → n ≤ 4 * i → tree d g i ≡ 0
unfolding tree
tree_none n g h zero i p = refl
tree_none n g h (suc d) i p =
    sum_zero (4 * i) 4 (λ c. g c + tree d g c) (λ c q r. omega (arith, h c (omega arith), tree_none n g h d c (omega arith)))

module _ (z : Size) (g : ℕ → ℕ) where
  within_in : (i : ℕ) → i < I z → within z g i ≡ g i
  unfolding within
  within_in i p = rw (lt-ltb i (I z) p)

  within_out : (i : ℕ) → I z ≤ i → within z g i ≡ 0
  unfolding within
  within_out i p = rw (le-ltb i (I z) p)

  pub desc_none : (i : ℕ) → Q z ≤ i → desc z g i ≡ 0
  unfolding desc
  desc_none i p = tree_none (I z) (within z g) within_out z.deep i (omega arith)

  pub grand_none : (i : ℕ) → z.j ≤ i → grand z g i ≡ 0
  unfolding grand
  grand_none i p = sum_zero (4 * i) 4 (λ c. desc z g c) (λ c q r. desc_none c (omega arith))

  -- the children and GRAND make up DESC
  unrolled : (i : ℕ) → 1 ≤ i → i < Q z → (d : ℕ) → I z ≤ 4 ^ d
      → tree d (within z g) i ≡ sum (4 * i) 4 g + sum (4 * i) 4 (λ c. tree d (within z g) c)
  unfolding tree
  unrolled i p q zero h = absurd (omega arith)
  unrolled i p q (suc d) h =
      sum_cong (4 * i) 4 (λ c. within z g c + tree d (within z g) c) (λ c. g c + tree (suc d) (within z g) c)
      (λ c r s. omega (arith, within_in c (omega arith), tree_deep (I z) (within z g) within_out d c (omega (arith, le-mul_of_pos_right {m = c} (4 ^ suc d) (omega arith)))))
      ∙ sum_add (4 * i) 4 g (λ c. tree (suc d) (within z g) c)

  pub desc_step : (i : ℕ) → 1 ≤ i → i < Q z → desc z g i ≡ sum (4 * i) 4 g + grand z g i
  unfolding desc grand
  desc_step i p q = unrolled i p q z.deep z.high

  -- a child counts in DESC, a child's DESC in GRAND, and GRAND in DESC
  pub child_le : (i c : ℕ) → 1 ≤ i → i < Q z → 4 * i ≤ c → c < 4 * i + 4 → g c ≤ desc z g i
  child_le i c p q r s = omega (arith, desc_step i p q, le_sum (4 * i) 4 c g r s)

  pub desc_le : (i c : ℕ) → 4 * i ≤ c → c < 4 * i + 4 → desc z g c ≤ grand z g i
  unfolding grand
  desc_le i c r s = le_sum (4 * i) 4 c (λ k. desc z g k) r s

  pub grand_le : (i : ℕ) → 1 ≤ i → i < Q z → grand z g i ≤ desc z g i
  grand_le i p q = omega (arith, desc_step i p q)

-- nothing anywhere is nothing below
module _ (z : Size) (g : ℕ → ℕ) (h : (i : ℕ) → i < I z → g i ≡ 0) where
  within_zero : (i : ℕ) → 0 ≤ i → within z g i ≡ 0
  within_zero i _ = go (ltb i (I z)) refl
    where
      go : (t : Bool) → ltb i (I z) ≡ t → within z g i ≡ 0
      go true e = within_in z g i (ltb-true i (I z) e) ∙ h i (ltb-true i (I z) e)
      go false e = within_out z g i (ltb-false i (I z) e)

  pub desc_zero : (i : ℕ) → desc z g i ≡ 0
  unfolding desc
  desc_zero i = tree_none 0 (within z g) within_zero z.deep i (omega arith)

  pub grand_zero : (i : ℕ) → grand z g i ≡ 0
  unfolding grand
  grand_zero i = sum_zero (4 * i) 4 (λ c. desc z g c) (λ c p q. desc_zero c)

module _ (z : Size) (f g : ℕ → ℕ) (h : (i : ℕ) → f i ≤ g i) where
  within_mono : (i : ℕ) → within z f i ≤ within z g i
  unfolding within
  within_mono i = go (ltb i (I z))
    where
      go : (t : Bool) → cond t (f i) 0 ≤ cond t (g i) 0
      go true = h i
      go false = omega arith

  pub desc_mono : (i : ℕ) → desc z f i ≤ desc z g i
  unfolding desc
  desc_mono i = tree_le z.deep (within z f) (within z g) within_mono i

  pub grand_mono : (i : ℕ) → grand z f i ≤ grand z g i
  unfolding grand
  grand_mono i = sum_le (4 * i) 4 (λ c. desc z f c) (λ c. desc z g c) (λ c p q. desc_mono c)
