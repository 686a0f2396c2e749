-- The shape of the tree: who has children, and what DESC and GRAND are made of.
use mathlib.Core.Path.{◌≡◌, refl, sym, ap}
use mathlib.Core.Bool.{Bool, true, false, ◌&&◌, cond}
use mathlib.Core.List.{List, [], ◌++◌, flat_map}
use Prim.Native.Nat.{ℕ, zero, suc, ◌+◌, ◌*◌, ◌/◌, ◌^◌, ◌≤◌, ◌<◌}
use native.Mathlib.Nat.{pow-succ', le-mul_of_pos_right, mul-le-mul_left}
use native.Mathlib.Omega.{arith}
use borrow.Author.Tests.{leb-true, ltb-true, le-leb, lt-leb, lt-ltb, le-ltb}
use lib.Dec.{leb, ltb}
use Rattle.sizes.specs.Sizes.{all_of, coarsest_of, Sized}
use Rattle.sizes.proofs.Laws.{coarsest_least, all_sixteen}
use Rattle.tree.specs.Tree.{fours, children, descendants, desc, grand}
use Rattle.tree.proofs.Lists.{Each, each_four, flat_same, flat_none}

module _ (N L : ℕ) where
  pub children_some : (i : ℕ) → coarsest_of N L / 4 ≤ i → i < all_of N / 4 → children N L i ≡ fours i
  unfolding children
  children_some i p q = rw (le-leb (coarsest_of N L / 4) i p, lt-ltb i (all_of N / 4) q)

  pub children_low : (i : ℕ) → i < coarsest_of N L / 4 → children N L i ≡ []
  unfolding children
  children_low i p = rw (lt-leb (coarsest_of N L / 4) i p)

  pub children_high : (i : ℕ) → all_of N / 4 ≤ i → children N L i ≡ []
  unfolding children
  children_high i p = none (leb (coarsest_of N L / 4) i)
    where
      none : (t : Bool) → cond (t && ltb i (all_of N / 4)) (fours i) [] ≡ []
      none true = rw (le-ltb i (all_of N / 4) p)
      none false = refl

  -- every child of i has P
  pub each_child : (P : ℕ → Type 0) (i : ℕ)
      → (coarsest_of N L / 4 ≤ i → i < all_of N / 4 → (c : ℕ) → 4 * i ≤ c → c < 4 * i + 4 → P c) → Each P (children N L i)
  unfolding children Each
  each_child P i h = tell (leb (coarsest_of N L / 4) i) (ltb i (all_of N / 4)) refl refl
    where
      tell : (s t : Bool) → leb (coarsest_of N L / 4) i ≡ s → ltb i (all_of N / 4) ≡ t → Each P (cond (s && t) (fours i) [])
      tell true true p q = each_four P i (h (leb-true (coarsest_of N L / 4) i p) (ltb-true i (all_of N / 4) q))
      tell true false p q = tt
      tell false t p q = tt

  -- a place with no children has no descendants
  descendants_none : (n i : ℕ) → children N L i ≡ [] → descendants N L n i ≡ []
  unfolding descendants flat_map
  descendants_none zero i e = refl
  descendants_none (suc n) i e = rw e

  -- from a depth on there is nothing more
  descendants_deep : (n i : ℕ) → all_of N ≤ 4 ^ suc n * i → descendants N L (suc n) i ≡ descendants N L n i
  unfolding descendants
  descendants_deep zero i h = descendants_none 1 i (children_high i (omega arith))
  descendants_deep (suc n) i h =
      ap (λ (l : List ℕ). children N L i ++ l)
      (flat_same (λ c. descendants N L (suc n) c) (λ c. descendants N L n c) (children N L i)
      (each_child (λ c. descendants N L (suc n) c ≡ descendants N L n c) i
      (λ p q c r s. descendants_deep n c (omega (arith, ap (λ (x : ℕ). x * i) (pow-succ' 4 (suc n)), mul-le-mul_left (4 ^ suc n) r)))))

  -- below D/4 and from I/4 on there is no DESC
  pub desc_low : (i : ℕ) → i < coarsest_of N L / 4 → desc N L i ≡ []
  unfolding desc
  desc_low i p = descendants_none N i (children_low i p)

  pub desc_high : (i : ℕ) → all_of N / 4 ≤ i → desc N L i ≡ []
  unfolding desc
  desc_high i p = descendants_none N i (children_high i p)

  pub grand_low : (i : ℕ) → i < coarsest_of N L / 4 → grand N L i ≡ []
  unfolding grand flat_map
  grand_low i p = rw (children_low i p)

  module _ (z : Sized N L) where
    -- below D/4 and from I/16 on there is no GRAND
    pub grand_high : (i : ℕ) → all_of N / 16 ≤ i → grand N L i ≡ []
    unfolding grand
    grand_high i p =
        flat_none (λ c. desc N L c) (children N L i)
        (each_child (λ c. desc N L c ≡ []) i (λ q r c s t. desc_high c (omega (arith, all_sixteen N L z))))

    unrolled : (n i : ℕ) → all_of N ≡ 4 ^ n
        → descendants N L n i ≡ children N L i ++ flat_map (λ c. descendants N L n c) (children N L i)
    unfolding descendants
    unrolled zero i e = absurd (omega (arith, all_sixteen N L z))
    unrolled (suc n) i e =
        ap (λ (l : List ℕ). children N L i ++ l)
        (sym
        (flat_same (λ c. descendants N L (suc n) c) (λ c. descendants N L n c) (children N L i)
        (each_child (λ c. descendants N L (suc n) c ≡ descendants N L n c) i
        (λ p q c r s. descendants_deep n c (omega (arith, coarsest_least N L z, le-mul_of_pos_right {m = c} (4 ^ suc n) (omega (arith, coarsest_least N L z))))))))

    -- DESC is the children and GRAND
    pub desc_is : (i : ℕ) → desc N L i ≡ children N L i ++ grand N L i
    unfolding desc grand
    desc_is i = unrolled N i refl
