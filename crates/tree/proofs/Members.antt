-- The members of DESC and GRAND, by what is left of a place after base-4 digits are dropped from its end.
use mathlib.Core.Path.{◌≡◌, refl, ap, ◌∙◌}
use mathlib.Core.Bool.{Bool, true, false, ◌||◌, false≢true}
use mathlib.Core.Logic.{◌⊎◌, inl, inr, ⊎_elim}
use mathlib.Core.List.{flat_map}
use Prim.Native.Nat.{ℕ, zero, suc, ◌*◌, ◌/◌, ◌≤◌, ◌<◌}
use native.Mathlib.Omega.{arith}
use borrow.Author.Tests.{eqb-true, eq-eqb}
use lib.Dec.{eqb}
use Rattle.sizes.specs.Sizes.{all_of, coarsest_of, Sized}
use Rattle.sizes.proofs.Laws.{coarsest_four, all_sixteen}
use Rattle.tree.specs.Tree.{children, descendants, desc, grand, any_in}
use Rattle.tree.proofs.Lists.{Each, each_append, each_flat, each_to, either, or_left, or_right, any_append, any_flat, any_four, any_find, any_none}
use Rattle.tree.proofs.Laws.{children_some, each_child}

-- j descends from i, by at most n generations
unfoldable pub under : ℕ → ℕ → ℕ → Bool
under zero i j = false
under (suc n) i j = eqb (j / 4) i || under n i (j / 4)

pub under_child : (n i j : ℕ) → j / 4 ≡ i → under (suc n) i j ≡ true
unfolding under
under_child n i j e = or_left (eqb (j / 4) i) (under n i (j / 4)) (eq-eqb (j / 4) i e)

pub under_more : (n i j : ℕ) → under n i (j / 4) ≡ true → under (suc n) i j ≡ true
unfolding under
under_more n i j h = or_right (eqb (j / 4) i) (under n i (j / 4)) h

-- the last generation: a child, or one whose parent descends from i
pub under_last : {A : Type 0} (n i j : ℕ) → under (suc n) i j ≡ true → (j / 4 ≡ i → A) → (under n i (j / 4) ≡ true → A) → A
unfolding under
under_last n i j h f g = either (eqb (j / 4) i) (under n i (j / 4)) h (λ e. f (eqb-true (j / 4) i e)) g

-- what descends from a child descends from the parent
pub under_up : (n c j : ℕ) → under n c j ≡ true → under (suc n) (c / 4) j ≡ true
under_up zero c j h = absurd (false≢true (unfold under in h))
under_up (suc n) c j h =
    under_last n c j h
    (λ e. under_more (suc n) (c / 4) j (under_child n (c / 4) (j / 4) (ap (λ (x : ℕ). x / 4) e)))
    (λ k. under_more (suc n) (c / 4) j (under_up n c (j / 4) k))

-- the first generation: a child, or one that descends from a child
pub under_down : (n i j : ℕ) → under (suc n) i j ≡ true → (j / 4 ≡ i) ⊎ ((c : ℕ) × (c / 4 ≡ i) × (under n c j ≡ true))
under_down zero i j h = under_last zero i j h inl (λ k. absurd (false≢true (unfold under in k)))
under_down (suc n) i j h =
    under_last (suc n) i j h inl
    (λ k.
    ⊎_elim (λ e. inr (j / 4, e, under_child n (j / 4) j refl)) (λ r. inr (r.0, r.1, under_more n r.0 j r.2))
    (under_down n i (j / 4) k))

-- one whose parent descends from i descends from a child of i
pub under_back : (n i j : ℕ) → under n i (j / 4) ≡ true → (c : ℕ) × (c / 4 ≡ i) × (under n c j ≡ true)
under_back zero i j h = absurd (false≢true (unfold under in h))
under_back (suc n) i j h =
    ⊎_elim (λ e. (j / 4, e, under_child n (j / 4) j refl)) (λ r. (r.0, r.1, under_more n r.0 j r.2)) (under_down n i (j / 4) h)

-- a descendant's place is at least four times i, and its parent descends from i's parent
pub under_least : (n i j : ℕ) → under n i j ≡ true → 4 * i ≤ j
under_least zero i j h = absurd (false≢true (unfold under in h))
under_least (suc n) i j h = under_last n i j h (λ e. omega arith) (λ k. omega (arith, under_least n i (j / 4) k))

pub under_across : (n c j : ℕ) → under n c j ≡ true → under n (c / 4) (j / 4) ≡ true
under_across zero c j h = absurd (false≢true (unfold under in h))
under_across (suc n) c j h =
    under_last n c j h (λ e. under_child n (c / 4) (j / 4) (ap (λ (x : ℕ). x / 4) e)) (λ k. under_up n c (j / 4) k)

-- a place from D to I - 1 that descends from i by at most n generations
abbrev Below : ℕ → ℕ → ℕ → ℕ → ℕ → Type 0
Below N L n i j = (coarsest_of N L ≤ j) × (j < all_of N) × (under n i j ≡ true)

-- a member of DESC(i): a place from D to I - 1 that descends from i; of GRAND(i): one whose parent does
abbrev pub InDesc : ℕ → ℕ → ℕ → ℕ → Type 0
InDesc N L i j = Below N L N i j

abbrev pub InGrand : ℕ → ℕ → ℕ → ℕ → Type 0
InGrand N L i j = (coarsest_of N L ≤ j) × (j < all_of N) × (under N i (j / 4) ≡ true)

module _ (N L : ℕ) (z : Sized N L) where
  each_descendant : (n i : ℕ) → Each (Below N L n i) (descendants N L n i)
  unfolding descendants Each
  each_descendant zero i = tt
  each_descendant (suc n) i =
      each_append (Below N L (suc n) i) (children N L i) (flat_map (λ c. descendants N L n c) (children N L i))
      (each_child N L (Below N L (suc n) i) i (λ p q c r s. (omega (arith, coarsest_four N L z), omega arith, under_child n i c (omega arith))))
      (each_flat (Below N L (suc n) i) (λ c. c / 4 ≡ i) (λ c. descendants N L n c) (children N L i)
      (each_child N L (λ c. c / 4 ≡ i) i (λ p q c r s. omega arith))
      (λ c e. each_to (Below N L n c) (Below N L (suc n) i) (λ j m. (m.0, m.1, rw (← e) (under_up n c j m.2))) (descendants N L n c) (each_descendant n c)))

  pub each_desc : (i : ℕ) → Each (InDesc N L i) (desc N L i)
  unfolding desc
  each_desc i = each_descendant N i

  pub each_grand : (i : ℕ) → Each (InGrand N L i) (grand N L i)
  unfolding grand
  each_grand i =
      each_flat (InGrand N L i) (λ c. c / 4 ≡ i) (λ c. desc N L c) (children N L i)
      (each_child N L (λ c. c / 4 ≡ i) i (λ p q c r s. omega arith))
      (λ c e. each_to (InDesc N L c) (InGrand N L i) (λ j m. (m.0, m.1, rw (← e) (under_across N c j m.2))) (desc N L c) (each_desc c))

  module _ (p : ℕ → Bool) where
    -- some member has p: which
    pub desc_find : (i : ℕ) → any_in p (desc N L i) ≡ true → (j : ℕ) × InDesc N L i j × (p j ≡ true)
    desc_find i h = any_find p (InDesc N L i) (desc N L i) (each_desc i) h

    pub grand_find : (i : ℕ) → any_in p (grand N L i) ≡ true → (j : ℕ) × InGrand N L i j × (p j ≡ true)
    grand_find i h = any_find p (InGrand N L i) (grand N L i) (each_grand i) h

    -- no member has p
    pub desc_none : (i : ℕ) → ((j : ℕ) → InDesc N L i j → p j ≡ false) → any_in p (desc N L i) ≡ false
    desc_none i h = any_none p (desc N L i) (each_to (InDesc N L i) (λ j. p j ≡ false) h (desc N L i) (each_desc i))

    pub grand_none : (i : ℕ) → ((j : ℕ) → InGrand N L i j → p j ≡ false) → any_in p (grand N L i) ≡ false
    grand_none i h = any_none p (grand N L i) (each_to (InGrand N L i) (λ j. p j ≡ false) h (grand N L i) (each_grand i))

  any_child : (p : ℕ → Bool) (i c : ℕ) → coarsest_of N L / 4 ≤ i → c < all_of N → c / 4 ≡ i → p c ≡ true → any_in p (children N L i) ≡ true
  any_child p i c low high e h = rw (children_some N L i low (omega (arith, all_sixteen N L z))) (any_four p i c e h)

  descendants_has : (p : ℕ → Bool) (n i j : ℕ) → coarsest_of N L / 4 ≤ i → j < all_of N → under n i j ≡ true → p j ≡ true → any_in p (descendants N L n i) ≡ true
  unfolding descendants
  descendants_has p zero i j low high u h = absurd (false≢true (unfold under in u))
  descendants_has p (suc n) i j low high u h =
      any_append p (children N L i) (flat_map (λ c. descendants N L n c) (children N L i))
      ∙ ⊎_elim
      (λ e. or_left (any_in p (children N L i)) _ (any_child p i j low high e h))
      (λ r.
      or_right (any_in p (children N L i)) (any_in p (flat_map (λ c. descendants N L n c) (children N L i)))
      (any_flat p (λ c. descendants N L n c) (children N L i)
      ∙ any_child (λ c. any_in p (descendants N L n c)) i r.0 low (omega (arith, under_least n r.0 j r.2)) r.1
      (descendants_has p n r.0 j (omega (arith, r.1)) high r.2 h)))
      (under_down n i j u)

  -- for i from D/4 on: where a place below I that descends from i has p, some member has it
  module _ (p : ℕ → Bool) where
    pub desc_has : (i j : ℕ) → coarsest_of N L / 4 ≤ i → j < all_of N → under N i j ≡ true → p j ≡ true → any_in p (desc N L i) ≡ true
    unfolding desc
    desc_has i j low high u h = descendants_has p N i j low high u h

    pub grand_has : (i j : ℕ) → coarsest_of N L / 4 ≤ i → j < all_of N → under N i (j / 4) ≡ true → p j ≡ true → any_in p (grand N L i) ≡ true
    unfolding grand
    grand_has i j low high u h =
        let r = under_back N i j u in
        any_flat p (λ c. desc N L c) (children N L i)
        ∙ any_child (λ c. any_in p (desc N L c)) i r.0 low (omega (arith, under_least N r.0 j r.2)) r.1
        (desc_has r.0 j (omega (arith, r.1)) high r.2 h)
