-- Arrays as bits by place and plane: the form in which the theorems on the scan are proved.
use mathlib.Core.Bool.{Bool, false, ◌&&◌, ◌||◌, false≢true, true}
use mathlib.Core.Option.{none, some, Option}
use mathlib.Core.List.{List, [], ◌∷◌}
use Prim.Native.Nat.{ℕ, zero, suc, ◌+◌, ◌/◌, ◌^◌, ◌<◌}
use lib.Dec.{ltb, eqb}
use lib.ListN.{set}
use mathlib.Core.Path.{◌≡◌, refl, sym, ap, subst, ◌∙◌}
use mathlib.Core.Logic.{◌⊎◌, inl, inr}
use native.Mathlib.Omega.{arith}
use borrow.Author.Tests.{eqb-true, eqb-false, eq-eqb, ltb-true}
use Rattle.sizes.proofs.Laws.{both_left, both_right, both}
use Rattle.bits.specs.Bits.{bit}
use Rattle.tree.proofs.Lists.{or_left, or_right}
use Rattle.nls.specs.Scan.{Question, bit_of, sign_of, in_desc, in_grand, State, ask, next}
use Rattle.nls.proofs.Booleans.{or_cases}

-- places i to i+3 get c
abbrev pub four : ℕ → ℕ → List ℕ → List ℕ
four i c m = set (set (set (set m i c) (i + 1) c) (i + 2) c) (i + 3) c

-- magnitudes and signs by place
pub record Arr : Type 0 where
  pub mag : ℕ → ℕ
  pub neg : ℕ → Bool

-- i is a descendant of g, at most n generations down
unfoldable pub below : ℕ → ℕ → ℕ → Bool
below zero g i = false
below (suc n) g i = eqb (i / 4) g || below n g (i / 4)

unfoldable pub any : ℕ → (ℕ → Bool) → Bool
any zero p = false
any (suc n) p = p n || any n p

pub any_some : (n : ℕ) (p : ℕ → Bool) (j : ℕ) → j < n → p j ≡ true → any n p ≡ true
unfolding any
any_some zero p j h e = absurd (omega arith)
any_some (suc n) p j h e = go (eqb j n) refl (λ k. any_some n p j k e)
  where
    go : (t : Bool) → eqb j n ≡ t → (j < n → any n p ≡ true) → any (suc n) p ≡ true
    go true q ih = or_left (p n) (any n p) (subst (λ (k : ℕ). p k ≡ true) (eqb-true j n q) e)
    go false q ih = or_right (p n) (any n p) (ih (omega (arith, eqb-false j n q)))

pub any_find : (n : ℕ) (p : ℕ → Bool) → any n p ≡ true → (j : ℕ) × (j < n) × (p j ≡ true)
unfolding any
any_find zero p h = absurd (false≢true h)
any_find (suc n) p h = go (or_cases (p n) (any n p) h) (any_find n p)
  where
    go : (p n ≡ true) ⊎ (any n p ≡ true) → (any n p ≡ true → (j : ℕ) × (j < n) × (p j ≡ true)) → (j : ℕ) × (j < suc n) × (p j ≡ true)
    go (inl e) ih = (n, omega arith, e)
    go (inr e) ih = let r : (j : ℕ) × (j < n) × (p j ≡ true) = ih e in (r.0, omega arith, r.2)

pub any_mono : (n : ℕ) (s p q : ℕ → Bool) → ((j : ℕ) → p j ≡ true → q j ≡ true) → any n (λ j. s j && p j) ≡ true → any n (λ j. s j && q j) ≡ true
any_mono n s p q h e =
    let r : (j : ℕ) × (j < n) × ((s j && p j) ≡ true) = any_find n (λ j. s j && p j) e in
    any_some n (λ j. s j && q j) r.0 r.1 (both (both_left (s r.0) (p r.0) r.2) (h r.0 (both_right (s r.0) (p r.0) r.2)))

-- bits by place and plane, with signs
pub record Bits : Type 0 where
  pub has : ℕ → ℕ → Bool
  pub neg : ℕ → Bool

-- the places below I that a question is about
unfoldable pub inside : ℕ → Question → ℕ → Bool
inside N (bit_of i b) j = eqb j i
inside N (sign_of i) j = eqb j i
inside N (in_desc g b) j = ltb j (4 ^ N) && below N g j
inside N (in_grand g b) j = ltb j (4 ^ N) && below N g (j / 4)

unfoldable pub ans : ℕ → Bits → Question → Bool
ans N A (bit_of i b) = A.has i b
ans N A (sign_of i) = A.neg i
ans N A (in_desc g b) = any (4 ^ N) (λ j. inside N (in_desc g b) j && A.has j b)
ans N A (in_grand g b) = any (4 ^ N) (λ j. inside N (in_grand g b) j && A.has j b)

abbrev pub bits_of_arr : Arr → Bits
bits_of_arr A = record { has = λ i b. bit (A.mag i) b; neg = A.neg }

-- the bits that A gives from a settled state, at most n
unfoldable pub answers_of : ℕ → Bits → ℕ → State → List Bool
answers_of N A zero s = []
answers_of N A (suc n) s = elim (ask (4 ^ N) s) [ none ↦ [] | some q ↦ (let a = ans N A q in a ∷ answers_of N A n (next (4 ^ N) s a)) ]

-- every bit of A is in B
infixl 20 ◌⊑◌
unfoldable pub ◌⊑◌ : Bits → Bits → Type 0
◌⊑◌ A B = (i b : ℕ) → A.has i b ≡ true → B.has i b ≡ true

-- the sign of i is a
unfoldable pub sign : ℕ → Bool → Bits → Bits
sign i a w = record { has = w.has; neg = λ j. elim (eqb j i) [ true ↦ a | false ↦ w.neg j ] }

pub sign_self : (i : ℕ) (a : Bool) (v : Bits) → (sign i a v).neg i ≡ a
unfolding sign
sign_self i a v = pick (eqb i i) (eq-eqb i i refl)
  where
    pick : (t : Bool) → t ≡ true → (elim t as (λ _. Bool) [ true ↦ a | false ↦ v.neg i ]) ≡ a
    pick true z = refl
    pick false z = absurd (false≢true z)

pub sign_other : (A k : Bits) (i : ℕ) (a : Bool) → A.neg i ≡ a → (j : ℕ) → k.neg j ≡ A.neg j → (sign i a k).neg j ≡ A.neg j
unfolding sign
sign_other A k i a e j h = pick (eqb j i) refl
  where
    pick : (t : Bool) → eqb j i ≡ t → (elim t as (λ _. Bool) [ true ↦ a | false ↦ k.neg j ]) ≡ A.neg j
    pick true z = sym e ∙ ap (λ (x : ℕ). A.neg x) (sym (eqb-true j i z))
    pick false z = h

module _ (N : ℕ) where
  -- what A says to the question o, if there is one, is a
  abbrev pub told : Bits → Option Question → Bool → Type 0
  told A none a = ⊥
  told A (some q) a = ans N A q ≡ a

  -- A's stream from s begins with u
  abbrev pub Fit : Bits → State → List Bool → Type 0
  Fit A s [] = Unit {0}
  Fit A s (a ∷ u) = told A (ask (4 ^ N) s) a × Fit A (next (4 ^ N) s a) u

  -- of a set: a member with bit b makes the answer 1
  pub member : (s : ℕ → Bool) (A : Bits) (b j : ℕ) → (ltb j (4 ^ N) && s j) ≡ true → A.has j b ≡ true
      → any (4 ^ N) (λ k. (ltb k (4 ^ N) && s k) && A.has k b) ≡ true
  member s A b j m h = any_some (4 ^ N) (λ k. (ltb k (4 ^ N) && s k) && A.has k b) j
      (ltb-true j (4 ^ N) (both_left (ltb j (4 ^ N)) (s j) m)) (both m h)
