-- The known bits: the least array that a run of answers allows, sign and all.
use mathlib.Core.Path.{◌≡◌, refl, ap, ◌∙◌}
use mathlib.Core.Bool.{Bool, true, false, ◌&&◌, ◌||◌, false≢true}
use mathlib.Core.Option.{Option, none, some}
use mathlib.Core.List.{List, [], ◌∷◌}
use Prim.Native.Nat.{ℕ, ◌^◌}
use lib.Dec.{eqb}
use borrow.Author.Tests.{eqb-true, eq-eqb}
use Rattle.nls.specs.Scan.{Question, bit_of, sign_of, in_desc, in_grand, State, ask, next}
use Rattle.nls.proofs.Arrays.{Bits, ans, ◌⊑◌, told, sign, sign_self, sign_other, Fit}

-- bit b of i is known
unfoldable pub add : ℕ → ℕ → Bits → Bits
add i b k = record { has = λ j c. (eqb j i && eqb c b) || k.has j c; neg = k.neg }

unfoldable pub know : Question → Bool → Bits → Bits
know (bit_of i b) true k = add i b k
know (bit_of i b) false k = k
know (sign_of i) true k = sign i true k
know (sign_of i) false k = sign i false k
know (in_desc g b) a k = k
know (in_grand g b) a k = k

abbrev pub know_o : Option Question → Bool → Bits → Bits
know_o none a k = k
know_o (some q) a k = know q a k

or_stay : (x y z : Bool) → z ≡ true → ((x && y) || z) ≡ true
or_stay true true z h = refl
or_stay true false z h = h
or_stay false y z h = h

pub know_grows : (q : Question) (a : Bool) (k : Bits) → k ⊑ know q a k
unfolding know add sign ◌⊑◌
know_grows (bit_of i b) true k j c h = or_stay (eqb j i) (eqb c b) (k.has j c) h
know_grows (bit_of i b) false k j c h = h
know_grows (sign_of i) true k j c h = h
know_grows (sign_of i) false k j c h = h
know_grows (in_desc g b) a k j c h = h
know_grows (in_grand g b) a k j c h = h

pub know_one : (i b : ℕ) (k : Bits) → (know (bit_of i b) true k).has i b ≡ true
unfolding know add
know_one i b k = go (eqb i i) (eqb b b) (k.has i b) (eq-eqb i i refl) (eq-eqb b b refl)
  where
    go : (x y z : Bool) → x ≡ true → y ≡ true → ((x && y) || z) ≡ true
    go true true z e f = refl
    go true false z e f = absurd (false≢true f)
    go false y z e f = absurd (false≢true e)

-- a bit that an answer does not bring was known
pub know_other : (i b : ℕ) (k : Bits) (j e : ℕ) → (know (bit_of i b) true k).has j e ≡ true → (j ≡ i → ⊥) → k.has j e ≡ true
unfolding know add
know_other i b k j e h n = go (eqb j i) (eqb e b) refl h
  where
    go : (x y : Bool) → eqb j i ≡ x → ((x && y) || k.has j e) ≡ true → k.has j e ≡ true
    go true y ex z = absurd (n (eqb-true j i ex))
    go false y ex z = z

pub know_sign : (i : ℕ) (a : Bool) (k : Bits) → (know (sign_of i) a k).neg i ≡ a
unfolding know
know_sign i true k = sign_self i true k
know_sign i false k = sign_self i false k

pub know_sgn_has : (i : ℕ) (a : Bool) (k : Bits) (j e : ℕ) → (know (sign_of i) a k).has j e ≡ k.has j e
unfolding know sign
know_sgn_has i true k j e = refl
know_sgn_has i false k j e = refl

module _ (N : ℕ) where
  -- signs that were A's stay so
  pub know_neg : (A k : Bits) (q : Question) (a : Bool) → ans N A q ≡ a → (j : ℕ) → k.neg j ≡ A.neg j → (know q a k).neg j ≡ A.neg j
  unfolding know add ans
  know_neg A k (bit_of i b) true e j h = h
  know_neg A k (bit_of i b) false e j h = h
  know_neg A k (in_desc g b) a e j h = h
  know_neg A k (in_grand g b) a e j h = h
  know_neg A k (sign_of i) true e j h = sign_other A k i true e j h
  know_neg A k (sign_of i) false e j h = sign_other A k i false e j h

  know_below : (A k : Bits) (q : Question) (a : Bool) → ans N A q ≡ a → k ⊑ A → know q a k ⊑ A
  unfolding know add sign ◌⊑◌ ans
  know_below A k (bit_of i b) true e l j c h = go (eqb j i) (eqb c b) refl refl h
    where
      go : (x y : Bool) → eqb j i ≡ x → eqb c b ≡ y → ((x && y) || k.has j c) ≡ true → A.has j c ≡ true
      go true true ex ey z = ap (λ (n : ℕ). A.has n c) (eqb-true j i ex) ∙ ap (λ (n : ℕ). A.has i n) (eqb-true c b ey) ∙ e
      go true false ex ey z = l j c z
      go false y ex ey z = l j c z
  know_below A k (bit_of i b) false e l j c h = l j c h
  know_below A k (sign_of i) true e l j c h = l j c h
  know_below A k (sign_of i) false e l j c h = l j c h
  know_below A k (in_desc g b) a e l j c h = l j c h
  know_below A k (in_grand g b) a e l j c h = l j c h

  abbrev pub least : State → List Bool → Bits → Bits
  least s [] k = k
  least s (a ∷ u) k = least (next (4 ^ N) s a) u (know_o (ask (4 ^ N) s) a k)

  pub below_o : (A k : Bits) (o : Option Question) (a : Bool) → told N A o a → k ⊑ A → know_o o a k ⊑ A
  below_o A k none a t l = l
  below_o A k (some q) a t l = know_below A k q a t l

  -- what is known is in every array that fits
  pub least_below : (A : Bits) (s : State) (u : List Bool) (k : Bits) → Fit N A s u → k ⊑ A → least s u k ⊑ A
  least_below A s [] k f l = l
  least_below A s (a ∷ u) k f l = least_below A (next (4 ^ N) s a) u (know_o (ask (4 ^ N) s) a k) f.1 (below_o A k (ask (4 ^ N) s) a f.0 l)
