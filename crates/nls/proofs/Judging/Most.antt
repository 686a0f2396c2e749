-- The greatest array that a run of answers allows.
use mathlib.Core.Path.{◌≡◌, refl, sym, ap, subst, ◌∙◌}
use mathlib.Core.Bool.{Bool, true, false, not, ◌&&◌, true≢false, false≢true}
use mathlib.Core.Option.{Option, none, some}
use mathlib.Core.List.{List, [], ◌∷◌}
use Prim.Native.Nat.{ℕ, ◌/◌, ◌^◌, ◌<◌}
use lib.Dec.{ltb, eqb}
use borrow.Author.Tests.{eqb-true, eq-eqb}
use Rattle.sizes.proofs.Laws.{both_right}
use Rattle.nls.specs.Scan.{Question, bit_of, sign_of, in_desc, in_grand, State, ask, next}
use Rattle.nls.proofs.Booleans.{not_true_false}
use Rattle.nls.proofs.Arrays.{below, any, Bits, inside, ans, any_find, any_mono, sign, sign_self, sign_other, told, Fit, member, ◌⊑◌}

-- bit b goes at the places of q
unfoldable pub clear : ℕ → Question → ℕ → Bits → Bits
clear N q b w = record { has = λ j c. not (inside N q j && eqb c b) && w.has j c; neg = w.neg }

-- what is left of the greatest array after an answer
unfoldable pub after : ℕ → Question → Bool → Bits → Bits
after N (bit_of i b) true w = w
after N (bit_of i b) false w = clear N (bit_of i b) b w
after N (sign_of i) true w = sign i true w
after N (sign_of i) false w = sign i false w
after N (in_desc g b) true w = w
after N (in_desc g b) false w = clear N (in_desc g b) b w
after N (in_grand g b) true w = w
after N (in_grand g b) false w = clear N (in_grand g b) b w

-- a bit that is not about q at b stays
pub stays : (x y v : Bool) → ((x ≡ true) → (y ≡ true) → ⊥) → v ≡ true → (not (x && y) && v) ≡ true
stays true true v h e = absurd (h refl refl)
stays true false v h e = e
stays false y v h e = e

-- and one that is goes
pub gone : (x y z : Bool) → x ≡ true → y ≡ true → (not (x && y) && z) ≡ true → ⊥
gone true true z hx hy h = false≢true h
gone true false z hx hy h = false≢true hy
gone false y z hx hy h = false≢true hx

module _ (N : ℕ) where
  abbrev pub after_o : Option Question → Bool → Bits → Bits
  after_o none a w = w
  after_o (some q) a w = after N q a w

  pub after_has : (q : Question) (a : Bool) (w : Bits) → after N q a w ⊑ w
  unfolding after clear sign ◌⊑◌
  after_has (bit_of i b) true w j c h = h
  after_has (bit_of i b) false w j c h = both_right (not (inside N (bit_of i b) j && eqb c b)) (w.has j c) h
  after_has (sign_of i) true w j c h = h
  after_has (sign_of i) false w j c h = h
  after_has (in_desc g b) true w j c h = h
  after_has (in_desc g b) false w j c h = both_right (not (inside N (in_desc g b) j && eqb c b)) (w.has j c) h
  after_has (in_grand g b) true w j c h = h
  after_has (in_grand g b) false w j c h = both_right (not (inside N (in_grand g b) j && eqb c b)) (w.has j c) h

  set_keeps : (s : ℕ → Bool) (A w : Bits) (b : ℕ) → any (4 ^ N) (λ k. (ltb k (4 ^ N) && s k) && A.has k b) ≡ false
      → A ⊑ w → (j c : ℕ) → A.has j c ≡ true → (not ((ltb j (4 ^ N) && s j) && eqb c b) && w.has j c) ≡ true
  unfolding ◌⊑◌
  set_keeps s A w b e l j c h = stays (ltb j (4 ^ N) && s j) (eqb c b) (w.has j c)
      (λ m z. true≢false (sym (member N s A b j m (subst (λ (k : ℕ). A.has j k ≡ true) (eqb-true c b z) h)) ∙ e)) (l j c h)

  -- What A answers 0 to, A has none of: so A stays below
  after_keeps : (A w : Bits) (q : Question) (a : Bool) → ans N A q ≡ a → A ⊑ w → A ⊑ after N q a w
  unfolding after clear sign ◌⊑◌ ans inside
  after_keeps A w (bit_of i b) true e l j c h = l j c h
  after_keeps A w (bit_of i b) false e l j c h = stays (eqb j i) (eqb c b) (w.has j c)
      (λ x y. true≢false (sym h ∙ ap (λ (k : ℕ). A.has k c) (eqb-true j i x) ∙ ap (λ (k : ℕ). A.has i k) (eqb-true c b y) ∙ e)) (l j c h)
  after_keeps A w (sign_of i) true e l j c h = l j c h
  after_keeps A w (sign_of i) false e l j c h = l j c h
  after_keeps A w (in_desc g b) true e l j c h = l j c h
  after_keeps A w (in_desc g b) false e l j c h = set_keeps (λ k. below N g k) A w b e l j c h
  after_keeps A w (in_grand g b) true e l j c h = l j c h
  after_keeps A w (in_grand g b) false e l j c h = set_keeps (λ k. below N g (k / 4)) A w b e l j c h

  -- a set that was answered 0 stays so, whatever goes after it
  set_gone : (s : ℕ → Bool) (w v : Bits) (b : ℕ)
      → ((j c : ℕ) → w.has j c ≡ true → (not ((ltb j (4 ^ N) && s j) && eqb c b) && v.has j c) ≡ true)
      → any (4 ^ N) (λ k. (ltb k (4 ^ N) && s k) && w.has k b) ≡ false
  set_gone s w v b l = not_true_false _ λ e.
      let r : (j : ℕ) × (j < 4 ^ N) × (((ltb j (4 ^ N) && s j) && w.has j b) ≡ true) = any_find (4 ^ N) (λ k. (ltb k (4 ^ N) && s k) && w.has k b) e in
      none_left (ltb r.0 (4 ^ N) && s r.0) (eqb b b) (w.has r.0 b) (v.has r.0 b) (eq-eqb b b refl) r.2 (l r.0 b)
    where
      none_left : (x y u z : Bool) → y ≡ true → (x && u) ≡ true → (u ≡ true → (not (x && y) && z) ≡ true) → ⊥
      none_left true true u z hy h k = false≢true (k h)
      none_left true false u z hy h k = false≢true hy
      none_left false y u z hy h k = false≢true h

  -- The answer of w is a, where w lies below what a leaves and above an array that answers a, with that array's sign
  answers : (A w v : Bits) (q : Question) (a : Bool) → ans N A q ≡ a → A ⊑ w → w ⊑ after N q a v → ((i : ℕ) → (after N q a v).neg i ≡ A.neg i → w.neg i ≡ A.neg i)
      → ans N w q ≡ a
  unfolding after clear sign ◌⊑◌ ans inside
  answers A w v (bit_of i b) true e l k n = l i b e
  answers A w v (bit_of i b) false e l k n = not_true_false (w.has i b) λ h. gone (eqb i i) (eqb b b) (v.has i b) (eq-eqb i i refl) (eq-eqb b b refl) (k i b h)
  answers A w v (sign_of i) true e l k n = n i (sign_self i _ v ∙ sym e) ∙ e
  answers A w v (sign_of i) false e l k n = n i (sign_self i _ v ∙ sym e) ∙ e
  answers A w v (in_desc g b) true e l k n = any_mono (4 ^ N) (λ j. ltb j (4 ^ N) && below N g j) (λ j. A.has j b) (λ j. w.has j b) (λ j h. l j b h) e
  answers A w v (in_desc g b) false e l k n = set_gone (λ j. below N g j) w v b k
  answers A w v (in_grand g b) true e l k n = any_mono (4 ^ N) (λ j. ltb j (4 ^ N) && below N g (j / 4)) (λ j. A.has j b) (λ j. w.has j b) (λ j h. l j b h) e
  answers A w v (in_grand g b) false e l k n = set_gone (λ j. below N g (j / 4)) w v b k

  -- signs: an answer that A gives leaves no sign apart from A's that was not
  after_neg : (A w : Bits) (q : Question) (a : Bool) → ans N A q ≡ a → (i : ℕ) → w.neg i ≡ A.neg i → (after N q a w).neg i ≡ A.neg i
  unfolding after clear sign ans
  after_neg A w (bit_of j b) true e i h = h
  after_neg A w (bit_of j b) false e i h = h
  after_neg A w (in_desc g b) true e i h = h
  after_neg A w (in_desc g b) false e i h = h
  after_neg A w (in_grand g b) true e i h = h
  after_neg A w (in_grand g b) false e i h = h
  after_neg A w (sign_of j) true e i h = sign_other A w j true e i h
  after_neg A w (sign_of j) false e i h = sign_other A w j false e i h

  -- the greatest array below w that u allows
  abbrev pub most : State → List Bool → Bits → Bits
  most s [] w = w
  most s (a ∷ u) w = most (next (4 ^ N) s a) u (after_o (ask (4 ^ N) s) a w)

  pub most_below : (s : State) (u : List Bool) (w : Bits) → most s u w ⊑ w
  unfolding ◌⊑◌
  most_below s [] w i b h = h
  most_below s (a ∷ u) w i b h = go (ask (4 ^ N) s) (most_below (next (4 ^ N) s a) u (after_o (ask (4 ^ N) s) a w) i b h)
    where
      go : (o : Option Question) → (after_o o a w).has i b ≡ true → w.has i b ≡ true
      go none k = k
      go (some q) k = after_has q a w i b k

  keeps_o : (A w : Bits) (o : Option Question) (a : Bool) → told N A o a → A ⊑ w → A ⊑ after_o o a w
  keeps_o A w none a t l = l
  keeps_o A w (some q) a t l = after_keeps A w q a t l

  neg_o : (A w : Bits) (o : Option Question) (a : Bool) → told N A o a → (i : ℕ) → w.neg i ≡ A.neg i → (after_o o a w).neg i ≡ A.neg i
  neg_o A w none a t i h = h
  neg_o A w (some q) a t i h = after_neg A w q a t i h

  -- every array that fits lies below
  pub most_keeps : (A : Bits) (s : State) (u : List Bool) (w : Bits) → Fit N A s u → A ⊑ w → A ⊑ most s u w
  most_keeps A s [] w f l = l
  most_keeps A s (a ∷ u) w f l = most_keeps A (next (4 ^ N) s a) u (after_o (ask (4 ^ N) s) a w) f.1 (keeps_o A w (ask (4 ^ N) s) a f.0 l)

  pub most_neg : (A : Bits) (s : State) (u : List Bool) (w : Bits) → Fit N A s u → (i : ℕ) → w.neg i ≡ A.neg i → (most s u w).neg i ≡ A.neg i
  most_neg A s [] w f i h = h
  most_neg A s (a ∷ u) w f i h = most_neg A (next (4 ^ N) s a) u (after_o (ask (4 ^ N) s) a w) f.1 i (neg_o A w (ask (4 ^ N) s) a f.0 i h)

  answers_o : (A w v : Bits) (o : Option Question) (a : Bool) → told N A o a → A ⊑ w → w ⊑ after_o o a v → ((i : ℕ) → (after_o o a v).neg i ≡ A.neg i → w.neg i ≡ A.neg i) → told N w o a
  answers_o A w v none a t l k n = t
  answers_o A w v (some q) a t l k n = answers A w v q a t l k n

  -- if any array fits, the greatest does
  pub most_fits : (A : Bits) (s : State) (u : List Bool) (w : Bits) → Fit N A s u → A ⊑ w → Fit N (most s u w) s u
  most_fits A s [] w f l = tt
  most_fits A s (a ∷ u) w f l =
      let l' : A ⊑ after_o (ask (4 ^ N) s) a w = keeps_o A w (ask (4 ^ N) s) a f.0 l in (
        answers_o A (most (next (4 ^ N) s a) u (after_o (ask (4 ^ N) s) a w)) w (ask (4 ^ N) s) a f.0
            (most_keeps A (next (4 ^ N) s a) u (after_o (ask (4 ^ N) s) a w) f.1 l')
            (most_below (next (4 ^ N) s a) u (after_o (ask (4 ^ N) s) a w))
            (most_neg A (next (4 ^ N) s a) u (after_o (ask (4 ^ N) s) a w) f.1),
        most_fits A (next (4 ^ N) s a) u (after_o (ask (4 ^ N) s) a w) f.1 l',
      )
