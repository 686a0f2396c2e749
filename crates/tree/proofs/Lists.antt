-- Every member, some member, and the OR, over lists of places put together.
use mathlib.Core.Path.{◌≡◌, refl, sym, ap, ◌∙◌}
use mathlib.Core.Bool.{Bool, true, false, ◌||◌, true≢false, false≢true}
use mathlib.Core.List.{List, [], ◌∷◌, ◌++◌, map, flat_map}
use Prim.Native.Nat.{ℕ, zero, suc, ◌+◌, ◌*◌, ◌/◌, ◌%◌, ◌^◌, ◌≤◌, ◌<◌}
use native.Mathlib.Omega.{arith}
use borrow.Author.Tests.{leb-true, leb-false}
use lib.Bits.{bit_or}
use lib.Dec.{leb}
use Rattle.bits.specs.Bits.{bit, or_all}
use Rattle.bits.proofs.Laws.{bit_none, bit_or_lem, bit_top, bit_high, or_assoc}
use Rattle.tree.specs.Tree.{fours, any_in}

-- every member of a list has P
unfoldable pub Each : (ℕ → Type 0) → List ℕ → Type 0
Each P [] = Unit {0}
Each P (j ∷ rest) = P j × Each P rest

pub each_to : (P Q : ℕ → Type 0) → ((j : ℕ) → P j → Q j) → (l : List ℕ) → Each P l → Each Q l
unfolding Each
each_to P Q h [] e = tt
each_to P Q h (j ∷ l) e = (h j e.0, each_to P Q h l e.1)

pub each_append : (P : ℕ → Type 0) (s t : List ℕ) → Each P s → Each P t → Each P (s ++ t)
unfolding Each
each_append P [] t e f = f
each_append P (j ∷ s) t e f = (e.0, each_append P s t e.1 f)

pub each_flat : (P Q : ℕ → Type 0) (f : ℕ → List ℕ) (l : List ℕ) → Each Q l → ((c : ℕ) → Q c → Each P (f c)) → Each P (flat_map f l)
unfolding Each flat_map
each_flat P Q f [] e h = tt
each_flat P Q f (c ∷ l) e h = each_append P (f c) (flat_map f l) (h c e.0) (each_flat P Q f l e.1 h)

-- two lists put together alike
pub flat_same : (f g : ℕ → List ℕ) (l : List ℕ) → Each (λ c. f c ≡ g c) l → flat_map f l ≡ flat_map g l
unfolding Each flat_map
flat_same f g [] e = refl
flat_same f g (c ∷ l) e = rw (e.0, flat_same f g l e.1)

pub flat_none : (f : ℕ → List ℕ) (l : List ℕ) → Each (λ c. f c ≡ []) l → flat_map f l ≡ []
unfolding Each flat_map
flat_none f [] e = refl
flat_none f (c ∷ l) e = rw (e.0, flat_none f l e.1)

-- ---- some member

-- a test made of two
pub either : {A : Type 0} (s t : Bool) → (s || t) ≡ true → (s ≡ true → A) → (t ≡ true → A) → A
either true t e f g = f refl
either false t e f g = g e

pub or_left : (s t : Bool) → s ≡ true → (s || t) ≡ true
or_left s t e = rw e

pub or_right : (s t : Bool) → t ≡ true → (s || t) ≡ true
or_right true t e = refl
or_right false t e = e

neither_left : (s t : Bool) → (s || t) ≡ false → s ≡ false
neither_left true t e = e
neither_left false t e = refl

neither_right : (s t : Bool) → (s || t) ≡ false → t ≡ false
neither_right true t e = absurd (true≢false e)
neither_right false t e = e

or_assoc_bool : (s t u : Bool) → ((s || t) || u) ≡ (s || (t || u))
or_assoc_bool true t u = refl
or_assoc_bool false t u = refl

pub any_append : (p : ℕ → Bool) (s t : List ℕ) → any_in p (s ++ t) ≡ (any_in p s || any_in p t)
unfolding any_in
any_append p [] t = refl
any_append p (j ∷ s) t = ap (λ (x : Bool). p j || x) (any_append p s t) ∙ sym (or_assoc_bool (p j) (any_in p s) (any_in p t))

pub any_flat : (p : ℕ → Bool) (f : ℕ → List ℕ) (l : List ℕ) → any_in p (flat_map f l) ≡ any_in (λ c. any_in p (f c)) l
unfolding any_in flat_map
any_flat p f [] = refl
any_flat p f (c ∷ l) = any_append p (f c) (flat_map f l) ∙ ap (λ (x : Bool). any_in p (f c) || x) (any_flat p f l)

pub any_find : (p : ℕ → Bool) (P : ℕ → Type 0) (l : List ℕ) → Each P l → any_in p l ≡ true → (j : ℕ) × P j × (p j ≡ true)
unfolding any_in Each
any_find p P [] e h = absurd (false≢true h)
any_find p P (j ∷ l) e h = either (p j) (any_in p l) h (λ k. (j, e.0, k)) (λ k. any_find p P l e.1 k)

pub any_same : (p q : ℕ → Bool) (l : List ℕ) → Each (λ j. p j ≡ q j) l → any_in p l ≡ any_in q l
unfolding any_in Each
any_same p q [] e = refl
any_same p q (j ∷ l) e = rw (e.0, any_same p q l e.1)

pub any_none : (p : ℕ → Bool) (l : List ℕ) → Each (λ j. p j ≡ false) l → any_in p l ≡ false
unfolding any_in Each
any_none p [] e = refl
any_none p (j ∷ l) e = rw (e.0, any_none p l e.1)

pub none_each : (p : ℕ → Bool) (l : List ℕ) → any_in p l ≡ false → Each (λ j. p j ≡ false) l
unfolding any_in Each
none_each p [] h = tt
none_each p (j ∷ l) h = (neither_left (p j) (any_in p l) h, none_each p l (neither_right (p j) (any_in p l) h))

-- the four places below i
pub any_four : (p : ℕ → Bool) (i c : ℕ) → c / 4 ≡ i → p c ≡ true → any_in p (fours i) ≡ true
unfolding any_in
any_four p i c e h =
    let q : c ≡ 4 * i + c % 4 = omega arith in
    go (c % 4) (omega arith) (rw q at h)
  where
    go : (k : ℕ) → k < 4 → p (4 * i + k) ≡ true → any_in p (fours i) ≡ true
    go zero l f = or_left (p (4 * i)) _ (ap p (omega arith) ∙ f)
    go (suc zero) l f = or_right (p (4 * i)) _ (or_left (p (4 * i + 1)) _ f)
    go (suc (suc zero)) l f = or_right (p (4 * i)) _ (or_right (p (4 * i + 1)) _ (or_left (p (4 * i + 2)) _ f))
    go (suc (suc (suc zero))) l f = or_right (p (4 * i)) _ (or_right (p (4 * i + 1)) _ (or_right (p (4 * i + 2)) _ (or_left (p (4 * i + 3)) _ f)))
    go (suc (suc (suc (suc k)))) l f = absurd (omega arith)

pub each_four : (P : ℕ → Type 0) (i : ℕ) → ((c : ℕ) → 4 * i ≤ c → c < 4 * i + 4 → P c) → Each P (fours i)
unfolding Each
each_four P i h = (
  h (4 * i) (omega arith) (omega arith),
  (
    h (4 * i + 1) (omega arith) (omega arith),
    (
      h (4 * i + 2) (omega arith) (omega arith),
      (h (4 * i + 3) (omega arith) (omega arith), tt),
    ),
  ),
)

-- ---- the bitwise OR

module _ (f : ℕ → ℕ) where
  pub or_append : (s t : List ℕ) → or_all (map f (s ++ t)) ≡ bit_or (or_all (map f s)) (or_all (map f t))
  unfolding or_all
  or_append [] t = refl
  or_append (j ∷ s) t = ap (bit_or (f j)) (or_append s t) ∙ sym (or_assoc (f j) (or_all (map f s)) (or_all (map f t)))

  pub or_flat : (g : ℕ → List ℕ) (l : List ℕ) → or_all (map f (flat_map g l)) ≡ or_all (map (λ c. or_all (map f (g c))) l)
  unfolding or_all flat_map
  or_flat g [] = refl
  or_flat g (c ∷ l) = or_append (g c) (flat_map g l) ∙ ap (bit_or (or_all (map f (g c)))) (or_flat g l)

pub or_same : (f g : ℕ → ℕ) (l : List ℕ) → Each (λ j. f j ≡ g j) l → or_all (map f l) ≡ or_all (map g l)
unfolding or_all Each
or_same f g [] e = refl
or_same f g (j ∷ l) e = rw (e.0, or_same f g l e.1)

-- bit b of the OR of a list is set exactly if it is set in a member
pub all_bit : (f : ℕ → ℕ) (l : List ℕ) (b : ℕ) → bit (or_all (map f l)) b ≡ any_in (λ j. bit (f j) b) l
unfolding or_all any_in
all_bit f [] b = bit_none b
all_bit f (j ∷ l) b = bit_or_lem (f j) (or_all (map f l)) b ∙ ap (λ (t : Bool). bit (f j) b || t) (all_bit f l b)

-- of a number below 2^(b+1), bit b says whether it is 2^b or more
pub top_bit : (x b : ℕ) → leb (2 ^ suc b) x ≡ false → bit x b ≡ leb (2 ^ b) x
top_bit x b h = tell (leb (2 ^ b) x) refl
  where
    tell : (t : Bool) → leb (2 ^ b) x ≡ t → bit x b ≡ leb (2 ^ b) x
    tell true e = rw e (bit_top x b (leb-true (2 ^ b) x e) (leb-false (2 ^ suc b) x h))
    tell false e = rw e (bit_high b x b (leb-false (2 ^ b) x e) (omega arith))

pub all_top : (f : ℕ → ℕ) (l : List ℕ) (b : ℕ) → any_in (λ j. leb (2 ^ suc b) (f j)) l ≡ false
    → bit (or_all (map f l)) b ≡ any_in (λ j. leb (2 ^ b) (f j)) l
all_top f l b h =
    all_bit f l b
    ∙ any_same (λ j. bit (f j) b) (λ j. leb (2 ^ b) (f j)) l
    (each_to (λ j. leb (2 ^ suc b) (f j) ≡ false) (λ j. bit (f j) b ≡ leb (2 ^ b) (f j)) (λ j k. top_bit (f j) b k) l (none_each (λ j. leb (2 ^ suc b) (f j)) l h))
