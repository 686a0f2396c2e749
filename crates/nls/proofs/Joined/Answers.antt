-- What an array answers to a question about a set is the bit of the set's summary.
use Prim.Native.Nat.{ℕ, zero, suc, ◌+◌, ◌*◌, ◌^◌, ◌/◌, ◌≤◌, ◌<◌}
use mathlib.Core.Path.{◌≡◌, refl, ap, sym, subst, ◌∙◌}
use mathlib.Core.Bool.{Bool, true, false, ◌&&◌, ◌||◌, cond, true≢false, false≢true}
use mathlib.Core.Logic.{◌⊎◌, inl, inr, ⊎_elim}
use native.Mathlib.Nat.{le_refl}
use native.Mathlib.Omega.{arith}
use borrow.Author.Tests.{lt-ltb, ltb-true, eqb-true, eqb-false, eq-eqb}
use lib.Dec.{ltb, eqb}
use lib.Bits.{bit_or}
use Rattle.sizes.proofs.Laws.{both_left, both_right, both}
use Rattle.bits.specs.Bits.{bit}
use Rattle.bits.proofs.Laws.{bit_or_lem, bit_none}
use Rattle.tree.proofs.Lists.{or_left, or_right}
use Rattle.nls.specs.Scan.{in_desc, in_grand}
use Rattle.nls.proofs.Booleans.{or_cases, same_bool}
use Rattle.nls.proofs.Arrays.{below, any, Arr, bits_of_arr, inside, ans, any_some, any_find}
use Rattle.nls.proofs.Counting.Tree.{Size, I, within}
use Rattle.nls.proofs.Counting.Summary.{join, or_tree, or_desc, or_grand, has_desc, has_grand}

-- a join has a bit exactly if one of its terms has
join_of : (b a n : ℕ) (f : ℕ → ℕ) → bit (join a n f) b ≡ true → (c : ℕ) × (a ≤ c) × (c < a + n) × (bit (f c) b ≡ true)
unfolding join
join_of b a zero f h = absurd (true≢false (sym h ∙ bit_none b))
join_of b a (suc n) f h = go (or_cases (bit (f a) b) (bit (join (suc a) n f) b) (sym (bit_or_lem (f a) (join (suc a) n f) b) ∙ h)) (join_of b (suc a) n f)
  where
    go : (bit (f a) b ≡ true) ⊎ (bit (join (suc a) n f) b ≡ true)
        → (bit (join (suc a) n f) b ≡ true → (c : ℕ) × (suc a ≤ c) × (c < suc a + n) × (bit (f c) b ≡ true))
        → (c : ℕ) × (a ≤ c) × (c < a + suc n) × (bit (f c) b ≡ true)
    go (inl e) ih = (a, le_refl a, omega arith, e)
    go (inr e) ih = let r = ih e in (r.0, omega (arith, r.1), omega (arith, r.2), r.3)

join_has : (b a n : ℕ) (f : ℕ → ℕ) (c : ℕ) → a ≤ c → c < a + n → bit (f c) b ≡ true → bit (join a n f) b ≡ true
unfolding join
join_has b a zero f c p q h = absurd (omega arith)
join_has b a (suc n) f c p q h = bit_or_lem (f a) (join (suc a) n f) b ∙ go (eqb c a) refl (λ u. join_has b (suc a) n f c u (omega arith) h)
  where
    go : (t : Bool) → eqb c a ≡ t → (suc a ≤ c → bit (join (suc a) n f) b ≡ true) → (bit (f a) b || bit (join (suc a) n f) b) ≡ true
    go true e ih = or_left (bit (f a) b) (bit (join (suc a) n f) b) (subst (λ (k : ℕ). bit (f k) b ≡ true) (eqb-true c a e) h)
    go false e ih =
        let ne : c ≡ a → ⊥ = eqb-false c a e in
        or_right (bit (f a) b) (bit (join (suc a) n f) b) (ih (omega (arith, ne)))

-- `below` goes up from a descendant, a tree goes down from its root
below_child : (n c j : ℕ) → below n c j ≡ true → below (suc n) (c / 4) j ≡ true
unfolding below
below_child zero c j h = absurd (false≢true h)
below_child (suc n) c j h = go (or_cases (eqb (j / 4) c) (below n c (j / 4)) h) (below_child n c (j / 4))
  where
    go : (eqb (j / 4) c ≡ true) ⊎ (below n c (j / 4) ≡ true) → (below n c (j / 4) ≡ true → below (suc n) (c / 4) (j / 4) ≡ true)
        → below (suc (suc n)) (c / 4) j ≡ true
    go (inl e) ih =
        or_right (eqb (j / 4) (c / 4)) (below (suc n) (c / 4) (j / 4))
        (or_left (eqb (j / 4 / 4) (c / 4)) (below n (c / 4) (j / 4 / 4)) (eq-eqb (j / 4 / 4) (c / 4) (ap (λ (x : ℕ). x / 4) (eqb-true (j / 4) c e))))
    go (inr e) ih = or_right (eqb (j / 4) (c / 4)) (below (suc n) (c / 4) (j / 4)) (ih e)

below_top : (n g j : ℕ) → below (suc n) g j ≡ true → (c : ℕ) × (4 * g ≤ c) × (c < 4 * g + 4) × ((c ≡ j) ⊎ (below n c j ≡ true))
unfolding below
below_top zero g j h = go (or_cases (eqb (j / 4) g) false h)
  where
    go : (eqb (j / 4) g ≡ true) ⊎ (false ≡ true) → (c : ℕ) × (4 * g ≤ c) × (c < 4 * g + 4) × ((c ≡ j) ⊎ (below zero c j ≡ true))
    go (inl e) = let s : j / 4 ≡ g = eqb-true (j / 4) g e in (j, omega arith, omega arith, inl refl)
    go (inr e) = absurd (false≢true e)
below_top (suc n) g j h = go (or_cases (eqb (j / 4) g) (below (suc n) g (j / 4)) h) (below_top n g (j / 4))
  where
    go : (eqb (j / 4) g ≡ true) ⊎ (below (suc n) g (j / 4) ≡ true)
        → (below (suc n) g (j / 4) ≡ true → (c : ℕ) × (4 * g ≤ c) × (c < 4 * g + 4) × ((c ≡ j / 4) ⊎ (below n c (j / 4) ≡ true)))
        → (c : ℕ) × (4 * g ≤ c) × (c < 4 * g + 4) × ((c ≡ j) ⊎ (below (suc n) c j ≡ true))
    go (inl e) ih = let s : j / 4 ≡ g = eqb-true (j / 4) g e in (j, omega arith, omega arith, inl refl)
    go (inr e) ih =
        let r = ih e in (
          r.0,
          r.1,
          r.2,
          ⊎_elim {C = (r.0 ≡ j) ⊎ (below (suc n) r.0 j ≡ true)}
              (λ s. inr (or_left (eqb (j / 4) r.0) (below n r.0 (j / 4)) (eq-eqb (j / 4) r.0 (sym s))))
              (λ s. inr (or_right (eqb (j / 4) r.0) (below n r.0 (j / 4)) s))
              r.3,
        )

tree_of : (b d : ℕ) (f : ℕ → ℕ) (i : ℕ) → bit (or_tree d f i) b ≡ true → (j : ℕ) × (below d i j ≡ true) × (bit (f j) b ≡ true)
unfolding or_tree
tree_of b zero f i h = absurd (true≢false (sym h ∙ bit_none b))
tree_of b (suc d) f i h =
    let r = join_of b (4 * i) 4 (λ c. bit_or (f c) (or_tree d f c)) h in
    go r.0 (omega (arith, r.1, r.2)) (or_cases (bit (f r.0) b) (bit (or_tree d f r.0) b) (sym (bit_or_lem (f r.0) (or_tree d f r.0) b) ∙ r.3)) (tree_of b d f r.0)
  where
    go : (c : ℕ) → c / 4 ≡ i → (bit (f c) b ≡ true) ⊎ (bit (or_tree d f c) b ≡ true)
        → (bit (or_tree d f c) b ≡ true → (j : ℕ) × (below d c j ≡ true) × (bit (f j) b ≡ true))
        → (j : ℕ) × (below (suc d) i j ≡ true) × (bit (f j) b ≡ true)
    go c s (inl e) ih = (c, unfold below in or_left (eqb (c / 4) i) (below d i (c / 4)) (eq-eqb (c / 4) i s), e)
    go c s (inr e) ih = let r = ih e in (r.0, subst (λ (x : ℕ). below (suc d) x r.0 ≡ true) s (below_child d c r.0 r.1), r.2)

tree_has : (b d : ℕ) (f : ℕ → ℕ) (i j : ℕ) → below d i j ≡ true → bit (f j) b ≡ true → bit (or_tree d f i) b ≡ true
unfolding or_tree
tree_has b zero f i j h k = absurd (false≢true (unfold below in h))
tree_has b (suc d) f i j h k =
    let r = below_top d i j h in
    join_has b (4 * i) 4 (λ c. bit_or (f c) (or_tree d f c)) r.0 r.1 r.2
    (bit_or_lem (f r.0) (or_tree d f r.0) b
    ∙ ⊎_elim {C = (bit (f r.0) b || bit (or_tree d f r.0) b) ≡ true}
    (λ s. or_left (bit (f r.0) b) (bit (or_tree d f r.0) b) (subst (λ (x : ℕ). bit (f x) b ≡ true) (sym s) k))
    (λ s. or_right (bit (f r.0) b) (bit (or_tree d f r.0) b) (tree_has b d f r.0 j s k))
    r.3)

module _ (z : Size) (full : I z ≡ 4 ^ z.deep) (A : Arr) where
  abbrev N : ℕ
  N = z.deep

  within_of : (j b : ℕ) → bit (within z A.mag j) b ≡ true → (j < 4 ^ N) × (bit (A.mag j) b ≡ true)
  unfolding within
  within_of j b h = go (ltb j (I z)) refl h
    where
      go : (t : Bool) → ltb j (I z) ≡ t → bit (cond t (A.mag j) 0) b ≡ true → (j < 4 ^ N) × (bit (A.mag j) b ≡ true)
      go true e k = (omega (arith, ltb-true j (I z) e, full), k)
      go false e k = absurd (true≢false (sym k ∙ bit_none b))

  within_has : (j b : ℕ) → j < 4 ^ N → bit (A.mag j) b ≡ true → bit (within z A.mag j) b ≡ true
  unfolding within
  within_has j b u h = rw (lt-ltb j (I z) (omega (arith, full))) h

  pub desc_answer : (g b : ℕ) → ans N (bits_of_arr A) (in_desc g b) ≡ has_desc z A.mag b g
  unfolding ans inside has_desc or_desc bit
  desc_answer g b =
      same_bool (any (4 ^ N) (λ j. (ltb j (4 ^ N) && below N g j) && bit (A.mag j) b)) (bit (or_tree N (within z A.mag) g) b)
      (λ h. let r = any_find (4 ^ N) (λ j. (ltb j (4 ^ N) && below N g j) && bit (A.mag j) b) h in
      let k = both_left (ltb r.0 (4 ^ N) && below N g r.0) (bit (A.mag r.0) b) r.2 in
      tree_has b N (within z A.mag) g r.0 (both_right (ltb r.0 (4 ^ N)) (below N g r.0) k)
      (within_has r.0 b r.1 (both_right (ltb r.0 (4 ^ N) && below N g r.0) (bit (A.mag r.0) b) r.2)))
      (λ h. let r = tree_of b N (within z A.mag) g h in
      let w = within_of r.0 b r.2 in
      any_some (4 ^ N) (λ j. (ltb j (4 ^ N) && below N g j) && bit (A.mag j) b) r.0 w.0
      (both
      (both (lt-ltb r.0 (4 ^ N) w.0) r.1) w.1))

  up_below : (n c j : ℕ) → below n c j ≡ true → below n (c / 4) (j / 4) ≡ true
  unfolding below
  up_below zero c j h = absurd (false≢true h)
  up_below (suc n) c j h =
      ⊎_elim {C = below (suc n) (c / 4) (j / 4) ≡ true}
      (λ e. or_left (eqb (j / 4 / 4) (c / 4)) (below n (c / 4) (j / 4 / 4)) (eq-eqb (j / 4 / 4) (c / 4) (ap (λ (x : ℕ). x / 4) (eqb-true (j / 4) c e))))
      (λ e. below_child n c (j / 4) e)
      (or_cases (eqb (j / 4) c) (below n c (j / 4)) h)

  down_below : (n g j : ℕ) → below n g (j / 4) ≡ true → (c : ℕ) × (4 * g ≤ c) × (c < 4 * g + 4) × (below n c j ≡ true)
  unfolding below
  down_below zero g j h = absurd (false≢true h)
  down_below (suc n) g j h =
      let r = below_top n g (j / 4) h in (
        r.0,
        r.1,
        r.2,
        ⊎_elim {C = below (suc n) r.0 j ≡ true}
            (λ s. or_left (eqb (j / 4) r.0) (below n r.0 (j / 4)) (eq-eqb (j / 4) r.0 (sym s)))
            (λ s. or_right (eqb (j / 4) r.0) (below n r.0 (j / 4)) s)
            r.3,
      )

  pub grand_answer : (g b : ℕ) → ans N (bits_of_arr A) (in_grand g b) ≡ has_grand z A.mag b g
  unfolding ans inside has_grand or_grand or_desc bit
  grand_answer g b =
      same_bool (any (4 ^ N) (λ j. (ltb j (4 ^ N) && below N g (j / 4)) && bit (A.mag j) b)) (bit (join (4 * g) 4 (λ c. or_tree N (within z A.mag) c)) b)
      (λ h. let r = any_find (4 ^ N) (λ j. (ltb j (4 ^ N) && below N g (j / 4)) && bit (A.mag j) b) h in
      let k = both_left (ltb r.0 (4 ^ N) && below N g (r.0 / 4)) (bit (A.mag r.0) b) r.2 in
      let d = down_below N g r.0 (both_right (ltb r.0 (4 ^ N)) (below N g (r.0 / 4)) k) in
      join_has b (4 * g) 4 (λ c. or_tree N (within z A.mag) c) d.0 d.1 d.2
      (tree_has b N (within z A.mag) d.0 r.0 d.3
      (within_has r.0 b r.1 (both_right (ltb r.0 (4 ^ N) && below N g (r.0 / 4)) (bit (A.mag r.0) b) r.2))))
      (λ h. let d = join_of b (4 * g) 4 (λ c. or_tree N (within z A.mag) c) h in
      let r = tree_of b N (within z A.mag) d.0 d.3 in
      let w = within_of r.0 b r.2 in
      let up : d.0 / 4 ≡ g = omega (arith, d.1, d.2) in
      any_some (4 ^ N) (λ j. (ltb j (4 ^ N) && below N g (j / 4)) && bit (A.mag j) b) r.0 w.0
      (both
      (both (lt-ltb r.0 (4 ^ N) w.0)
      (subst (λ (x : ℕ). below N x (r.0 / 4) ≡ true) up (up_below N d.0 r.0 r.1))) w.1))
