-- One law for each way through a move back: what led to a state is what the code answers on that way.
use Prim.Native.Nat.{ℕ, ◌+◌, ◌*◌, ◌-◌, ◌%◌, ◌≤◌, ◌<◌}
use mathlib.Core.Path.{◌≡◌, refl, sym, ap, ◌∙◌}
use mathlib.Core.Bool.{Bool, true, false, ◌&&◌, ◌||◌}
use mathlib.Core.List.{List}
use mathlib.Core.Logic.{◌⊎◌, inl, inr}
use native.Mathlib.Numerals.{add-one}
use native.Mathlib.Omega.{arith}
use borrow.Author.Tests.{lt-ltb, eq-eqb, ne_eqb}
use lib.Dec.{ltb, leb, eqb, lit<}
use lib.ListN.{length, get_or, set, get_or-eq_default}
use Rattle.nls.specs.Scan.{pixels, sets, refining, state_at}
use Rattle.moves.specs.declared.Stand.{Stand}
use Rattle.moves.specs.Stands.{pass_of, stand, state_of}
use Rattle.undo.specs.Back.{Prior, first, quiet, answered, is, block, four_are, many_descs, join_desc, join_grand, fresh, unasked, prior_block, prior}
use Rattle.undo.specs.declared.Before.{Before}
use Rattle.undo.specs.declared.Before.TheVariants.{Nothing, Quiet, Answer}
use Rattle.undo.specs.Undoing.{Was, plain}

-- ---- tests

-- a mark is one of two
either_is : (m : List ℕ) (i v w : ℕ) → (get_or m i 0 ≡ v) ⊎ ((get_or m i 0 ≡ v → ⊥) × (get_or m i 0 ≡ w)) → (is m i v || is m i w) ≡ true
either_is m i v w (inl e) = rw (eq-eqb (get_or m i 0) v e) refl
either_is m i v w (inr e) = rw (ne_eqb (get_or m i 0) v e.0, eq-eqb (get_or m i 0) w e.1) refl

-- four DESC do not begin where there is none
pub many_none : (D : ℕ) (m : List ℕ) (q : ℕ) → (get_or m q 0 ≡ 5 → ⊥) → false ≡ many_descs D m q
many_none D m q h = go (eqb (q % 16) 0) (leb (4 * D) q)
  where
    go : (s t : Bool) → false ≡ (s && (t && four_are m q 5))
    go true true = rw (ne_eqb (get_or m q 0) 5 h)
    go true false = refl
    go false t = refl

module _ (I D P : ℕ) (big : ℕ → ℕ → Bool) where
  -- the answer of a coefficient taken back
  asked_back : (l p i v : ℕ) (m : List ℕ) (t : Bool) → p < 3 → Was (unasked I D P big l (pass_of p) i v m t) (Answer (stand l p i t)) m (set m i v)
  asked_back l p i v m true h = (refl, h)
  asked_back l p i v m false h = (refl, h)

  module _ (l q : ℕ) (m : List ℕ) where
    -- ---- the pixel pass

    pub pixel_up : q ≡ 0 → l < P → Was (prior I D P big (state_at l pixels q m)) (Quiet (stand (l + 1) 2 I false)) m m
    unfolding pass_of
    pixel_up z h = rw (eq-eqb q 0 z, lt-ltb l P h) (ap (λ (x : ℕ). state_at x refining I m) (sym (add-one l)), lit< tt)

    module _ (i : ℕ) (n : q ≡ 0 → ⊥) (e : i ≡ block m q) where
      pub pixel_asked : (r : Before) (m' : List ℕ) → (get_or m i 0 ≡ 1) ⊎ ((get_or m i 0 ≡ 1 → ⊥) × (get_or m i 0 ≡ 2)) → r ≡ Answer (stand l 0 i (is m i 2)) → m' ≡ set m i 1 → Was (prior I D P big (state_at l pixels q m)) r m m'
      unfolding pass_of
      pixel_asked r m' t er em = rw (ne_eqb q 0 n, ← e, either_is m i 1 2 t, er, em) (asked_back l 0 i 1 m (is m i 2) (lit< tt))

      pub pixel_quiet : (get_or m i 0 ≡ 1 → ⊥) → (get_or m i 0 ≡ 2 → ⊥) → Was (prior I D P big (state_at l pixels q m)) (Quiet (stand l 0 i false)) m m
      unfolding pass_of
      pixel_quiet k h = rw (ne_eqb q 0 n, ← e, ne_eqb (get_or m i 0) 1 k, ne_eqb (get_or m i 0) 2 h) (refl, lit< tt)

    -- ---- the refinement pass

    pub refining_start : q ≡ 0 → Was (prior I D P big (state_at l refining q m)) (Quiet (stand l 1 I false)) m m
    unfolding pass_of
    refining_start z = rw (eq-eqb q 0 z) (refl, lit< tt)

    module _ (i : ℕ) (n : q ≡ 0 → ⊥) (e : i ≡ block m q) where
      pub refining_other : (get_or m i 0 ≡ 3 → ⊥) → Was (prior I D P big (state_at l refining q m)) (Quiet (stand l 2 i false)) m m
      unfolding pass_of
      refining_other h = rw (ne_eqb q 0 n, ← e, ne_eqb (get_or m i 0) 3 h) (refl, lit< tt)

      pub refining_asked : (t : Bool) → get_or m i 0 ≡ 3 → t ≡ big l i → t ≡ true → Was (prior I D P big (state_at l refining q m)) (Answer (stand l 2 i false)) m m
      unfolding pass_of
      refining_asked t h b k = rw (ne_eqb q 0 n, ← e, eq-eqb (get_or m i 0) 3 h, sym b ∙ k) (refl, lit< tt)

      pub refining_new : (t : Bool) → get_or m i 0 ≡ 3 → t ≡ big l i → t ≡ false → Was (prior I D P big (state_at l refining q m)) (Quiet (stand l 2 i false)) m (set m i 2)
      unfolding pass_of
      refining_new t h b k = rw (ne_eqb q 0 n, ← e, eq-eqb (get_or m i 0) 3 h, sym b ∙ k) (refl, lit< tt)

    -- ---- what ends at a place of the set pass

    pub block_new : (a n : Bool) (r : Before) (m' : List ℕ) → a ≡ true → n ≡ true → r ≡ Answer (stand l 1 (q - 1) (is m (q - 1) 2)) → m' ≡ set m (q - 1) 4 → Was (prior_block I D P big l q m a n) r m m'
    unfolding pass_of
    block_new a n r m' ea en er em = rw (ea, en, er, em) (asked_back l 1 (q - 1) 4 m (is m (q - 1) 2) (lit< tt))

    pub block_alone : (a n : Bool) → a ≡ true → n ≡ false → Was (prior_block I D P big l q m a n) (Quiet (stand l 1 (q - 4) false)) m m
    unfolding pass_of
    block_alone a n ea en = rw (ea, en) (refl, lit< tt)

    module _ (a n : Bool) (ea : a ≡ false) (i : ℕ) (e : i ≡ block m q) where
      pub block_set : (get_or m i 0 ≡ 5) ⊎ ((get_or m i 0 ≡ 5 → ⊥) × (get_or m i 0 ≡ 6)) → Was (prior_block I D P big l q m a n) (Answer (stand l 1 i false)) m m
      unfolding pass_of
      block_set h = rw (ea, ← e, either_is m i 5 6 h) (refl, lit< tt)

      pub block_quiet : (get_or m i 0 ≡ 5 → ⊥) → (get_or m i 0 ≡ 6 → ⊥) → Was (prior_block I D P big l q m a n) (Quiet (stand l 1 i false)) m m
      unfolding pass_of
      block_quiet k h = rw (ea, ← e, ne_eqb (get_or m i 0) 5 k, ne_eqb (get_or m i 0) 6 h) (refl, lit< tt)

    -- ---- the set pass

    abbrev pub Ending : Before → List ℕ → Type 0
    Ending r m' = Was (prior_block I D P big l q m (ltb 0 (get_or m (q - 4) 0) && ltb (get_or m (q - 4) 0) 4) (leb D (q - 4) && fresh I D P big m (q - 4))) r m m'

    pub sets_inside : (r : Before) (m' : List ℕ) → (q % 4 ≡ 0 → ⊥) → r ≡ Answer (stand l 1 (q - 1) (is m (q - 1) 2)) → m' ≡ set m (q - 1) 4 → Was (prior I D P big (state_at l sets q m)) r m m'
    unfolding pass_of
    sets_inside r m' h er em = rw (ne_eqb (q % 4) 0 h, er, em) (asked_back l 1 (q - 1) 4 m (is m (q - 1) 2) (lit< tt))

    module _ (f : q % 4 ≡ 0) where
      pub sets_desc : (m' : List ℕ) → get_or m q 0 ≡ 4 → m' ≡ join_desc I q m (ltb (4 * q) I) → Was (prior I D P big (state_at l sets q m)) (Answer (stand l 1 q false)) m m'
      unfolding pass_of
      sets_desc m' h em = rw (eq-eqb (q % 4) 0 f, eq-eqb (get_or m q 0) 4 h, em) (refl, lit< tt)

      module _ (h : get_or m q 0 ≡ 4 → ⊥) where
        pub sets_grand : (t : Bool) (m' : List ℕ) → t ≡ many_descs D m q → t ≡ true → m' ≡ join_grand I q m → Was (prior I D P big (state_at l sets q m)) (Answer (stand l 1 q false)) m m'
        unfolding pass_of
        sets_grand t m' et k em = rw (eq-eqb (q % 4) 0 f, ne_eqb (get_or m q 0) 4 h, sym et ∙ k, em) (refl, lit< tt)

        module _ (t : Bool) (et : t ≡ many_descs D m q) (k : t ≡ false) where
          pub sets_start : q ≡ 0 → Was (prior I D P big (state_at l sets q m)) (Quiet (stand l 0 I false)) m m
          unfolding pass_of
          sets_start z = rw (eq-eqb (q % 4) 0 f, ne_eqb (get_or m q 0) 4 h, sym et ∙ k, eq-eqb q 0 z) (refl, lit< tt)

          pub sets_block : (r : Before) (m' : List ℕ) → (q ≡ 0 → ⊥) → Ending r m' → Was (prior I D P big (state_at l sets q m)) r m m'
          sets_block r m' n w = rw (eq-eqb (q % 4) 0 f, ne_eqb (get_or m q 0) 4 h, sym et ∙ k, ne_eqb q 0 n) w

      pub sets_end : (r : Before) (m' : List ℕ) → length m ≤ q → (q ≡ 0 → ⊥) → Ending r m' → Was (prior I D P big (state_at l sets q m)) r m m'
      sets_end r m' past =
          let z = get_or-eq_default m 0 past in
          sets_block (omega arith) false (many_none D m q (omega arith)) refl r m'

-- ---- what an answer tells

pub was_nothing : (x : Prior) (m m' : List ℕ) → Was x Nothing m m' → (x ≡ first) × (m' ≡ m)
was_nothing first m m' w = (refl, w)
was_nothing (quiet t) m m' w = absurd w
was_nothing (answered t) m m' w = absurd w

pub was_quiet : (x : Prior) (st : Stand) (m m' : List ℕ) → Was x (Quiet st) m m' → (x ≡ quiet (plain st m')) × (st.pass < 3)
was_quiet first st m m' w = absurd w
was_quiet (quiet t) st m m' w = (ap quiet w.0, w.1)
was_quiet (answered t) st m m' w = absurd w

pub was_answer : (x : Prior) (st : Stand) (m m' : List ℕ) → Was x (Answer st) m m' → (x ≡ answered (state_of st m')) × (st.pass < 3)
was_answer first st m m' w = absurd w
was_answer (quiet t) st m m' w = absurd w
was_answer (answered t) st m m' w = (ap answered w.0, w.1)
