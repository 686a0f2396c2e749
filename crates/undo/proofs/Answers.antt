-- An answer is undone by `prior`, and keeps what that rests on.
use mathlib.Core.Path.{◌≡◌, refl, sym, ap, subst, ◌∙◌}
use mathlib.Core.Bool.{Bool, true, false}
use mathlib.Core.List.{List}
use Prim.Native.Nat.{ℕ, zero, suc, ◌+◌, ◌*◌, ◌-◌, ◌/◌, ◌%◌, ◌^◌, ◌≤◌, ◌<◌}
use native.Mathlib.Omega.{arith}
use native.Mathlib.Decide.{dec_lt, ℕ_discrete}
use lib.ListN.{length, get_or, set}
use lib.Seq.{get_or-set_same, get_or-set_other}
use lib.Dec.{ltb, eqb, lit<, lit≤}
use borrow.Author.Tests.{ltb-true, eqb-true, le-leb}
use Rattle.sizes.specs.Sizes.{most_n}
use Rattle.nls.specs.Marks.{skip, split_desc, split_grand}
use Rattle.nls.specs.Scan.{State, Pass, pixels, sets, refining, state_at, look_at, look_pixels, look_sets, look_refining, tell_at, tell_sets}
use Rattle.nls.proofs.Tiled.{Tiled}
use Rattle.nls.proofs.Arrays.{Bits}
use Rattle.nls.proofs.Machine.Table.{Cfg, skip_5}
use Rattle.nls.proofs.Machine.Split.{with_g}
use Rattle.nls.proofs.Machine.Cover.{Core, Preds, hide, Desc_at, is_desc_at, sets_even, split_kids, core_g}
use Rattle.nls.proofs.Machine.Blocks.{after_block}
use Rattle.nls.proofs.Machine.Steps.{preds, Good_at}
use Rattle.nls.proofs.Reading.Told.{fam, Known}
use Rattle.nls.proofs.Visited.{Begun, past_one, past_marked, grand_split}
use Rattle.undo.specs.Back.{answered, waiting, prior}
use Rattle.undo.proofs.Blocks.{back_skip}
use Rattle.undo.proofs.Undo.{Midway, pixels_zero, pixels_sign, refining_bit, sets_desc_0, sets_desc_1, sets_grand_0, sets_grand_1, sets_child_0, sets_child_sign, no_child}
use Rattle.undo.proofs.Keeps.{calm_mark, small_desc, midway_desc, small_grand, midway_grand}
use Rattle.undo.proofs.Moves.{Mags, mags_to, mags_set, GrownAt, big_of, Rest, gone}

module _ (N : ℕ) (fits : N ≤ most_n) {D : ℕ} (P : ℕ) (sz : Tiled D (4 ^ N)) (A : Bits) (cap : (j e : ℕ) → A.has j e ≡ true → e < P) where
  abbrev I : ℕ
  I = 4 ^ N

  -- from s, with the magnitudes g, to t, with g'
  abbrev pub Told : (ℕ → ℕ) → State → State → Type 0
  Told g s t = (prior I D P (big_of g) t ≡ answered s) × Rest N fits P sz A cap g t.left t.pass t.place t.pending t.marks

  abbrev rest : (ℕ → ℕ) → ℕ → Pass → ℕ → Bool → List ℕ → Type 0
  rest g l p i w m = Rest N fits P sz A cap g l p i w m

  mags_eq : (b t t' : ℕ) (m : List ℕ) (g g' : ℕ → ℕ) → t ≤ t' → ((j : ℕ) → g' j ≡ g j) → Mags b t m g → Mags b t' m g'
  mags_eq b t t' m g g' h e p = mags_to b t t' m m g g' h (λ j a c. refl) e p

  module _ (k : Bits) (g g' : ℕ → ℕ) where
    abbrev R : ℕ → Preds
    R b = preds (fam N A k) b

    told_pixels : (b i : ℕ) (m : List ℕ) (x y a : Bool) → ltb i I ≡ x → eqb (get_or m i 0) 1 ≡ y → Good_at sz P (fam N A k) (suc b) pixels i false m → rest g (suc b) pixels i false m
        → GrownAt pixels b (look_pixels b i m x y) g g' → Told g' (state_at (suc b) pixels i m) (tell_at I (suc b) pixels i false m a)
    told_pixels b i m false y a ex ey h r e = absurd e
    told_pixels b i m true false a ex ey h r e = absurd e
    told_pixels b i m true true true ex ey h r e = (refl, (r.0, r.1, r.2, r.3, mags_eq b 0 0 m g g' (omega arith) e r.4))
    told_pixels b i m true true false ex ey h r e =
        let hi : i < I = ltb-true i I ex in
        let e1 : get_or m i 0 ≡ 1 = eqb-true (get_or m i 0) 1 ey in (
          pixels_zero N fits P sz (big_of g') (R b) (Known A k b) b i h.1.0 m e1,
          (r.0, omega (arith, hi), past_one sz P h.1.0 m h.1.1.core i hi (r.2 hi) (omega (arith, e1)), r.3, mags_eq b 0 0 m g g' (omega arith) e r.4),
        )

    sign_pixels : (b i : ℕ) (m : List ℕ) → Good_at sz P (fam N A k) (suc b) pixels i true m → rest g (suc b) pixels i true m
        → (2 ^ b ≤ g' i) × (g' i < 2 ^ suc b) × ((j : ℕ) → (j ≡ i → ⊥) → g' j ≡ g j) → Told g' (waiting (suc b) pixels i m) (state_at (suc b) pixels (i + 1) (set m i 2))
    sign_pixels b i m h r e =
        let kk : Core sz h.1.0 m = h.1.1.core in
        let hl : i < length m = omega (arith, h.2, kk.len) in (
          pixels_sign N fits P sz (big_of g') (R b) (Known A k b) b i h.1.0 m hl h.3,
          (
            r.0,
            omega (arith, h.2),
            past_marked sz P h.1.0 m kk i 2 h.2 (omega (arith, h.3)) (omega (arith, h.3)) (lit≤ tt) (lit≤ tt),
            calm_mark D I m i 2 0 0 (omega arith) hl (λ z. omega (arith, z, h.3)) (lit≤ tt) (lit≤ tt) (λ z. h.3) r.3,
            mags_set b 0 m i 2 g g' hl (λ z. (e.0, e.1)) (λ z. omega (arith, z)) e.2 r.4,
          ),
        )

    told_refining : (b i : ℕ) (m : List ℕ) (x s n a : Bool) → ltb i I ≡ x → eqb (get_or m i 0) 3 ≡ s → eqb (get_or m i 0) 2 ≡ n → Good_at sz P (fam N A k) (suc b) refining i false m → rest g (suc b) refining i false m
        → GrownAt refining b (look_refining b i m x s n) g g' → Told g' (state_at (suc b) refining i m) (state_at (suc b) refining (i + 1) m)
    told_refining b i m false s n a ex es en h r e = absurd e
    told_refining b i m true false true a ex es en h r e = absurd e
    told_refining b i m true false false a ex es en h r e = absurd e
    told_refining b i m true true n a ex es en h r e =
        let hi : i < I = ltb-true i I ex in
        let e3 : get_or m i 0 ≡ 3 = eqb-true (get_or m i 0) 3 es in (
          refining_bit N fits P sz (big_of g') (R b) (Known A k b) b i h.1.0 m e3 (le-leb (2 ^ suc b) (g' i) (omega (arith, (r.4.three i e3).1 (omega arith), e.0))),
          (r.0, omega (arith, hi), past_one sz P h.1.0 m h.1.1.core i hi (r.2 hi) (omega (arith, e3)), tt, record { two = λ j z. two' j z (ℕ_discrete j i); three = λ j z. three' j z (ℕ_discrete j i) }),
        )
      where
        two' : (j : ℕ) → get_or m j 0 ≡ 2 → Dec (j ≡ i) → (2 ^ b ≤ g' j) × (g' j < 2 ^ suc b)
        two' j z (yes q) = absurd (omega (arith, z, eqb-true (get_or m i 0) 3 es, ap (λ (x : ℕ). get_or m x 0) q))
        two' j z (no q) = let y = r.4.two j z in (omega (arith, y.0, e.1 j q), omega (arith, y.1, e.1 j q))

        three' : (j : ℕ) → get_or m j 0 ≡ 3 → Dec (j ≡ i) → (2 ^ b ≤ g' j) × (i + 1 ≤ j → 2 ^ suc b ≤ g' j)
        three' j z (yes q) = (omega (arith, (r.4.three j z).0, ap g q, ap g' q, e.0), λ l. absurd (omega (arith, l, q)))
        three' j z (no q) = let y = r.4.three j z in (omega (arith, y.0, e.1 j q), λ l. omega (arith, y.1 (omega (arith, l)), e.1 j q))

    -- a child with its mark v
    child_midway : (b i v : ℕ) (m : List ℕ) (c : Cfg) → Core sz c m → Midway D I m i → i < I → get_or m i 0 ≡ 4 → 1 ≤ v → v ≤ 2
        → ((j : ℕ) → (j / 4 ≡ i / 4 → ⊥) → get_or m j 0 ≡ 4 → ⊥) → Midway D I (set m i v) (i + 1)
    child_midway b i v m c kk w hi e v1 v2 off = record {
      calm = calm_mark D I m i v i (i + 1) (omega arith) hl (λ z. omega (arith, z, e)) v1 v2 (λ z. absurd (omega (arith, z))) w.calm;
      kids = λ z j a l. kid j (sym a) l (ℕ_discrete j i);
      under = λ z l. let q : i / 4 ≡ (i + 1) / 4 = group z in
          get_or-set_other m i (16 * ((i + 1) / 4)) v 0 (λ y. omega (arith, y, lo, q, sz.least)) ∙ ap (λ (x : ℕ). get_or m (16 * x) 0) (sym q) ∙ w.under e (omega (arith, q, l));
      root = λ z l. w.root e (omega (arith, l));
    }
      where
        hl : i < length m
        hl = omega (arith, hi, kk.len)

        lo : D ≤ i
        lo = go (dec_lt i D)
          where
            go : Dec (i < D) → D ≤ i
            go (yes z) = absurd (w.root e z)
            go (no z) = omega arith

        group : get_or (set m i v) (i + 1) 0 ≡ 4 → i / 4 ≡ (i + 1) / 4
        group z = go (ℕ_discrete ((i + 1) / 4) (i / 4))
          where
            go : Dec ((i + 1) / 4 ≡ i / 4) → i / 4 ≡ (i + 1) / 4
            go (yes y) = sym y
            go (no y) = absurd (off (i + 1) y (sym (get_or-set_other m i (i + 1) v 0 (λ x. omega (arith, x))) ∙ z))

        kid : (j : ℕ) → (i + 1) / 4 ≡ j / 4 → j < i + 1 → Dec (j ≡ i) → (1 ≤ get_or (set m i v) j 0) × (get_or (set m i v) j 0 ≤ 2)
        kid j a l (yes q) = let y : get_or (set m i v) j 0 ≡ v = ap (λ (x : ℕ). get_or (set m i v) x 0) q ∙ get_or-set_same m i v 0 hl in (omega (arith, y, v1), omega (arith, y, v2))
        kid j a l (no q) =
            let y : (1 ≤ get_or m j 0) × (get_or m j 0 ≤ 2) = w.kids e j (omega (arith, a, l)) (omega (arith, l, q)) in
            let z : get_or (set m i v) j 0 ≡ get_or m j 0 = get_or-set_other m i j v 0 q in
            (omega (arith, y.0, z), omega (arith, y.1, z))

    told_sets_lem : (b i : ℕ) (m : List ℕ) (x d q c a : Bool) → ltb i I ≡ x → eqb (get_or m i 0) 5 ≡ d → eqb (get_or m i 0) 6 ≡ q → eqb (get_or m i 0) 4 ≡ c
        → Good_at sz P (fam N A k) (suc b) sets i false m → rest g (suc b) sets i false m → GrownAt sets b (look_sets b i m x d q c) g g' → Told g' (state_at (suc b) sets i m) (tell_sets I (suc b) i m a d q)
    told_sets_lem b i m false d q c a ex ed eg ec h r e = absurd e
    told_sets_lem b i m true false false false a ex ed eg ec h r e = absurd e
    told_sets_lem b i m true true q c true ex ed eg ec h r e =
        let hi : i < I = ltb-true i I ex in
        let e5 : get_or m i 0 ≡ 5 = eqb-true (get_or m i 0) 5 ed in
        let kk : Core sz h.1.0 m = h.1.1.core in
        let s : Desc_at D I h.1.0 i = is_desc_at sz h.1.0 m kk i hi e5 in (
          sets_desc_1 N fits P sz (big_of g') (R b) (Known A k b) b i h.1.0 m h.1.1 r.3 hi e5,
          (
            r.0,
            r.1,
            (λ z y. omega (arith, y, split_kids I i m kk.len (omega (arith, s.0, sz.sixteens, hi)) (omega (arith, s.3, sz.least)) (ltb (4 * i) I) i (omega arith) (omega arith))),
            midway_desc sz h.1.0 m kk i hi e5 r.3,
            mags_to b 0 0 m (split_desc I i m (ltb (4 * i) I)) g g' (omega arith) (small_desc sz h.1.0 m kk i hi e5) e r.4,
          ),
        )
    told_sets_lem b i m true true q c false ex ed eg ec h r e =
        let hi : i < I = ltb-true i I ex in
        let e5 : get_or m i 0 ≡ 5 = eqb-true (get_or m i 0) 5 ed in
        let kk : Core sz h.1.0 m = h.1.1.core in
        let s : skip (get_or m i 0) ≡ 4 = ap skip e5 ∙ skip_5 5 (lit≤ tt) (lit< tt) in
        let e4 : i % 4 ≡ 0 = sets_even sz (R b) (Known A k b) i h.1.0 m h.1.1 hi (λ z. omega (arith, z, e5)) in (
          sets_desc_0 N fits P sz (big_of g') (R b) (Known A k b) b i h.1.0 m h.1.1 r.3 hi e5,
          (
            r.0,
            omega (arith, s, (back_skip N fits sz h.1.0 m kk i hi (r.2 hi)).1),
            subst (λ (x : ℕ). Begun sz P m (i + x)) s (after_block sz h.1.0 m kk i hi (r.2 hi)),
            gone N fits P sz A cap k g b i (i + 4) m h.1.0 h.1.1 r.3 (omega arith) (λ z. omega (arith, z, e4)),
            mags_eq b 0 0 m g g' (omega arith) e r.4,
          ),
        )
    told_sets_lem b i m true false true c true ex ed eg ec h r e =
        let hi : i < I = ltb-true i I ex in
        let e6 : get_or m i 0 ≡ 6 = eqb-true (get_or m i 0) 6 eg in
        let kk : Core sz h.1.0 m = h.1.1.core in
        let kg : Core sz (with_g (i / 16) h.1.0) (split_grand I i m) = core_g sz h.1.0 m kk i hi e6 in (
          sets_grand_1 N fits P sz (big_of g') (R b) (Known A k b) b i h.1.0 m h.1.1 r.3 hi e6 kg,
          (
            r.0,
            r.1,
            (λ z y. omega (arith, y, grand_split sz P h.1.0 m kk i hi e6 kg)),
            midway_grand sz h.1.0 m kk i hi e6 kg r.3,
            mags_to b 0 0 m (split_grand I i m) g g' (omega arith) (small_grand sz h.1.0 m kk i hi e6 kg) e r.4,
          ),
        )
    told_sets_lem b i m true false true c false ex ed eg ec h r e =
        let hi : i < I = ltb-true i I ex in
        let e6 : get_or m i 0 ≡ 6 = eqb-true (get_or m i 0) 6 eg in
        let kk : Core sz h.1.0 m = h.1.1.core in
        let s : skip (get_or m i 0) ≡ 16 = ap skip e6 ∙ skip_5 6 (lit≤ tt) (lit< tt) in
        let e4 : i % 4 ≡ 0 = sets_even sz (R b) (Known A k b) i h.1.0 m h.1.1 hi (λ z. omega (arith, z, e6)) in (
          sets_grand_0 N fits P sz (big_of g') (R b) (Known A k b) b i h.1.0 m h.1.1 r.3 hi e6,
          (
            r.0,
            omega (arith, s, (back_skip N fits sz h.1.0 m kk i hi (r.2 hi)).1),
            subst (λ (x : ℕ). Begun sz P m (i + x)) s (after_block sz h.1.0 m kk i hi (r.2 hi)),
            gone N fits P sz A cap k g b i (i + 16) m h.1.0 h.1.1 r.3 (omega arith) (λ z. omega (arith, z, e4)),
            mags_eq b 0 0 m g g' (omega arith) e r.4,
          ),
        )
    told_sets_lem b i m true false false true true ex ed eg ec h r e = (refl, (r.0, r.1, r.2, r.3, mags_eq b 0 0 m g g' (omega arith) e r.4))
    told_sets_lem b i m true false false true false ex ed eg ec h r e =
        let hi : i < I = ltb-true i I ex in
        let e4 : get_or m i 0 ≡ 4 = eqb-true (get_or m i 0) 4 ec in
        let kk : Core sz h.1.0 m = h.1.1.core in
        let hl : i < length m = omega (arith, hi, kk.len) in (
          sets_child_0 N fits P sz (big_of g') (R b) (Known A k b) b i h.1.0 m h.1.1 r.3 hi e4,
          (
            r.0,
            omega (arith, hi),
            past_marked sz P h.1.0 m kk i 1 hi (omega (arith, e4)) (omega (arith, e4)) (lit≤ tt) (lit≤ tt),
            child_midway b i 1 m h.1.0 kk r.3 hi e4 (lit≤ tt) (lit≤ tt) (no_child N fits P sz (big_of g) (R b) (Known A k b) b i h.1.0 m h.1.1 r.3),
            mags_set b 0 m i 1 g g' hl (λ z. absurd (omega (arith, z))) (λ z. omega (arith, z)) (λ j n. e j) r.4,
          ),
        )

    sign_sets : (b i : ℕ) (m : List ℕ) → Good_at sz P (fam N A k) (suc b) sets i true m → rest g (suc b) sets i true m
        → (2 ^ b ≤ g' i) × (g' i < 2 ^ suc b) × ((j : ℕ) → (j ≡ i → ⊥) → g' j ≡ g j) → Told g' (waiting (suc b) sets i m) (state_at (suc b) sets (i + 1) (set m i 2))
    sign_sets b i m h r e =
        let hi : i < I = h.2 in
        let e4 : get_or m i 0 ≡ 4 = h.3 in
        let kk : Core sz h.1.0 m = h.1.1.core in
        let hl : i < length m = omega (arith, hi, kk.len) in (
          sets_child_sign N fits P sz (big_of g') (hide i (R b)) (Known A k b) b i h.1.0 m h.1.1 r.3 hi e4,
          (
            r.0,
            omega (arith, hi),
            past_marked sz P h.1.0 m kk i 2 hi (omega (arith, e4)) (omega (arith, e4)) (lit≤ tt) (lit≤ tt),
            child_midway b i 2 m h.1.0 kk r.3 hi e4 (lit≤ tt) (lit≤ tt) (no_child N fits P sz (big_of g) (hide i (R b)) (Known A k b) b i h.1.0 m h.1.1 r.3),
            mags_set b 0 m i 2 g g' hl (λ z. (e.0, e.1)) (λ z. omega (arith, z)) e.2 r.4,
          ),
        )

    -- any answer
    pub told_at_lem : (l : ℕ) (p : Pass) (i : ℕ) (w : Bool) (m : List ℕ) (a : Bool) → Good_at sz P (fam N A k) l p i w m → rest g l p i w m → GrownAt p (l - 1) (look_at I l p i w m) g g'
        → Told g' (record { left = l; pass = p; place = i; pending = w; marks = m }) (tell_at I l p i w m a)
    told_at_lem zero p i w m a h r e = absurd e
    told_at_lem (suc b) pixels i true m a h r e = sign_pixels b i m h r (subst (λ (x : ℕ). (2 ^ x ≤ g' i) × (g' i < 2 ^ suc x) × ((j : ℕ) → (j ≡ i → ⊥) → g' j ≡ g j)) {x = suc b - 1} {y = b} (omega arith) e)
    told_at_lem (suc b) sets i true m a h r e = sign_sets b i m h r (subst (λ (x : ℕ). (2 ^ x ≤ g' i) × (g' i < 2 ^ suc x) × ((j : ℕ) → (j ≡ i → ⊥) → g' j ≡ g j)) {x = suc b - 1} {y = b} (omega arith) e)
    told_at_lem (suc b) refining i true m a h r e = absurd h
    told_at_lem (suc b) pixels i false m a h r e = told_pixels b i m (ltb i I) (eqb (get_or m i 0) 1) a refl refl h r (subst (λ (x : ℕ). GrownAt pixels x (look_at I (suc b) pixels i false m) g g') {x = suc b - 1} {y = b} (omega arith) e)
    told_at_lem (suc b) sets i false m a h r e = told_sets_lem b i m (ltb i I) (eqb (get_or m i 0) 5) (eqb (get_or m i 0) 6) (eqb (get_or m i 0) 4) a refl refl refl refl h r (subst (λ (x : ℕ). GrownAt sets x (look_at I (suc b) sets i false m) g g') {x = suc b - 1} {y = b} (omega arith) e)
    told_at_lem (suc b) refining i false m a h r e = told_refining b i m (ltb i I) (eqb (get_or m i 0) 3) (eqb (get_or m i 0) 2) a refl refl refl h r (subst (λ (x : ℕ). GrownAt refining x (look_at I (suc b) refining i false m) g g') {x = suc b - 1} {y = b} (omega arith) e)
