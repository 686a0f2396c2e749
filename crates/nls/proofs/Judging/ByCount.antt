-- The clash at the last root by a count: there D + 3D/4 - 1 bits were used in the first plane exactly if no 1 was read.
use mathlib.Core.Path.{◌≡◌, refl, sym, ap, subst, ◌∙◌}
use mathlib.Core.Bool.{Bool, true, false, not, ◌||◌, true≢false, false≢true, or-true, or-false, or_assoc}
use mathlib.Core.Logic.{◌⊎◌, inl, inr}
use mathlib.Core.Option.{some}
use mathlib.Core.List.{List, [], ◌∷◌}
use Prim.Native.Nat.{ℕ, zero, suc, ◌+◌, ◌*◌, ◌-◌, ◌/◌, ◌%◌, ◌^◌, ◌≤◌, ◌<◌}
use native.Mathlib.Omega.{arith}
use native.Mathlib.Decide.{dec_lt, ℕ_discrete}
use lib.ListN.{length, get_or}
use lib.Dec.{ltb, eqb}
use borrow.Author.Tests.{ltb-true, ltb-false, eqb-true, eqb-false, eq-eqb}
use Rattle.tree.proofs.Lists.{or_left}
use Rattle.nls.specs.Marks.{skip, set_skip, start_marks}
use Rattle.nls.specs.Scan.{State, Look, over, silent, asks, Question, Pass, pixels, sets, refining, state_at, look, look_at, look_pixels, look_sets, look_refining, tell, tell_at, tell_sets, silently, settle, moves_left, ask, asked, next, reach, start}
use Rattle.nls.proofs.Tiled.{Tiled}
use Rattle.nls.proofs.Arrays.{Bits, ◌⊑◌, told, Fit}
use Rattle.nls.proofs.Judging.Most.{most, after_o}
use Rattle.nls.proofs.Reading.Know.{least, know_o, below_o}
use Rattle.nls.proofs.Machine.Table.{Cfg, alone, stands, no_alone, no_stands, alone_no}
use Rattle.nls.proofs.Machine.Cover.{Core, is_alone, is_desc_at, is_grand_at, mark_d, sets_even, sskip_small, Desc_at, Grand_at, Alone_at}
use Rattle.nls.proofs.Machine.Steps.{Good, Good_at, good_next, good_mono}
use Rattle.nls.proofs.Judging.Clash.{Valid}
use Rattle.nls.proofs.Machine.Start.{nothing, good_start, first}
use Rattle.nls.proofs.Judging.Open.{All, All_at, All_look, Owing, all_next, all_look, all_tell, all_start, all_first}
use Rattle.nls.proofs.Judging.Refuse.{Clash_at, Clashes, owing}
use Rattle.nls.proofs.Judging.Owed.{Owed}
use Rattle.nls.proofs.Judging.Decide.{clash_by, None, clash_to, clash_from}
use Rattle.nls.proofs.Judging.Flag.{F1, Fl, on_ask1, Blank, blank_run, flag_to, flag_of, z, g1, lit}
use Rattle.nls.proofs.Judging.Decoder.{Right, Some}

module _ (N : ℕ) {D : ℕ} (P : ℕ) (sz : Tiled D (4 ^ N)) where
  abbrev I : ℕ
  I = 4 ^ N

  -- nothing but 0 and exactly x bits; or some 1 and more
  abbrev Tally : ℕ → Bool → ℕ → Type 0
  Tally n hit x = ((hit ≡ false) × (n ≡ x)) ⊎ ((hit ≡ true) × (x < n))

  abbrev pub J_at : ℕ → Bool → ℕ → Pass → ℕ → Bool → List ℕ → Type 0
  J_at n hit zero p i s m = Unit {0}
  J_at n hit (suc b) pixels i false m = suc b ≡ P → Tally n hit (D - (D - i))
  J_at n hit (suc b) pixels i true m = suc b ≡ P → (hit ≡ true) × (D - (D - i) < n)
  J_at n hit (suc b) sets i false m = suc b ≡ P → i < 4 * D → Tally n hit (D + (i / 4 - D / 4))
  J_at n hit (suc b) sets i true m = suc b ≡ P → i < 4 * D → (hit ≡ true) × (D + (i / 4 - D / 4) < n)
  J_at n hit (suc b) refining i s m = Unit {0}

  abbrev pub J : ℕ → Bool → State → Type 0
  J n hit s = J_at n hit s.left s.pass s.place s.pending s.marks

  same_tally : (n : ℕ) (hit : Bool) (x y : ℕ) → x ≡ y → Tally n hit x → Tally n hit y
  same_tally n hit x y e t = subst (λ (z : ℕ). Tally n hit z) e t

  module _ (A k w : Bits) (O : Question → Type 0) (kc : (j e : ℕ) → k.has j e ≡ true → e < P) where
    abbrev AA : ℕ → Pass → ℕ → Bool → List ℕ → Type 0
    AA l p i s m = All_at N P sz A false k w O l p i s m

    module _ (n : ℕ) (hit : Bool) where
      abbrev JL : Look → Type 0
      JL over = Unit {0}
      JL (silent t) = J n hit t
      JL (asks q) = Unit {0}

      j_pix : (b i : ℕ) (m : List ℕ) (x y : Bool) → ltb i I ≡ x → eqb (get_or m i 0) 1 ≡ y → AA (suc b) pixels i false m → J_at n hit (suc b) pixels i false m → JL (look_pixels b i m x y)
      j_pix b i m true true ex ey z j = tt
      j_pix b i m false y ex ey z j = λ e l. same_tally n hit (D - (D - i)) (D + (0 / 4 - D / 4)) (omega (arith, ltb-false i I ex)) (j e)
      j_pix b i m true false ex ey z j = λ e. same_tally n hit (D - (D - i)) (D - (D - (i + skip (get_or m i 0)))) (omega (arith, past e (dec_lt i D))) (j e)
        where
          c : Cfg
          c = z.1.0

          hi : i < I
          hi = ltb-true i I ex

          past : suc b ≡ P → Dec (i < D) → D ≤ i
          past e (no h) = omega arith
          past e (yes h) = absurd (go (alone D I c i) refl)
            where
              kinds : alone D I c i ≡ true → Dec (c.al i ≡ 2) → Dec (c.al i ≡ 3) → Dec (c.al i ≡ 4) → ⊥
              kinds a (yes q) y x = omega (arith, z.1.1.g.two i hi a q)
              kinds a (no q) (yes y) x = let r : (e : ℕ) × (b < e) × (k.has i e ≡ true) = z.1.1.fr.m3 i hi (z.1.1.g.core.tab.solo i hi a ∙ y) in omega (arith, r.1, kc i r.0 r.2)
              kinds a (no q) (no y) (yes x) = z.1.1.g.no4 i hi a x
              kinds a (no q) (no y) (no x) = eqb-false (get_or m i 0) 1 ey (omega (arith, z.1.1.g.core.tab.solo i hi a, z.1.1.g.core.rng i hi a))

              go : (x : Bool) → alone D I c i ≡ x → ⊥
              go true a = kinds a (ℕ_discrete (c.al i) 2) (ℕ_discrete (c.al i) 3) (ℕ_discrete (c.al i) 4)
              go false a = omega (arith, (no_alone D I c i a).0)

      j_sets : (b i : ℕ) (m : List ℕ) (x d g c : Bool) → ltb i I ≡ x → eqb (get_or m i 0) 5 ≡ d → eqb (get_or m i 0) 6 ≡ g → eqb (get_or m i 0) 4 ≡ c → AA (suc b) sets i false m → J_at n hit (suc b) sets i false m → JL (look_sets b i m x d g c)
      j_sets b i m true true g c ex ed eg ec z j = tt
      j_sets b i m true false true c ex ed eg ec z j = tt
      j_sets b i m true false false true ex ed eg ec z j = tt
      j_sets b i m false d g c ex ed eg ec z j = tt
      j_sets b i m true false false false ex ed eg ec z j = λ e l. step e l (dec_lt i D)
        where
          c : Cfg
          c = z.1.0

          hi : i < I
          hi = ltb-true i I ex

          kk : Core sz z.1.0 m
          kk = z.1.1.g.core

          four : i % 4 ≡ 0
          four = sets_even sz _ _ i z.1.0 m z.1.1.g hi (eqb-false (get_or m i 0) 4 ec)

          low : i < D → get_or m i 0 < 5
          low h = go (alone D I z.1.0 i) refl
            where
              go : (x : Bool) → alone D I z.1.0 i ≡ x → get_or m i 0 < 5
              go true a = omega (arith, kk.tab.solo i hi a, kk.rng i hi a)
              go false a = absurd (omega (arith, (no_alone D I z.1.0 i a).0))

          mid : suc b ≡ P → D ≤ i → i < 4 * D → (x : Bool) → z.1.0.s_d (i / 4) ≡ x → ⊥
          mid e lo h true s = pick (alone D I z.1.0 i) refl
            where
              a4 : z.1.0.al i ≡ 4
              a4 = ap (λ (y : ℕ). z.1.0.al y) {x = i} {y = 4 * (i / 4)} (omega (arith, four)) ∙ z.1.1.rs e (i / 4) (omega (arith, four)) (omega arith) (omega (arith, four)) s

              pick : (x : Bool) → alone D I z.1.0 i ≡ x → ⊥
              pick true a = eqb-false _ _ ec (kk.tab.solo i hi a ∙ a4)
              pick false a = true≢false (sym s ∙ (no_alone D I z.1.0 i a).1)
          mid e lo h false s = eqb-false _ _ ed (ap (λ (y : ℕ). get_or m y 0) {x = i} {y = 4 * (i / 4)} (omega (arith, four)) ∙ mark_d sz z.1.0 m kk (i / 4) (omega (arith, four)) (omega (arith, four)) (st (stands D I z.1.0 (i / 4)) refl) s)
            where
              st : (x : Bool) → stands D I z.1.0 (i / 4) ≡ x → stands D I z.1.0 (i / 4) ≡ true
              st true y = y
              st false y = absurd (omega (arith, (no_stands D I z.1.0 (i / 4) y).0))

          step : suc b ≡ P → i + set_skip (get_or m i 0) < 4 * D → Dec (i < D) → Tally n hit (D + ((i + set_skip (get_or m i 0)) / 4 - D / 4))
          step e l (yes h) = same_tally n hit (D + (i / 4 - D / 4)) (D + ((i + set_skip (get_or m i 0)) / 4 - D / 4)) (omega (arith, four, sskip_small (get_or m i 0) (low h))) (j e (omega arith))
          step e l (no h) = absurd (mid e (omega arith) (omega arith) (z.1.0.s_d (i / 4)) refl)

      j_fine : (b i : ℕ) (m : List ℕ) (x s y : Bool) → AA (suc b) refining i false m → JL (look_refining b i m x s y)
      j_fine b i m true true y z = tt
      j_fine b i m true false true z = tt
      j_fine b i m true false false z = tt
      j_fine zero i m false s y z = tt
      j_fine (suc b) i m false s y z = λ e. absurd (omega (arith, z.1.1.ho.hi))

      j_look : (l : ℕ) (p : Pass) (i : ℕ) (s : Bool) (m : List ℕ) → AA l p i s m → J_at n hit l p i s m → JL (look_at I l p i s m)
      j_look zero p i s m z j = tt
      j_look (suc b) p i true m z j = tt
      j_look (suc b) pixels i false m z j = j_pix b i m (ltb i I) (eqb (get_or m i 0) 1) refl refl z j
      j_look (suc b) sets i false m z j = j_sets b i m (ltb i I) (eqb (get_or m i 0) 5) (eqb (get_or m i 0) 6) (eqb (get_or m i 0) 4) refl refl refl refl z j
      j_look (suc b) refining i false m z j = j_fine b i m (ltb i I) (eqb (get_or m i 0) 3) (eqb (get_or m i 0) 2) z

      j_quiet : (x : ℕ) (s : State) → All N P sz A false k w O s → J n hit s → J n hit (silently I x s)
      unfolding silently
      j_quiet zero s z j = j
      j_quiet (suc x) s z j = go (look I s) (all_look N P sz A false k w O s.left s.pass s.place s.pending s.marks z) (j_look s.left s.pass s.place s.pending s.marks z j) (j_quiet x)
        where
          go : (L : Look) → All_look N P sz A false k w O L → JL L → ((t : State) → All N P sz A false k w O t → J n hit t → J n hit (silently I x t)) → J n hit (elim L as (λ _. State) [ over ↦ s | silent t ↦ silently I x t | asks q ↦ s ])
          go over y u ih = j
          go (silent t) y u ih = ih t y u
          go (asks q) y u ih = j

      j_settle : (s : State) → All N P sz A false k w O s → J n hit s → J n hit (settle I s)
      unfolding settle
      j_settle s z j = j_quiet (moves_left I s) s z j

    -- answers
    module _ (n : ℕ) (hit : Bool) (fl : Type 0) (fn : hit ≡ false → fl → ⊥) where
      over1 : (x : ℕ) → Tally n hit x → x < n + 1
      over1 x (inl t) = omega (arith, t.1)
      over1 x (inr t) = omega (arith, t.1)

      on_0 : (x y : ℕ) → y ≡ x + 1 → Tally n hit x → Tally (n + 1) (hit || false) y
      on_0 x y e (inl t) = inl (or-false hit ∙ t.0, omega (arith, t.1))
      on_0 x y e (inr t) = inr (or_left hit false t.0, omega (arith, t.1))

      jt_pix : (b i : ℕ) (m : List ℕ) (x y a : Bool) → ltb i I ≡ x → eqb (get_or m i 0) 1 ≡ y → AA (suc b) pixels i false m → J_at n hit (suc b) pixels i false m → told N A (asked I (look_pixels b i m x y)) a
          → J (n + 1) (hit || a) (tell_at I (suc b) pixels i false m a)
      jt_pix b i m false y a ex ey z j t = absurd t
      jt_pix b i m true false a ex ey z j t = absurd t
      jt_pix b i m true true true ex ey z j t = λ e. (or-true hit, over1 (D - (D - i)) (j e))
      jt_pix b i m true true false ex ey z j t = λ e. on_0 (D - (D - i)) (D - (D - (i + 1))) (omega (arith, low e (dec_lt i D))) (j e)
        where
          mk : get_or m i 0 ≡ 1
          mk = eqb-true _ _ ey

          it : Alone_at D I z.1.0 m i
          it = is_alone sz z.1.0 m z.1.1.g.core i (ltb-true i I ex) (omega (arith, mk)) (omega (arith, mk))

          low : suc b ≡ P → Dec (i < D) → i < D
          low e (yes h) = h
          low e (no h) = absurd (true≢false (sym it.0 ∙ alone_no D I z.1.0 i (omega arith) (z.1.1.np e (i / 4))))

      jt_sets : (b i : ℕ) (m : List ℕ) (x d g c a : Bool) → ltb i I ≡ x → eqb (get_or m i 0) 5 ≡ d → eqb (get_or m i 0) 6 ≡ g → eqb (get_or m i 0) 4 ≡ c → AA (suc b) sets i false m
          → Good_at sz P (F1 fl) (suc b) sets i false m → J_at n hit (suc b) sets i false m → told N A (asked I (look_sets b i m x d g c)) a → J (n + 1) (hit || a) (tell_sets I (suc b) i m a d g)
      jt_sets b i m false d g c a ex ed eg ec z f j t = absurd t
      jt_sets b i m true false false false a ex ed eg ec z f j t = absurd t
      jt_sets b i m true true g c true ex ed eg ec z f j t = λ e l. inr (or-true hit, over1 (D + (i / 4 - D / 4)) (j e l))
      jt_sets b i m true true g c false ex ed eg ec z f j t = λ e l.
          (let is : Desc_at D I z.1.0 i = is_desc_at sz z.1.0 m z.1.1.g.core i (ltb-true i I ex) (eqb-true _ _ ed) in
          on_0 (D + (i / 4 - D / 4)) (D + ((i + 4) / 4 - D / 4)) (omega (arith, is.0, is.3)) (j e (omega arith)))
      jt_sets b i m true false true c true ex ed eg ec z f j t = λ e l. absurd (far (is_grand_at sz z.1.0 m z.1.1.g.core i (ltb-true i I ex) (eqb-true _ _ eg)) l)
        where
          far : Grand_at D I z.1.0 i → i < 4 * D → ⊥
          far r l = omega (arith, r.0, r.3)
      jt_sets b i m true false true c false ex ed eg ec z f j t = λ e l. absurd (far (is_grand_at sz z.1.0 m z.1.1.g.core i (ltb-true i I ex) (eqb-true _ _ eg)) l)
        where
          far : Grand_at D I z.1.0 i → i + 16 < 4 * D → ⊥
          far r l = omega (arith, r.0, r.3)
      jt_sets b i m true false false true true ex ed eg ec z f j t = λ e l. (or-true hit, over1 (D + (i / 4 - D / 4)) (j e l))
      jt_sets b i m true false false true false ex ed eg ec z f j t = λ e l. go (j e (omega arith))
        where
          mk : get_or m i 0 ≡ 4
          mk = eqb-true _ _ ec

          hi : i < I
          hi = ltb-true i I ex

          lo : D ≤ i
          lo = (z.1.1.fr.c4 hi mk).0

          it : Alone_at D I f.1.0 m i
          it = is_alone sz f.1.0 m f.1.1.core i hi (omega (arith, mk)) (omega (arith, mk))

          was : (x : Bool) → f.1.0.s_d (i / 4) ≡ x → fl
          was true s = f.1.1.more.q_d (i / 4) s
          was false s = absurd (true≢false (sym it.0 ∙ alone_no D I f.1.0 i lo s))

          go : Tally n hit (D + (i / 4 - D / 4)) → Tally (n + 1) (hit || false) (D + ((i + 1) / 4 - D / 4))
          go (inl r) = absurd (fn r.0 (was (f.1.0.s_d (i / 4)) refl))
          go (inr r) = inr (or_left hit false r.0, omega (arith, r.1))

      jt : (l : ℕ) (p : Pass) (i : ℕ) (s : Bool) (m : List ℕ) (a : Bool) → AA l p i s m → Good_at sz P (F1 fl) l p i s m → J_at n hit l p i s m → told N A (asked I (look_at I l p i s m)) a → J (n + 1) (hit || a) (tell_at I l p i s m a)
      jt zero p i s m a z f j t = absurd t
      jt (suc b) pixels i true m a z f j t = λ e. inr (or_left hit a (j e).0, omega (arith, (j e).1))
      jt (suc b) sets i true m a z f j t = λ e l. inr (or_left hit a (j e (omega arith)).0, omega (arith, (j e (omega arith)).1))
      jt (suc b) refining i true m a z f j t = absurd z
      jt (suc b) pixels i false m a z f j t = jt_pix b i m (ltb i I) (eqb (get_or m i 0) 1) a refl refl z j t
      jt (suc b) sets i false m a z f j t = jt_sets b i m (ltb i I) (eqb (get_or m i 0) 5) (eqb (get_or m i 0) 6) (eqb (get_or m i 0) 4) a refl refl refl refl z f j t
      jt (suc b) refining i false m a z f j t = tt

  module _ (A : Bits) (va : Valid I P A) where
    capk : (k : Bits) → k ⊑ A → (j e : ℕ) → k.has j e ≡ true → e < P
    unfolding ◌⊑◌
    capk k l j e h = va.cap j e (l j e h)

    j_next : (k w : Bits) (O : Question → Type 0) (n : ℕ) (hit : Bool) (fl : Type 0) → (hit ≡ false → fl → ⊥) → (s : State) (a : Bool) → k ⊑ A → All N P sz A false k w O s → Good sz P (F1 fl) s → J n hit s → told N A (ask I s) a
        → J (n + 1) (hit || a) (next I s a)
    unfolding next ask
    j_next k w O n hit fl fn s a l z f j t =
        j_settle A (know_o (ask I s) a k) (after_o N (ask I s) a w) (λ p. O p ⊎ ((a ≡ true) × (ask I s ≡ some p))) (capk (know_o (ask I s) a k) (below_o N A k (ask I s) a t l)) (n + 1) (hit || a) (tell I s a)
        (all_tell N P sz A false k w O (λ p. O p ⊎ ((a ≡ true) × (ask I s ≡ some p))) s.left s.pass s.place s.pending s.marks a z t (λ p x. x))
        (jt A k w O (capk k l) n hit fl fn s.left s.pass s.place s.pending s.marks a z f j t)

    good1 : (s : State) (a : Bool) (fl : Type 0) → Good sz P (F1 fl) s → told N A (ask I s) a → Good sz P (F1 (fl ⊎ (a ≡ true))) (next I s a)
    unfolding ask
    good1 s a fl g t = good_next sz P (F1 (fl ⊎ (a ≡ true))) (λ j. ⊥) s a
        (good_mono sz P (F1 fl) (F1 (fl ⊎ (a ≡ true))) (λ b j x. x) (λ j x. x) (λ b j x. inl x) (λ b j x. inl x) (λ j z. z) s g) (on_ask1 N P sz A fl a (look I s) t)

    fn_next : (hit a : Bool) (fl : Type 0) → (hit ≡ false → fl → ⊥) → (hit || a) ≡ false → fl ⊎ (a ≡ true) → ⊥
    fn_next true a fl n e x = true≢false e
    fn_next false a fl n e (inl x) = n refl x
    fn_next false a fl n e (inr x) = true≢false (sym x ∙ e)

    j_run : (k w : Bits) (O : Question → Type 0) (n : ℕ) (hit : Bool) (fl : Type 0) → (hit ≡ false → fl → ⊥) → (s : State) (u : List Bool) → k ⊑ A → All N P sz A false k w O s → Good sz P (F1 fl) s → J n hit s
        → Fit N A s u → J (n + length u) (hit || lit u) (reach (4 ^ N) s u)
    unfolding reach lit
    j_run k w O n hit fl fn s [] l z g j f = subst (λ (x : Bool). J (n + 0) x s) (sym (or-false hit)) (subst (λ (x : ℕ). J x hit s) {x = n} {y = n + 0} (omega arith) j)
    j_run k w O n hit fl fn s (a ∷ u) l z g j f =
        subst (λ (x : Bool). J (n + suc (length u)) x (reach (4 ^ N) (next I s a) u)) (or_assoc hit a (lit u))
        (subst (λ (x : ℕ). J x ((hit || a) || lit u) (reach (4 ^ N) (next I s a) u)) {x = (n + 1) + length u} {y = n + suc (length u)} (omega arith)
        (j_run (know_o (ask I s) a k) (after_o N (ask I s) a w) (λ p. O p ⊎ ((a ≡ true) × (ask I s ≡ some p))) (n + 1) (hit || a) (fl ⊎ (a ≡ true)) (fn_next hit a fl fn) (next I s a) u
        (below_o N A k (ask I s) a f.0 l) (all_next N P sz A false k w O s a z f.0) (good1 s a fl g f.0) (j_next k w O n hit fl fn s a l z g j f.0) f.1))

    j_start : J 0 false (start I D P)
    unfolding start start_marks
    j_start = j_settle A nothing (record { has = λ i b. ltb b P; neg = λ i. false }) (λ p. ⊥) (λ j e h. absurd (false≢true h)) 0 false (state_at P pixels 0 (first sz)) (all_first N P sz A false) (go P)
      where
        go : (l : ℕ) → J 0 false (state_at l pixels 0 (first sz))
        go zero = tt
        go (suc b) = λ e. inl (refl, omega arith)

    pub tally : (u : List Bool) → Fit N A (start I D P) u → J (length u) (lit u) (reach (4 ^ N) (start I D P) u)
    unfolding ◌⊑◌
    tally u f = subst (λ (x : ℕ). J x (lit u) (reach (4 ^ N) (start I D P) u)) {x = 0 + length u} {y = length u} (omega arith)
        (j_run nothing (record { has = λ i b. ltb b P; neg = λ i. false }) (λ p. ⊥) 0 false ⊥ (λ e y. y) (start I D P) u (λ i b h. absurd (false≢true h)) (all_start N P sz A false)
        (good_start sz P (F1 ⊥) (λ j y. y)) j_start f)

-- the clash, with the number of bits used
abbrev pub count_st : ℕ → ℕ → ℕ → ℕ → ℕ → Pass → ℕ → Bool → List ℕ → Bool
count_st I D P used zero p i s m = false
count_st I D P used (suc b) pixels i s m = false
count_st I D P used (suc b) refining i s m = false
count_st I D P used (suc b) sets i true m = false
count_st I D P used (suc b) sets i false m = clash_by I D P b i m (eqb used (D + 3 * D / 4 - 1))

unfoldable pub clash_count : ℕ → ℕ → ℕ → ℕ → State → Bool
clash_count I D P used s = count_st I D P used s.left s.pass s.place s.pending s.marks

module _ (N : ℕ) {D : ℕ} (P : ℕ) (sz : Tiled D (4 ^ N)) where
  abbrev II : ℕ
  II = 4 ^ N

  abbrev S : State
  S = start II D P

  -- at the last root the count and the flag say the same
  counts : (n i : ℕ) (hit : Bool) → i + 4 ≡ 4 * D → ((hit ≡ false) × (n ≡ D + (i / 4 - D / 4))) ⊎ ((hit ≡ true) × (D + (i / 4 - D / 4) < n)) → (eqb n (D + 3 * D / 4 - 1) ≡ true → hit ≡ false) × (not hit ≡ true → eqb n (D + 3 * D / 4 - 1) ≡ true)
  counts n i hit te (inl t) = ((λ e. t.0), λ e. eq-eqb n (D + 3 * D / 4 - 1) (omega (arith, t.1)))
  counts n i hit te (inr t) = ((λ e. absurd (omega (arith, t.1, eqb-true n (D + 3 * D / 4 - 1) e))), λ e. absurd (true≢false (sym e ∙ ap not t.0)))

  module _ (A : Bits) (va : Valid II P A) (u : List Bool) (f : Fit N A (start II D P) u) (k w : Bits) (O : Question → Type 0) (nb : lit u ≡ false → Blank k)
      (ow : (p : Question) → Owed N (start II D P) u p → O p) where
    ok : (b i : ℕ) (m : List ℕ) → All_at N P sz A false k w O (suc b) sets i false m → Good_at sz P (F1 (Fl u ⊥)) (suc b) sets i false m → J_at N P sz (length u) (lit u) (suc b) sets i false m
        → get_or m i 0 ≡ 5 → i + 4 ≡ 4 * D → suc b ≡ P → eqb (length u) (D + 3 * D / 4 - 1) ≡ true → None D i m
    ok b i m z g j a1 a2 a3 n =
        let h : lit u ≡ false = (counts (length u) i (lit u) a2 (j a3 (omega arith))).0 n in
        flag_to N P sz A u f k w O b i m (omega arith) a1 a2 z g (nb h) h

    ko : (b i : ℕ) (m : List ℕ) → All_at N P sz A false k w O (suc b) sets i false m → J_at N P sz (length u) (lit u) (suc b) sets i false m
        → get_or m i 0 ≡ 5 → i + 4 ≡ 4 * D → suc b ≡ P → None D i m → eqb (length u) (D + 3 * D / 4 - 1) ≡ true
    ko b i m z j a1 a2 a3 n = (counts (length u) i (lit u) a2 (j a3 (omega arith))).1 (flag_of N P sz A u f k w O b i m (omega arith) a1 a2 z ow n (lit u) refl)

    both_at : (l : ℕ) (p : Pass) (i : ℕ) (s : Bool) (m : List ℕ) → All_at N P sz A false k w O l p i s m → Good_at sz P (F1 (Fl u ⊥)) l p i s m → J_at N P sz (length u) (lit u) l p i s m
        → (count_st II D P (length u) l p i s m ≡ true → Clash_at N P sz l p i s m) × (Clash_at N P sz l p i s m → count_st II D P (length u) l p i s m ≡ true)
    both_at zero p i s m z g j = ((λ e. false≢true e), λ e. absurd e)
    both_at (suc b) pixels i s m z g j = ((λ e. false≢true e), λ e. absurd e)
    both_at (suc b) refining i s m z g j = ((λ e. false≢true e), λ e. absurd e)
    both_at (suc b) sets i true m z g j = ((λ e. false≢true e), λ e. absurd e)
    both_at (suc b) sets i false m z g j = (
      (λ e. clash_to D II P b i m (eqb (length u) (D + 3 * D / 4 - 1)) (ok b i m z g j) (ko b i m z j) e),
      λ e. clash_from D II P b i m (eqb (length u) (D + 3 * D / 4 - 1)) (ok b i m z g j) (ko b i m z j) e,
    )

  both_of : (u : List Bool) → (w : Some N P sz u) → (count_st II D P (length u) (reach (4 ^ N) S u).left (reach (4 ^ N) S u).pass (reach (4 ^ N) S u).place (reach (4 ^ N) S u).pending (reach (4 ^ N) S u).marks ≡ true → Clashes N P sz (reach (4 ^ N) S u))
      × (Clashes N P sz (reach (4 ^ N) S u) → count_st II D P (length u) (reach (4 ^ N) S u).left (reach (4 ^ N) S u).pass (reach (4 ^ N) S u).place (reach (4 ^ N) S u).pending (reach (4 ^ N) S u).marks ≡ true)
  both_of u w = both_at w.0 w.1 u w.2 (least N S u nothing) (most N S u (record { has = λ i b. ltb b P; neg = λ i. false })) (Owing N S u (λ p. ⊥))
      (λ h. blank_run N S u nothing h (λ j e y. false≢true y)) (λ p o. owing N P sz w.0 false S u (λ p. ⊥) p o)
      (reach (4 ^ N) S u).left (reach (4 ^ N) S u).pass (reach (4 ^ N) S u).place (reach (4 ^ N) S u).pending (reach (4 ^ N) S u).marks
      (z N P sz w.0 u w.2) (g1 N P sz w.0 u w.2) (tally N P sz w.0 w.1 u w.2)

  -- the test with the number of bits used is the clash
  pub right_count : Right N P sz (λ used s. clash_count II D P used s)
  unfolding clash_count
  right_count = record { to = λ u w e. (both_of u w).0 e; of = λ u w e. (both_of u w).1 e }
