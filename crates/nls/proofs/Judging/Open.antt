-- The invariant for refusals, along a run that W fits: the cover, what is open, what is owed, all with one choice of the split sets.
use mathlib.Core.Path.{◌≡◌, refl, sym, ap, subst, ◌∙◌}
use mathlib.Core.Bool.{Bool, true, false, ◌&&◌, ◌||◌, true≢false, false≢true}
use mathlib.Core.Logic.{◌⊎◌, inl, inr}
use mathlib.Core.Option.{some}
use mathlib.Core.List.{List, [], ◌∷◌}
use Prim.Native.Nat.{ℕ, zero, suc, ◌+◌, ◌*◌, ◌/◌, ◌^◌, ◌≤◌, ◌<◌}
use native.Mathlib.Omega.{arith}
use native.Mathlib.Decide.{ℕ_discrete}
use lib.ListN.{get_or, set}
use lib.Dec.{ltb, eqb, lit<, lit≤}
use borrow.Author.Tests.{ltb-true, ltb-false, lt-ltb, eqb-true, eqb-false}
use Rattle.sizes.proofs.Laws.{both_right}
use Rattle.nls.specs.Marks.{skip, set_skip, split_desc, split_grand, start_marks}
use Rattle.nls.specs.Scan.{State, Look, over, silent, asks, Question, bit_of, sign_of, in_desc, in_grand, Pass, pixels, sets, refining, state_at, look, look_at, look_pixels, look_sets, look_refining, tell, tell_at, tell_sets, silently, settle, moves_left, ask, asked, next, reach, start}
use Rattle.nls.proofs.Tiled.{Tiled}
use Rattle.nls.proofs.Arrays.{Bits, ans, inside, below, ◌⊑◌, told, sign, Fit}
use Rattle.nls.proofs.Machine.Table.{Cfg, alone, alone_no}
use Rattle.nls.proofs.Machine.Split.{with_d, with_g, with_a, same_d, same_g, al_at, al_else, al_d_on, al_d_off, s_d_off}
use Rattle.nls.proofs.Machine.Push.{al_g, s_d_g}
use Rattle.nls.proofs.Machine.Cover.{Under, Preds, hide, is_alone, Pix, Sets, Fine, pix_hush, pix_zero, pix_one, pix_end, sets_hush, sets_d0, sets_d1, sets_g0, sets_g1, sets_c, sets_end, fine_hush, fine_ask, fine_np, fine_end, is_desc_at, is_grand_at, More, Desc_at, Grand_at, Alone_at}
use Rattle.nls.proofs.Machine.Steps.{Fam, preds, From, more_z, pix_z, sets_z, fine_z}
use Rattle.nls.proofs.Judging.Most.{after_o, after, clear, stays, most}
use Rattle.nls.proofs.Reading.Know.{know, know_o, know_grows, know_one, know_sgn_has, know_neg, add, least}
use Rattle.nls.proofs.Reading.Told.{fam, Known, Zof, learned, below_under}
use Rattle.nls.proofs.Judging.Clash.{dead_d, dead_g}
use Rattle.nls.proofs.Judging.Fresh.{PixFr, SetFr, FineFr, frp_hush, frp_one, frp_end, frs_end, frf_hush, frf_np, frs_c, frp_zero, frs_hush, frs_d0, frs_g0, frs_d1, frs_g1, frf_end}
use Rattle.nls.proofs.Judging.Debt.{Hold, Debt, hold_w, hold_z, hold_a, hold_d, hold_g, hold_down, debt_c, debt_down, debt_o, debt_one, debt_d, debt_g}
use Rattle.nls.proofs.Machine.Start.{pix_0, first, c0, nothing}

abbrev pub T : Bits → ℕ → ℕ → Type 0
T w b j = w.has j b ≡ true

abbrev pub M : Bits → ℕ → ℕ → Type 0
M k e j = k.has j e ≡ true

some_inj : (p q : Question) → some p ≡ some q → p ≡ q
some_inj p q e = cc

-- what an answer 0 leaves
module _ (N : ℕ) where
  pub clear_out : (q : Question) (b : ℕ) (w : Bits) (j e : ℕ) → (inside N q j ≡ true → e ≡ b → ⊥) → w.has j e ≡ true → (clear N q b w).has j e ≡ true
  unfolding clear
  clear_out q b w j e n h = stays (inside N q j) (eqb e b) (w.has j e) (λ x y. n x (eqb-true e b y)) h

  pub one0 : (i b : ℕ) (w : Bits) (j e : ℕ) → (j ≡ i → e ≡ b → ⊥) → w.has j e ≡ true → (after N (bit_of i b) false w).has j e ≡ true
  unfolding after inside
  one0 i b w j e n h = clear_out (bit_of i b) b w j e (λ x. n (eqb-true j i x)) h

  pub desc0 : (g b : ℕ) (w : Bits) (j e : ℕ) → (Under g j → e ≡ b → ⊥) → w.has j e ≡ true → (after N (in_desc g b) false w).has j e ≡ true
  unfolding after inside
  desc0 g b w j e n h = clear_out (in_desc g b) b w j e (λ x. n (below_under N g j (both_right (ltb j (4 ^ N)) (below N g j) x))) h

  pub grand0 : (g b : ℕ) (w : Bits) (j e : ℕ) → (Under g (j / 4) → e ≡ b → ⊥) → w.has j e ≡ true → (after N (in_grand g b) false w).has j e ≡ true
  unfolding after inside
  grand0 g b w j e n h = clear_out (in_grand g b) b w j e (λ x. n (below_under N g (j / 4) (both_right (ltb j (4 ^ N)) (below N g (j / 4)) x))) h

  pub sgn_has : (i : ℕ) (a : Bool) (w : Bits) (j e : ℕ) → (after N (sign_of i) a w).has j e ≡ w.has j e
  unfolding after sign
  sgn_has i true w j e = refl
  sgn_has i false w j e = refl

  sgn_neg : (i : ℕ) (a : Bool) (w : Bits) (j : ℕ) → (j ≡ i → ⊥) → (after N (sign_of i) a w).neg j ≡ w.neg j
  unfolding after sign
  sgn_neg i a w j n = go a (eqb j i) refl
    where
      go : (a : Bool) (x : Bool) → eqb j i ≡ x → (after N (sign_of i) a w).neg j ≡ w.neg j
      go true true q = absurd (n (eqb-true j i q))
      go true false q = rw (q, after, sign)
      go false true q = absurd (n (eqb-true j i q))
      go false false q = rw (q, after, sign)

-- what was answered 1 in u, on top of O
abbrev pub Owing : ℕ → State → List Bool → (Question → Type 0) → Question → Type 0
Owing N s [] O = O
Owing N s (a ∷ u) O = Owing N (next (4 ^ N) s a) u (λ p. O p ⊎ ((a ≡ true) × (ask (4 ^ N) s ≡ some p)))

module _ (N : ℕ) {D : ℕ} (P : ℕ) (sz : Tiled D (4 ^ N)) (W : Bits) (vv : Bool) where
  abbrev I : ℕ
  I = 4 ^ N

  abbrev pub G : Bits → Fam
  G k = fam N W k

  pub record InPix (R : Preds) (k w : Bits) (O : Question → Type 0) (b t : ℕ) (c : Cfg) (m : List ℕ) : Type 0 where
    pub g : Pix sz R (Known W k b) t c m
    pub fr : PixFr sz (T w) (M k) b t m
    pub ho : Hold D I P w vv b 0 c
    pub de : Debt I O k b (suc b) 0 c
    pub np : suc b ≡ P → (h : ℕ) → c.s_d h ≡ false

  pub record InSets (R : Preds) (k w : Bits) (O : Question → Type 0) (b t : ℕ) (c : Cfg) (m : List ℕ) : Type 0 where
    pub g : Sets sz R (Known W k b) t c m
    pub fr : SetFr sz (T w) (M k) b t m
    pub ho : Hold D I P w vv b 0 c
    pub de : Debt I O k b b 0 c
    pub rs : suc b ≡ P → (h : ℕ) → D ≤ 4 * h → h < D → t ≤ 4 * h → c.s_d h ≡ true → c.al (4 * h) ≡ 4

  pub record InFine (R : Preds) (k w : Bits) (O : Question → Type 0) (b t : ℕ) (c : Cfg) (m : List ℕ) : Type 0 where
    pub g : Fine sz R (Known W k b) t c m
    pub fr : FineFr sz (T w) (M k) b t m
    pub ho : Hold D I P w vv b t c
    pub de : Debt I O k b b t c

  abbrev pub FromK : Bits → ℕ → Type 0
  FromK k b = From sz P (G k) b

  abbrev pub All_at : Bits → Bits → (Question → Type 0) → ℕ → Pass → ℕ → Bool → List ℕ → Type 0
  All_at k w O zero p i s m = Unit {0}
  All_at k w O (suc b) pixels i false m = FromK k (suc b) × ((c : Cfg) × InPix (preds (G k) b) k w O b i c m)
  All_at k w O (suc b) pixels i true m = FromK k (suc b) × ((c : Cfg) × InPix (hide i (preds (G k) b)) k w O b i c m) × (i < I) × (get_or m i 0 ≡ 1) × Known W k b i × (k.has i b ≡ true)
  All_at k w O (suc b) sets i false m = FromK k (suc b) × ((c : Cfg) × InSets (preds (G k) b) k w O b i c m)
  All_at k w O (suc b) sets i true m = FromK k (suc b) × ((c : Cfg) × InSets (hide i (preds (G k) b)) k w O b i c m) × (i < I) × (get_or m i 0 ≡ 4) × Known W k b i × (k.has i b ≡ true)
  All_at k w O (suc b) refining i false m = FromK k (suc b) × ((c : Cfg) × InFine (preds (G k) b) k w O b i c m)
  All_at k w O (suc b) refining i true m = ⊥

  abbrev pub All : Bits → Bits → (Question → Type 0) → State → Type 0
  All k w O s = All_at k w O s.left s.pass s.place s.pending s.marks

  -- ---- silent moves
  module _ (k w : Bits) (O : Question → Type 0) where
    abbrev pub All_look : Look → Type 0
    All_look over = Unit {0}
    All_look (silent t) = All k w O t
    All_look (asks q) = Unit {0}

    all_pix : (b i : ℕ) (m : List ℕ) (x y : Bool) → ltb i I ≡ x → eqb (get_or m i 0) 1 ≡ y → All_at k w O (suc b) pixels i false m → All_look (look_pixels b i m x y)
    all_pix b i m true true ex ey z = tt
    all_pix b i m false y ex ey z =
        let c : Cfg = z.1.0 in
        let p : InPix (preds (G k) b) k w O b i c m = z.1.1 in (
          z.0,
          (
            c,
            record {
              g = pix_end sz (preds (G k) b) (Known W k b) i c m p.g (ltb-false i I ex);
              fr = frp_end sz (preds (G k) b) (Known W k b) (T w) (M k) b i c m p.g p.fr;
              ho = p.ho;
              de = debt_c I O k b (suc b) b 0 0 c c p.de (omega arith) (λ h e. e) (λ h e. e) (λ j e f. f e);
              rs = λ e h lo hd l y. absurd (true≢false (sym y ∙ p.np e h));
            },
          ),
        )
    all_pix b i m true false ex ey z =
        let c : Cfg = z.1.0 in
        let p : InPix (preds (G k) b) k w O b i c m = z.1.1 in (
          z.0,
          (
            c,
            record {
              g = pix_hush sz (preds (G k) b) (Known W k b) i c m p.g (ltb-true i I ex) (eqb-false _ _ ey);
              fr = frp_hush sz (preds (G k) b) (Known W k b) (T w) (M k) b i (skip (get_or m i 0)) m p.fr;
              ho = p.ho;
              de = p.de;
              np = p.np;
            },
          ),
        )

    all_sets : (b i : ℕ) (m : List ℕ) (x d g c : Bool) → ltb i I ≡ x → eqb (get_or m i 0) 5 ≡ d → eqb (get_or m i 0) 6 ≡ g → eqb (get_or m i 0) 4 ≡ c
        → All_at k w O (suc b) sets i false m → All_look (look_sets b i m x d g c)
    all_sets b i m true true g c ex ed eg ec z = tt
    all_sets b i m true false true c ex ed eg ec z = tt
    all_sets b i m true false false true ex ed eg ec z = tt
    all_sets b i m false d g c' ex ed eg ec z =
        let c : Cfg = z.1.0 in
        let p : InSets (preds (G k) b) k w O b i c m = z.1.1 in (
          z.0,
          (
            c,
            record {
              g = sets_end sz (preds (G k) b) (Known W k b) i c m p.g (ltb-false i I ex);
              fr = frs_end sz (preds (G k) b) (Known W k b) (T w) (M k) b i m p.fr;
              ho = p.ho;
              de = p.de;
            },
          ),
        )
    all_sets b i m true false false false ex ed eg ec z =
        let c : Cfg = z.1.0 in
        let p : InSets (preds (G k) b) k w O b i c m = z.1.1 in (
          z.0,
          (
            c,
            record {
              g = sets_hush sz (preds (G k) b) (Known W k b) i c m p.g (ltb-true i I ex) (eqb-false _ _ ed) (eqb-false _ _ eg) (eqb-false _ _ ec);
              fr = frs_hush sz (preds (G k) b) (Known W k b) (T w) (M k) b i (set_skip (get_or m i 0)) c m p.g (ltb-true i I ex) p.fr (eqb-false _ _ ec);
              ho = p.ho;
              de = p.de;
              rs = λ e h lo hd l y. p.rs e h lo hd (omega arith) y;
            },
          ),
        )

    all_down : (b i : ℕ) (m : List ℕ) (c : Cfg) → I ≤ i → FromK k (suc b) → InFine (preds (G k) b) k w O b i c m → All k w O (state_at b pixels 0 m)
    all_down zero i m c ex f p = tt
    all_down (suc b) i m c ex f p =
        let r : ((j : ℕ) → j < I → Known W k (suc b) j) × Pix sz (preds (G k) (suc b)) (Known W k b) 0 c m = fine_end sz (preds (G k) (suc b)) (Known W k (suc b)) (Known W k b) i c m p.g ex in (
          (λ e h1 h2 j hj. down r.0 e h1 h2 j hj (ℕ_discrete e (suc b))),
          (
            c,
            record {
              g = record {
                core = r.1.core;
                two = r.1.two;
                no4 = r.1.no4;
                done = r.1.done;
                more = record { sg = r.1.more.sg; q_d = λ h e. (G k).dn_d b h (r.1.more.q_d h e); q_g = λ h e. (G k).dn_g b h (r.1.more.q_g h e); zs = r.1.more.zs };
              };
              fr = frf_end sz (preds (G k) (suc b)) (Known W k (suc b)) (T w) (M k) (suc b) i c m b refl p.g ex p.fr (λ j hj. p.ho.low j b (omega arith));
              ho = hold_down D I P w vv (suc b) b i c refl p.ho;
              de = debt_down I O k (suc b) b i c refl p.de;
              np = λ e. absurd (omega (arith, p.ho.hi));
            },
          ),
        )
      where
        down : ((j : ℕ) → j < I → Known W k (suc b) j) → (e : ℕ) → suc b ≤ e → e < P → (j : ℕ) → j < I → Dec (e ≡ suc b) → Known W k e j
        down x e h1 h2 j hj (yes q) = subst (λ (y : ℕ). Known W k y j) (sym q) (x j hj)
        down x e h1 h2 j hj (no q) = f e (omega arith) h2 j hj

    all_fine : (b i : ℕ) (m : List ℕ) (x s n : Bool) → ltb i I ≡ x → eqb (get_or m i 0) 3 ≡ s → eqb (get_or m i 0) 2 ≡ n → All_at k w O (suc b) refining i false m → All_look (look_refining b i m x s n)
    all_fine b i m true true n ex es en z = tt
    all_fine b i m false s n ex es en z = all_down b i m z.1.0 (ltb-false i I ex) z.0 z.1.1
    all_fine b i m true false false ex es en z =
        let c : Cfg = z.1.0 in
        let p : InFine (preds (G k) b) k w O b i c m = z.1.1 in (
          z.0,
          (
            c,
            record {
              g = fine_hush sz (preds (G k) b) (Known W k b) i c m p.g (ltb-true i I ex) (eqb-false _ _ es) (eqb-false _ _ en);
              fr = frf_hush sz (preds (G k) b) (Known W k b) (T w) (M k) b i (skip (get_or m i 0)) m p.fr;
              ho = hold_z D I P w vv b i (i + skip (get_or m i 0)) c p.ho (omega arith);
              de = debt_c I O k b b b i (i + skip (get_or m i 0)) c c p.de (omega arith) (λ h e. e) (λ h e. e) (λ j e f. omega (arith, f e));
            },
          ),
        )
    all_fine b i m true false true ex es en z = (
      z.0,
      (
        with_a i 3 c,
        record {
          g = fine_np sz (preds (G k) b) (Known W k b) i c m p.g hi mk;
          fr = frf_np sz (preds (G k) b) (Known W k b) (T w) (M k) b i m p.g.core.len hi p.fr mk;
          ho = hold_a D I P w w vv b i (i + 1) i 3 c p.ho it.0 (omega arith) (λ e. omega arith) (λ h. absurd (h (lit≤ tt) (lit≤ tt))) (λ j e h x. x) (λ j h x. x) (λ j h. refl);
          de = debt_c I O k b b b i (i + 1) c (with_a i 3 c) p.de (omega arith) (λ h e. same_d i 3 c h ∙ e) (λ h e. same_g i 3 c h ∙ e) (λ j e f. al' j e f (ℕ_discrete j i));
        },
      ),
    )
      where
        c : Cfg
        c = z.1.0

        p : InFine (preds (G k) b) k w O b i c m
        p = z.1.1

        hi : i < I
        hi = ltb-true i I ex

        mk : get_or m i 0 ≡ 2
        mk = eqb-true _ _ en

        it : Alone_at D I c m i
        it = is_alone sz c m p.g.core i hi (omega (arith, mk)) (omega (arith, mk))

        al' : (j : ℕ) → (with_a i 3 c).al j ≡ 3 → (c.al j ≡ 3 → j < i) → Dec (j ≡ i) → j < i + 1
        al' j e f (yes q) = omega arith
        al' j e f (no q) = omega (arith, f (sym (al_else i 3 c j q) ∙ e))

    pub all_look : (l : ℕ) (p : Pass) (i : ℕ) (s : Bool) (m : List ℕ) → All_at k w O l p i s m → All_look (look_at I l p i s m)
    all_look zero p i s m z = tt
    all_look (suc b) p i true m z = tt
    all_look (suc b) pixels i false m z = all_pix b i m (ltb i I) (eqb (get_or m i 0) 1) refl refl z
    all_look (suc b) sets i false m z = all_sets b i m (ltb i I) (eqb (get_or m i 0) 5) (eqb (get_or m i 0) 6) (eqb (get_or m i 0) 4) refl refl refl refl z
    all_look (suc b) refining i false m z = all_fine b i m (ltb i I) (eqb (get_or m i 0) 3) (eqb (get_or m i 0) 2) refl refl refl z

    all_quiet : (n : ℕ) (s : State) → All k w O s → All k w O (silently I n s)
    unfolding silently
    all_quiet zero s z = z
    all_quiet (suc n) s z = go (look I s) (all_look s.left s.pass s.place s.pending s.marks z) (all_quiet n)
      where
        go : (L : Look) → All_look L → ((t : State) → All k w O t → All k w O (silently I n t)) → All k w O (elim L as (λ _. State) [ over ↦ s | silent t ↦ silently I n t | asks q ↦ s ])
        go over y ih = z
        go (silent t) y ih = ih t y
        go (asks q) y ih = z

    pub all_settle : (s : State) → All k w O s → All k w O (settle I s)
    unfolding settle
    all_settle s z = all_quiet (moves_left I s) s z

  -- ---- answers
  pixfr : (S S' R R' : ℕ → ℕ → Type 0) (b t : ℕ) (m : List ℕ) → ((j : ℕ) → S b j → S' b j) → ((e j : ℕ) → R e j → R' e j) → PixFr sz S R b t m → PixFr sz S' R' b t m
  pixfr S S' R R' b t m f g p = record { todo = λ j h n. f j (p.todo j h n); m2 = λ j h e. g b j (p.m2 j h e); m3 = λ j h e. (let r : (x : ℕ) × (b < x) × R x j = p.m3 j h e in (r.0, r.1, g r.0 j r.2)) }

  setfr : (S S' R R' : ℕ → ℕ → Type 0) (b t : ℕ) (m : List ℕ) → ((j : ℕ) → S b j → S' b j) → ((e j : ℕ) → R e j → R' e j) → SetFr sz S R b t m → SetFr sz S' R' b t m
  setfr S S' R R' b t m f g p = record {
    f4 = λ j h e. f j (p.f4 j h e);
    f_d = λ x hx z e j hj u. f j (p.f_d x hx z e j hj u);
    f_g = λ x hx z e j hj u. f j (p.f_g x hx z e j hj u);
    m2 = λ j h e. g b j (p.m2 j h e);
    m3 = λ j h e. (let r : (x : ℕ) × (b < x) × R x j = p.m3 j h e in (r.0, r.1, g r.0 j r.2));
    c4 = p.c4;
  }

  finefr : (S S' R R' : ℕ → ℕ → Type 0) (b t : ℕ) (m : List ℕ) → ((e j : ℕ) → R e j → R' e j) → FineFr sz S R b t m → FineFr sz S' R' b t m
  finefr S S' R R' b t m g p = record {
    m2 = λ j h z e. g b j (p.m2 j h z e);
    m3 = λ j h e. (let r : (x : ℕ) × (b ≤ x) × R x j = p.m3 j h e in (r.0, r.1, g r.0 j r.2));
    m3u = λ j h z e. (let r : (x : ℕ) × (b < x) × R x j = p.m3u j h z e in (r.0, r.1, g r.0 j r.2));
  }

  know_back : (i b : ℕ) (k : Bits) (j x : ℕ) → (know (bit_of i b) true k).has j x ≡ true → (k.has j x ≡ true) ⊎ (x ≡ b)
  unfolding know add
  know_back i b k j x h = go (eqb j i) (eqb x b) refl h
    where
      go : (y z : Bool) → eqb x b ≡ z → ((y && z) || k.has j x) ≡ true → (k.has j x ≡ true) ⊎ (x ≡ b)
      go true true e r = inr (eqb-true x b e)
      go true false e r = inl r
      go false z e r = inl r

  module _ (k : Bits) (q : Question) (a : Bool) (eq : ans N W q ≡ a) (b : ℕ) where
    from : FromK k (suc b) → FromK (know q a k) (suc b)
    unfolding ◌⊑◌
    from f e h1 h2 j hj y = know_grows q a k j e (f e h1 h2 j hj y)

    up : (j : ℕ) → Known W k b j → Known W (know q a k) b j
    unfolding ◌⊑◌
    up j x y = know_grows q a k j b (x y)

    mo : (c : Cfg) → ((j : ℕ) → Zof (know q a k) j → Zof k j) → More sz (preds (G k) b) c → More sz (preds (G (know q a k)) b) c
    mo c z x = more_z sz (preds (G k) b) (preds (G (know q a k)) b) c (know_neg N W k q a eq) (λ j y. y) (λ j y. y) z x

    mh : (i : ℕ) (c : Cfg) → ((j : ℕ) → Zof (know q a k) j → (j ≡ i → ⊥) → Zof k j) → More sz (preds (G k) b) c → More sz (hide i (preds (G (know q a k)) b)) c
    mh i c z x = more_z sz (preds (G k) b) (hide i (preds (G (know q a k)) b)) c (know_neg N W k q a eq) (λ j y. y) (λ j y. y) (λ j e. z j e.0 e.1) x

    hh : (i : ℕ) (c : Cfg) → ((j : ℕ) → Zof (know q a k) j → Zof k j) → More sz (hide i (preds (G k) b)) c → More sz (hide i (preds (G (know q a k)) b)) c
    hh i c z x = more_z sz (hide i (preds (G k) b)) (hide i (preds (G (know q a k)) b)) c (know_neg N W k q a eq) (λ j y. y) (λ j y. y) (λ j e. (z j e.0, e.1)) x

  module _ (k w : Bits) (O O' : Question → Type 0) where
    abbrev pub Out : Bool → Look → Type 0
    Out a L = (p : Question) → O' p → O p ⊎ ((a ≡ true) × (asked I L ≡ some p))

    out1 : (a : Bool) (q : Question) → ((p : Question) → O' p → O p ⊎ ((a ≡ true) × (some q ≡ some p))) → (p : Question) → O' p → O p ⊎ (q ≡ p)
    out1 a q f p o = go (f p o)
      where
        go : O p ⊎ ((a ≡ true) × (some q ≡ some p)) → O p ⊎ (q ≡ p)
        go (inl x) = inl x
        go (inr x) = inr (some_inj q p x.1)

    out0 : (q : Question) → ((p : Question) → O' p → O p ⊎ ((false ≡ true) × (some q ≡ some p))) → (p : Question) → O' p → O p
    out0 q f p o = go (f p o)
      where
        go : O p ⊎ ((false ≡ true) × (some q ≡ some p)) → O p
        go (inl x) = x
        go (inr x) = absurd (false≢true x.0)

    -- a sign: nothing is owed but the sign
    outs : (a : Bool) (i : ℕ) (b lo z : ℕ) (c : Cfg) → Out a (asks (sign_of i)) → Debt I O k b lo z c → Debt I O' (know (sign_of i) a k) b lo z c
    outs a i b lo z c f d = record {
      o_d = λ h e o. d1.o_d h e (no (in_desc h e) (λ y. let bad : ◌≡◌ {A = ℕ} 0 1 = cc in omega arith) (out1 a (sign_of i) f (in_desc h e) o));
      o_g = λ h e o. d1.o_g h e (no (in_grand h e) (λ y. let bad : ◌≡◌ {A = ℕ} 0 1 = cc in omega arith) (out1 a (sign_of i) f (in_grand h e) o));
      o_o = λ j e o. d1.o_o j e (no (bit_of j e) (λ y. let bad : ◌≡◌ {A = ℕ} 0 1 = cc in omega arith) (out1 a (sign_of i) f (bit_of j e) o));
    }
      where
        d1 : Debt I O (know (sign_of i) a k) b lo z c
        d1 = debt_o I O O k (know (sign_of i) a k) b lo z c d (λ p o. o) (know_sgn_has i a k)

        no : (p : Question) → (sign_of i ≡ p → ⊥) → O p ⊎ (sign_of i ≡ p) → O p
        no p n (inl x) = x
        no p n (inr x) = absurd (n x)

    tellp : (b i : ℕ) (m : List ℕ) (x y a : Bool) → ltb i I ≡ x → eqb (get_or m i 0) 1 ≡ y → All_at k w O (suc b) pixels i false m → told N W (asked I (look_pixels b i m x y)) a → Out a (look_pixels b i m x y)
        → All (know_o (asked I (look_pixels b i m x y)) a k) (after_o N (asked I (look_pixels b i m x y)) a w) O' (tell_at I (suc b) pixels i false m a)
    unfolding ◌⊑◌ after
    tellp b i m false y a ex ey z t o = absurd t
    tellp b i m true false a ex ey z t o = absurd t
    tellp b i m true true true ex ey z t o = (
      from k (bit_of i b) true t b z.0,
      (
        c,
        record {
          g = pix_z sz (preds (G k) b) (hide i (preds (G (know (bit_of i b) true k)) b)) (Known W k b) (Known W (know (bit_of i b) true k) b) i c m (mh k (bit_of i b) true t b i c l.1) (up k (bit_of i b) true t b) p.g;
          fr = pixfr (T w) (T w) (M k) (M (know (bit_of i b) true k)) b i m (λ j x. x) (λ e j x. know_grows (bit_of i b) true k j e x) p.fr;
          ho = p.ho;
          de = debt_one I O O' k (know (bit_of i b) true k) b (suc b) 0 0 i c p.de (omega arith) (omega arith) hi (λ e. absurd (omega (arith, it.1, mk))) (out1 true (bit_of i b) o) (know_grows (bit_of i b) true k) (know_one i b k) (know_back i b k);
          np = p.np;
        },
      ),
      hi,
      mk,
      l.0,
      know_one i b k,
    )
      where
        c : Cfg
        c = z.1.0

        p : InPix (preds (G k) b) k w O b i c m
        p = z.1.1

        hi : i < I
        hi = ltb-true i I ex

        mk : get_or m i 0 ≡ 1
        mk = eqb-true _ _ ey

        it : Alone_at D I c m i
        it = is_alone sz c m p.g.core i hi (omega (arith, mk)) (omega (arith, mk))

        l : Known W (know (bit_of i b) true k) b i × ((j : ℕ) → Zof (know (bit_of i b) true k) j → (j ≡ i → ⊥) → Zof k j)
        l = learned N W k (bit_of i b) true t
    tellp b i m true true false ex ey z t o = (
      from k (bit_of i b) false t b z.0,
      (
        c,
        record {
          g = pix_zero sz (preds (G (know (bit_of i b) false k)) b) (Known W (know (bit_of i b) false k) b) i c m
              (pix_z sz (preds (G k) b) (preds (G (know (bit_of i b) false k)) b) (Known W k b) (Known W (know (bit_of i b) false k) b) i c m (mo k (bit_of i b) false t b c l.1) (up k (bit_of i b) false t b) p.g) l.0;
          fr = frp_zero sz (preds (G k) b) (Known W k b) (T w) (M (know (bit_of i b) false k)) b (T (after N (bit_of i b) false w)) i m
              (pixfr (T w) (T w) (M k) (M (know (bit_of i b) false k)) b i m (λ j x. x) (λ e j x. know_grows (bit_of i b) false k j e x) p.fr) mk (λ j x n. one0 N i b w j b (λ e f. n e) x);
          ho = hold_w D I P w (after N (bit_of i b) false w) vv b 0 0 c p.ho (omega arith) (λ j e h x. one0 N i b w j e (λ y f. omega arith) x) (λ j aj e h x. one0 N i b w j b (λ y f. omega (arith, it.1, mk, e, ap c.al y)) x) (λ j. unfold clear in refl);
          de = debt_o I O O' k (know (bit_of i b) false k) b (suc b) 0 c p.de (out0 (bit_of i b) o) (λ j x. unfold know in refl);
          np = p.np;
        },
      ),
    )
      where
        c : Cfg
        c = z.1.0

        p : InPix (preds (G k) b) k w O b i c m
        p = z.1.1

        hi : i < I
        hi = ltb-true i I ex

        mk : get_or m i 0 ≡ 1
        mk = eqb-true _ _ ey

        it : Alone_at D I c m i
        it = is_alone sz c m p.g.core i hi (omega (arith, mk)) (omega (arith, mk))

        l : Known W (know (bit_of i b) false k) b i × ((j : ℕ) → Zof (know (bit_of i b) false k) j → Zof k j)
        l = learned N W k (bit_of i b) false t

    -- a sign, in the pixel pass
    tellps : (b i : ℕ) (m : List ℕ) (a : Bool) → All_at k w O (suc b) pixels i true m → ans N W (sign_of i) ≡ a → Out a (asks (sign_of i)) → All (know (sign_of i) a k) (after N (sign_of i) a w) O' (state_at (suc b) pixels (i + 1) (set m i 2))
    unfolding ◌⊑◌
    tellps b i m a z t o = (
      from k (sign_of i) a t b z.0,
      (
        with_a i 2 c,
        record {
          g = pix_one sz (preds (G (know (sign_of i) a k)) b) (Known W (know (sign_of i) a k) b) i c m
              (pix_z sz (hide i (preds (G k) b)) (hide i (preds (G (know (sign_of i) a k)) b)) (Known W k b) (Known W (know (sign_of i) a k) b) i c m (hh k (sign_of i) a t b i c l.1) (up k (sign_of i) a t b) p.g) z.2 z.3 (up k (sign_of i) a t b i z.4) l.0;
          fr = frp_one sz (preds (G k) b) (Known W k b) (T (after N (sign_of i) a w)) (M (know (sign_of i) a k)) b i m p.g.core.len z.2
              (pixfr (T w) (T (after N (sign_of i) a w)) (M k) (M (know (sign_of i) a k)) b i m (λ j x. sgn_has N i a w j b ∙ x) (λ e j x. know_grows (sign_of i) a k j e x) p.fr) z.3 (know_grows (sign_of i) a k i b z.5);
          ho = hold_a D I P w (after N (sign_of i) a w) vv b 0 0 i 2 c p.ho it.0 (omega arith) (λ e. absurd (omega arith)) (λ h. absurd (h (lit≤ tt) (lit≤ tt))) (λ j e h x. sgn_has N i a w j e ∙ x) (λ j n x. sgn_has N i a w j b ∙ x) (λ j n. sgn_neg N i a w j n);
          de = debt_c I O' (know (sign_of i) a k) b (suc b) (suc b) 0 0 c (with_a i 2 c) (outs a i b (suc b) 0 c o p.de) (omega arith) (λ h e. same_d i 2 c h ∙ e) (λ h e. same_g i 2 c h ∙ e) (λ j e f. al' j e f (ℕ_discrete j i));
          np = λ e h. same_d i 2 c h ∙ p.np e h;
        },
      ),
    )
      where
        c : Cfg
        c = z.1.0

        p : InPix (hide i (preds (G k) b)) k w O b i c m
        p = z.1.1

        it : Alone_at D I c m i
        it = is_alone sz c m p.g.core i z.2 (omega (arith, z.3)) (omega (arith, z.3))

        l : ((know (sign_of i) a k).neg i ≡ W.neg i) × ((j : ℕ) → Zof (know (sign_of i) a k) j → Zof k j)
        l = learned N W k (sign_of i) a t

        al' : (j : ℕ) → (with_a i 2 c).al j ≡ 3 → (c.al j ≡ 3 → j < 0) → Dec (j ≡ i) → j < 0
        al' j e f (yes q) = absurd (omega (arith, al_at i 2 c j q))
        al' j e f (no q) = f (sym (al_else i 2 c j q) ∙ e)

    -- nothing inside a set that stands is known, in the set pass
    module _ (b i : ℕ) (m : List ℕ) (c : Cfg) (p : InSets (preds (G k) b) k w O b i c m) (hi : i < I) where
      at_d : get_or m i 0 ≡ 5 → Desc_at D I c i
      at_d mk = is_desc_at sz c m p.g.core i hi mk

      at_g : get_or m i 0 ≡ 6 → Grand_at D I c i
      at_g mk = is_grand_at sz c m p.g.core i hi mk

      in_d : get_or m i 0 ≡ 5 → (j : ℕ) → Under (i / 4) j → alone D I c j ≡ false
      in_d mk j u = dead_d sz c p.g.core.ok (i / 4) j (omega (arith, at_d mk)) (at_d mk).2 u

      in_g : get_or m i 0 ≡ 6 → (j : ℕ) → Under (i / 16) (j / 4) → alone D I c j ≡ false
      in_g mk j u = dead_g sz c p.g.core.ok (i / 16) j (at_g mk).3 (at_g mk).2 u

      new_d : get_or m i 0 ≡ 5 → (j x : ℕ) → j < I → Under (i / 4) j → k.has j x ≡ true → ⊥
      new_d mk j x hj u y = true≢false (sym (p.g.more.zs j hj (x, y)).0 ∙ in_d mk j u)

      new_g : get_or m i 0 ≡ 6 → (j x : ℕ) → j < I → Under (i / 16) (j / 4) → k.has j x ≡ true → ⊥
      new_g mk j x hj u y = true≢false (sym (p.g.more.zs j hj (x, y)).0 ∙ in_g mk j u)

      kids_d : get_or m i 0 ≡ 5 → (j : ℕ) → j / 4 ≡ i / 4 → alone D I c j ≡ false
      kids_d mk j e = alone_no D I c j (omega (arith, at_d mk)) (subst (λ (x : ℕ). c.s_d x ≡ false) (sym e) (at_d mk).2)

    tells_d1 : (b i : ℕ) (m : List ℕ) → i < I → get_or m i 0 ≡ 5 → All_at k w O (suc b) sets i false m → ans N W (in_desc (i / 4) b) ≡ true → Out true (asks (in_desc (i / 4) b))
        → All (know (in_desc (i / 4) b) true k) (after N (in_desc (i / 4) b) true w) O' (state_at (suc b) sets i (split_desc I i m (ltb (4 * i) I)))
    unfolding after know
    tells_d1 b i m hi mk z t o = (
      z.0,
      (
        with_d (i / 4) c,
        record {
          g = g1;
          fr = frs_d1 sz (preds (G k) b) (Known W k b) (T w) (M k) b i c m (split_desc I i m (ltb (4 * i) I)) p.g hi p.fr mk g1;
          ho = hold_d D I P w vv b 0 (i / 4) c p.ho (kids_d b i m c p hi mk);
          de = debt_d I O O' k b 0 (i / 4) c p.de (out1 true (in_desc (i / 4) b) o) (new_d b i m c p hi mk);
          rs = λ e h lo hd l y. rs' e h lo hd l y (ℕ_discrete h (i / 4));
        },
      ),
    )
      where
        c : Cfg
        c = z.1.0

        p : InSets (preds (G k) b) k w O b i c m
        p = z.1.1

        rs' : suc b ≡ P → (h : ℕ) → D ≤ 4 * h → h < D → i ≤ 4 * h → (with_d (i / 4) c).s_d h ≡ true → Dec (h ≡ i / 4) → (with_d (i / 4) c).al (4 * h) ≡ 4
        rs' e h lo hd l y (yes q) = al_d_on (i / 4) c (4 * h) (omega arith)
        rs' e h lo hd l y (no q) = al_d_off (i / 4) c (4 * h) (λ z. q (omega arith)) ∙ p.rs e h lo hd l (sym (s_d_off (i / 4) c h q) ∙ y)

        g1 : Sets sz (preds (G k) b) (Known W k b) i (with_d (i / 4) c) (split_desc I i m (ltb (4 * i) I))
        g1 = sets_d1 sz (preds (G k) b) (Known W k b) i c m p.g hi mk (learned N W k (in_desc (i / 4) b) true t).0

    tells_d0 : (b i : ℕ) (m : List ℕ) → i < I → get_or m i 0 ≡ 5 → All_at k w O (suc b) sets i false m → ans N W (in_desc (i / 4) b) ≡ false → Out false (asks (in_desc (i / 4) b))
        → All (know (in_desc (i / 4) b) false k) (after N (in_desc (i / 4) b) false w) O' (state_at (suc b) sets (i + 4) m)
    unfolding know
    tells_d0 b i m hi mk z t o = (
      z.0,
      (
        c,
        record {
          g = sets_d0 sz (preds (G k) b) (Known W k b) i c m p.g hi mk ((learned N W k (in_desc (i / 4) b) false t).0 (omega (arith, at_d b i m c p hi mk)));
          fr = frs_d0 sz (preds (G k) b) (Known W k b) (T w) (M k) b (T (after N (in_desc (i / 4) b) false w)) i c m p.g hi p.fr mk (λ j x n. desc0 N (i / 4) b w j b (λ u e. n u) x);
          ho = hold_w D I P w (after N (in_desc (i / 4) b) false w) vv b 0 0 c p.ho (omega arith) (λ j e h x. desc0 N (i / 4) b w j e (λ y f. omega arith) x) (λ j aj e h x. desc0 N (i / 4) b w j b (λ u f. true≢false (sym aj ∙ in_d b i m c p hi mk j u)) x) (λ j. unfold after clear in refl);
          de = debt_o I O O' k k b b 0 c p.de (out0 (in_desc (i / 4) b) o) (λ j x. refl);
          rs = λ e h lo hd l y. p.rs e h lo hd (omega arith) y;
        },
      ),
    )
      where
        c : Cfg
        c = z.1.0

        p : InSets (preds (G k) b) k w O b i c m
        p = z.1.1

    tells_g1 : (b i : ℕ) (m : List ℕ) → i < I → get_or m i 0 ≡ 6 → All_at k w O (suc b) sets i false m → ans N W (in_grand (i / 16) b) ≡ true → Out true (asks (in_grand (i / 16) b))
        → All (know (in_grand (i / 16) b) true k) (after N (in_grand (i / 16) b) true w) O' (state_at (suc b) sets i (split_grand I i m))
    unfolding after know
    tells_g1 b i m hi mk z t o = (
      z.0,
      (
        with_g (i / 16) c,
        record {
          g = g1;
          fr = frs_g1 sz (preds (G k) b) (Known W k b) (T w) (M k) b i c m (split_grand I i m) p.g hi p.fr mk g1;
          ho = hold_g D I P w vv b 0 (i / 16) c p.ho;
          de = debt_g I O O' k b 0 (i / 16) c p.de (out1 true (in_grand (i / 16) b) o) (new_g b i m c p hi mk);
          rs = λ e h lo hd l y. al_g (i / 16) c (4 * h) ∙ p.rs e h lo hd l (sym (s_d_g (i / 16) c h) ∙ y);
        },
      ),
    )
      where
        c : Cfg
        c = z.1.0

        p : InSets (preds (G k) b) k w O b i c m
        p = z.1.1

        g1 : Sets sz (preds (G k) b) (Known W k b) i (with_g (i / 16) c) (split_grand I i m)
        g1 = sets_g1 sz (preds (G k) b) (Known W k b) i c m p.g hi mk (learned N W k (in_grand (i / 16) b) true t).0

    tells_g0 : (b i : ℕ) (m : List ℕ) → i < I → get_or m i 0 ≡ 6 → All_at k w O (suc b) sets i false m → ans N W (in_grand (i / 16) b) ≡ false → Out false (asks (in_grand (i / 16) b))
        → All (know (in_grand (i / 16) b) false k) (after N (in_grand (i / 16) b) false w) O' (state_at (suc b) sets (i + 16) m)
    unfolding know
    tells_g0 b i m hi mk z t o = (
      z.0,
      (
        c,
        record {
          g = sets_g0 sz (preds (G k) b) (Known W k b) i c m p.g hi mk ((learned N W k (in_grand (i / 16) b) false t).0 (omega (arith, at_g b i m c p hi mk)));
          fr = frs_g0 sz (preds (G k) b) (Known W k b) (T w) (M k) b (T (after N (in_grand (i / 16) b) false w)) i c m p.g hi p.fr mk (λ j x n. grand0 N (i / 16) b w j b (λ u e. n u) x);
          ho = hold_w D I P w (after N (in_grand (i / 16) b) false w) vv b 0 0 c p.ho (omega arith) (λ j e h x. grand0 N (i / 16) b w j e (λ y f. omega arith) x) (λ j aj e h x. grand0 N (i / 16) b w j b (λ u f. true≢false (sym aj ∙ in_g b i m c p hi mk j u)) x) (λ j. unfold after clear in refl);
          de = debt_o I O O' k k b b 0 c p.de (out0 (in_grand (i / 16) b) o) (λ j x. refl);
          rs = λ e h lo hd l y. p.rs e h lo hd (omega arith) y;
        },
      ),
    )
      where
        c : Cfg
        c = z.1.0

        p : InSets (preds (G k) b) k w O b i c m
        p = z.1.1

    tells_c1 : (b i : ℕ) (m : List ℕ) → i < I → get_or m i 0 ≡ 4 → All_at k w O (suc b) sets i false m → ans N W (bit_of i b) ≡ true → Out true (asks (bit_of i b))
        → All_at (know (bit_of i b) true k) (after N (bit_of i b) true w) O' (suc b) sets i true m
    unfolding ◌⊑◌ after
    tells_c1 b i m hi mk z t o = (
      from k (bit_of i b) true t b z.0,
      (
        c,
        record {
          g = sets_z sz (preds (G k) b) (hide i (preds (G (know (bit_of i b) true k)) b)) (Known W k b) (Known W (know (bit_of i b) true k) b) i c m (mh k (bit_of i b) true t b i c l.1) (up k (bit_of i b) true t b) p.g;
          fr = setfr (T w) (T w) (M k) (M (know (bit_of i b) true k)) b i m (λ j x. x) (λ e j x. know_grows (bit_of i b) true k j e x) p.fr;
          ho = p.ho;
          de = debt_one I O O' k (know (bit_of i b) true k) b b 0 0 i c p.de (omega arith) (omega arith) hi (λ e. absurd (omega (arith, it.1, mk))) (out1 true (bit_of i b) o) (know_grows (bit_of i b) true k) (know_one i b k) (know_back i b k);
          rs = p.rs;
        },
      ),
      hi,
      mk,
      l.0,
      know_one i b k,
    )
      where
        c : Cfg
        c = z.1.0

        p : InSets (preds (G k) b) k w O b i c m
        p = z.1.1

        it : Alone_at D I c m i
        it = is_alone sz c m p.g.core i hi (omega (arith, mk)) (omega (arith, mk))

        l : Known W (know (bit_of i b) true k) b i × ((j : ℕ) → Zof (know (bit_of i b) true k) j → (j ≡ i → ⊥) → Zof k j)
        l = learned N W k (bit_of i b) true t

    tells_c0 : (b i : ℕ) (m : List ℕ) → i < I → get_or m i 0 ≡ 4 → All_at k w O (suc b) sets i false m → ans N W (bit_of i b) ≡ false → Out false (asks (bit_of i b))
        → All (know (bit_of i b) false k) (after N (bit_of i b) false w) O' (state_at (suc b) sets (i + 1) (set m i 1))
    unfolding know
    tells_c0 b i m hi mk z t o = (
      z.0,
      (
        with_a i 1 c,
        record {
          g = sets_c sz (preds (G k) b) (Known W k b) i 1 c m
              (sets_z sz (preds (G k) b) (hide i (preds (G k) b)) (Known W k b) (Known W k b) i c m (mh k (bit_of i b) false t b i c (λ j y n. y)) (λ j y. y) p.g)
              hi mk (lit≤ tt) (lit< tt) (learned N W k (bit_of i b) false t).0 (λ y. absurd (omega arith)) (λ y. absurd (omega (arith, it.1, mk, p.g.more.zs i hi y)));
          fr = frs_c sz (preds (G k) b) (Known W k b) (T w) (M k) b (T (after N (bit_of i b) false w)) i 1 c m p.g hi p.fr mk (lit≤ tt) (lit≤ tt) (λ e. absurd (omega arith)) (λ j x n. one0 N i b w j b (λ e f. n e) x);
          ho = hold_a D I P w (after N (bit_of i b) false w) vv b 0 0 i 1 c p.ho it.0 (omega arith) (λ e. absurd (omega arith)) (λ h. (unfold after clear in p.ho.ng i (λ y l u. omega (arith, it.1, mk))))
              (λ j e h x. one0 N i b w j e (λ y f. omega arith) x) (λ j n x. one0 N i b w j b (λ y f. n y) x) (λ j n. unfold after clear in refl);
          de = debt_c I O' k b b b 0 0 c (with_a i 1 c) (debt_o I O O' k k b b 0 c p.de (out0 (bit_of i b) o) (λ j x. refl)) (omega arith) (λ h e. same_d i 1 c h ∙ e) (λ h e. same_g i 1 c h ∙ e) (λ j e f. al' j e f (ℕ_discrete j i));
          rs = λ e h lo hd l y. al_else i 1 c (4 * h) (λ z. omega arith) ∙ p.rs e h lo hd (omega arith) (sym (same_d i 1 c h) ∙ y);
        },
      ),
    )
      where
        c : Cfg
        c = z.1.0

        p : InSets (preds (G k) b) k w O b i c m
        p = z.1.1

        it : Alone_at D I c m i
        it = is_alone sz c m p.g.core i hi (omega (arith, mk)) (omega (arith, mk))

        al' : (j : ℕ) → (with_a i 1 c).al j ≡ 3 → (c.al j ≡ 3 → j < 0) → Dec (j ≡ i) → j < 0
        al' j e f (yes q) = absurd (omega (arith, al_at i 1 c j q))
        al' j e f (no q) = f (sym (al_else i 1 c j q) ∙ e)

    tells_cs : (b i : ℕ) (m : List ℕ) (a : Bool) → All_at k w O (suc b) sets i true m → ans N W (sign_of i) ≡ a → Out a (asks (sign_of i)) → All (know (sign_of i) a k) (after N (sign_of i) a w) O' (state_at (suc b) sets (i + 1) (set m i 2))
    unfolding ◌⊑◌
    tells_cs b i m a z t o = (
      from k (sign_of i) a t b z.0,
      (
        with_a i 2 c,
        record {
          g = sets_c sz (preds (G (know (sign_of i) a k)) b) (Known W (know (sign_of i) a k) b) i 2 c m g1 z.2 z.3 (lit≤ tt) (lit< tt) (up k (sign_of i) a t b i z.4) (λ y. l.0) (λ y. lit≤ tt);
          fr = frs_c sz (hide i (preds (G (know (sign_of i) a k)) b)) (Known W (know (sign_of i) a k) b) (T (after N (sign_of i) a w)) (M (know (sign_of i) a k)) b (T (after N (sign_of i) a w)) i 2 c m g1 z.2
              (setfr (T w) (T (after N (sign_of i) a w)) (M k) (M (know (sign_of i) a k)) b i m (λ j x. sgn_has N i a w j b ∙ x) (λ e j x. know_grows (sign_of i) a k j e x) p.fr) z.3 (lit≤ tt) (lit≤ tt) (λ e. know_grows (sign_of i) a k i b z.5) (λ j x n. x);
          ho = hold_a D I P w (after N (sign_of i) a w) vv b 0 0 i 2 c p.ho it.0 (omega arith) (λ e. absurd (omega arith)) (λ h. absurd (h (lit≤ tt) (lit≤ tt))) (λ j e h x. sgn_has N i a w j e ∙ x) (λ j n x. sgn_has N i a w j b ∙ x) (λ j n. sgn_neg N i a w j n);
          de = debt_c I O' (know (sign_of i) a k) b b b 0 0 c (with_a i 2 c) (outs a i b b 0 c o p.de) (omega arith) (λ h e. same_d i 2 c h ∙ e) (λ h e. same_g i 2 c h ∙ e) (λ j e f. al' j e f (ℕ_discrete j i));
          rs = λ e h lo hd l y. al_else i 2 c (4 * h) (λ z. omega arith) ∙ p.rs e h lo hd (omega arith) (sym (same_d i 2 c h) ∙ y);
        },
      ),
    )
      where
        c : Cfg
        c = z.1.0

        p : InSets (hide i (preds (G k) b)) k w O b i c m
        p = z.1.1

        it : Alone_at D I c m i
        it = is_alone sz c m p.g.core i z.2 (omega (arith, z.3)) (omega (arith, z.3))

        l : ((know (sign_of i) a k).neg i ≡ W.neg i) × ((j : ℕ) → Zof (know (sign_of i) a k) j → Zof k j)
        l = learned N W k (sign_of i) a t

        g1 : Sets sz (hide i (preds (G (know (sign_of i) a k)) b)) (Known W (know (sign_of i) a k) b) i c m
        g1 = sets_z sz (hide i (preds (G k) b)) (hide i (preds (G (know (sign_of i) a k)) b)) (Known W k b) (Known W (know (sign_of i) a k) b) i c m (hh k (sign_of i) a t b i c l.1) (up k (sign_of i) a t b) p.g

        al' : (j : ℕ) → (with_a i 2 c).al j ≡ 3 → (c.al j ≡ 3 → j < 0) → Dec (j ≡ i) → j < 0
        al' j e f (yes q) = absurd (omega (arith, al_at i 2 c j q))
        al' j e f (no q) = f (sym (al_else i 2 c j q) ∙ e)

    -- a refinement
    more_1 : (b i : ℕ) (c : Cfg) → (alone D I c i ≡ true) × (2 ≤ c.al i) × (c.al i ≤ 3) → ans N W (bit_of i b) ≡ true → ((j : ℕ) → Zof (know (bit_of i b) true k) j → (j ≡ i → ⊥) → Zof k j)
        → More sz (preds (G k) b) c → More sz (preds (G (know (bit_of i b) true k)) b) c
    more_1 b i c it t zz x = record { sg = λ j hj aj lo hi. know_neg N W k (bit_of i b) true t j (x.sg j hj aj lo hi); q_d = x.q_d; q_g = x.q_g; zs = λ j hj e. pick j hj e (ℕ_discrete j i) }
      where
        pick : (j : ℕ) → j < I → Zof (know (bit_of i b) true k) j → Dec (j ≡ i) → (alone D I c j ≡ true) × (2 ≤ c.al j) × (c.al j ≤ 3)
        pick j hj e (yes q) = subst (λ (y : ℕ). (alone D I c y ≡ true) × (2 ≤ c.al y) × (c.al y ≤ 3)) (sym q) it
        pick j hj e (no q) = x.zs j hj (zz j e q)

    tellf : (b i : ℕ) (m : List ℕ) (a : Bool) → i < I → get_or m i 0 ≡ 3 → All_at k w O (suc b) refining i false m → ans N W (bit_of i b) ≡ a → Out a (asks (bit_of i b))
        → All (know (bit_of i b) a k) (after N (bit_of i b) a w) O' (state_at (suc b) refining (i + 1) m)
    unfolding ◌⊑◌ after
    tellf b i m true hi mk z t o = (
      from k (bit_of i b) true t b z.0,
      (
        c,
        record {
          g = fine_ask sz (preds (G (know (bit_of i b) true k)) b) (Known W (know (bit_of i b) true k) b) i c m
              (fine_z sz (preds (G k) b) (preds (G (know (bit_of i b) true k)) b) (Known W k b) (Known W (know (bit_of i b) true k) b) i c m (more_1 b i c (it.0, omega (arith, it.1, mk), omega (arith, it.1, mk)) t l.1) (up k (bit_of i b) true t b) p.g) hi mk l.0;
          fr = frf_hush sz (preds (G k) b) (Known W k b) (T w) (M (know (bit_of i b) true k)) b i 1 m (finefr (T w) (T w) (M k) (M (know (bit_of i b) true k)) b i m (λ e j x. know_grows (bit_of i b) true k j e x) p.fr);
          ho = hold_z D I P w vv b i (i + 1) c p.ho (omega arith);
          de = debt_one I O O' k (know (bit_of i b) true k) b b i (i + 1) i c p.de (omega arith) (omega arith) hi (λ e. omega arith) (out1 true (bit_of i b) o) (know_grows (bit_of i b) true k) (know_one i b k) (know_back i b k);
        },
      ),
    )
      where
        c : Cfg
        c = z.1.0

        p : InFine (preds (G k) b) k w O b i c m
        p = z.1.1

        it : Alone_at D I c m i
        it = is_alone sz c m p.g.core i hi (omega (arith, mk)) (omega (arith, mk))

        l : Known W (know (bit_of i b) true k) b i × ((j : ℕ) → Zof (know (bit_of i b) true k) j → (j ≡ i → ⊥) → Zof k j)
        l = learned N W k (bit_of i b) true t
    tellf b i m false hi mk z t o = (
      from k (bit_of i b) false t b z.0,
      (
        c,
        record {
          g = fine_ask sz (preds (G (know (bit_of i b) false k)) b) (Known W (know (bit_of i b) false k) b) i c m
              (fine_z sz (preds (G k) b) (preds (G (know (bit_of i b) false k)) b) (Known W k b) (Known W (know (bit_of i b) false k) b) i c m (mo k (bit_of i b) false t b c l.1) (up k (bit_of i b) false t b) p.g) hi mk l.0;
          fr = frf_hush sz (preds (G k) b) (Known W k b) (T (after N (bit_of i b) false w)) (M (know (bit_of i b) false k)) b i 1 m (finefr (T w) (T (after N (bit_of i b) false w)) (M k) (M (know (bit_of i b) false k)) b i m (λ e j x. know_grows (bit_of i b) false k j e x) p.fr);
          ho = hold_w D I P w (after N (bit_of i b) false w) vv b i (i + 1) c p.ho (omega arith) (λ j e h x. one0 N i b w j e (λ y f. omega arith) x) (λ j aj e h x. one0 N i b w j b (λ y f. omega arith) x) (λ j. unfold clear in refl);
          de = debt_c I O' (know (bit_of i b) false k) b b b i (i + 1) c c (debt_o I O O' k (know (bit_of i b) false k) b b i c p.de (out0 (bit_of i b) o) (λ j x. unfold know in refl)) (omega arith) (λ h e. e) (λ h e. e) (λ j e f. omega (arith, f e));
        },
      ),
    )
      where
        c : Cfg
        c = z.1.0

        p : InFine (preds (G k) b) k w O b i c m
        p = z.1.1

        l : Known W (know (bit_of i b) false k) b i × ((j : ℕ) → Zof (know (bit_of i b) false k) j → Zof k j)
        l = learned N W k (bit_of i b) false t

    tells : (b i : ℕ) (m : List ℕ) (x d g c a : Bool) → ltb i I ≡ x → eqb (get_or m i 0) 5 ≡ d → eqb (get_or m i 0) 6 ≡ g → eqb (get_or m i 0) 4 ≡ c
        → All_at k w O (suc b) sets i false m → told N W (asked I (look_sets b i m x d g c)) a → Out a (look_sets b i m x d g c)
        → All (know_o (asked I (look_sets b i m x d g c)) a k) (after_o N (asked I (look_sets b i m x d g c)) a w) O' (tell_sets I (suc b) i m a d g)
    tells b i m false d g c a ex ed eg ec z t o = absurd t
    tells b i m true true g c true ex ed eg ec z t o = tells_d1 b i m (ltb-true i I ex) (eqb-true _ _ ed) z t o
    tells b i m true true g c false ex ed eg ec z t o = tells_d0 b i m (ltb-true i I ex) (eqb-true _ _ ed) z t o
    tells b i m true false true c true ex ed eg ec z t o = tells_g1 b i m (ltb-true i I ex) (eqb-true _ _ eg) z t o
    tells b i m true false true c false ex ed eg ec z t o = tells_g0 b i m (ltb-true i I ex) (eqb-true _ _ eg) z t o
    tells b i m true false false true true ex ed eg ec z t o = tells_c1 b i m (ltb-true i I ex) (eqb-true _ _ ec) z t o
    tells b i m true false false true false ex ed eg ec z t o = tells_c0 b i m (ltb-true i I ex) (eqb-true _ _ ec) z t o
    tells b i m true false false false a ex ed eg ec z t o = absurd t

    tellf' : (b i : ℕ) (m : List ℕ) (x s n a : Bool) → ltb i I ≡ x → eqb (get_or m i 0) 3 ≡ s → All_at k w O (suc b) refining i false m → told N W (asked I (look_refining b i m x s n)) a → Out a (look_refining b i m x s n)
        → All (know_o (asked I (look_refining b i m x s n)) a k) (after_o N (asked I (look_refining b i m x s n)) a w) O' (state_at (suc b) refining (i + 1) m)
    tellf' b i m false s n a ex es z t o = absurd t
    tellf' b i m true true n a ex es z t o = tellf b i m a (ltb-true i I ex) (eqb-true _ _ es) z t o
    tellf' b i m true false true a ex es z t o = absurd t
    tellf' b i m true false false a ex es z t o = absurd t

    pub all_tell : (l : ℕ) (p : Pass) (i : ℕ) (s : Bool) (m : List ℕ) (a : Bool) → All_at k w O l p i s m → told N W (asked I (look_at I l p i s m)) a → Out a (look_at I l p i s m)
        → All (know_o (asked I (look_at I l p i s m)) a k) (after_o N (asked I (look_at I l p i s m)) a w) O' (tell_at I l p i s m a)
    all_tell zero p i s m a z t o = absurd t
    all_tell (suc b) pixels i true m a z t o = tellps b i m a z t o
    all_tell (suc b) sets i true m a z t o = tells_cs b i m a z t o
    all_tell (suc b) refining i true m a z t o = absurd z
    all_tell (suc b) pixels i false m a z t o = tellp b i m (ltb i I) (eqb (get_or m i 0) 1) a refl refl z t o
    all_tell (suc b) sets i false m a z t o = tells b i m (ltb i I) (eqb (get_or m i 0) 5) (eqb (get_or m i 0) 6) (eqb (get_or m i 0) 4) a refl refl refl refl z t o
    all_tell (suc b) refining i false m a z t o = tellf' b i m (ltb i I) (eqb (get_or m i 0) 3) (eqb (get_or m i 0) 2) a refl refl z t o

  pub all_next : (k w : Bits) (O : Question → Type 0) (s : State) (a : Bool) → All k w O s → told N W (ask I s) a
      → All (know_o (ask I s) a k) (after_o N (ask I s) a w) (λ p. O p ⊎ ((a ≡ true) × (ask I s ≡ some p))) (next I s a)
  unfolding next ask
  all_next k w O s a z t = all_settle (know_o (ask I s) a k) (after_o N (ask I s) a w) (λ p. O p ⊎ ((a ≡ true) × (ask I s ≡ some p))) (tell I s a)
      (all_tell k w O (λ p. O p ⊎ ((a ≡ true) × (ask I s ≡ some p))) s.left s.pass s.place s.pending s.marks a z t (λ p x. x))

  -- ---- along a run
  pub all_run : (k w : Bits) (O : Question → Type 0) (s : State) (u : List Bool) → All k w O s → Fit N W s u
      → All (least N s u k) (most N s u w) (Owing N s u O) (reach (4 ^ N) s u)
  unfolding reach
  all_run k w O s [] z f = z
  all_run k w O s (a ∷ u) z f = all_run (know_o (ask I s) a k) (after_o N (ask I s) a w) (λ p. O p ⊎ ((a ≡ true) × (ask I s ≡ some p))) (next I s a) u (all_next k w O s a z f.0) f.1

  -- at the start nothing is known, everything is open and nothing is owed
  abbrev pub full : Bits
  full = record { has = λ i b. ltb b P; neg = λ i. vv }

  pub all_first : All nothing full (λ p. ⊥) (state_at P pixels 0 (first sz))
  all_first = go P refl
    where
      m0 : List ℕ
      m0 = first sz

      go : (l : ℕ) → l ≡ P → All nothing full (λ p. ⊥) (state_at l pixels 0 (first sz))
      go zero q = tt
      go (suc b) q = (
        (λ e h1 h2. absurd (omega arith)),
        (
          c0,
          record {
            g = g0;
            fr = record { todo = λ j hj n. lt-ltb b P (omega arith); m2 = λ j hj e. absurd (no j hj 2 e (lit≤ tt) (lit< tt) (λ y. omega arith)); m3 = λ j hj e. absurd (no j hj 3 e (lit≤ tt) (lit< tt) (λ y. omega arith)) };
            ho = record { hi = omega arith; low = λ j e h. lt-ltb e P (omega arith); op = λ j a e h. absurd (omega arith); ng = λ j h. refl };
            de = record { o_d = λ h e o. absurd o; o_g = λ h e o. absurd o; o_o = λ j e o. absurd o };
            np = λ e h. refl;
          },
        ),
      )
        where
          g0 : Pix sz (preds (G nothing) b) (Known W nothing b) 0 c0 m0
          g0 = pix_0 sz (preds (G nothing) b) (Known W nothing b) (λ j z. false≢true z.1)

          no : (j : ℕ) → j < I → (v : ℕ) → get_or m0 j 0 ≡ v → 1 ≤ v → v < 5 → (1 ≡ v → ⊥) → ⊥
          no j hj v e v1 v5 n = n ((is_alone sz c0 m0 g0.core j hj (omega (arith, e)) (omega (arith, e))).1 ∙ e)

  pub all_start : All nothing full (λ p. ⊥) (start I D P)
  unfolding start start_marks
  all_start = all_settle nothing full (λ p. ⊥) (state_at P pixels 0 (first sz)) all_first
