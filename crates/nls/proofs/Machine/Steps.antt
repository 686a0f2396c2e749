-- The invariant of the scan, over the machine's own moves.
use mathlib.Core.Path.{◌≡◌, refl, sym, subst}
use mathlib.Core.Bool.{Bool, true, false}
use mathlib.Core.List.{List}
use Prim.Native.Nat.{ℕ, zero, suc, ◌+◌, ◌/◌, ◌≤◌, ◌<◌}
use native.Mathlib.Omega.{arith}
use native.Mathlib.Decide.{ℕ_discrete}
use lib.ListN.{get_or}
use lib.Dec.{ltb, eqb, lit<, lit≤}
use borrow.Author.Tests.{ltb-true, ltb-false, eqb-true, eqb-false}
use Rattle.nls.specs.Scan.{State, Look, over, silent, asks, Question, bit_of, sign_of, in_desc, in_grand, Pass, pixels, sets, refining, state_at, look, look_at, look_pixels, look_sets, look_refining, tell, tell_at, tell_sets, silently, settle, moves_left, next}
use Rattle.nls.proofs.Tiled.{Tiled}
use Rattle.nls.proofs.Machine.Table.{Cfg, alone}
use Rattle.nls.proofs.Machine.Split.{with_d, with_g, with_a}
use Rattle.nls.proofs.Machine.Cover.{Under, Preds, hide, More, is_alone, Pix, Sets, Fine, pix_hush, pix_zero, pix_one, pix_end, sets_hush, sets_d0, sets_d1, sets_g0, sets_g1, sets_c, sets_end, fine_hush, fine_ask, fine_np, fine_end, is_desc_at, is_grand_at, Alone_at}

-- What a run knows: X b j, bit b of j is settled; and, by plane, why a set was split
pub record Fam : Type 1 where
  pub X : ℕ → ℕ → Type 0
  pub Y : ℕ → Type 0
  pub QD : ℕ → ℕ → Type 0
  pub QG : ℕ → ℕ → Type 0
  pub Z : ℕ → Type 0
  pub dn_d : (b h : ℕ) → QD (suc b) h → QD b h
  pub dn_g : (b h : ℕ) → QG (suc b) h → QG b h

abbrev pub preds : Fam → ℕ → Preds
preds F b = record { Y = F.Y; QD = F.QD b; QG = F.QG b; Z = F.Z }

abbrev pub with_z : Fam → (ℕ → Type 0) → Fam
with_z F Z' = record { X = F.X; Y = F.Y; QD = F.QD; QG = F.QG; Z = Z'; dn_d = F.dn_d; dn_g = F.dn_g }

module _ {D I : ℕ} (sz : Tiled D I) where
  pub more_z : (R S : Preds) (c : Cfg) → ((j : ℕ) → R.Y j → S.Y j) → ((j : ℕ) → R.QD j → S.QD j) → ((j : ℕ) → R.QG j → S.QG j) → ((j : ℕ) → S.Z j → R.Z j) → More sz R c → More sz S c
  more_z R S c y d g z k = record { sg = λ j h a l u. y j (k.sg j h a l u); q_d = λ h e. d h (k.q_d h e); q_g = λ h e. g h (k.q_g h e); zs = λ j h e. k.zs j h (z j e) }

  pub pix_z : (R S : Preds) (X X' : ℕ → Type 0) (t : ℕ) (c : Cfg) (m : List ℕ) → (More sz R c → More sz S c) → ((j : ℕ) → X j → X' j) → Pix sz R X t c m → Pix sz S X' t c m
  pix_z R S X X' t c m f x p = record { core = p.core; more = f p.more; two = p.two; no4 = p.no4; done = λ j h a z e. x j (p.done j h a z e) }

  pub sets_z : (R S : Preds) (X X' : ℕ → Type 0) (t : ℕ) (c : Cfg) (m : List ℕ) → (More sz R c → More sz S c) → ((j : ℕ) → X j → X' j) → Sets sz R X t c m → Sets sz S X' t c m
  sets_z R S X X' t c m f x p = record {
    core = p.core;
    more = f p.more;
    four = p.four;
    grp = p.grp;
    ali = p.ali;
    done = λ j h a e3 e4. x j (p.done j h a e3 e4);
    d_d = λ h a1 a2 a3 a4 a5 j hj u. x j (p.d_d h a1 a2 a3 a4 a5 j hj u);
    d_g = λ h a1 a2 a3 a4 a5 j hj u. x j (p.d_g h a1 a2 a3 a4 a5 j hj u);
  }

  pub fine_z : (R S : Preds) (X X' : ℕ → Type 0) (t : ℕ) (c : Cfg) (m : List ℕ) → (More sz R c → More sz S c) → ((j : ℕ) → X j → X' j) → Fine sz R X t c m → Fine sz S X' t c m
  fine_z R S X X' t c m f x p = record { core = p.core; more = f p.more; two = p.two; no4 = p.no4; done = λ j h e. x j (p.done j h e) }

-- what an answer must bring, with Z' for Z
abbrev Same : Fam → (ℕ → Type 0) → Type 0
Same F Z' = (j : ℕ) → Z' j → F.Z j

module _ (I : ℕ) where
  abbrev pub Learned : Fam → (ℕ → Type 0) → Question → Bool → Type 0
  Learned F Z' (bit_of i b) true = F.X b i × ((j : ℕ) → Z' j → (j ≡ i → ⊥) → F.Z j)
  Learned F Z' (bit_of i b) false = F.X b i × Same F Z'
  Learned F Z' (sign_of i) a = F.Y i × Same F Z'
  Learned F Z' (in_desc g b) true = F.QD b g × Same F Z'
  Learned F Z' (in_desc g b) false = (1 ≤ g → (i : ℕ) → i < I → Under g i → F.X b i) × Same F Z'
  Learned F Z' (in_grand g b) true = F.QG b g × Same F Z'
  Learned F Z' (in_grand g b) false = (1 ≤ g → (i : ℕ) → i < I → Under g (i / 4) → F.X b i) × Same F Z'

  abbrev pub On_ask : Fam → (ℕ → Type 0) → Bool → Look → Type 0
  On_ask F Z' a over = ⊥
  On_ask F Z' a (silent t) = ⊥
  On_ask F Z' a (asks q) = Learned F Z' q a

module _ {D I : ℕ} (sz : Tiled D I) (P : ℕ) where
  -- the planes from b on are settled
  abbrev pub From : Fam → ℕ → Type 0
  From F b = (e : ℕ) → b ≤ e → e < P → (j : ℕ) → j < I → F.X e j

  abbrev pub Good_at : Fam → ℕ → Pass → ℕ → Bool → List ℕ → Type 0
  Good_at F zero p i s m = From F zero × ((j : ℕ) → j < I → F.Z j → F.Y j)
  Good_at F (suc b) pixels i false m = From F (suc b) × ((c : Cfg) × Pix sz (preds F b) (F.X b) i c m)
  Good_at F (suc b) pixels i true m = From F (suc b) × ((c : Cfg) × Pix sz (hide i (preds F b)) (F.X b) i c m) × (i < I) × (get_or m i 0 ≡ 1) × F.X b i
  Good_at F (suc b) sets i false m = From F (suc b) × ((c : Cfg) × Sets sz (preds F b) (F.X b) i c m)
  Good_at F (suc b) sets i true m = From F (suc b) × ((c : Cfg) × Sets sz (hide i (preds F b)) (F.X b) i c m) × (i < I) × (get_or m i 0 ≡ 4) × F.X b i
  Good_at F (suc b) refining i false m = From F (suc b) × ((c : Cfg) × Fine sz (preds F b) (F.X b) i c m)
  Good_at F (suc b) refining i true m = ⊥

  pub from_good : (F : Fam) (l : ℕ) (p : Pass) (i : ℕ) (s : Bool) (m : List ℕ) → Good_at F l p i s m → From F l
  from_good F zero p i s m g = g.0
  from_good F (suc b) pixels i false m g = g.0
  from_good F (suc b) pixels i true m g = g.0
  from_good F (suc b) sets i false m g = g.0
  from_good F (suc b) sets i true m g = g.0
  from_good F (suc b) refining i false m g = g.0
  from_good F (suc b) refining i true m g = absurd g

  abbrev pub Good : Fam → State → Type 0
  Good F s = Good_at F s.left s.pass s.place s.pending s.marks

  abbrev pub Good_look : Fam → Look → Type 0
  Good_look F over = Unit {0}
  Good_look F (silent t) = Good F t
  Good_look F (asks q) = Unit {0}

  good_pix : (F : Fam) (b i : ℕ) (m : List ℕ) (x y : Bool) → ltb i I ≡ x → eqb (get_or m i 0) 1 ≡ y → Good_at F (suc b) pixels i false m → Good_look F (look_pixels b i m x y)
  good_pix F b i m false y ex ey g = (g.0, (g.1.0, pix_end sz (preds F b) (F.X b) i g.1.0 m g.1.1 (ltb-false i I ex)))
  good_pix F b i m true true ex ey g = tt
  good_pix F b i m true false ex ey g = (g.0, (g.1.0, pix_hush sz (preds F b) (F.X b) i g.1.0 m g.1.1 (ltb-true i I ex) (eqb-false _ _ ey)))

  good_sets : (F : Fam) (b i : ℕ) (m : List ℕ) (x d g c : Bool) → ltb i I ≡ x → eqb (get_or m i 0) 5 ≡ d → eqb (get_or m i 0) 6 ≡ g → eqb (get_or m i 0) 4 ≡ c
      → Good_at F (suc b) sets i false m → Good_look F (look_sets b i m x d g c)
  good_sets F b i m false d g c ex ed eg ec h = (h.0, (h.1.0, sets_end sz (preds F b) (F.X b) i h.1.0 m h.1.1 (ltb-false i I ex)))
  good_sets F b i m true true g c ex ed eg ec h = tt
  good_sets F b i m true false true c ex ed eg ec h = tt
  good_sets F b i m true false false true ex ed eg ec h = tt
  good_sets F b i m true false false false ex ed eg ec h =
      (h.0, (h.1.0, sets_hush sz (preds F b) (F.X b) i h.1.0 m h.1.1 (ltb-true i I ex) (eqb-false _ _ ed) (eqb-false _ _ eg) (eqb-false _ _ ec)))

  good_down : (F : Fam) (b : ℕ) (m : List ℕ) → From F (suc b) → ((j : ℕ) → j < I → F.X b j) → ((Y : ℕ → Type 0) → (c : Cfg) × Pix sz (preds F b) Y 0 c m) → Good F (state_at b pixels 0 m)
  good_down F zero m f x p = ((λ e h1 h2 j hj. go e h2 j hj (ℕ_discrete e 0)), λ j hj z. signed j hj (k.zs j hj z))
    where
      k : More sz (preds F 0) (p (F.X 0)).0
      k = (p (F.X 0)).1.more

      signed : (j : ℕ) → j < I → (alone D I (p (F.X 0)).0 j ≡ true) × (2 ≤ (p (F.X 0)).0.al j) × ((p (F.X 0)).0.al j ≤ 3) → F.Y j
      signed j hj r = k.sg j hj r.0 r.1 r.2

      go : (e : ℕ) → e < P → (j : ℕ) → j < I → Dec (e ≡ 0) → F.X e j
      go e h j hj (yes z) = subst (λ (k : ℕ). F.X k j) (sym z) (x j hj)
      go e h j hj (no z) = f e (omega arith) h j hj
  good_down F (suc b) m f x p = ((λ e h1 h2 j hj. go e h1 h2 j hj (ℕ_discrete e (suc b))), step b (p (F.X b)))
    where
      step : (b : ℕ) → (c : Cfg) × Pix sz (preds F (suc b)) (F.X b) 0 c m → (c : Cfg) × Pix sz (preds F b) (F.X b) 0 c m
      step b q = (
        q.0,
        record {
          core = q.1.core;
          two = q.1.two;
          no4 = q.1.no4;
          done = q.1.done;
          more = record { sg = q.1.more.sg; q_d = λ h e. F.dn_d b h (q.1.more.q_d h e); q_g = λ h e. F.dn_g b h (q.1.more.q_g h e); zs = q.1.more.zs };
        },
      )

      go : (e : ℕ) → suc b ≤ e → e < P → (j : ℕ) → j < I → Dec (e ≡ suc b) → F.X e j
      go e h1 h j hj (yes z) = subst (λ (k : ℕ). F.X k j) (sym z) (x j hj)
      go e h1 h j hj (no z) = f e (omega arith) h j hj

  good_fine : (F : Fam) (b i : ℕ) (m : List ℕ) (x s n : Bool) → ltb i I ≡ x → eqb (get_or m i 0) 3 ≡ s → eqb (get_or m i 0) 2 ≡ n
      → Good_at F (suc b) refining i false m → Good_look F (look_refining b i m x s n)
  good_fine F b i m false s n ex es en g =
      good_down F b m g.0 (fine_end sz (preds F b) (F.X b) (F.X b) i g.1.0 m g.1.1 (ltb-false i I ex)).0
      (λ Y. (g.1.0, (fine_end sz (preds F b) (F.X b) Y i g.1.0 m g.1.1 (ltb-false i I ex)).1))
  good_fine F b i m true true n ex es en g = tt
  good_fine F b i m true false true ex es en g = (g.0, (with_a i 3 g.1.0, fine_np sz (preds F b) (F.X b) i g.1.0 m g.1.1 (ltb-true i I ex) (eqb-true _ _ en)))
  good_fine F b i m true false false ex es en g = (g.0, (g.1.0, fine_hush sz (preds F b) (F.X b) i g.1.0 m g.1.1 (ltb-true i I ex) (eqb-false _ _ es) (eqb-false _ _ en)))

  pub good_look : (F : Fam) (l : ℕ) (p : Pass) (i : ℕ) (s : Bool) (m : List ℕ) → Good_at F l p i s m → Good_look F (look_at I l p i s m)
  good_look F zero p i s m g = tt
  good_look F (suc b) p i true m g = tt
  good_look F (suc b) pixels i false m g = good_pix F b i m (ltb i I) (eqb (get_or m i 0) 1) refl refl g
  good_look F (suc b) sets i false m g = good_sets F b i m (ltb i I) (eqb (get_or m i 0) 5) (eqb (get_or m i 0) 6) (eqb (get_or m i 0) 4) refl refl refl refl g
  good_look F (suc b) refining i false m g = good_fine F b i m (ltb i I) (eqb (get_or m i 0) 3) (eqb (get_or m i 0) 2) refl refl refl g

  -- silent moves keep it
  good_quiet : (F : Fam) (n : ℕ) (s : State) → Good F s → Good F (silently I n s)
  unfolding silently
  good_quiet F zero s g = g
  good_quiet F (suc n) s g = go (look I s) (good_look F s.left s.pass s.place s.pending s.marks g) (good_quiet F n)
    where
      go : (L : Look) → Good_look F L → ((t : State) → Good F t → Good F (silently I n t)) → Good F (elim L as (λ _. State) [ over ↦ s | silent t ↦ silently I n t | asks q ↦ s ])
      go over z ih = g
      go (silent t) z ih = ih t z
      go (asks q) z ih = g

  pub good_settle : (F : Fam) (s : State) → Good F s → Good F (settle I s)
  unfolding settle
  good_settle F s g = good_quiet F (moves_left I s) s g

  -- the same with a new Z: smaller, or smaller but at i
  shrink : (F : Fam) (Z' : ℕ → Type 0) (b : ℕ) (c : Cfg) → Same F Z' → More sz (preds F b) c → More sz (preds (with_z F Z') b) c
  shrink F Z' b c z k = more_z sz (preds F b) (preds (with_z F Z') b) c (λ j y. y) (λ j y. y) (λ j y. y) z k

  shrink_hide : (F : Fam) (Z' : ℕ → Type 0) (b i : ℕ) (c : Cfg) → ((j : ℕ) → Z' j → (j ≡ i → ⊥) → F.Z j) → More sz (preds F b) c → More sz (hide i (preds (with_z F Z') b)) c
  shrink_hide F Z' b i c z k = more_z sz (preds F b) (hide i (preds (with_z F Z') b)) c (λ j y. y) (λ j y. y) (λ j y. y) (λ j e. z j e.0 e.1) k

  both_hide : (F : Fam) (Z' : ℕ → Type 0) (b i : ℕ) (c : Cfg) → Same F Z' → More sz (hide i (preds F b)) c → More sz (hide i (preds (with_z F Z') b)) c
  both_hide F Z' b i c z k = more_z sz (hide i (preds F b)) (hide i (preds (with_z F Z') b)) c (λ j y. y) (λ j y. y) (λ j y. y) (λ j e. (z j e.0, e.1)) k

  tell_pix : (F : Fam) (Z' : ℕ → Type 0) (b i : ℕ) (m : List ℕ) (x y a : Bool) → ltb i I ≡ x → eqb (get_or m i 0) 1 ≡ y → Good_at F (suc b) pixels i false m → On_ask I F Z' a (look_pixels b i m x y)
      → Good (with_z F Z') (tell_at I (suc b) pixels i false m a)
  tell_pix F Z' b i m false y a ex ey g o = absurd o
  tell_pix F Z' b i m true false a ex ey g o = absurd o
  tell_pix F Z' b i m true true true ex ey g o =
      (g.0, (g.1.0, pix_z sz (preds F b) (hide i (preds (with_z F Z') b)) (F.X b) (F.X b) i g.1.0 m (shrink_hide F Z' b i g.1.0 o.1) (λ j x. x) g.1.1), ltb-true i I ex, eqb-true _ _ ey, o.0)
  tell_pix F Z' b i m true true false ex ey g o = (
    g.0,
    (
      g.1.0,
      pix_zero sz (preds (with_z F Z') b) (F.X b) i g.1.0 m
          (pix_z sz (preds F b) (preds (with_z F Z') b) (F.X b) (F.X b) i g.1.0 m (shrink F Z' b g.1.0 o.1) (λ j x. x) g.1.1) o.0,
    ),
  )

  tell_sets' : (F : Fam) (Z' : ℕ → Type 0) (b i : ℕ) (m : List ℕ) (x d g c a : Bool) → ltb i I ≡ x → eqb (get_or m i 0) 5 ≡ d → eqb (get_or m i 0) 6 ≡ g → eqb (get_or m i 0) 4 ≡ c
      → Good_at F (suc b) sets i false m → On_ask I F Z' a (look_sets b i m x d g c) → Good (with_z F Z') (tell_sets I (suc b) i m a d g)
  tell_sets' F Z' b i m false d g c a ex ed eg ec h o = absurd o
  tell_sets' F Z' b i m true true g c true ex ed eg ec h o = (
    h.0,
    (
      with_d (i / 4) h.1.0,
      sets_d1 sz (preds (with_z F Z') b) (F.X b) i h.1.0 m
          (sets_z sz (preds F b) (preds (with_z F Z') b) (F.X b) (F.X b) i h.1.0 m (shrink F Z' b h.1.0 o.1) (λ j x. x) h.1.1) (ltb-true i I ex) (eqb-true _ _ ed) o.0,
    ),
  )
  tell_sets' F Z' b i m true true g c false ex ed eg ec h o = (
    h.0,
    (
      h.1.0,
      sets_d0 sz (preds (with_z F Z') b) (F.X b) i h.1.0 m
          (sets_z sz (preds F b) (preds (with_z F Z') b) (F.X b) (F.X b) i h.1.0 m (shrink F Z' b h.1.0 o.1) (λ j x. x) h.1.1) (ltb-true i I ex) (eqb-true _ _ ed)
          (o.0 (omega (arith, is_desc_at sz h.1.0 m h.1.1.core i (ltb-true i I ex) (eqb-true _ _ ed)))),
    ),
  )
  tell_sets' F Z' b i m true false true c true ex ed eg ec h o = (
    h.0,
    (
      with_g (i / 16) h.1.0,
      sets_g1 sz (preds (with_z F Z') b) (F.X b) i h.1.0 m
          (sets_z sz (preds F b) (preds (with_z F Z') b) (F.X b) (F.X b) i h.1.0 m (shrink F Z' b h.1.0 o.1) (λ j x. x) h.1.1) (ltb-true i I ex) (eqb-true _ _ eg) o.0,
    ),
  )
  tell_sets' F Z' b i m true false true c false ex ed eg ec h o = (
    h.0,
    (
      h.1.0,
      sets_g0 sz (preds (with_z F Z') b) (F.X b) i h.1.0 m
          (sets_z sz (preds F b) (preds (with_z F Z') b) (F.X b) (F.X b) i h.1.0 m (shrink F Z' b h.1.0 o.1) (λ j x. x) h.1.1) (ltb-true i I ex) (eqb-true _ _ eg)
          (o.0 (omega (arith, is_grand_at sz h.1.0 m h.1.1.core i (ltb-true i I ex) (eqb-true _ _ eg)))),
    ),
  )
  tell_sets' F Z' b i m true false false true true ex ed eg ec h o =
      (h.0, (h.1.0, sets_z sz (preds F b) (hide i (preds (with_z F Z') b)) (F.X b) (F.X b) i h.1.0 m (shrink_hide F Z' b i h.1.0 o.1) (λ j x. x) h.1.1), ltb-true i I ex, eqb-true _ _ ec, o.0)
  tell_sets' F Z' b i m true false false true false ex ed eg ec h o =
      let hi : i < I = ltb-true i I ex in
      let it : Alone_at D I h.1.0 m i = is_alone sz h.1.0 m h.1.1.core i hi (omega (arith, eqb-true (get_or m i 0) 4 ec)) (omega (arith, eqb-true (get_or m i 0) 4 ec)) in (
        h.0,
        (
          with_a i 1 h.1.0,
          sets_c sz (preds (with_z F Z') b) (F.X b) i 1 h.1.0 m
              (sets_z sz (preds F b) (hide i (preds (with_z F Z') b)) (F.X b) (F.X b) i h.1.0 m (shrink_hide F Z' b i h.1.0 (λ j z n. o.1 j z)) (λ j x. x) h.1.1)
              hi (eqb-true _ _ ec) (lit≤ tt) (lit< tt) o.0 (λ z. absurd (omega arith))
              (λ z. absurd (omega (arith, it.1, eqb-true (get_or m i 0) 4 ec, h.1.1.more.zs i hi (o.1 i z)))),
        ),
      )
  tell_sets' F Z' b i m true false false false a ex ed eg ec h o = absurd o

  tell_fine : (F : Fam) (Z' : ℕ → Type 0) (b i : ℕ) (m : List ℕ) (x s n a : Bool) → ltb i I ≡ x → eqb (get_or m i 0) 3 ≡ s → eqb (get_or m i 0) 2 ≡ n → Good_at F (suc b) refining i false m → On_ask I F Z' a (look_refining b i m x s n)
      → Good (with_z F Z') (state_at (suc b) refining (i + 1) m)
  tell_fine F Z' b i m false s n a ex es en g o = absurd o
  tell_fine F Z' b i m true true n a ex es en g o = (g.0, (c, fine_ask sz (preds (with_z F Z') b) (F.X b) i c m (fine_z sz (preds F b) (preds (with_z F Z') b) (F.X b) (F.X b) i c m (grow a o) (λ j x. x) g.1.1) hi (eqb-true _ _ es) (got a o)))
    where
      c : Cfg
      c = g.1.0

      hi : i < I
      hi = ltb-true i I ex

      it : Alone_at D I c m i
      it = is_alone sz c m g.1.1.core i hi (omega (arith, eqb-true (get_or m i 0) 3 es)) (omega (arith, eqb-true (get_or m i 0) 3 es))

      got : (a : Bool) → Learned I F Z' (bit_of i b) a → F.X b i
      got true o = o.0
      got false o = o.0

      pick : ((j : ℕ) → Z' j → (j ≡ i → ⊥) → F.Z j) → More sz (preds F b) c → (j : ℕ) → j < I → Z' j → Dec (j ≡ i) → (alone D I c j ≡ true) × (2 ≤ c.al j) × (c.al j ≤ 3)
      pick z k j hj e (yes q) = subst (λ (x : ℕ). (alone D I c x ≡ true) × (2 ≤ c.al x) × (c.al x ≤ 3)) (sym q) (it.0, omega (arith, it.1, eqb-true (get_or m i 0) 3 es), omega (arith, it.1, eqb-true (get_or m i 0) 3 es))
      pick z k j hj e (no q) = k.zs j hj (z j e q)

      grow : (a : Bool) → Learned I F Z' (bit_of i b) a → More sz (preds F b) c → More sz (preds (with_z F Z') b) c
      grow true o k = record { sg = k.sg; q_d = k.q_d; q_g = k.q_g; zs = λ j hj e. pick o.1 k j hj e (ℕ_discrete j i) }
      grow false o k = shrink F Z' b c o.1 k
  tell_fine F Z' b i m true false true a ex es en g o = absurd o
  tell_fine F Z' b i m true false false a ex es en g o = absurd o

  -- an answer keeps it
  pub good_tell : (F : Fam) (Z' : ℕ → Type 0) (l : ℕ) (p : Pass) (i : ℕ) (s : Bool) (m : List ℕ) (a : Bool) → Good_at F l p i s m → On_ask I F Z' a (look_at I l p i s m) → Good (with_z F Z') (tell_at I l p i s m a)
  good_tell F Z' zero p i s m a g o = absurd o
  good_tell F Z' (suc b) pixels i true m a g o = (
    g.0,
    (
      with_a i 2 g.1.0,
      pix_one sz (preds (with_z F Z') b) (F.X b) i g.1.0 m
          (pix_z sz (hide i (preds F b)) (hide i (preds (with_z F Z') b)) (F.X b) (F.X b) i g.1.0 m (both_hide F Z' b i g.1.0 o.1) (λ j x. x) g.1.1) g.2 g.3 g.4 o.0,
    ),
  )
  good_tell F Z' (suc b) sets i true m a g o = (
    g.0,
    (
      with_a i 2 g.1.0,
      sets_c sz (preds (with_z F Z') b) (F.X b) i 2 g.1.0 m
          (sets_z sz (hide i (preds F b)) (hide i (preds (with_z F Z') b)) (F.X b) (F.X b) i g.1.0 m (both_hide F Z' b i g.1.0 o.1) (λ j x. x) g.1.1) g.2 g.3 (lit≤ tt) (lit< tt) g.4 (λ z. o.0) (λ z. lit≤ tt),
    ),
  )
  good_tell F Z' (suc b) refining i true m a g o = absurd g
  good_tell F Z' (suc b) pixels i false m a g o = tell_pix F Z' b i m (ltb i I) (eqb (get_or m i 0) 1) a refl refl g o
  good_tell F Z' (suc b) sets i false m a g o = tell_sets' F Z' b i m (ltb i I) (eqb (get_or m i 0) 5) (eqb (get_or m i 0) 6) (eqb (get_or m i 0) 4) a refl refl refl refl g o
  good_tell F Z' (suc b) refining i false m a g o = tell_fine F Z' b i m (ltb i I) (eqb (get_or m i 0) 3) (eqb (get_or m i 0) 2) a refl refl refl g o

  pub good_next : (F : Fam) (Z' : ℕ → Type 0) (s : State) (a : Bool) → Good F s → On_ask I F Z' a (look I s) → Good (with_z F Z') (next I s a)
  unfolding next
  good_next F Z' s a g o = good_settle (with_z F Z') (tell I s a) (good_tell F Z' s.left s.pass s.place s.pending s.marks a g o)

  -- more may be settled
  pub good_mono : (F E : Fam) → ((b j : ℕ) → F.X b j → E.X b j) → ((j : ℕ) → F.Y j → E.Y j) → ((b j : ℕ) → F.QD b j → E.QD b j) → ((b j : ℕ) → F.QG b j → E.QG b j) → ((j : ℕ) → E.Z j → F.Z j)
      → (s : State) → Good F s → Good E s
  good_mono F E x y d q z s g = go s.left s.pass s.place s.pending s.marks g
    where
      mo : (b : ℕ) (c : Cfg) → More sz (preds F b) c → More sz (preds E b) c
      mo b c k = more_z sz (preds F b) (preds E b) c y (d b) (q b) z k

      mh : (b i : ℕ) (c : Cfg) → More sz (hide i (preds F b)) c → More sz (hide i (preds E b)) c
      mh b i c k = more_z sz (hide i (preds F b)) (hide i (preds E b)) c y (d b) (q b) (λ j e. (z j e.0, e.1)) k

      fr : (b : ℕ) → From F b → From E b
      fr b f e h1 h2 j hj = x e j (f e h1 h2 j hj)

      go : (l : ℕ) (p : Pass) (i : ℕ) (s : Bool) (m : List ℕ) → Good_at F l p i s m → Good_at E l p i s m
      go zero p i s m g = (fr zero g.0, λ j hj w. y j (g.1 j hj (z j w)))
      go (suc b) pixels i false m g = (fr (suc b) g.0, (g.1.0, pix_z sz (preds F b) (preds E b) (F.X b) (E.X b) i g.1.0 m (mo b g.1.0) (x b) g.1.1))
      go (suc b) pixels i true m g = (fr (suc b) g.0, (g.1.0, pix_z sz (hide i (preds F b)) (hide i (preds E b)) (F.X b) (E.X b) i g.1.0 m (mh b i g.1.0) (x b) g.1.1), g.2, g.3, x b i g.4)
      go (suc b) sets i false m g = (fr (suc b) g.0, (g.1.0, sets_z sz (preds F b) (preds E b) (F.X b) (E.X b) i g.1.0 m (mo b g.1.0) (x b) g.1.1))
      go (suc b) sets i true m g = (fr (suc b) g.0, (g.1.0, sets_z sz (hide i (preds F b)) (hide i (preds E b)) (F.X b) (E.X b) i g.1.0 m (mh b i g.1.0) (x b) g.1.1), g.2, g.3, x b i g.4)
      go (suc b) refining i false m g = (fr (suc b) g.0, (g.1.0, fine_z sz (preds F b) (preds E b) (F.X b) (E.X b) i g.1.0 m (mo b g.1.0) (x b) g.1.1))
      go (suc b) refining i true m g = g
