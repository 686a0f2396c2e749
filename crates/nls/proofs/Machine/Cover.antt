-- The cover: in each plane every coefficient is asked for, or lies in a set that was answered 0.
-- X b i: "bit b of coefficient i is settled", for any X that grows with the answers.
use mathlib.Core.Path.{◌≡◌, refl, sym, ap, subst, ◌∙◌}
use mathlib.Core.Bool.{Bool, true, false, true≢false}
use mathlib.Core.Logic.{◌⊎◌, inl, inr}
use mathlib.Core.List.{List}
use Prim.Native.Nat.{ℕ, zero, suc, ◌+◌, ◌*◌, ◌-◌, ◌/◌, ◌%◌, ◌^◌, ◌≤◌, ◌<◌}
use native.Mathlib.Omega.{arith}
use native.Mathlib.Nat.{pow-suc}
use native.Mathlib.Decide.{dec_lt, ℕ_discrete}
use lib.ListN.{length, get_or, set, length-set}
use lib.Seq.{get_or-set_same, get_or-set_other}
use lib.Dec.{ltb, lit<, lit≤}
use borrow.Author.Tests.{ltb-false, le-ltb, lt-ltb}
use Rattle.nls.specs.Marks.{skip, set_skip, split_desc, split_grand}
use Rattle.nls.proofs.Tiled.{Tiled}
use Rattle.nls.proofs.Arrays.{four}
use Rattle.nls.proofs.Machine.Table.{Cfg, up, alone, stands, Ok, Table, alone_no, no_alone, stands_no, no_stands, no_dg, gap, skip_5, skip_7, up_low, up_5, up_7}
use Rattle.nls.proofs.Machine.Push.{table_g, ok_g, len_g, s_d_g, al_g, alone_g, stands_g_off, s_g_off, s_g_on}
use Rattle.nls.proofs.Machine.Split.{with_d, with_g, with_a, table_a, ok_a, kind_no, al_at, al_else, alone_a, stands_a, same_d, same_g, s_d_off, s_g_d, al_d_on, al_d_off, stands_d, alone_on, alone_off, table_d, ok_d}

-- What a run may know, besides: Y i, the sign of i; QD h and QG q, why the set was split; Z i, that a bit of i is 1
pub record Preds : Type 1 where
  pub Y : ℕ → Type 0
  pub QD : ℕ → Type 0
  pub QG : ℕ → Type 0
  pub Z : ℕ → Type 0

-- place i, whose sign is still to come, is left out
abbrev pub hide : ℕ → Preds → Preds
hide i R = record { Y = R.Y; QD = R.QD; QG = R.QG; Z = λ j. R.Z j × (j ≡ i → ⊥) }

-- i is a descendant of g
pub data Under (g : ℕ) : ℕ → Type 0 where
  kid : {i : ℕ} → i / 4 ≡ g → Under g i
  far : {i : ℕ} → Under g (i / 4) → Under g i

pub skip_1 : (v : ℕ) → v < 5 → skip v ≡ 1
unfolding skip
skip_1 v h = rw (lt-ltb v 5 h, skip)

pub sskip_small : (v : ℕ) → v < 5 → set_skip v ≡ 4
unfolding set_skip
sskip_small v h = rw (lt-ltb v 5 h, set_skip)

pub sskip_big : (v : ℕ) → 5 ≤ v → set_skip v ≡ skip v
unfolding set_skip
sskip_big v h = rw (le-ltb v 5 h, set_skip)

-- a set's skip is a multiple of 4
pub skip_mod : (v : ℕ) → 5 ≤ v → skip v % 4 ≡ 0
skip_mod v h = go (dec_lt v 7)
  where
    go : Dec (v < 7) → skip v % 4 ≡ 0
    go (yes k) = ap (λ (x : ℕ). x % 4) (skip_5 v h k ∙ ap (λ (x : ℕ). 4 ^ x) {x = v - 4} {y = suc (v - 5)} (omega arith)) ∙ omega (arith, pow-suc 4 (v - 5))
    go (no k) = ap (λ (x : ℕ). x % 4) (skip_7 v (omega arith) ∙ ap (λ (x : ℕ). 4 ^ x) {x = v - 5} {y = suc (v - 6)} (omega arith)) ∙ omega (arith, pow-suc 4 (v - 6))

length_four : (i v : ℕ) (l : List ℕ) → length (four i v l) ≡ length l
length_four i v l = simp length-set

-- four places from i on get v, and no others
four_in : (i v : ℕ) (l : List ℕ) (k : ℕ) → i + 3 < length l → i ≤ k → k < i + 4 → get_or (four i v l) k 0 ≡ v
four_in i v l k h a b = go (ℕ_discrete k (i + 3)) (ℕ_discrete k (i + 2)) (ℕ_discrete k (i + 1))
  where
    l1 : List ℕ
    l1 = set l i v

    l2 : List ℕ
    l2 = set l1 (i + 1) v

    l3 : List ℕ
    l3 = set l2 (i + 2) v

    e1 : length l1 ≡ length l
    e1 = length-set l i v

    e2 : length l2 ≡ length l
    e2 = length-set l1 (i + 1) v ∙ e1

    e3 : length l3 ≡ length l
    e3 = length-set l2 (i + 2) v ∙ e2

    go : Dec (k ≡ i + 3) → Dec (k ≡ i + 2) → Dec (k ≡ i + 1) → get_or (set l3 (i + 3) v) k 0 ≡ v
    go (yes z) y x = ap (λ (j : ℕ). get_or (set l3 (i + 3) v) j 0) z ∙ get_or-set_same l3 (i + 3) v 0 (omega (arith, e3))
    go (no z) (yes y) x = get_or-set_other l3 (i + 3) k v 0 z ∙ ap (λ (j : ℕ). get_or l3 j 0) y ∙ get_or-set_same l2 (i + 2) v 0 (omega (arith, e2))
    go (no z) (no y) (yes x) = get_or-set_other l3 (i + 3) k v 0 z ∙ get_or-set_other l2 (i + 2) k v 0 y ∙ ap (λ (j : ℕ). get_or l2 j 0) x ∙ get_or-set_same l1 (i + 1) v 0 (omega (arith, e1))
    go (no z) (no y) (no x) = get_or-set_other l3 (i + 3) k v 0 z ∙ get_or-set_other l2 (i + 2) k v 0 y ∙ get_or-set_other l1 (i + 1) k v 0 x ∙ ap (λ (j : ℕ). get_or l1 j 0) {x = k} {y = i} (omega arith) ∙ get_or-set_same l i v 0 (omega arith)

four_out : (i v : ℕ) (l : List ℕ) (k : ℕ) → (i ≤ k → k < i + 4 → ⊥) → get_or (four i v l) k 0 ≡ get_or l k 0
four_out i v l k n =
    get_or-set_other (set (set (set l i v) (i + 1) v) (i + 2) v) (i + 3) k v 0 (λ z. n (omega arith) (omega arith))
    ∙ get_or-set_other (set (set l i v) (i + 1) v) (i + 2) k v 0 (λ z. n (omega arith) (omega arith))
    ∙ get_or-set_other (set l i v) (i + 1) k v 0 (λ z. n (omega arith) (omega arith))
    ∙ get_or-set_other l i k v 0 (λ z. n (omega arith) (omega arith))

-- what a split of DESC writes
pub length_split : (I t : ℕ) (l : List ℕ) (x : Bool) → length (split_desc I t l x) ≡ length l
length_split I t l true = length-set (four t 4 l) (4 * t) 6 ∙ length_four t 4 l
length_split I t l false = length_four t 4 l

module _ (I t : ℕ) (l : List ℕ) (len : length l ≡ I) (fits : t + 3 < I) (t1 : 4 ≤ t) where
  pub split_kids : (x : Bool) (k : ℕ) → t ≤ k → k < t + 4 → get_or (split_desc I t l x) k 0 ≡ 4
  split_kids true k a b = get_or-set_other (four t 4 l) (4 * t) k 6 0 (λ z. omega arith) ∙ four_in t 4 l k (omega arith) a b
  split_kids false k a b = four_in t 4 l k (omega arith) a b

  pub split_below : (x : Bool) → ltb (4 * t) I ≡ x → 4 * t < I → get_or (split_desc I t l x) (4 * t) 0 ≡ 6
  split_below true e h = get_or-set_same (four t 4 l) (4 * t) 6 0 (omega (arith, length_four t 4 l))
  split_below false e h = absurd (omega (arith, ltb-false (4 * t) I e))

  pub split_rest : (x : Bool) (k : ℕ) → (t ≤ k → k < t + 4 → ⊥) → (k ≡ 4 * t → ⊥) → get_or (split_desc I t l x) k 0 ≡ get_or l k 0
  split_rest true k a b = get_or-set_other (four t 4 l) (4 * t) k 6 0 b ∙ four_out t 4 l k a
  split_rest false k a b = four_out t 4 l k a

up_5_no : (x : ℕ) → Dec (x < 5) → Dec (x < 7) → up x ≡ 5 → ⊥
up_5_no x (yes a) b e = omega (arith, up_low x a)
up_5_no x (no a) (yes b) e = omega (arith, up_5 x (omega arith) b)
up_5_no x (no a) (no b) e = omega (arith, up_7 x (omega arith))

up_6_no : (x : ℕ) → Dec (x < 5) → Dec (x < 7) → up x ≡ 6 → ⊥
up_6_no x (yes a) b e = omega (arith, up_low x a)
up_6_no x (no a) (yes b) e = omega (arith, up_5 x (omega arith) b)
up_6_no x (no a) (no b) e = omega (arith, up_7 x (omega arith))

-- what the mark at a place says: MD, that DESC(t / 4) stands; MG, that GRAND(t / 16) does; a mark from 1 to 4, that the coefficient stands alone
abbrev pub Desc_at : ℕ → ℕ → Cfg → ℕ → Type 0
Desc_at D I c t = (t % 4 ≡ 0) × (stands D I c (t / 4) ≡ true) × (c.s_d (t / 4) ≡ false) × (D ≤ t)

abbrev pub Grand_at : ℕ → ℕ → Cfg → ℕ → Type 0
Grand_at D I c t = (t ≡ 16 * (t / 16)) × (c.s_d (t / 16) ≡ true) × (c.s_g (t / 16) ≡ false) × (D ≤ 4 * (t / 16)) × (alone D I c t ≡ false)

abbrev pub Alone_at : ℕ → ℕ → Cfg → List ℕ → ℕ → Type 0
Alone_at D I c m t = (alone D I c t ≡ true) × (c.al t ≡ get_or m t 0)

module _ {D I : ℕ} (sz : Tiled D I) where
  pub record Core (c : Cfg) (l : List ℕ) : Type 0 where
    pub len : length l ≡ I
    pub ok : Ok D I c
    pub tab : Table D I c (λ j. get_or l j 0)
    pub rng : (j : ℕ) → j < I → alone D I c j ≡ true → (1 ≤ c.al j) × (c.al j ≤ 4)

  pub record More (R : Preds) (c : Cfg) : Type 0 where
    pub sg : (j : ℕ) → j < I → alone D I c j ≡ true → 2 ≤ c.al j → c.al j ≤ 3 → R.Y j
    pub q_d : (h : ℕ) → c.s_d h ≡ true → R.QD h
    pub q_g : (q : ℕ) → c.s_g q ≡ true → R.QG q
    pub zs : (j : ℕ) → j < I → R.Z j → (alone D I c j ≡ true) × (2 ≤ c.al j) × (c.al j ≤ 3)

  pub more_a : (R : Preds) (i v : ℕ) (c : Cfg) → More (hide i R) c → alone D I c i ≡ true → (2 ≤ v → v ≤ 3 → R.Y i) → (R.Z i → (2 ≤ v) × (v ≤ 3)) → More R (with_a i v c)
  more_a R i v c k a y z = record {
    sg = λ j hj b l u. sg' j hj (sym (alone_a D I i v c j) ∙ b) l u (ℕ_discrete j i);
    q_d = λ h e. k.q_d h (sym (same_d i v c h) ∙ e);
    q_g = λ q e. k.q_g q (sym (same_g i v c q) ∙ e);
    zs = λ j hj e. zs' j hj e (ℕ_discrete j i);
  }
    where
      sg' : (j : ℕ) → j < I → alone D I c j ≡ true → 2 ≤ (with_a i v c).al j → (with_a i v c).al j ≤ 3 → Dec (j ≡ i) → R.Y j
      sg' j hj b l u (yes e) = subst R.Y (sym e) (y (omega (arith, al_at i v c j e)) (omega (arith, al_at i v c j e)))
      sg' j hj b l u (no e) = k.sg j hj b (omega (arith, al_else i v c j e)) (omega (arith, al_else i v c j e))

      zs' : (j : ℕ) → j < I → R.Z j → Dec (j ≡ i) → (alone D I (with_a i v c) j ≡ true) × (2 ≤ (with_a i v c).al j) × ((with_a i v c).al j ≤ 3)
      zs' j hj e (yes q) =
          let r : (2 ≤ v) × (v ≤ 3) = z (subst R.Z q e) in
          (alone_a D I i v c j ∙ subst (λ (x : ℕ). alone D I c x ≡ true) (sym q) a, omega (arith, al_at i v c j q), omega (arith, al_at i v c j q))
      zs' j hj e (no q) =
          let r : (alone D I c j ≡ true) × (2 ≤ c.al j) × (c.al j ≤ 3) = k.zs j hj (e, q) in
          (alone_a D I i v c j ∙ r.0, omega (arith, al_else i v c j q), omega (arith, al_else i v c j q))

  pub more_hide : (R : Preds) (i : ℕ) (c : Cfg) → More R c → More (hide i R) c
  more_hide R i c k = record { sg = k.sg; q_d = k.q_d; q_g = k.q_g; zs = λ j hj e. k.zs j hj e.0 }

  pub more_d : (R : Preds) (g : ℕ) (c : Cfg) → More R c → D ≤ 4 * g → c.s_d g ≡ false → R.QD g → More R (with_d g c)
  more_d R g c k lo n y = record {
    sg = λ j hj b l u. sg' j hj b l u (ℕ_discrete (j / 4) g);
    q_d = λ h e. q_d' h e (ℕ_discrete h g);
    q_g = λ q e. k.q_g q (sym (s_g_d g c q) ∙ e);
    zs = λ j hj e. zs' j (k.zs j hj e) (ℕ_discrete (j / 4) g);
  }
    where
      sg' : (j : ℕ) → j < I → alone D I (with_d g c) j ≡ true → 2 ≤ (with_d g c).al j → (with_d g c).al j ≤ 3 → Dec (j / 4 ≡ g) → R.Y j
      sg' j hj b l u (yes e) = absurd (omega (arith, al_d_on g c j e))
      sg' j hj b l u (no e) = k.sg j hj (sym (alone_off D I g c j e) ∙ b) (omega (arith, al_d_off g c j e)) (omega (arith, al_d_off g c j e))

      q_d' : (h : ℕ) → (with_d g c).s_d h ≡ true → Dec (h ≡ g) → R.QD h
      q_d' h e (yes z) = subst R.QD (sym z) y
      q_d' h e (no z) = k.q_d h (sym (s_d_off g c h z) ∙ e)

      zs' : (j : ℕ) → (alone D I c j ≡ true) × (2 ≤ c.al j) × (c.al j ≤ 3) → Dec (j / 4 ≡ g) → (alone D I (with_d g c) j ≡ true) × (2 ≤ (with_d g c).al j) × ((with_d g c).al j ≤ 3)
      zs' j r (yes e) = absurd (true≢false (sym r.0 ∙ alone_no D I c j (omega arith) (subst (λ (x : ℕ). c.s_d x ≡ false) (sym e) n)))
      zs' j r (no e) = (alone_off D I g c j e ∙ r.0, omega (arith, al_d_off g c j e), omega (arith, al_d_off g c j e))

  pub more_g : (R : Preds) (q : ℕ) (c : Cfg) → More R c → R.QG q → More R (with_g q c)
  more_g R q c k y = record {
    sg = λ j hj b l u. k.sg j hj (sym (alone_g D I q c j) ∙ b) (omega (arith, al_g q c j)) (omega (arith, al_g q c j));
    q_d = λ h e. k.q_d h (sym (s_d_g q c h) ∙ e);
    q_g = λ h e. q_g' h e (ℕ_discrete h q);
    zs = λ j hj e. zs' j (k.zs j hj e);
  }
    where
      q_g' : (h : ℕ) → (with_g q c).s_g h ≡ true → Dec (h ≡ q) → R.QG h
      q_g' h e (yes z) = subst R.QG (sym z) y
      q_g' h e (no z) = k.q_g h (sym (s_g_off q c h z) ∙ e)

      zs' : (j : ℕ) → (alone D I c j ≡ true) × (2 ≤ c.al j) × (c.al j ≤ 3) → (alone D I (with_g q c) j ≡ true) × (2 ≤ (with_g q c).al j) × ((with_g q c).al j ≤ 3)
      zs' j r = (alone_g D I q c j ∙ r.0, omega (arith, al_g q c j), omega (arith, al_g q c j))

  -- the pixel pass at place t
  pub record Pix (R : Preds) (X : ℕ → Type 0) (t : ℕ) (c : Cfg) (l : List ℕ) : Type 0 where
    pub core : Core c l
    pub more : More R c
    pub two : (j : ℕ) → j < I → alone D I c j ≡ true → c.al j ≡ 2 → j < t
    pub no4 : (j : ℕ) → j < I → alone D I c j ≡ true → c.al j ≡ 4 → ⊥
    pub done : (j : ℕ) → j < I → alone D I c j ≡ true → j < t → (c.al j ≡ 3 → ⊥) → X j

  -- the refinement pass at place t
  pub record Fine (R : Preds) (X : ℕ → Type 0) (t : ℕ) (c : Cfg) (l : List ℕ) : Type 0 where
    pub core : Core c l
    pub more : More R c
    pub two : (j : ℕ) → j < I → alone D I c j ≡ true → c.al j ≡ 2 → t ≤ j
    pub no4 : (j : ℕ) → j < I → alone D I c j ≡ true → c.al j ≡ 4 → ⊥
    pub done : (j : ℕ) → j < I → (alone D I c j ≡ true → c.al j ≡ 3 → t ≤ j → ⊥) → X j

  -- a mark from 1 to 4 is that of a coefficient which stands alone
  pub is_alone : (c : Cfg) (l : List ℕ) → Core c l → (j : ℕ) → j < I → 1 ≤ get_or l j 0 → get_or l j 0 < 5 → Alone_at D I c l j
  is_alone c l k j h a b = go (alone D I c j) refl
    where
      no_way : (get_or l j 0 ≡ 0) ⊎ (5 ≤ get_or l j 0) → ⊥
      no_way (inl e) = omega arith
      no_way (inr e) = omega arith

      go : (x : Bool) → alone D I c j ≡ x → Alone_at D I c l j
      go true e = (e, sym (k.tab.solo j h e))
      go false e = absurd (no_way (kind_no sz c k.ok (λ i. get_or l i 0) k.tab j h e))

  -- and one of 5 or more is not
  pub not_alone : (c : Cfg) (l : List ℕ) → Core c l → (j : ℕ) → j < I → 5 ≤ get_or l j 0 → alone D I c j ≡ false
  not_alone c l k j h a = go (alone D I c j) refl
    where
      go : (x : Bool) → alone D I c j ≡ x → alone D I c j ≡ false
      go true e = absurd (omega (arith, k.tab.solo j h e, k.rng j h e))
      go false e = e

  -- what a skip jumps over, and its first place: nothing there stands alone, but the first place itself
  pub jump : (c : Cfg) (l : List ℕ) → Core c l → (t : ℕ) → t < I → (j : ℕ) → t ≤ j → j < t + skip (get_or l t 0) → j < I → alone D I c j ≡ true → (j ≡ t) × (get_or l t 0 ≡ c.al t)
  jump c l k t h j a b ji e = go (dec_lt (get_or l t 0) 5)
    where
      go : Dec (get_or l t 0 < 5) → (j ≡ t) × (get_or l t 0 ≡ c.al t)
      go (yes z) =
          let s : skip (get_or l t 0) ≡ 1 = skip_1 (get_or l t 0) z in
          let q : j ≡ t = omega arith in
          (q, k.tab.solo t h (subst (λ (i : ℕ). alone D I c i ≡ true) q e))
      go (no z) = absurd (hit (ℕ_discrete j t))
        where
          big : 5 ≤ get_or l t 0
          big = omega arith

          hit : Dec (j ≡ t) → ⊥
          hit (yes q) = true≢false (sym (subst (λ (i : ℕ). alone D I c i ≡ true) q e) ∙ not_alone c l k t h big)
          hit (no q) = true≢false (sym e ∙ (gap sz c (λ i. get_or l i 0) k.ok k.tab t h (not_alone c l k t h big) big j (omega arith) b ji).0)

  -- the mark of one coefficient changes
  pub core_a : (c : Cfg) (l : List ℕ) (i v : ℕ) → Core c l → i < I → alone D I c i ≡ true → 1 ≤ v → v ≤ 4 → Core (with_a i v c) (set l i v)
  unfolding with_a alone
  core_a c l i v k h a v1 v4 = record {
    len = length-set l i v ∙ k.len;
    ok = ok_a sz c k.ok (λ j. get_or l j 0) k.tab i v;
    tab = table_a sz c k.ok (λ j. get_or l j 0) k.tab i v a (λ j. get_or (set l i v) j 0)
        (get_or-set_same l i v 0 (omega (arith, k.len))) (λ j hj n. get_or-set_other l i j v 0 n);
    rng = λ j hj e. rng' j hj e (ℕ_discrete j i);
  }
    where
      rng' : (j : ℕ) → j < I → alone D I c j ≡ true → Dec (j ≡ i) → (1 ≤ (with_a i v c).al j) × ((with_a i v c).al j ≤ 4)
      rng' j hj e (yes q) = subst (λ (x : ℕ). (1 ≤ x) × (x ≤ 4)) (sym (al_at i v c j q)) (v1, v4)
      rng' j hj e (no q) = subst (λ (x : ℕ). (1 ≤ x) × (x ≤ 4)) (sym (al_else i v c j q)) (k.rng j hj e)

  -- The pixel pass, one visit: a skip
  pub pix_hush : (R : Preds) (X : ℕ → Type 0) (t : ℕ) (c : Cfg) (l : List ℕ) → Pix R X t c l → t < I → (get_or l t 0 ≡ 1 → ⊥) → Pix R X (t + skip (get_or l t 0)) c l
  pix_hush R X t c l p h n = record {
    core = p.core;
    more = p.more;
    two = λ j hj a e. omega (arith, p.two j hj a e);
    no4 = p.no4;
    done = λ j hj a b e. go j hj a b e (dec_lt j t);
  }
    where
      go : (j : ℕ) → j < I → alone D I c j ≡ true → j < t + skip (get_or l t 0) → (c.al j ≡ 3 → ⊥) → Dec (j < t) → X j
      go j hj a b e (yes z) = p.done j hj a z e
      go j hj a b e (no z) =
          let r : (j ≡ t) × (get_or l t 0 ≡ c.al t) = jump c l p.core t h j (omega arith) b hj a in
          let s : (1 ≤ c.al j) × (c.al j ≤ 4) = p.core.rng j hj a in
          let e1 : c.al j ≡ get_or l t 0 = ap c.al r.0 ∙ sym r.1 in
          absurd (kinds (ℕ_discrete (c.al j) 2) (ℕ_discrete (c.al j) 4) s e1 r.0)
        where
          kinds : Dec (c.al j ≡ 2) → Dec (c.al j ≡ 4) → (1 ≤ c.al j) × (c.al j ≤ 4) → c.al j ≡ get_or l t 0 → j ≡ t → ⊥
          kinds (yes x) y s e1 q = omega (arith, p.two j hj a x)
          kinds (no x) (yes y) s e1 q = p.no4 j hj a y
          kinds (no x) (no y) s e1 q = n (omega (arith, e))

  -- MIP answered 0: t is settled
  pub pix_zero : (R : Preds) (X : ℕ → Type 0) (t : ℕ) (c : Cfg) (l : List ℕ) → Pix R X t c l → X t → Pix R X (t + 1) c l
  pix_zero R X t c l p x = record {
    core = p.core;
    more = p.more;
    two = λ j hj a e. omega (arith, p.two j hj a e);
    no4 = p.no4;
    done = λ j hj a b e. go j hj a b e (ℕ_discrete j t);
  }
    where
      go : (j : ℕ) → j < I → alone D I c j ≡ true → j < t + 1 → (c.al j ≡ 3 → ⊥) → Dec (j ≡ t) → X j
      go j hj a b e (yes z) = subst X (sym z) x
      go j hj a b e (no z) = p.done j hj a (omega arith) e

  -- MIP answered 1, with its sign
  pub pix_one : (R : Preds) (X : ℕ → Type 0) (t : ℕ) (c : Cfg) (l : List ℕ) → Pix (hide t R) X t c l → t < I → get_or l t 0 ≡ 1 → X t → R.Y t → Pix R X (t + 1) (with_a t 2 c) (set l t 2)
  pix_one R X t c l p h e x y = record {
    core = core_a c l t 2 p.core h it.0 (lit≤ tt) (lit≤ tt);
    more = more_a R t 2 c p.more it.0 (λ a b. y) (λ z. (lit≤ tt, lit≤ tt));
    two = λ j hj a z. two' j hj (was j a) z (ℕ_discrete j t);
    no4 = λ j hj a z. no4' j hj (was j a) z (ℕ_discrete j t);
    done = λ j hj a b z. done' j hj (was j a) b z (ℕ_discrete j t);
  }
    where
      it : Alone_at D I c l t
      it = is_alone c l p.core t h (omega arith) (omega arith)

      was : (j : ℕ) → alone D I (with_a t 2 c) j ≡ true → alone D I c j ≡ true
      was j a = sym (alone_a D I t 2 c j) ∙ a

      two' : (j : ℕ) → j < I → alone D I c j ≡ true → (with_a t 2 c).al j ≡ 2 → Dec (j ≡ t) → j < t + 1
      two' j hj a z (yes q) = omega arith
      two' j hj a z (no q) = omega (arith, p.two j hj a (sym (al_else t 2 c j q) ∙ z))

      no4' : (j : ℕ) → j < I → alone D I c j ≡ true → (with_a t 2 c).al j ≡ 4 → Dec (j ≡ t) → ⊥
      no4' j hj a z (yes q) = omega (arith, al_at t 2 c j q)
      no4' j hj a z (no q) = p.no4 j hj a (sym (al_else t 2 c j q) ∙ z)

      done' : (j : ℕ) → j < I → alone D I c j ≡ true → j < t + 1 → ((with_a t 2 c).al j ≡ 3 → ⊥) → Dec (j ≡ t) → X j
      done' j hj a b z (yes q) = subst X (sym q) x
      done' j hj a b z (no q) = p.done j hj a (omega arith) (λ y. z (al_else t 2 c j q ∙ y))

  -- The refinement pass: a skip
  pub fine_hush : (R : Preds) (X : ℕ → Type 0) (t : ℕ) (c : Cfg) (l : List ℕ) → Fine R X t c l → t < I → (get_or l t 0 ≡ 3 → ⊥) → (get_or l t 0 ≡ 2 → ⊥) → Fine R X (t + skip (get_or l t 0)) c l
  fine_hush R X t c l p h n n2 = record {
    core = p.core;
    more = p.more;
    two = λ j hj a e. two' j hj a e (dec_lt j (t + skip (get_or l t 0)));
    no4 = p.no4;
    done = λ j hj e. p.done j hj (λ a z b. done' j hj e a z b (dec_lt j (t + skip (get_or l t 0))));
  }
    where
      two' : (j : ℕ) → j < I → alone D I c j ≡ true → c.al j ≡ 2 → Dec (j < t + skip (get_or l t 0)) → t + skip (get_or l t 0) ≤ j
      two' j hj a e (yes z) =
          let r : (j ≡ t) × (get_or l t 0 ≡ c.al t) = jump c l p.core t h j (p.two j hj a e) z hj a in
          absurd (n2 (r.1 ∙ ap c.al (sym r.0) ∙ e))
      two' j hj a e (no z) = omega arith

      done' : (j : ℕ) → j < I → (alone D I c j ≡ true → c.al j ≡ 3 → t + skip (get_or l t 0) ≤ j → ⊥) → alone D I c j ≡ true → c.al j ≡ 3 → t ≤ j → Dec (j < t + skip (get_or l t 0)) → ⊥
      done' j hj e a z b (yes y) =
          let r : (j ≡ t) × (get_or l t 0 ≡ c.al t) = jump c l p.core t h j b y hj a in
          n (r.1 ∙ ap c.al (sym r.0) ∙ z)
      done' j hj e a z b (no y) = e a z (omega arith)

  -- MSP is refined
  pub fine_ask : (R : Preds) (X : ℕ → Type 0) (t : ℕ) (c : Cfg) (l : List ℕ) → Fine R X t c l → t < I → get_or l t 0 ≡ 3 → X t → Fine R X (t + 1) c l
  fine_ask R X t c l p h m x = record {
    core = p.core;
    more = p.more;
    two = λ j hj a e. two' j hj a e (ℕ_discrete j t);
    no4 = p.no4;
    done = λ j hj e. done' j hj e (ℕ_discrete j t);
  }
    where
      it : Alone_at D I c l t
      it = is_alone c l p.core t h (omega arith) (omega arith)

      two' : (j : ℕ) → j < I → alone D I c j ≡ true → c.al j ≡ 2 → Dec (j ≡ t) → t + 1 ≤ j
      two' j hj a e (yes q) = absurd (omega (arith, it.1, ap c.al q))
      two' j hj a e (no q) = omega (arith, p.two j hj a e)

      done' : (j : ℕ) → j < I → (alone D I c j ≡ true → c.al j ≡ 3 → t + 1 ≤ j → ⊥) → Dec (j ≡ t) → X j
      done' j hj e (yes q) = subst X (sym q) x
      done' j hj e (no q) = p.done j hj (λ a z b. e a z (omega arith))

  -- MNP becomes MSP, in silence: it was settled when it was found
  pub fine_np : (R : Preds) (X : ℕ → Type 0) (t : ℕ) (c : Cfg) (l : List ℕ) → Fine R X t c l → t < I → get_or l t 0 ≡ 2 → Fine R X (t + 1) (with_a t 3 c) (set l t 3)
  fine_np R X t c l p h m = record {
    core = core_a c l t 3 p.core h it.0 (lit≤ tt) (lit≤ tt);
    more = more_a R t 3 c (more_hide R t c p.more) it.0 (λ a b. p.more.sg t h it.0 (omega (arith, it.1)) (omega (arith, it.1))) (λ z. (lit≤ tt, lit≤ tt));
    two = λ j hj a e. two' j hj (was j a) e (ℕ_discrete j t);
    no4 = λ j hj a z. no4' j hj (was j a) z (ℕ_discrete j t);
    done = λ j hj e. done' j hj (λ a. e (alone_a D I t 3 c j ∙ a)) (ℕ_discrete j t);
  }
    where
      it : Alone_at D I c l t
      it = is_alone c l p.core t h (omega arith) (omega arith)

      was : (j : ℕ) → alone D I (with_a t 3 c) j ≡ true → alone D I c j ≡ true
      was j a = sym (alone_a D I t 3 c j) ∙ a

      two' : (j : ℕ) → j < I → alone D I c j ≡ true → (with_a t 3 c).al j ≡ 2 → Dec (j ≡ t) → t + 1 ≤ j
      two' j hj a z (yes q) = absurd (omega (arith, al_at t 3 c j q))
      two' j hj a z (no q) = omega (arith, p.two j hj a (sym (al_else t 3 c j q) ∙ z))

      no4' : (j : ℕ) → j < I → alone D I c j ≡ true → (with_a t 3 c).al j ≡ 4 → Dec (j ≡ t) → ⊥
      no4' j hj a z (yes q) = omega (arith, al_at t 3 c j q)
      no4' j hj a z (no q) = p.no4 j hj a (sym (al_else t 3 c j q) ∙ z)

      done' : (j : ℕ) → j < I → (alone D I c j ≡ true → (with_a t 3 c).al j ≡ 3 → t + 1 ≤ j → ⊥) → Dec (j ≡ t) → X j
      done' j hj e (yes q) = p.done j hj (λ a z b. omega (arith, it.1, ap c.al q))
      done' j hj e (no q) = p.done j hj (λ a z b. e a (al_else t 3 c j q ∙ z) (omega arith))

  -- The end of the refinement pass: every coefficient is settled, and the pixel pass of the next plane begins with nothing settled
  pub fine_end : (R : Preds) (X Y : ℕ → Type 0) (t : ℕ) (c : Cfg) (l : List ℕ) → Fine R X t c l → I ≤ t → ((j : ℕ) → j < I → X j) × Pix R Y 0 c l
  fine_end R X Y t c l p h = (
    (λ j hj. p.done j hj (λ a z b. omega arith)),
    record { core = p.core; more = p.more; two = λ j hj a e. absurd (omega (arith, p.two j hj a e)); no4 = p.no4; done = λ j hj a b e. absurd (omega arith) },
  )

  -- the set pass at place t
  pub record Sets (R : Preds) (X : ℕ → Type 0) (t : ℕ) (c : Cfg) (l : List ℕ) : Type 0 where
    pub core : Core c l
    pub more : More R c
    pub four : (j : ℕ) → j < I → alone D I c j ≡ true → c.al j ≡ 4 → (t ≤ j) × (j / 4 ≡ t / 4) × (alone D I c t ≡ true) × (c.al t ≡ 4)
    pub grp : t < I → alone D I c t ≡ true → c.al t ≡ 4 → (j : ℕ) → t ≤ j → j / 4 ≡ t / 4 → (alone D I c j ≡ true) × (c.al j ≡ 4)
    pub ali : (t % 4 ≡ 0 → ⊥) → (t < I) × (alone D I c t ≡ true) × (c.al t ≡ 4)
    pub done : (j : ℕ) → j < I → alone D I c j ≡ true → (c.al j ≡ 3 → ⊥) → (c.al j ≡ 4 → ⊥) → X j
    pub d_d : (h : ℕ) → D ≤ 4 * h → 4 * h < I → 4 * h < t → stands D I c h ≡ true → c.s_d h ≡ false → (i : ℕ) → i < I → Under h i → X i
    pub d_g : (q : ℕ) → D ≤ 4 * q → 16 * q < I → 16 * q < t → c.s_d q ≡ true → c.s_g q ≡ false → (i : ℕ) → i < I → Under q (i / 4) → X i

  -- where the standing sets are marked
  pub mark_d : (c : Cfg) (l : List ℕ) → Core c l → (h : ℕ) → D ≤ 4 * h → 4 * h < I → stands D I c h ≡ true → c.s_d h ≡ false → get_or l (4 * h) 0 ≡ 5
  mark_d c l k h a b s n = k.tab.head (4 * h) b (alone_no D I c (4 * h) a (subst (λ (x : ℕ). c.s_d x ≡ false) {x = h} {y = 4 * h / 4} (omega arith) n)) (omega arith)
      (subst (λ (x : ℕ). stands D I c x ≡ true) {x = h} {y = 4 * h / 4} (omega arith) s)

  pub mark_g : (c : Cfg) (l : List ℕ) → Core c l → (q : ℕ) → D ≤ 4 * q → 16 * q < I → c.s_d q ≡ true → c.s_g q ≡ false → get_or l (16 * q) 0 ≡ 6
  mark_g c l k q a b s n =
      let st : stands D I c (4 * q) ≡ false = stands_no D I c (4 * q) a (subst (λ (x : ℕ). c.s_g x ≡ false) {x = q} {y = 4 * q / 4} (omega arith) n) in
      k.tab.mid (16 * q) b (alone_no D I c (16 * q) (omega arith) (subst (λ (x : ℕ). c.s_d x ≡ false) {x = 4 * q} {y = 16 * q / 4} (omega arith) (no_dg D I c k.ok (4 * q) st))) (omega arith)
      (subst (λ (x : ℕ). stands D I c x ≡ false) {x = 4 * q} {y = 16 * q / 4} (omega arith) st) (omega arith)
      (subst (λ (x : ℕ). c.s_d x ≡ true) {x = q} {y = 16 * q / 4 / 4} (omega arith) s)

  -- every place that is not alone lies in a set that stands
  pub data Home (c : Cfg) (j : ℕ) : Type 0 where
    in_d : (h : ℕ) → D ≤ 4 * h → 4 * h < I → stands D I c h ≡ true → c.s_d h ≡ false → Under h j → Home c j
    in_g : (q : ℕ) → D ≤ 4 * q → 16 * q < I → c.s_d q ≡ true → c.s_g q ≡ false → Under q (j / 4) → Home c j

  home_fuel : (n : ℕ) (c : Cfg) → Ok D I c → (j : ℕ) → j ≤ n → j < I → alone D I c j ≡ false → Home c j
  home_fuel zero c o j a b e = absurd (omega (arith, (no_alone D I c j e).0))
  home_fuel (suc n) c o j a b e = go (stands D I c (j / 4)) refl (c.s_d (j / 4 / 4)) refl (home_fuel n c o (j / 4))
    where
      dj : D ≤ j
      dj = (no_alone D I c j e).0

      up_one : Home c (j / 4) → Home c j
      up_one (in_d h a1 a2 a3 a4 u) = in_d h a1 a2 a3 a4 (far u)
      up_one (in_g q a1 a2 a3 a4 u) = in_g q a1 a2 a3 a4 (far u)

      go : (x : Bool) → stands D I c (j / 4) ≡ x → (y : Bool) → c.s_d (j / 4 / 4) ≡ y → (j / 4 ≤ n → j / 4 < I → alone D I c (j / 4) ≡ false → Home c (j / 4)) → Home c j
      go true ex y ey ih = in_d (j / 4) (omega (arith, dj)) (omega arith) ex (no_alone D I c j e).1 (kid refl)
      go false ex true ey ih = in_g (j / 4 / 4) (o.lo (j / 4 / 4) ey) (omega arith) ey (no_stands D I c (j / 4) ex).1 (kid refl)
      go false ex false ey ih = up_one (ih (omega (arith, dj)) (omega arith) (alone_no D I c (j / 4) (no_stands D I c (j / 4) ex).0 ey))

  pub home : (c : Cfg) → Ok D I c → (j : ℕ) → j < I → alone D I c j ≡ false → Home c j
  home c o j = home_fuel j c o j (omega arith)

  -- from the pixel pass, and to the refinement pass
  pub pix_end : (R : Preds) (X : ℕ → Type 0) (t : ℕ) (c : Cfg) (l : List ℕ) → Pix R X t c l → I ≤ t → Sets R X 0 c l
  pix_end R X t c l p h = record {
    core = p.core;
    more = p.more;
    four = λ j hj a e. absurd (p.no4 j hj a e);
    grp = λ z a e j. absurd (p.no4 0 z a e);
    ali = λ z. absurd (z refl);
    done = λ j hj a e3 e4. p.done j hj a (omega arith) e3;
    d_d = λ h a b z. absurd (omega arith);
    d_g = λ q a b z. absurd (omega arith);
  }

  pub sets_end : (R : Preds) (X : ℕ → Type 0) (t : ℕ) (c : Cfg) (l : List ℕ) → Sets R X t c l → I ≤ t → Fine R X 0 c l
  sets_end R X t c l p h = record {
    core = p.core;
    more = p.more;
    two = λ j hj a e. omega arith;
    no4 = λ j hj a e. omega (arith, p.four j hj a e);
    done = λ j hj e. go j hj e (alone D I c j) refl;
  }
    where
      settled : (j : ℕ) → j < I → Home c j → X j
      settled j hj (in_d k a b s n u) = p.d_d k a b (omega arith) s n j hj u
      settled j hj (in_g k a b s n u) = p.d_g k a b (omega arith) s n j hj u

      go : (j : ℕ) → j < I → (alone D I c j ≡ true → c.al j ≡ 3 → 0 ≤ j → ⊥) → (x : Bool) → alone D I c j ≡ x → X j
      go j hj e true a = p.done j hj a (λ z. e a z (omega arith)) (λ z. omega (arith, p.four j hj a z))
      go j hj e false a = settled j hj (home c p.core.ok j hj a)

  -- no standing set begins strictly inside a skip past a mark of 5 or more
  quiet_d : (c : Cfg) (l : List ℕ) → Core c l → (t : ℕ) → t < I → 5 ≤ get_or l t 0 → (h : ℕ) → D ≤ 4 * h → 4 * h < I → t < 4 * h → 4 * h < t + skip (get_or l t 0) → stands D I c h ≡ true → c.s_d h ≡ false → ⊥
  quiet_d c l k t ti big h a b x y s n =
      let z : (alone D I c (4 * h) ≡ false) × (get_or l (4 * h) 0 ≡ 0) = gap sz c (λ i. get_or l i 0) k.ok k.tab t ti (not_alone c l k t ti big) big (4 * h) x y b in
      omega (arith, z.1, mark_d c l k h a b s n)

  quiet_g : (c : Cfg) (l : List ℕ) → Core c l → (t : ℕ) → t < I → 5 ≤ get_or l t 0 → (q : ℕ) → D ≤ 4 * q → 16 * q < I → t < 16 * q → 16 * q < t + skip (get_or l t 0) → c.s_d q ≡ true → c.s_g q ≡ false → ⊥
  quiet_g c l k t ti big q a b x y s n =
      let z : (alone D I c (16 * q) ≡ false) × (get_or l (16 * q) 0 ≡ 0) = gap sz c (λ i. get_or l i 0) k.ok k.tab t ti (not_alone c l k t ti big) big (16 * q) x y b in
      omega (arith, z.1, mark_g c l k q a b s n)

  -- the set pass stands at a multiple of 4, or at MCP
  pub sets_even : (R : Preds) (X : ℕ → Type 0) (t : ℕ) (c : Cfg) (l : List ℕ) → Sets R X t c l → t < I → (get_or l t 0 ≡ 4 → ⊥) → t % 4 ≡ 0
  sets_even R X t c l p ti n = on (ℕ_discrete (t % 4) 0)
    where
      on : Dec (t % 4 ≡ 0) → t % 4 ≡ 0
      on (yes z) = z
      on (no z) = absurd (n (p.core.tab.solo t ti (p.ali z).1 ∙ (p.ali z).2))

  -- The set pass goes on past t to t + w, with no MCP at t, if nothing stands between, but perhaps a set at t that is settled
  sets_on : (R : Preds) (X : ℕ → Type 0) (t w : ℕ) (c : Cfg) (l : List ℕ) → Sets R X t c l → t < I → (get_or l t 0 ≡ 4 → ⊥) → w % 4 ≡ 0
      → ((h : ℕ) → D ≤ 4 * h → 4 * h < I → t ≤ 4 * h → 4 * h < t + w → stands D I c h ≡ true → c.s_d h ≡ false → (i : ℕ) → i < I → Under h i → X i)
      → ((q : ℕ) → D ≤ 4 * q → 16 * q < I → t ≤ 16 * q → 16 * q < t + w → c.s_d q ≡ true → c.s_g q ≡ false → (i : ℕ) → i < I → Under q (i / 4) → X i)
      → Sets R X (t + w) c l
  sets_on R X t w c l p ti n w4 f_d f_g = record {
    core = p.core;
    more = p.more;
    four = λ j hj a e. absurd (no_four (p.four j hj a e).2 (p.four j hj a e).3);
    grp = λ z a e. absurd (no_four (p.four (t + w) z a e).2 (p.four (t + w) z a e).3);
    ali = λ z. absurd (z (omega (arith, even)));
    done = p.done;
    d_d = λ h a b z s d. d_d' h a b z s d (dec_lt (4 * h) t);
    d_g = λ q a b z s d. d_g' q a b z s d (dec_lt (16 * q) t);
  }
    where
      no_four : alone D I c t ≡ true → c.al t ≡ 4 → ⊥
      no_four a e = n (p.core.tab.solo t ti a ∙ e)

      even : t % 4 ≡ 0
      even = sets_even R X t c l p ti n

      d_d' : (h : ℕ) → D ≤ 4 * h → 4 * h < I → 4 * h < t + w → stands D I c h ≡ true → c.s_d h ≡ false → Dec (4 * h < t) → (i : ℕ) → i < I → Under h i → X i
      d_d' h a b z s d (yes y) = p.d_d h a b y s d
      d_d' h a b z s d (no y) = f_d h a b (omega arith) z s d

      d_g' : (q : ℕ) → D ≤ 4 * q → 16 * q < I → 16 * q < t + w → c.s_d q ≡ true → c.s_g q ≡ false → Dec (16 * q < t) → (i : ℕ) → i < I → Under q (i / 4) → X i
      d_g' q a b z s d (yes y) = p.d_g q a b y s d
      d_g' q a b z s d (no y) = f_g q a b (omega arith) z s d

  -- a silent move
  pub sets_hush : (R : Preds) (X : ℕ → Type 0) (t : ℕ) (c : Cfg) (l : List ℕ) → Sets R X t c l → t < I → (get_or l t 0 ≡ 5 → ⊥) → (get_or l t 0 ≡ 6 → ⊥) → (get_or l t 0 ≡ 4 → ⊥)
      → Sets R X (t + set_skip (get_or l t 0)) c l
  sets_hush R X t c l p ti n5 n6 n4 = go (dec_lt (get_or l t 0) 5)
    where
      k : Core c l
      k = p.core

      here_d : (h : ℕ) → D ≤ 4 * h → 4 * h < I → stands D I c h ≡ true → c.s_d h ≡ false → 4 * h ≡ t → ⊥
      here_d h a b s d e = n5 (ap (λ (i : ℕ). get_or l i 0) (sym e) ∙ mark_d c l k h a b s d)

      here_g : (q : ℕ) → D ≤ 4 * q → 16 * q < I → c.s_d q ≡ true → c.s_g q ≡ false → 16 * q ≡ t → ⊥
      here_g q a b s d e = n6 (ap (λ (i : ℕ). get_or l i 0) (sym e) ∙ mark_g c l k q a b s d)

      even : t % 4 ≡ 0
      even = sets_even R X t c l p ti n4

      go : Dec (get_or l t 0 < 5) → Sets R X (t + set_skip (get_or l t 0)) c l
      go (yes z) =
          let e : set_skip (get_or l t 0) ≡ 4 = sskip_small (get_or l t 0) z in
          sets_on R X t (set_skip (get_or l t 0)) c l p ti n4 (omega arith)
          (λ h a b x y s d. absurd (here_d h a b s d (omega (arith, even))))
          (λ q a b x y s d. absurd (here_g q a b s d (omega (arith, even))))
      go (no z) =
          let big : 5 ≤ get_or l t 0 = omega arith in
          let e : set_skip (get_or l t 0) ≡ skip (get_or l t 0) = sskip_big (get_or l t 0) big in
          sets_on R X t (set_skip (get_or l t 0)) c l p ti n4 (ap (λ (x : ℕ). x % 4) e ∙ skip_mod (get_or l t 0) big)
          (λ h a b x y s d. absurd (two_d h a b x y s d big e (ℕ_discrete (4 * h) t)))
          (λ q a b x y s d. absurd (two_g q a b x y s d big e (ℕ_discrete (16 * q) t)))
        where
          two_d : (h : ℕ) → D ≤ 4 * h → 4 * h < I → t ≤ 4 * h → 4 * h < t + set_skip (get_or l t 0) → stands D I c h ≡ true → c.s_d h ≡ false → 5 ≤ get_or l t 0 → set_skip (get_or l t 0) ≡ skip (get_or l t 0) → Dec (4 * h ≡ t) → ⊥
          two_d h a b x y s d big e (yes q) = here_d h a b s d q
          two_d h a b x y s d big e (no q) = quiet_d c l k t ti big h a b (omega arith) (omega arith) s d

          two_g : (q : ℕ) → D ≤ 4 * q → 16 * q < I → t ≤ 16 * q → 16 * q < t + set_skip (get_or l t 0) → c.s_d q ≡ true → c.s_g q ≡ false → 5 ≤ get_or l t 0 → set_skip (get_or l t 0) ≡ skip (get_or l t 0) → Dec (16 * q ≡ t) → ⊥
          two_g q a b x y s d big e (yes r) = here_g q a b s d r
          two_g q a b x y s d big e (no r) = quiet_g c l k t ti big q a b (omega arith) (omega arith) s d

  -- MD answered 0: all of DESC is settled
  pub sets_d0 : (R : Preds) (X : ℕ → Type 0) (t : ℕ) (c : Cfg) (l : List ℕ) → Sets R X t c l → t < I → get_or l t 0 ≡ 5 → ((i : ℕ) → i < I → Under (t / 4) i → X i) → Sets R X (t + 4) c l
  sets_d0 R X t c l p ti m x = sets_on R X t 4 c l p ti (λ e. omega arith) refl
      (λ h a b u v s d. two_d h a b u v s d (ℕ_discrete (4 * h) t))
      (λ q a b u v s d. absurd (two_g q a b u v s d (ℕ_discrete (16 * q) t)))
    where
      far_skip : skip (get_or l t 0) ≡ 4
      far_skip = ap skip m ∙ skip_5 5 (lit≤ tt) (lit< tt)

      two_d : (h : ℕ) → D ≤ 4 * h → 4 * h < I → t ≤ 4 * h → 4 * h < t + 4 → stands D I c h ≡ true → c.s_d h ≡ false → Dec (4 * h ≡ t) → (i : ℕ) → i < I → Under h i → X i
      two_d h a b u v s d (yes e) i hi z = x i hi (subst (λ (k : ℕ). Under k i) {x = h} {y = t / 4} (omega arith) z)
      two_d h a b u v s d (no e) i hi z = absurd (quiet_d c l p.core t ti (omega arith) h a b (omega arith) (omega (arith, far_skip)) s d)

      two_g : (q : ℕ) → D ≤ 4 * q → 16 * q < I → t ≤ 16 * q → 16 * q < t + 4 → c.s_d q ≡ true → c.s_g q ≡ false → Dec (16 * q ≡ t) → ⊥
      two_g q a b u v s d (yes e) = omega (arith, mark_g c l p.core q a b s d, ap (λ (i : ℕ). get_or l i 0) e)
      two_g q a b u v s d (no e) = quiet_g c l p.core t ti (omega arith) q a b (omega arith) (omega (arith, far_skip)) s d

  -- MG answered 0: all of GRAND is settled
  pub sets_g0 : (R : Preds) (X : ℕ → Type 0) (t : ℕ) (c : Cfg) (l : List ℕ) → Sets R X t c l → t < I → get_or l t 0 ≡ 6 → ((i : ℕ) → i < I → Under (t / 16) (i / 4) → X i) → Sets R X (t + 16) c l
  sets_g0 R X t c l p ti m x = sets_on R X t 16 c l p ti (λ e. omega arith) refl
      (λ h a b u v s d. absurd (two_d h a b u v s d (ℕ_discrete (4 * h) t)))
      (λ q a b u v s d. two_g q a b u v s d (ℕ_discrete (16 * q) t))
    where
      far_skip : skip (get_or l t 0) ≡ 16
      far_skip = ap skip m ∙ skip_5 6 (lit≤ tt) (lit< tt)

      two_d : (h : ℕ) → D ≤ 4 * h → 4 * h < I → t ≤ 4 * h → 4 * h < t + 16 → stands D I c h ≡ true → c.s_d h ≡ false → Dec (4 * h ≡ t) → ⊥
      two_d h a b u v s d (yes e) = omega (arith, mark_d c l p.core h a b s d, ap (λ (i : ℕ). get_or l i 0) e)
      two_d h a b u v s d (no e) = quiet_d c l p.core t ti (omega arith) h a b (omega arith) (omega (arith, far_skip)) s d

      two_g : (q : ℕ) → D ≤ 4 * q → 16 * q < I → t ≤ 16 * q → 16 * q < t + 16 → c.s_d q ≡ true → c.s_g q ≡ false → Dec (16 * q ≡ t) → (i : ℕ) → i < I → Under q (i / 4) → X i
      two_g q a b u v s d (yes e) i hi z = x i hi (subst (λ (k : ℕ). Under k (i / 4)) {x = q} {y = t / 16} (omega arith) z)
      two_g q a b u v s d (no e) i hi z = absurd (quiet_g c l p.core t ti (omega arith) q a b (omega arith) (omega (arith, far_skip)) s d)

  -- MCP answered: t is settled, and has the mark v, MIP or MNP
  pub sets_c : (R : Preds) (X : ℕ → Type 0) (t v : ℕ) (c : Cfg) (l : List ℕ) → Sets (hide t R) X t c l → t < I → get_or l t 0 ≡ 4 → 1 ≤ v → v < 3 → X t → (2 ≤ v → R.Y t) → (R.Z t → 2 ≤ v) → Sets R X (t + 1) (with_a t v c) (set l t v)
  sets_c R X t v c l p ti m v1 v3 x y zz = record {
    core = core_a c l t v p.core ti it.0 v1 (omega arith);
    more = more_a R t v c p.more it.0 (λ a b. y a) (λ z. (zz z, omega arith));
    four = λ j hj a e. four' j hj (was j a) e (ℕ_discrete j t);
    grp = λ z a e j. grp' z (was (t + 1) a) e j;
    ali = λ z. ali' z;
    done = λ j hj a e3 e4. done' j hj (was j a) e3 e4 (ℕ_discrete j t);
    d_d = λ h a b z s d. d_d' h a b z (sym (stands_a D I t v c h) ∙ s) d (ℕ_discrete (4 * h) t);
    d_g = λ q a b z s d. d_g' q a b z s d (ℕ_discrete (16 * q) t);
  }
    where
      it : Alone_at D I c l t
      it = is_alone c l p.core t ti (omega arith) (omega arith)

      t4 : c.al t ≡ 4
      t4 = it.1 ∙ m

      was : (j : ℕ) → alone D I (with_a t v c) j ≡ true → alone D I c j ≡ true
      was j a = sym (alone_a D I t v c j) ∙ a

      four' : (j : ℕ) → j < I → alone D I c j ≡ true → (with_a t v c).al j ≡ 4 → Dec (j ≡ t)
          → (t + 1 ≤ j) × (j / 4 ≡ (t + 1) / 4) × (alone D I (with_a t v c) (t + 1) ≡ true) × ((with_a t v c).al (t + 1) ≡ 4)
      four' j hj a e (yes q) = absurd (omega (arith, al_at t v c j q))
      four' j hj a e (no q) =
          let f : (t ≤ j) × (j / 4 ≡ t / 4) × (alone D I c t ≡ true) × (c.al t ≡ 4) = p.four j hj a (sym (al_else t v c j q) ∙ e) in
          let r : (alone D I c (t + 1) ≡ true) × (c.al (t + 1) ≡ 4) = p.grp ti it.0 t4 (t + 1) (omega arith) (omega arith) in
          (omega arith, omega arith, alone_a D I t v c (t + 1) ∙ r.0, al_else t v c (t + 1) (λ z. omega arith) ∙ r.1)

      grp' : t + 1 < I → alone D I c (t + 1) ≡ true → (with_a t v c).al (t + 1) ≡ 4 → (j : ℕ) → t + 1 ≤ j → j / 4 ≡ (t + 1) / 4 → (alone D I (with_a t v c) j ≡ true) × ((with_a t v c).al j ≡ 4)
      grp' z a e j h1 h2 =
          let f : (t ≤ t + 1) × ((t + 1) / 4 ≡ t / 4) × (alone D I c t ≡ true) × (c.al t ≡ 4) = p.four (t + 1) z a (sym (al_else t v c (t + 1) (λ y. omega arith)) ∙ e) in
          let r : (alone D I c j ≡ true) × (c.al j ≡ 4) = p.grp ti it.0 t4 j (omega arith) (omega arith) in
          (alone_a D I t v c j ∙ r.0, al_else t v c j (λ y. omega arith) ∙ r.1)

      ali' : ((t + 1) % 4 ≡ 0 → ⊥) → (t + 1 < I) × (alone D I (with_a t v c) (t + 1) ≡ true) × ((with_a t v c).al (t + 1) ≡ 4)
      ali' z =
          let r : (alone D I c (t + 1) ≡ true) × (c.al (t + 1) ≡ 4) = p.grp ti it.0 t4 (t + 1) (omega arith) (omega arith) in
          (omega arith, alone_a D I t v c (t + 1) ∙ r.0, al_else t v c (t + 1) (λ y. omega arith) ∙ r.1)

      done' : (j : ℕ) → j < I → alone D I c j ≡ true → ((with_a t v c).al j ≡ 3 → ⊥) → ((with_a t v c).al j ≡ 4 → ⊥) → Dec (j ≡ t) → X j
      done' j hj a e3 e4 (yes q) = subst X (sym q) x
      done' j hj a e3 e4 (no q) = p.done j hj a (λ y. e3 (al_else t v c j q ∙ y)) (λ y. e4 (al_else t v c j q ∙ y))

      d_d' : (h : ℕ) → D ≤ 4 * h → 4 * h < I → 4 * h < t + 1 → stands D I c h ≡ true → (with_a t v c).s_d h ≡ false → Dec (4 * h ≡ t) → (i : ℕ) → i < I → Under h i → X i
      d_d' h a b z s d (yes e) = absurd (omega (arith, mark_d c l p.core h a b s (s_d_a d), ap (λ (i : ℕ). get_or l i 0) e))
        where
          s_d_a : (with_a t v c).s_d h ≡ false → c.s_d h ≡ false
          s_d_a y = sym (same_d t v c h) ∙ y
      d_d' h a b z s d (no e) = p.d_d h a b (omega arith) s (sym (same_d t v c h) ∙ d)

      d_g' : (q : ℕ) → D ≤ 4 * q → 16 * q < I → 16 * q < t + 1 → (with_a t v c).s_d q ≡ true → (with_a t v c).s_g q ≡ false → Dec (16 * q ≡ t) → (i : ℕ) → i < I → Under q (i / 4) → X i
      d_g' q a b z s d (yes e) = absurd (omega (arith, mark_g c l p.core q a b (sym (same_d t v c q) ∙ s) (sym (same_g t v c q) ∙ d), ap (λ (i : ℕ). get_or l i 0) e))
      d_g' q a b z s d (no e) = p.d_g q a b (omega arith) (sym (same_d t v c q) ∙ s) (sym (same_g t v c q) ∙ d)

  -- what the mark 5 says
  pub is_desc_at : (c : Cfg) (l : List ℕ) → Core c l → (t : ℕ) → t < I → get_or l t 0 ≡ 5 → Desc_at D I c t
  is_desc_at c l k t ti m = go (ℕ_discrete (t % 4) 0) (stands D I c (t / 4)) refl (ℕ_discrete (t / 4 % 4) 0) (c.s_d (t / 4 / 4)) refl
    where
      a : alone D I c t ≡ false
      a = not_alone c l k t ti (omega arith)

      b : (D ≤ t) × (c.s_d (t / 4) ≡ false)
      b = no_alone D I c t a

      go : Dec (t % 4 ≡ 0) → (x : Bool) → stands D I c (t / 4) ≡ x → Dec (t / 4 % 4 ≡ 0) → (y : Bool) → c.s_d (t / 4 / 4) ≡ y
          → Desc_at D I c t
      go (no z) x ex w y ey = absurd (omega (arith, k.tab.odd t ti a z))
      go (yes z) true ex w y ey = (z, ex, b.1, b.0)
      go (yes z) false ex (no w) y ey = absurd (omega (arith, k.tab.side t ti a ex w))
      go (yes z) false ex (yes w) true ey = absurd (omega (arith, k.tab.mid t ti a z ex w ey))
      go (yes z) false ex (yes w) false ey = absurd (never (get_or l (t / 4) 0) (sym (k.tab.deep t ti a z ex w ey) ∙ m))
        where
          never : (x : ℕ) → up x ≡ 5 → ⊥
          never x e = up_5_no x (dec_lt x 5) (dec_lt x 7) e

  -- MD answered 1
  pub sets_d1 : (R : Preds) (X : ℕ → Type 0) (t : ℕ) (c : Cfg) (l : List ℕ) → Sets R X t c l → t < I → get_or l t 0 ≡ 5 → R.QD (t / 4) → Sets R X t (with_d (t / 4) c) (split_desc I t l (ltb (4 * t) I))
  sets_d1 R X t c l p ti m y = record {
    core = record {
      len = length_split I t l (ltb (4 * t) I) ∙ k.len;
      ok = ok_d sz c k.ok (λ j. get_or l j 0) k.tab g glo ghi is.1 is.2 m' kids low' rest;
      tab = table_d sz c k.ok (λ j. get_or l j 0) k.tab g glo ghi is.1 is.2 m' kids low' rest;
      rng = λ j hj a. rng' j hj a (ℕ_discrete (j / 4) g);
    };
    more = more_d R g c p.more glo is.2 y;
    four = λ j hj a e. four' j hj a e (ℕ_discrete (j / 4) g);
    grp = λ z a e j h1 h2. (alone_on D I g c j h2, al_d_on g c j h2);
    ali = λ z. absurd (z is.0);
    done = λ j hj a e3 e4. done' j hj a e3 e4 (ℕ_discrete (j / 4) g);
    d_d = λ h a b z s d. d_d' h a b z s d (ℕ_discrete h g);
    d_g = λ q a b z s d. p.d_g q a b z (d_g' q a b z s (ℕ_discrete q g)) (sym (s_g_d g c q) ∙ d);
  }
    where
      k : Core c l
      k = p.core

      g : ℕ
      g = t / 4

      is : (t % 4 ≡ 0) × (stands D I c g ≡ true) × (c.s_d g ≡ false) × (D ≤ t)
      is = is_desc_at c l k t ti m

      m' : ℕ → ℕ
      m' j = get_or (split_desc I t l (ltb (4 * t) I)) j 0

      t4 : t ≡ 4 * g
      t4 = omega (arith, is.0)

      glo : D ≤ 4 * g
      glo = omega (arith, is.3, is.0)

      ghi : 4 * g < I
      ghi = omega (arith, is.0)

      fits : t + 3 < I
      fits = omega (arith, is.0)

      t1 : 4 ≤ t
      t1 = omega (arith, is.3)

      kids : (j : ℕ) → j < I → j / 4 ≡ g → m' j ≡ 4
      kids j hj e = split_kids I t l k.len fits t1 (ltb (4 * t) I) j (omega (arith, is.0)) (omega (arith, is.0))

      low' : 16 * g < I → m' (16 * g) ≡ 6
      low' h = ap m' {x = 16 * g} {y = 4 * t} (omega (arith, is.0)) ∙ split_below I t l k.len fits t1 (ltb (4 * t) I) refl (omega (arith, is.0))

      rest : (j : ℕ) → j < I → (j / 4 ≡ g → ⊥) → (j ≡ 16 * g → ⊥) → m' j ≡ get_or l j 0
      rest j hj n n2 = split_rest I t l k.len fits t1 (ltb (4 * t) I) j (λ x y. n (omega (arith, is.0))) (λ x. n2 (omega (arith, is.0)))

      not_t : alone D I c t ≡ false
      not_t = not_alone c l k t ti (omega arith)

      rng' : (j : ℕ) → j < I → alone D I (with_d g c) j ≡ true → Dec (j / 4 ≡ g) → (1 ≤ (with_d g c).al j) × ((with_d g c).al j ≤ 4)
      rng' j hj a (yes e) = subst (λ (x : ℕ). (1 ≤ x) × (x ≤ 4)) (sym (al_d_on g c j e)) (lit≤ tt, lit≤ tt)
      rng' j hj a (no e) = subst (λ (x : ℕ). (1 ≤ x) × (x ≤ 4)) (sym (al_d_off g c j e)) (k.rng j hj (sym (alone_off D I g c j e) ∙ a))

      four' : (j : ℕ) → j < I → alone D I (with_d g c) j ≡ true → (with_d g c).al j ≡ 4 → Dec (j / 4 ≡ g)
          → (t ≤ j) × (j / 4 ≡ t / 4) × (alone D I (with_d g c) t ≡ true) × ((with_d g c).al t ≡ 4)
      four' j hj a z (yes e) = (omega (arith, is.0), e, alone_on D I g c t refl, al_d_on g c t refl)
      four' j hj a z (no e) =
          let f : (t ≤ j) × (j / 4 ≡ t / 4) × (alone D I c t ≡ true) × (c.al t ≡ 4) = p.four j hj (sym (alone_off D I g c j e) ∙ a) (sym (al_d_off g c j e) ∙ z) in
          absurd (true≢false (sym f.2 ∙ not_t))

      done' : (j : ℕ) → j < I → alone D I (with_d g c) j ≡ true → ((with_d g c).al j ≡ 3 → ⊥) → ((with_d g c).al j ≡ 4 → ⊥) → Dec (j / 4 ≡ g) → X j
      done' j hj a e3 e4 (yes e) = absurd (e4 (al_d_on g c j e))
      done' j hj a e3 e4 (no e) = p.done j hj (sym (alone_off D I g c j e) ∙ a) (λ z. e3 (al_d_off g c j e ∙ z)) (λ z. e4 (al_d_off g c j e ∙ z))

      d_d' : (h : ℕ) → D ≤ 4 * h → 4 * h < I → 4 * h < t → stands D I (with_d g c) h ≡ true → (with_d g c).s_d h ≡ false → Dec (h ≡ g) → (i : ℕ) → i < I → Under h i → X i
      d_d' h a b z s d (yes e) = absurd (omega (arith, t4, e))
      d_d' h a b z s d (no e) = p.d_d h a b z (sym (stands_d D I g c h) ∙ s) (sym (s_d_off g c h e) ∙ d)

      d_g' : (q : ℕ) → D ≤ 4 * q → 16 * q < I → 16 * q < t → (with_d g c).s_d q ≡ true → Dec (q ≡ g) → c.s_d q ≡ true
      d_g' q a b z s (yes e) = absurd (omega (arith, t4, e))
      d_g' q a b z s (no e) = sym (s_d_off g c q e) ∙ s

  -- what the mark 6 says
  pub is_grand_at : (c : Cfg) (l : List ℕ) → Core c l → (t : ℕ) → t < I → get_or l t 0 ≡ 6
      → Grand_at D I c t
  is_grand_at c l k t ti m = go (ℕ_discrete (t % 4) 0) (stands D I c (t / 4)) refl (ℕ_discrete (t / 4 % 4) 0) (c.s_d (t / 4 / 4)) refl
    where
      a : alone D I c t ≡ false
      a = not_alone c l k t ti (omega arith)

      go : Dec (t % 4 ≡ 0) → (x : Bool) → stands D I c (t / 4) ≡ x → Dec (t / 4 % 4 ≡ 0) → (y : Bool) → c.s_d (t / 4 / 4) ≡ y
          → Grand_at D I c t
      go (no z) x ex w y ey = absurd (omega (arith, k.tab.odd t ti a z))
      go (yes z) true ex w y ey = absurd (omega (arith, k.tab.head t ti a z ex))
      go (yes z) false ex (no w) y ey = absurd (omega (arith, k.tab.side t ti a ex w))
      go (yes z) false ex (yes w) true ey =
          let e : t / 4 / 4 ≡ t / 16 = omega arith in
          (omega arith, subst (λ (x : ℕ). c.s_d x ≡ true) e ey, subst (λ (x : ℕ). c.s_g x ≡ false) e (no_stands D I c (t / 4) ex).1, omega (arith, (no_stands D I c (t / 4) ex).0), a)
      go (yes z) false ex (yes w) false ey = absurd (up_6_no (get_or l (t / 4) 0) (dec_lt _ 5) (dec_lt _ 7) (sym (k.tab.deep t ti a z ex w ey) ∙ m))

  -- the table after a split of GRAND
  pub core_g : (c : Cfg) (l : List ℕ) → Core c l → (t : ℕ) → t < I → get_or l t 0 ≡ 6 → Core (with_g (t / 16) c) (split_grand I t l)
  core_g c l k t ti m = record {
    len = subst (λ (x : ℕ). length (split_grand I x l) ≡ I) (sym is.0) (len_g sz c k.ok l k.len k.tab q is.3 q_hi is.1 is.2);
    ok = ok_g sz c k.ok l k.len k.tab q is.3 q_hi is.1 is.2;
    tab = subst (λ (x : ℕ). Table D I (with_g q c) (λ j. get_or (split_grand I x l) j 0)) (sym is.0) (table_g sz c k.ok l k.len k.tab q is.3 q_hi is.1 is.2);
    rng = λ j hj a. subst (λ (x : ℕ). (1 ≤ x) × (x ≤ 4)) (sym (al_g q c j)) (k.rng j hj (sym (alone_g D I q c j) ∙ a));
  }
    where
      q : ℕ
      q = t / 16

      is : Grand_at D I c t
      is = is_grand_at c l k t ti m

      q_hi : 16 * q < I
      q_hi = omega (arith, is.0)

  -- MG answered 1
  pub sets_g1 : (R : Preds) (X : ℕ → Type 0) (t : ℕ) (c : Cfg) (l : List ℕ) → Sets R X t c l → t < I → get_or l t 0 ≡ 6 → R.QG (t / 16) → Sets R X t (with_g (t / 16) c) (split_grand I t l)
  sets_g1 R X t c l p ti m y = record {
    core = core_g c l k t ti m;
    more = more_g R q c p.more y;
    four = λ j hj a e. absurd (no_four (p.four j hj (was j a) (sym (al_g q c j) ∙ e)).2);
    grp = λ z a e. absurd (no_four (was t a));
    ali = λ z. absurd (z (omega (arith, is.0)));
    done = λ j hj a e3 e4. p.done j hj (was j a) (λ y. e3 (al_g q c j ∙ y)) (λ y. e4 (al_g q c j ∙ y));
    d_d = λ h a b z s d. p.d_d h a b z (old h z s (ℕ_discrete (h / 4) q)) (sym (s_d_g q c h) ∙ d);
    d_g = λ h a b z s d. p.d_g h a b z (sym (s_d_g q c h) ∙ s) (old_g h z d (ℕ_discrete h q));
  }
    where
      k : Core c l
      k = p.core

      q : ℕ
      q = t / 16

      is : Grand_at D I c t
      is = is_grand_at c l k t ti m

      was : (j : ℕ) → alone D I (with_g q c) j ≡ true → alone D I c j ≡ true
      was j a = sym (alone_g D I q c j) ∙ a

      no_four : alone D I c t ≡ true → ⊥
      no_four a = true≢false (sym a ∙ is.4)

      old : (h : ℕ) → 4 * h < t → stands D I (with_g q c) h ≡ true → Dec (h / 4 ≡ q) → stands D I c h ≡ true
      old h z s (yes e) = absurd (omega (arith, is.0, e))
      old h z s (no e) = sym (stands_g_off D I q c h e) ∙ s

      old_g : (h : ℕ) → 16 * h < t → (with_g q c).s_g h ≡ false → Dec (h ≡ q) → c.s_g h ≡ false
      old_g h z s (yes e) = absurd (true≢false (sym (s_g_on q c h e) ∙ s))
      old_g h z s (no e) = sym (s_g_off q c h e) ∙ s
