-- What the undoing rests on is kept by every move, while the bits are those of some array.
use mathlib.Core.Path.{◌≡◌, refl, sym, ap, subst, ◌∙◌}
use mathlib.Core.Bool.{true, false, true≢false, false≢true}
use mathlib.Core.Logic.{◌⊎◌, inl, inr}
use mathlib.Core.List.{List}
use Prim.Native.Nat.{ℕ, suc, ◌+◌, ◌*◌, ◌/◌, ◌^◌, ◌≤◌, ◌<◌}
use native.Mathlib.Omega.{arith}
use native.Mathlib.Decide.{ℕ_discrete}
use lib.ListN.{length, get_or, set}
use lib.Seq.{get_or-set_same, get_or-set_other}
use lib.Dec.{ltb, lit<, lit≤}
use Rattle.nls.specs.Marks.{skip, split_desc, split_grand}
use Rattle.nls.proofs.Tiled.{Tiled}
use Rattle.nls.proofs.Arrays.{Bits}
use Rattle.nls.proofs.Joined.Visits.{in_range}
use Rattle.nls.proofs.Precision.Seen.{in_table}
use Rattle.nls.proofs.Machine.Table.{Cfg, up, alone, alone_yes, stands_yes, low, gap, skip_5}
use Rattle.nls.proofs.Machine.Split.{with_g}
use Rattle.nls.proofs.Machine.Push.{s_d_g, s_g_off, s_g_on, al_g, alone_g, stands_g_off}
use Rattle.nls.proofs.Machine.Cover.{Under, kid, far, Core, Fine, Desc_at, Grand_at, Alone_at, is_alone, not_alone, is_desc_at, is_grand_at, mark_d, mark_g, split_kids, split_below, split_rest, length_split}
use Rattle.nls.proofs.Machine.Steps.{preds, From}
use Rattle.nls.proofs.Machine.Start.{c0}
use Rattle.nls.proofs.Reading.Told.{fam, Known, under_ge}
use Rattle.nls.proofs.Judging.Clash.{via, dead_d, dead_g}
use Rattle.undo.proofs.Undo.{Calm, Midway}

-- a table changes from m to m', the place from t to t'
module _ (D I : ℕ) (m m' : List ℕ) (t t' : ℕ) (on : t ≤ t')
    (small : (j : ℕ) → t' ≤ j → 1 ≤ get_or m' j 0 → get_or m' j 0 ≤ 3 → (1 ≤ get_or m j 0) × (get_or m j 0 ≤ 3))
    (threes : (j : ℕ) → get_or m j 0 ≡ 3 → get_or m' j 0 ≡ 3)
    (sixes : (h : ℕ) → D ≤ 4 * h → t' ≤ 4 * h → 1 ≤ get_or m' (4 * h) 0 → get_or m' (4 * h) 0 ≤ 3 → 16 * h < I → get_or m' (16 * h) 0 ≡ 6 → get_or m (16 * h) 0 ≡ 6)
    (fives : (j : ℕ) → 4 * D ≤ j → t' / 16 < j / 16 → get_or m' j 0 ≡ 5 → get_or m j 0 ≡ 5) where
  calm_to : Calm D I m t → Calm D I m' t'
  calm_to p = record {
    groups = λ h a b d lo hi. go h a b lo hi (p.groups h a (omega (arith, on, b)) d (small (4 * h) b lo hi).0 (small (4 * h) b lo hi).1);
    grands = λ q a b d e0 e1 e2 e3. p.grands q a (omega (arith, on, b)) d (fives (16 * q) a (omega (arith, b)) e0) (fives (16 * q + 4) (omega (arith, a)) (omega (arith, b)) e1) (fives (16 * q + 8) (omega (arith, a)) (omega (arith, b)) e2) (fives (16 * q + 12) (omega (arith, a)) (omega (arith, b)) e3);
  }
    where
      go : (h : ℕ) → D ≤ 4 * h → t' ≤ 4 * h → 1 ≤ get_or m' (4 * h) 0 → get_or m' (4 * h) 0 ≤ 3 → ((j : ℕ) × (j / 4 ≡ h) × (get_or m j 0 ≡ 3)) ⊎ ((16 * h < I) × (get_or m (16 * h) 0 ≡ 6 → ⊥))
          → ((j : ℕ) × (j / 4 ≡ h) × (get_or m' j 0 ≡ 3)) ⊎ ((16 * h < I) × (get_or m' (16 * h) 0 ≡ 6 → ⊥))
      go h a b lo hi (inl r) = inl (r.0, r.1, threes r.0 r.2)
      go h a b lo hi (inr r) = inr (r.0, λ e. r.1 (sixes h a b lo hi r.0 e))

-- the same table, further on
pub calm_on : (D I : ℕ) (m : List ℕ) (t t' : ℕ) → t ≤ t' → Calm D I m t → Calm D I m t'
calm_on D I m t t' h p = calm_to D I m m t t' h (λ j a b d. (b, d)) (λ j e. e) (λ q a b d1 d2 d e. e) (λ j a b e. e) p

-- a coefficient alone gets MIP or MNP
pub calm_mark : (D I : ℕ) (m : List ℕ) (i v t t' : ℕ) → t ≤ t' → i < length m → (get_or m i 0 ≡ 3 → ⊥) → 1 ≤ v → v ≤ 2 → (t' ≤ i → get_or m i 0 ≡ 1) → Calm D I m t → Calm D I (set m i v) t'
calm_mark D I m i v t t' h hi n3 v1 v2 was p = calm_to D I m (set m i v) t t' h
    (λ j a lo up. small j a lo up (ℕ_discrete j i))
    (λ j e. other j (λ z. n3 (ap (λ (x : ℕ). get_or m x 0) (sym z) ∙ e)) ∙ e)
    (λ q a b lo up d e. sym (other (16 * q) (λ z. at_i (16 * q) z (omega (arith, e, v2)))) ∙ e)
    (λ j a b e. sym (other j (λ z. at_i j z (omega (arith, e, v2)))) ∙ e) p
  where
    other : (j : ℕ) → (j ≡ i → ⊥) → get_or (set m i v) j 0 ≡ get_or m j 0
    other j n = get_or-set_other m i j v 0 n

    here : get_or (set m i v) i 0 ≡ v
    here = get_or-set_same m i v 0 hi

    at_i : (j : ℕ) → j ≡ i → (v < get_or (set m i v) j 0) → ⊥
    at_i j z l = omega (arith, l, here, ap (λ (x : ℕ). get_or (set m i v) x 0) z)

    small : (j : ℕ) → t' ≤ j → 1 ≤ get_or (set m i v) j 0 → get_or (set m i v) j 0 ≤ 3 → Dec (j ≡ i) → (1 ≤ get_or m j 0) × (get_or m j 0 ≤ 3)
    small j a lo up (yes z) = let e : get_or m j 0 ≡ 1 = ap (λ (x : ℕ). get_or m x 0) z ∙ was (omega (arith, z, a)) in (omega (arith, e), omega (arith, e))
    small j a lo up (no z) = (omega (arith, lo, other j z), omega (arith, up, other j z))

module _ {D I : ℕ} (sz : Tiled D I) (c : Cfg) (m : List ℕ) (k : Core sz c m) where
  -- DESC is split at t
  module _ (t : ℕ) (ti : t < I) (e : get_or m t 0 ≡ 5) where
    abbrev m' : List ℕ
    m' = split_desc I t m (ltb (4 * t) I)

    is : Desc_at D I c t
    is = is_desc_at sz c m k t ti e

    fit : t + 3 < I
    fit = omega (arith, is.0, sz.sixteens)

    t1 : 4 ≤ t
    t1 = omega (arith, is.3, sz.least)

    kids : (j : ℕ) → t ≤ j → j < t + 4 → get_or m' j 0 ≡ 4
    kids j a b = split_kids I t m k.len fit t1 (ltb (4 * t) I) j a b

    rest : (j : ℕ) → (t ≤ j → j < t + 4 → ⊥) → (j ≡ 4 * t → ⊥) → get_or m' j 0 ≡ get_or m j 0
    rest j a b = split_rest I t m k.len fit t1 (ltb (4 * t) I) j a b

    six : 4 * t < I → get_or m' (4 * t) 0 ≡ 6
    six h = split_below I t m k.len fit t1 (ltb (4 * t) I) refl h

    -- marks that are neither MCP nor MG were there before
    old : (j : ℕ) → j < I → (get_or m' j 0 ≡ 4 → ⊥) → (get_or m' j 0 ≡ 6 → ⊥) → get_or m' j 0 ≡ get_or m j 0
    old j h n4 n6 = rest j (λ a b. n4 (kids j a b)) (λ z. n6 (ap (λ (x : ℕ). get_or m' x 0) z ∙ six (omega (arith, h, z))))

    len' : length m' ≡ I
    len' = length_split I t m (ltb (4 * t) I) ∙ k.len

    there : (j : ℕ) → 1 ≤ get_or m' j 0 → j < I
    there j n = omega (arith, in_range m' j n, len')

    -- what was overwritten had no MSP
    odd : (j : ℕ) → t ≤ j → j < t + 4 → (get_or m j 0 ≡ 3 → ⊥)
    odd j a b z = go (ℕ_discrete j t)
      where
        go : Dec (j ≡ t) → ⊥
        go (yes q) = omega (arith, z, e, ap (λ (x : ℕ). get_or m x 0) q)
        go (no q) = omega (arith, z, (gap sz c (λ i. get_or m i 0) k.ok k.tab t ti (not_alone sz c m k t ti (omega (arith, e))) (omega (arith, e)) j (omega (arith, a, q)) (subst (λ (x : ℕ). j < t + x) (sym (ap skip e ∙ skip_5 5 (lit≤ tt) (lit< tt))) b) (omega (arith, b, fit))).1)

    row : get_or m (4 * t) 0 ≡ 3 → ⊥
    row z =
        let h : 4 * t < I = in_table sz c m k (4 * t) (omega (arith, z)) in
        let a : Alone_at D I c m (4 * t) = is_alone sz c m k (4 * t) h (omega (arith, z)) (omega (arith, z)) in
        true≢false (sym a.0 ∙ (low D I c k.ok (4 * t) (omega (arith, is.3)) (subst (λ (x : ℕ). alone D I c x ≡ false) {x = t} {y = 4 * t / 4} (omega arith) (not_alone sz c m k t ti (omega (arith, e))))).1)

    threes_desc : (j : ℕ) → get_or m j 0 ≡ 3 → get_or m' j 0 ≡ 3
    threes_desc j z = rest j (λ a b. odd j a b z) (λ q. row (ap (λ (x : ℕ). get_or m x 0) (sym q) ∙ z)) ∙ z

    pub small_desc : (j : ℕ) → 1 ≤ get_or m' j 0 → get_or m' j 0 ≤ 3 → get_or m j 0 ≡ get_or m' j 0
    small_desc j lo up = sym (old j (there j (omega (arith, lo))) (λ z. omega (arith, up, z)) (λ z. omega (arith, up, z)))

    pub midway_desc : Midway D I m t → Midway D I m' t
    midway_desc w = record {
      calm = calm_to D I m m' t t (omega arith)
          (λ j a lo up. let r = small_desc j lo up in (omega (arith, r, lo), omega (arith, r, up)))
          threes_desc
          (λ h a b lo up d z. sym (rest (16 * h) (λ x y. omega (arith, b, y, t1)) (λ x. omega (arith, up, kids (4 * h) (omega (arith, b)) (omega (arith, x, b))))) ∙ z)
          (λ j a b z. sym (old j (there j (omega (arith, z))) (λ y. omega (arith, z, y)) (λ y. omega (arith, z, y))) ∙ z) w.calm;
      kids = λ z j a b. absurd (omega (arith, a, b, is.0));
      under = λ z h. ap (λ (x : ℕ). get_or m' x 0) {x = 16 * (t / 4)} {y = 4 * t} (omega (arith, is.0)) ∙ six (omega (arith, is.0, h));
      root = λ z h. omega (arith, h, is.3);
    }

  -- GRAND is split at t
  module _ (t : ℕ) (ti : t < I) (e : get_or m t 0 ≡ 6) (k' : Core sz (with_g (t / 16) c) (split_grand I t m)) where
    abbrev mg : List ℕ
    mg = split_grand I t m

    abbrev q0 : ℕ
    q0 = t / 16

    isg : Grand_at D I c t
    isg = is_grand_at sz c m k t ti e

    pub small_grand : (j : ℕ) → 1 ≤ get_or mg j 0 → get_or mg j 0 ≤ 3 → get_or m j 0 ≡ get_or mg j 0
    small_grand j lo up =
        let h : j < I = in_table sz (with_g q0 c) mg k' j lo in
        let a : Alone_at D I (with_g q0 c) mg j = is_alone sz (with_g q0 c) mg k' j h lo (omega (arith, up)) in
        k.tab.solo j h (sym (alone_g D I q0 c j) ∙ a.0) ∙ sym (al_g q0 c j) ∙ a.1

    threes_grand : (j : ℕ) → get_or m j 0 ≡ 3 → get_or mg j 0 ≡ 3
    threes_grand j z =
        let h : j < I = in_table sz c m k j (omega (arith, z)) in
        let a : Alone_at D I c m j = is_alone sz c m k j h (omega (arith, z)) (omega (arith, z)) in
        k'.tab.solo j h (alone_g D I q0 c j ∙ a.0) ∙ al_g q0 c j ∙ a.1 ∙ z

    pub midway_grand : Midway D I m t → Midway D I mg t
    midway_grand w = record {
      calm = calm_to D I m mg t t (omega arith)
          (λ j a lo up. let r = small_grand j lo up in (omega (arith, r, lo), omega (arith, r, up)))
          threes_grand
          (λ h a b lo up d z. sixes h a d z)
          (λ j a b z. fives j a b z) w.calm;
      kids = λ z. absurd (no_four z);
      under = λ z. absurd (no_four z);
      root = λ z. absurd (no_four z);
    }
      where
        no_four : get_or mg t 0 ≡ 4 → ⊥
        no_four z =
            let a : Alone_at D I (with_g q0 c) mg t = is_alone sz (with_g q0 c) mg k' t ti (omega (arith, z)) (omega (arith, z)) in
            true≢false (sym (sym (alone_g D I q0 c t) ∙ a.0) ∙ isg.4)

        sixes : (h : ℕ) → D ≤ 4 * h → 16 * h < I → get_or mg (16 * h) 0 ≡ 6 → get_or m (16 * h) 0 ≡ 6
        sixes h a d z =
            let g : Grand_at D I (with_g q0 c) (16 * h) = is_grand_at sz (with_g q0 c) mg k' (16 * h) d z in
            let hh : 16 * h / 16 ≡ h = omega arith in
            mark_g sz c m k h a d (sym (s_d_g q0 c h) ∙ subst (λ (x : ℕ). (with_g q0 c).s_d x ≡ true) hh g.1) (unsplit (subst (λ (x : ℕ). (with_g q0 c).s_g x ≡ false) hh g.2) (ℕ_discrete h q0))
          where
            unsplit : (with_g q0 c).s_g h ≡ false → Dec (h ≡ q0) → c.s_g h ≡ false
            unsplit y (yes x) = absurd (true≢false (sym (s_g_on q0 c h x) ∙ y))
            unsplit y (no x) = sym (s_g_off q0 c h x) ∙ y

        fives : (j : ℕ) → 4 * D ≤ j → t / 16 < j / 16 → get_or mg j 0 ≡ 5 → get_or m j 0 ≡ 5
        fives j a b z =
            let h : j < I = in_table sz (with_g q0 c) mg k' j (omega (arith, z)) in
            let d : Desc_at D I (with_g q0 c) j = is_desc_at sz (with_g q0 c) mg k' j h z in
            let j4 : 4 * (j / 4) ≡ j = omega (arith, d.0) in
            ap (λ (x : ℕ). get_or m x 0) (sym j4)
            ∙ mark_d sz c m k (j / 4) (omega (arith, j4, d.3)) (omega (arith, j4, h))
            (sym (stands_g_off D I q0 c (j / 4) (λ y. apart j t y b)) ∙ d.1) (sym (s_d_g q0 c (j / 4)) ∙ d.2)
          where
            apart : (x y : ℕ) → x / 4 / 4 ≡ y / 16 → y / 16 < x / 16 → ⊥
            apart x y u v = omega (arith, u, v)

-- At a plane's end every set that is split shows why: a member was found, and is MSP.
module _ (N : ℕ) {D : ℕ} (P : ℕ) (sz : Tiled D (4 ^ N)) (A k : Bits) (cap : (j e : ℕ) → A.has j e ≡ true → e < P) where
  abbrev I : ℕ
  I = 4 ^ N

  pub calm_end : (b t : ℕ) (c : Cfg) (m : List ℕ) → From sz P (fam N A k) (suc b) → Fine sz (preds (fam N A k) b) (Known A k b) t c m → I ≤ t → Calm D I m 0
  calm_end b t c m above p h = record {
    groups = λ g lo z hi l u. group g lo hi (is_alone sz c m kk (4 * g) hi l (omega (arith, u)));
    grands = λ q lo z hi e0 e1 e2 e3. grand q lo hi e0 e1 e2 e3;
  }
    where
      kk : Core sz c m
      kk = p.core

      -- a bit from plane b on is known, so its place is MSP
      found : (j e : ℕ) → j < I → b ≤ e → A.has j e ≡ true → (alone D I c j ≡ true) × (get_or m j 0 ≡ 3)
      found j e hj le a = go (ℕ_discrete e b)
        where
          now : k.has j e ≡ true → (alone D I c j ≡ true) × (get_or m j 0 ≡ 3)
          now y =
              let z : (alone D I c j ≡ true) × (2 ≤ c.al j) × (c.al j ≤ 3) = p.more.zs j hj (e, y) in
              (z.0, kk.tab.solo j hj z.0 ∙ three z.0 z.1 z.2 (ℕ_discrete (c.al j) 2))
            where
              three : alone D I c j ≡ true → 2 ≤ c.al j → c.al j ≤ 3 → Dec (c.al j ≡ 2) → c.al j ≡ 3
              three x l u (yes q) = absurd (omega (arith, p.two j hj x q, h, hj))
              three x l u (no q) = omega (arith, l, u, q)

          go : Dec (e ≡ b) → (alone D I c j ≡ true) × (get_or m j 0 ≡ 3)
          go (yes z) = now (subst (λ (x : ℕ). k.has j x ≡ true) (sym z) (p.done j hj (λ x y w. omega (arith, w, h, hj)) (subst (λ (x : ℕ). A.has j x ≡ true) z a)))
          go (no z) = now (above e (omega (arith, le, z)) (cap j e a) j hj a)

      group : (g : ℕ) → D ≤ 4 * g → 4 * g < I → Alone_at D I c m (4 * g) → ((j : ℕ) × (j / 4 ≡ g) × (get_or m j 0 ≡ 3)) ⊎ ((16 * g < I) × (get_or m (16 * g) 0 ≡ 6 → ⊥))
      group g lo hi a =
          let sd : c.s_d g ≡ true = subst (λ (x : ℕ). c.s_d x ≡ true) {x = 4 * g / 4} {y = g} (omega arith) (alone_yes D I c (4 * g) lo a.0) in
          let r : (j : ℕ) × (e : ℕ) × (j < I) × Under g j × (b ≤ e) × (A.has j e ≡ true) = p.more.q_d g sd in
          go r.0 r.2 r.3 (found r.0 r.1 r.2 r.4 r.5)
        where
          go : (j : ℕ) → j < I → Under g j → (alone D I c j ≡ true) × (get_or m j 0 ≡ 3) → ((j : ℕ) × (j / 4 ≡ g) × (get_or m j 0 ≡ 3)) ⊎ ((16 * g < I) × (get_or m (16 * g) 0 ≡ 6 → ⊥))
          go j hj (kid z) f = inl (j, z, f.1)
          go j hj (far u) f = inr (low, λ z. no z)
            where
              low : 16 * g < I
              low = omega (arith, under_ge g (j / 4) u, hj)

              no : get_or m (16 * g) 0 ≡ 6 → ⊥
              no z =
                  let s : Grand_at D I c (16 * g) = is_grand_at sz c m kk (16 * g) low z in
                  true≢false (sym f.0 ∙ dead_g sz c kk.ok g j lo (subst (λ (x : ℕ). c.s_g x ≡ false) {x = 16 * g / 16} {y = g} (omega arith) s.2) u)

      grand : (q : ℕ) → 4 * D ≤ 16 * q → 16 * q < I → get_or m (16 * q) 0 ≡ 5 → get_or m (16 * q + 4) 0 ≡ 5 → get_or m (16 * q + 8) 0 ≡ 5 → get_or m (16 * q + 12) 0 ≡ 5 → ⊥
      grand q lo hi e0 e1 e2 e3 =
          let d : Desc_at D I c (16 * q) = is_desc_at sz c m kk (16 * q) hi e0 in
          let sg : c.s_g q ≡ true = subst (λ (x : ℕ). c.s_g x ≡ true) {x = 16 * q / 4 / 4} {y = q} (omega arith) (stands_yes D I c (16 * q / 4) (omega (arith, lo)) d.1) in
          let r : (j : ℕ) × (e : ℕ) × (j < I) × Under q (j / 4) × (b ≤ e) × (A.has j e ≡ true) = p.more.q_g q sg in
          let v : (g : ℕ) × (g / 4 ≡ q) × Under g r.0 = via q r.0 r.3 in
          true≢false (sym (found r.0 r.1 r.2 r.4 r.5).0 ∙ dead_d sz c kk.ok v.0 r.0 (omega (arith, v.1, lo)) (closed v.0 v.1 (ℕ_discrete v.0 (4 * q)) (ℕ_discrete v.0 (4 * q + 1)) (ℕ_discrete v.0 (4 * q + 2))) v.2)
        where
          five : (g x : ℕ) → 4 * g ≡ x → get_or m x 0 ≡ 5 → c.s_d g ≡ false
          five g x z e =
              let y : get_or m (4 * g) 0 ≡ 5 = ap (λ (i : ℕ). get_or m i 0) z ∙ e in
              subst (λ (i : ℕ). c.s_d i ≡ false) {x = 4 * g / 4} {y = g} (omega arith) (is_desc_at sz c m kk (4 * g) (in_table sz c m kk (4 * g) (omega (arith, y))) y).2

          closed : (g : ℕ) → g / 4 ≡ q → Dec (g ≡ 4 * q) → Dec (g ≡ 4 * q + 1) → Dec (g ≡ 4 * q + 2) → c.s_d g ≡ false
          closed g z (yes a) y x = five g (16 * q) (omega (arith, a)) e0
          closed g z (no a) (yes y) x = five g (16 * q + 4) (omega (arith, y)) e1
          closed g z (no a) (no y) (yes x) = five g (16 * q + 8) (omega (arith, x)) e2
          closed g z (no a) (no y) (no x) = five g (16 * q + 12) (omega (arith, z, a, y, x)) e3

-- Before the first bit no set is split but the roots stand.
pub calm_start : {D I : ℕ} (sz : Tiled D I) (m : List ℕ) → Core sz c0 m → Calm D I m 0
calm_start {D} {I} sz m k = record {
  groups = λ h lo z hi l u. absurd (false≢true (alone_yes D I c0 (4 * h) lo (is_alone sz c0 m k (4 * h) hi l (omega (arith, u))).0));
  grands = λ q lo z hi e0 e1 e2 e3. false≢true (stands_yes D I c0 (16 * q / 4) (omega (arith, lo)) (is_desc_at sz c0 m k (16 * q) hi e0).1);
}
