-- What is not settled in the plane in progress is still open: T b j, "bit b of j may be 1"; M e j, "bit e of j is known to be 1". By the marks alone.
use mathlib.Core.Path.{◌≡◌, refl, sym, ap, subst, ◌∙◌}
use mathlib.Core.Bool.{true, false, true≢false}
use mathlib.Core.List.{List}
use Prim.Native.Nat.{ℕ, suc, ◌+◌, ◌*◌, ◌/◌, ◌%◌, ◌≤◌, ◌<◌}
use native.Mathlib.Omega.{arith}
use native.Mathlib.Decide.{ℕ_discrete}
use lib.ListN.{length, get_or, set}
use lib.Seq.{get_or-set_same, get_or-set_other}
use lib.Dec.{lit<, lit≤}
use Rattle.nls.proofs.Tiled.{Tiled}
use Rattle.nls.proofs.Machine.Table.{Cfg, alone, stands}
use Rattle.nls.proofs.Machine.Table
use Rattle.nls.proofs.Machine.Split.{with_d, with_g, s_d_off, stands_d, s_d_on, alone_off, al_d_on, al_d_off, s_g_d}
use Rattle.nls.proofs.Machine.Push.{s_d_g, al_g, alone_g, stands_g_off, s_g_off, s_g_on}
use Rattle.nls.proofs.Machine.Cover.{Under, kid, far, Core, Preds, Pix, Sets, Fine, is_alone, is_desc_at, is_grand_at, mark_d, mark_g, Desc_at, Grand_at, Alone_at}
use Rattle.nls.proofs.Judging.Clash.{dead_d, dead_g}
use Rattle.nls.proofs.Judging.Apart.{apart_dd, apart_gd, apart_gg, grand_of}

module _ {D I : ℕ} (sz : Tiled D I) where
  pub record PixFr (T M : ℕ → ℕ → Type 0) (b t : ℕ) (m : List ℕ) : Type 0 where
    pub todo : (j : ℕ) → j < I → (1 ≤ get_or m j 0 → get_or m j 0 ≤ 2 → j < t → ⊥) → T b j
    pub m2 : (j : ℕ) → j < I → get_or m j 0 ≡ 2 → M b j
    pub m3 : (j : ℕ) → j < I → get_or m j 0 ≡ 3 → (e : ℕ) × (b < e) × M e j

  pub record SetFr (T M : ℕ → ℕ → Type 0) (b t : ℕ) (m : List ℕ) : Type 0 where
    pub f4 : (j : ℕ) → j < I → get_or m j 0 ≡ 4 → T b j
    pub f_d : (x : ℕ) → x < I → t ≤ x → get_or m x 0 ≡ 5 → (j : ℕ) → j < I → Under (x / 4) j → T b j
    pub f_g : (x : ℕ) → x < I → t ≤ x → get_or m x 0 ≡ 6 → (j : ℕ) → j < I → Under (x / 16) (j / 4) → T b j
    pub m2 : (j : ℕ) → j < I → get_or m j 0 ≡ 2 → M b j
    pub m3 : (j : ℕ) → j < I → get_or m j 0 ≡ 3 → (e : ℕ) × (b < e) × M e j
    pub c4 : t < I → get_or m t 0 ≡ 4 → (D ≤ t) × (16 * (t / 4) < I → get_or m (16 * (t / 4)) 0 ≡ 6) × ((j : ℕ) → j / 4 ≡ t / 4 → j < t → (1 ≤ get_or m j 0) × (get_or m j 0 ≤ 2))

  pub record FineFr (T M : ℕ → ℕ → Type 0) (b t : ℕ) (m : List ℕ) : Type 0 where
    pub m2 : (j : ℕ) → j < I → t ≤ j → get_or m j 0 ≡ 2 → M b j
    pub m3 : (j : ℕ) → j < I → get_or m j 0 ≡ 3 → (e : ℕ) × (b ≤ e) × M e j
    pub m3u : (j : ℕ) → j < I → t ≤ j → get_or m j 0 ≡ 3 → (e : ℕ) × (b < e) × M e j

  module _ (R : Preds) (X : ℕ → Type 0) where
    abbrev PixR : ℕ → Cfg → List ℕ → Type 0
    PixR t c m = Pix sz R X t c m

    abbrev SetsR : ℕ → Cfg → List ℕ → Type 0
    SetsR t c m = Sets sz R X t c m

    abbrev FineR : ℕ → Cfg → List ℕ → Type 0
    FineR t c m = Fine sz R X t c m

    module _ (T M : ℕ → ℕ → Type 0) (b : ℕ) where
      pub frp_hush : (t w : ℕ) (m : List ℕ) → PixFr T M b t m → PixFr T M b (t + w) m
      frp_hush t w m p = record { todo = λ j hj n. p.todo j hj (λ x y z. n x y (omega arith)); m2 = p.m2; m3 = p.m3 }

      pub frp_one : (t : ℕ) (m : List ℕ) → length m ≡ I → t < I → PixFr T M b t m → get_or m t 0 ≡ 1 → M b t → PixFr T M b (t + 1) (set m t 2)
      frp_one t m len ti p mk x = record {
        todo = λ j hj n. todo' j hj n (ℕ_discrete j t);
        m2 = λ j hj e. m2' j hj e (ℕ_discrete j t);
        m3 = λ j hj e. m3' j hj e (ℕ_discrete j t);
      }
        where
          at : get_or (set m t 2) t 0 ≡ 2
          at = get_or-set_same m t 2 0 (omega arith)

          off : (j : ℕ) → (j ≡ t → ⊥) → get_or (set m t 2) j 0 ≡ get_or m j 0
          off j n = get_or-set_other m t j 2 0 n

          todo' : (j : ℕ) → j < I → (1 ≤ get_or (set m t 2) j 0 → get_or (set m t 2) j 0 ≤ 2 → j < t + 1 → ⊥) → Dec (j ≡ t) → T b j
          todo' j hj n (yes q) = let e : get_or (set m t 2) j 0 ≡ 2 = ap (λ (x : ℕ). get_or (set m t 2) x 0) q ∙ at in absurd (n (omega arith) (omega arith) (omega arith))
          todo' j hj n (no q) = p.todo j hj (λ x y z. n (omega (arith, off j q)) (omega (arith, off j q)) (omega arith))

          m2' : (j : ℕ) → j < I → get_or (set m t 2) j 0 ≡ 2 → Dec (j ≡ t) → M b j
          m2' j hj e (yes q) = subst (λ (x : ℕ). M b x) (sym q) x
          m2' j hj e (no q) = p.m2 j hj (sym (off j q) ∙ e)

          m3' : (j : ℕ) → j < I → get_or (set m t 2) j 0 ≡ 3 → Dec (j ≡ t) → (e : ℕ) × (b < e) × M e j
          m3' j hj e (yes q) = absurd (omega (arith, at, ap (λ (x : ℕ). get_or (set m t 2) x 0) q))
          m3' j hj e (no q) = p.m3 j hj (sym (off j q) ∙ e)

      -- to the set pass: all that stands is open
      pub frp_end : (t : ℕ) (c : Cfg) (m : List ℕ) → PixR t c m → PixFr T M b t m → SetFr T M b 0 m
      frp_end t c m g p = record {
        f4 = λ j hj e. absurd (no4 j hj e);
        f_d = λ x hx z e j hj u. p.todo j hj (λ a1 a2 a3. clash j hj a1 a2 (dead_d sz c g.core.ok (x / 4) j (omega (arith, is_d x hx e)) (is_d x hx e).2 u));
        f_g = λ x hx z e j hj u. p.todo j hj (λ a1 a2 a3. clash j hj a1 a2 (dead_g sz c g.core.ok (x / 16) j (is_g x hx e).3 (is_g x hx e).2 u));
        m2 = p.m2;
        m3 = p.m3;
        c4 = λ hx e. absurd (no4 0 hx e);
      }
        where
          is_d : (x : ℕ) → x < I → get_or m x 0 ≡ 5 → Desc_at D I c x
          is_d x hx e = is_desc_at sz c m g.core x hx e

          is_g : (x : ℕ) → x < I → get_or m x 0 ≡ 6 → Grand_at D I c x
          is_g x hx e = is_grand_at sz c m g.core x hx e

          no4 : (j : ℕ) → j < I → get_or m j 0 ≡ 4 → ⊥
          no4 j hj e = let it : Alone_at D I c m j = is_alone sz c m g.core j hj (omega arith) (omega arith) in g.no4 j hj it.0 (it.1 ∙ e)

          clash : (j : ℕ) → j < I → 1 ≤ get_or m j 0 → get_or m j 0 ≤ 2 → alone D I c j ≡ false → ⊥
          clash j hj a1 a2 n = true≢false (sym (is_alone sz c m g.core j hj a1 (omega arith)).0 ∙ n)

      pub frs_end : (t : ℕ) (m : List ℕ) → SetFr T M b t m → FineFr T M b 0 m
      frs_end t m p = record {
        m2 = λ j hj z e. p.m2 j hj e;
        m3 = λ j hj e. (let r : (e : ℕ) × (b < e) × M e j = p.m3 j hj e in (r.0, omega arith, r.2));
        m3u = λ j hj z e. p.m3 j hj e;
      }

      pub frf_hush : (t w : ℕ) (m : List ℕ) → FineFr T M b t m → FineFr T M b (t + w) m
      frf_hush t w m p = record { m2 = λ j hj z e. p.m2 j hj (omega arith) e; m3 = p.m3; m3u = λ j hj z e. p.m3u j hj (omega arith) e }

      pub frf_np : (t : ℕ) (m : List ℕ) → length m ≡ I → t < I → FineFr T M b t m → get_or m t 0 ≡ 2 → FineFr T M b (t + 1) (set m t 3)
      frf_np t m len ti p mk = record {
        m2 = λ j hj z e. p.m2 j hj (omega arith) (sym (off j (λ q. omega arith)) ∙ e);
        m3 = λ j hj e. m3' j hj e (ℕ_discrete j t);
        m3u = λ j hj z e. p.m3u j hj (omega arith) (sym (off j (λ q. omega arith)) ∙ e);
      }
        where
          off : (j : ℕ) → (j ≡ t → ⊥) → get_or (set m t 3) j 0 ≡ get_or m j 0
          off j n = get_or-set_other m t j 3 0 n

          m3' : (j : ℕ) → j < I → get_or (set m t 3) j 0 ≡ 3 → Dec (j ≡ t) → (e : ℕ) × (b ≤ e) × M e j
          m3' j hj e (yes q) = (b, omega arith, subst (λ (x : ℕ). M b x) (sym q) (p.m2 t ti (omega arith) mk))
          m3' j hj e (no q) = p.m3 j hj (sym (off j q) ∙ e)

      -- the set pass, MCP answered with v
      pub frs_c : (T' : ℕ → ℕ → Type 0) (t v : ℕ) (c : Cfg) (m : List ℕ) → SetsR t c m → t < I → SetFr T M b t m → get_or m t 0 ≡ 4 → 1 ≤ v → v ≤ 2 → (v ≡ 2 → M b t)
          → ((j : ℕ) → T b j → (j ≡ t → ⊥) → T' b j) → SetFr T' M b (t + 1) (set m t v)
      frs_c T' t v c m g ti p mk v1 v2 y f = record {
        f4 = λ j hj e. f4' j hj e (ℕ_discrete j t);
        f_d = λ x hx z e j hj u. f j (p.f_d x hx (omega arith) (sym (off x (λ q. omega arith)) ∙ e) j hj u) (λ q. true≢false (sym it.0 ∙ subst (λ (y : ℕ). alone D I c y ≡ false) q (in_d x hx (sym (off x (λ q. omega arith)) ∙ e) j u)));
        f_g = λ x hx z e j hj u. f j (p.f_g x hx (omega arith) (sym (off x (λ q. omega arith)) ∙ e) j hj u) (λ q. true≢false (sym it.0 ∙ subst (λ (y : ℕ). alone D I c y ≡ false) q (in_g x hx (sym (off x (λ q. omega arith)) ∙ e) j u)));
        m2 = λ j hj e. m2' j hj e (ℕ_discrete j t);
        m3 = λ j hj e. m3' j hj e (ℕ_discrete j t);
        c4 = λ hx e. c4' hx (sym (off (t + 1) (λ q. omega arith)) ∙ e);
      }
        where
          it : Alone_at D I c m t
          it = is_alone sz c m g.core t ti (omega arith) (omega arith)

          at : get_or (set m t v) t 0 ≡ v
          at = get_or-set_same m t v 0 (omega (arith, g.core.len))

          off : (j : ℕ) → (j ≡ t → ⊥) → get_or (set m t v) j 0 ≡ get_or m j 0
          off j n = get_or-set_other m t j v 0 n

          in_d : (x : ℕ) → x < I → get_or m x 0 ≡ 5 → (j : ℕ) → Under (x / 4) j → alone D I c j ≡ false
          in_d x hx e j u = let i : Desc_at D I c x = is_desc_at sz c m g.core x hx e in
              dead_d sz c g.core.ok (x / 4) j (omega arith) i.2 u

          in_g : (x : ℕ) → x < I → get_or m x 0 ≡ 6 → (j : ℕ) → Under (x / 16) (j / 4) → alone D I c j ≡ false
          in_g x hx e j u = let i : Grand_at D I c x = is_grand_at sz c m g.core x hx e in
              dead_g sz c g.core.ok (x / 16) j i.3 i.2 u

          f4' : (j : ℕ) → j < I → get_or (set m t v) j 0 ≡ 4 → Dec (j ≡ t) → T' b j
          f4' j hj e (yes q) = absurd (omega (arith, at, ap (λ (x : ℕ). get_or (set m t v) x 0) q))
          f4' j hj e (no q) = f j (p.f4 j hj (sym (off j q) ∙ e)) q

          m2' : (j : ℕ) → j < I → get_or (set m t v) j 0 ≡ 2 → Dec (j ≡ t) → M b j
          m2' j hj e (yes q) = subst (λ (x : ℕ). M b x) (sym q) (y (omega (arith, at, ap (λ (x : ℕ). get_or (set m t v) x 0) q)))
          m2' j hj e (no q) = p.m2 j hj (sym (off j q) ∙ e)

          m3' : (j : ℕ) → j < I → get_or (set m t v) j 0 ≡ 3 → Dec (j ≡ t) → (e : ℕ) × (b < e) × M e j
          m3' j hj e (yes q) = absurd (omega (arith, at, ap (λ (x : ℕ). get_or (set m t v) x 0) q))
          m3' j hj e (no q) = p.m3 j hj (sym (off j q) ∙ e)

          c4' : t + 1 < I → get_or m (t + 1) 0 ≡ 4 → (D ≤ t + 1) × (16 * ((t + 1) / 4) < I → get_or (set m t v) (16 * ((t + 1) / 4)) 0 ≡ 6) × ((j : ℕ) → j / 4 ≡ (t + 1) / 4 → j < t + 1 → (1 ≤ get_or (set m t v) j 0) × (get_or (set m t v) j 0 ≤ 2))
          c4' hx e =
              let i1 : (alone D I c (t + 1) ≡ true) × (c.al (t + 1) ≡ get_or m (t + 1) 0) = is_alone sz c m g.core (t + 1) hx (omega arith) (omega arith) in
              let fr : (t ≤ t + 1) × ((t + 1) / 4 ≡ t / 4) × (alone D I c t ≡ true) × (c.al t ≡ 4) = g.four (t + 1) hx i1.0 (i1.1 ∙ e) in
              let old : (D ≤ t) × (16 * (t / 4) < I → get_or m (16 * (t / 4)) 0 ≡ 6) × ((j : ℕ) → j / 4 ≡ t / 4 → j < t → (1 ≤ get_or m j 0) × (get_or m j 0 ≤ 2)) = p.c4 ti mk in
              (omega arith, (λ h. off (16 * ((t + 1) / 4)) (λ q. omega (arith, old.0)) ∙ ap (λ (x : ℕ). get_or m (16 * x) 0) fr.1 ∙ old.1 (omega arith)), λ j ej lj. sib fr.1 old.2 j ej lj (ℕ_discrete j t))
            where
              sib : (t + 1) / 4 ≡ t / 4 → ((j : ℕ) → j / 4 ≡ t / 4 → j < t → (1 ≤ get_or m j 0) × (get_or m j 0 ≤ 2)) → (j : ℕ) → j / 4 ≡ (t + 1) / 4 → j < t + 1 → Dec (j ≡ t) → (1 ≤ get_or (set m t v) j 0) × (get_or (set m t v) j 0 ≤ 2)
              sib fe o j ej lj (yes q) = let z : get_or (set m t v) j 0 ≡ v = ap (λ (x : ℕ). get_or (set m t v) x 0) q ∙ at in (omega arith, omega arith)
              sib fe o j ej lj (no q) = let z : (1 ≤ get_or m j 0) × (get_or m j 0 ≤ 2) = o j (ej ∙ fe) (omega arith) in (omega (arith, off j q), omega (arith, off j q))

      pub frp_zero : (T' : ℕ → ℕ → Type 0) (t : ℕ) (m : List ℕ) → PixFr T M b t m → get_or m t 0 ≡ 1 → ((j : ℕ) → T b j → (j ≡ t → ⊥) → T' b j) → PixFr T' M b (t + 1) m
      frp_zero T' t m p mk f = record {
        todo = λ j hj n. f j (p.todo j hj (λ x y z. n x y (omega arith))) (λ q. n (omega (arith, ap (λ (x : ℕ). get_or m x 0) q)) (omega (arith, ap (λ (x : ℕ). get_or m x 0) q)) (omega arith));
        m2 = p.m2;
        m3 = p.m3;
      }

      -- the set pass goes on past t, with no MCP there
      frs_on : (T' : ℕ → ℕ → Type 0) (t w : ℕ) (c : Cfg) (m : List ℕ) → SetsR t c m → t < I → SetFr T M b t m → (get_or m t 0 ≡ 4 → ⊥)
          → ((x : ℕ) → x < I → t + w ≤ x → get_or m x 0 ≡ 5 → (j : ℕ) → Under (x / 4) j → T b j → T' b j)
          → ((x : ℕ) → x < I → t + w ≤ x → get_or m x 0 ≡ 6 → (j : ℕ) → Under (x / 16) (j / 4) → T b j → T' b j)
          → SetFr T' M b (t + w) m
      frs_on T' t w c m g ti p n t_d t_g = record {
        f4 = λ j hj e. absurd (no4 j hj e);
        f_d = λ x hx z e j hj u. t_d x hx z e j u (p.f_d x hx (omega arith) e j hj u);
        f_g = λ x hx z e j hj u. t_g x hx z e j u (p.f_g x hx (omega arith) e j hj u);
        m2 = p.m2;
        m3 = p.m3;
        c4 = λ hx e. absurd (no4 (t + w) hx e);
      }
        where
          no4 : (j : ℕ) → j < I → get_or m j 0 ≡ 4 → ⊥
          no4 j hj e =
              let i : Alone_at D I c m j = is_alone sz c m g.core j hj (omega arith) (omega arith) in
              let f : (t ≤ j) × (j / 4 ≡ t / 4) × (alone D I c t ≡ true) × (c.al t ≡ 4) = g.four j hj i.0 (i.1 ∙ e) in
              n (g.core.tab.solo t ti f.2 ∙ f.3)

      pub frs_hush : (t w : ℕ) (c : Cfg) (m : List ℕ) → SetsR t c m → t < I → SetFr T M b t m → (get_or m t 0 ≡ 4 → ⊥) → SetFr T M b (t + w) m
      frs_hush t w c m g ti p n = frs_on T t w c m g ti p n (λ x hx z e j u y. y) (λ x hx z e j u y. y)

      module _ (c : Cfg) (m : List ℕ) (k : Core sz c m) where
        is_d : (x : ℕ) → x < I → get_or m x 0 ≡ 5 → Desc_at D I c x
        is_d x hx e = is_desc_at sz c m k x hx e

        is_g : (x : ℕ) → x < I → get_or m x 0 ≡ 6 → Grand_at D I c x
        is_g x hx e = is_grand_at sz c m k x hx e

        -- marks of two standing sets
        marks_dd : (x y j : ℕ) → x < I → y < I → get_or m x 0 ≡ 5 → get_or m y 0 ≡ 5 → Under (x / 4) j → Under (y / 4) j → x ≡ y
        marks_dd x y j hx hy ex ey u v =
            let e : x / 4 ≡ y / 4 = apart_dd sz c k.ok (x / 4) (y / 4) j (omega (arith, is_d x hx ex)) (is_d x hx ex).1 (is_d x hx ex).2 (omega (arith, is_d y hy ey)) (is_d y hy ey).1 (is_d y hy ey).2 u v in
            omega (arith, is_d x hx ex, is_d y hy ey)

        marks_gd : (x y j : ℕ) → x < I → y < I → get_or m x 0 ≡ 6 → get_or m y 0 ≡ 5 → Under (x / 16) (j / 4) → Under (y / 4) j → ⊥
        marks_gd x y j hx hy ex ey u v = apart_gd sz c k.ok (x / 16) (y / 4) j (is_g x hx ex).3 (is_g x hx ex).1 (is_g x hx ex).2 (omega (arith, is_d y hy ey)) (is_d y hy ey).1 (is_d y hy ey).2 u v

        marks_gg : (x y j : ℕ) → x < I → y < I → get_or m x 0 ≡ 6 → get_or m y 0 ≡ 6 → Under (x / 16) (j / 4) → Under (y / 16) (j / 4) → x ≡ y
        marks_gg x y j hx hy ex ey u v =
            let e : x / 16 ≡ y / 16 = apart_gg sz c k.ok (x / 16) (y / 16) j (is_g x hx ex).3 (is_g x hx ex).1 (is_g x hx ex).2 (is_g y hy ey).3 (is_g y hy ey).1 (is_g y hy ey).2 u v in
            omega (arith, (is_g x hx ex).0, (is_g y hy ey).0)

        mark_d' : (x : ℕ) → x < I → x % 4 ≡ 0 → D ≤ x → stands D I c (x / 4) ≡ true → c.s_d (x / 4) ≡ false → get_or m x 0 ≡ 5
        mark_d' x hx z lo s n = ap (λ (y : ℕ). get_or m y 0) {x = x} {y = 4 * (x / 4)} (omega arith) ∙ mark_d sz c m k (x / 4) (omega arith) (omega arith) s n

        mark_g' : (x : ℕ) → x < I → x ≡ 16 * (x / 16) → D ≤ 4 * (x / 16) → c.s_d (x / 16) ≡ true → c.s_g (x / 16) ≡ false → get_or m x 0 ≡ 6
        mark_g' x hx z lo s n = ap (λ (y : ℕ). get_or m y 0) z ∙ mark_g sz c m k (x / 16) lo (omega arith) s n

      pub frs_d0 : (T' : ℕ → ℕ → Type 0) (t : ℕ) (c : Cfg) (m : List ℕ) → SetsR t c m → t < I → SetFr T M b t m → get_or m t 0 ≡ 5
          → ((j : ℕ) → T b j → (Under (t / 4) j → ⊥) → T' b j) → SetFr T' M b (t + 4) m
      frs_d0 T' t c m g ti p mk f = frs_on T' t 4 c m g ti p (λ e. omega arith)
          (λ x hx z e j u y. f j y (λ v. omega (arith, marks_dd c m g.core x t j hx ti e mk u v)))
          (λ x hx z e j u y. f j y (λ v. marks_gd c m g.core x t j hx ti e mk u v))

      pub frs_g0 : (T' : ℕ → ℕ → Type 0) (t : ℕ) (c : Cfg) (m : List ℕ) → SetsR t c m → t < I → SetFr T M b t m → get_or m t 0 ≡ 6
          → ((j : ℕ) → T b j → (Under (t / 16) (j / 4) → ⊥) → T' b j) → SetFr T' M b (t + 16) m
      frs_g0 T' t c m g ti p mk f = frs_on T' t 16 c m g ti p (λ e. omega arith)
          (λ x hx z e j u y. f j y (λ v. marks_gd c m g.core t x j ti hx mk e v u))
          (λ x hx z e j u y. f j y (λ v. omega (arith, marks_gg c m g.core x t j hx ti e mk u v)))

      -- DESC is split: its children and GRAND are open, since it was
      pub frs_d1 : (t : ℕ) (c : Cfg) (m m' : List ℕ) → SetsR t c m → t < I → SetFr T M b t m → get_or m t 0 ≡ 5 → SetsR t (with_d (t / 4) c) m' → SetFr T M b t m'
      frs_d1 t c m m' g ti p mk g' = record {
        f4 = λ j hj e. f4' j hj e (ℕ_discrete (j / 4) (t / 4));
        f_d = λ x hx z e j hj u. f_d' x hx z e j hj u (ℕ_discrete (x / 4) (t / 4));
        f_g = λ x hx z e j hj u. f_g' x hx z e j hj u (ℕ_discrete (x / 16) (t / 4));
        m2 = λ j hj e. p.m2 j hj (old j hj 2 e (lit≤ tt) (lit< tt) (λ q. omega arith) (ℕ_discrete (j / 4) (t / 4)));
        m3 = λ j hj e. p.m3 j hj (old j hj 3 e (lit≤ tt) (lit< tt) (λ q. omega arith) (ℕ_discrete (j / 4) (t / 4)));
        c4 = λ hx e. (is.3, (λ h. mark_g sz c' m' g'.core (t / 4) (omega (arith, is)) h (s_d_on (t / 4) c (t / 4) refl) (s_g_d (t / 4) c (t / 4) ∙ Table.no_gd D I c g.core.ok (t / 4) is.2)), λ j ej lj. absurd (omega (arith, is)));
      }
        where
          c' : Cfg
          c' = with_d (t / 4) c

          is : Desc_at D I c t
          is = is_d c m g.core t ti mk

          ia : (j : ℕ) → j < I → 1 ≤ get_or m' j 0 → get_or m' j 0 < 5 → Alone_at D I c' m' j
          ia j hj a1 a2 = is_alone sz c' m' g'.core j hj a1 a2

          old : (j : ℕ) → j < I → (v : ℕ) → get_or m' j 0 ≡ v → 1 ≤ v → v < 5 → (v ≡ 4 → ⊥) → Dec (j / 4 ≡ t / 4) → get_or m j 0 ≡ v
          old j hj v e v1 v5 n (yes q) = absurd (n (sym e ∙ sym (ia j hj (omega arith) (omega arith)).1 ∙ al_d_on (t / 4) c j q))
          old j hj v e v1 v5 n (no q) =
              let i : Alone_at D I c' m' j = ia j hj (omega arith) (omega arith) in
              g.core.tab.solo j hj (sym (alone_off D I (t / 4) c j q) ∙ i.0) ∙ sym (al_d_off (t / 4) c j q) ∙ i.1 ∙ e

          f4' : (j : ℕ) → j < I → get_or m' j 0 ≡ 4 → Dec (j / 4 ≡ t / 4) → T b j
          f4' j hj e (yes q) = p.f_d t ti (omega arith) mk j hj (kid q)
          f4' j hj e (no q) =
              let i : Alone_at D I c' m' j = ia j hj (omega arith) (omega arith) in
              p.f4 j hj (g.core.tab.solo j hj (sym (alone_off D I (t / 4) c j q) ∙ i.0) ∙ sym (al_d_off (t / 4) c j q) ∙ i.1 ∙ e)

          f_d' : (x : ℕ) → x < I → t ≤ x → get_or m' x 0 ≡ 5 → (j : ℕ) → j < I → Under (x / 4) j → Dec (x / 4 ≡ t / 4) → T b j
          f_d' x hx z e j hj u (yes q) = absurd (true≢false (sym (s_d_on (t / 4) c (x / 4) q) ∙ (is_d c' m' g'.core x hx e).2))
          f_d' x hx z e j hj u (no q) =
              let i : Desc_at D I c' x = is_d c' m' g'.core x hx e in
              p.f_d x hx z (mark_d' c m g.core x hx i.0 i.3 (sym (stands_d D I (t / 4) c (x / 4)) ∙ i.1) (sym (s_d_off (t / 4) c (x / 4) q) ∙ i.2)) j hj u

          f_g' : (x : ℕ) → x < I → t ≤ x → get_or m' x 0 ≡ 6 → (j : ℕ) → j < I → Under (x / 16) (j / 4) → Dec (x / 16 ≡ t / 4) → T b j
          f_g' x hx z e j hj u (yes q) = p.f_d t ti (omega arith) mk j hj (far (subst (λ (y : ℕ). Under y (j / 4)) q u))
          f_g' x hx z e j hj u (no q) =
              let i : Grand_at D I c' x = is_g c' m' g'.core x hx e in
              p.f_g x hx z (mark_g' c m g.core x hx i.0 i.3 (sym (s_d_off (t / 4) c (x / 16) q) ∙ i.1) (sym (s_g_d (t / 4) c (x / 16)) ∙ i.2)) j hj u

      -- GRAND is split: the four sets are open, since it was
      pub frs_g1 : (t : ℕ) (c : Cfg) (m m' : List ℕ) → SetsR t c m → t < I → SetFr T M b t m → get_or m t 0 ≡ 6 → SetsR t (with_g (t / 16) c) m' → SetFr T M b t m'
      frs_g1 t c m m' g ti p mk g' = record {
        f4 = λ j hj e. p.f4 j hj (old j hj 4 e (lit≤ tt) (lit< tt));
        f_d = λ x hx z e j hj u. f_d' x hx z e j hj u (ℕ_discrete (x / 4 / 4) (t / 16));
        f_g = λ x hx z e j hj u. f_g' x hx z e j hj u (ℕ_discrete (x / 16) (t / 16));
        m2 = λ j hj e. p.m2 j hj (old j hj 2 e (lit≤ tt) (lit< tt));
        m3 = λ j hj e. p.m3 j hj (old j hj 3 e (lit≤ tt) (lit< tt));
        c4 = λ hx e. absurd (true≢false (sym (ia t ti (omega arith) (omega arith)).0 ∙ alone_g D I (t / 16) c t ∙ is.4));
      }
        where
          c' : Cfg
          c' = with_g (t / 16) c

          is : Grand_at D I c t
          is = is_g c m g.core t ti mk

          ia : (j : ℕ) → j < I → 1 ≤ get_or m' j 0 → get_or m' j 0 < 5 → Alone_at D I c' m' j
          ia j hj a1 a2 = is_alone sz c' m' g'.core j hj a1 a2

          old : (j : ℕ) → j < I → (v : ℕ) → get_or m' j 0 ≡ v → 1 ≤ v → v < 5 → get_or m j 0 ≡ v
          old j hj v e v1 v5 =
              let i : Alone_at D I c' m' j = ia j hj (omega arith) (omega arith) in
              g.core.tab.solo j hj (sym (alone_g D I (t / 16) c j) ∙ i.0) ∙ sym (al_g (t / 16) c j) ∙ i.1 ∙ e

          f_d' : (x : ℕ) → x < I → t ≤ x → get_or m' x 0 ≡ 5 → (j : ℕ) → j < I → Under (x / 4) j → Dec (x / 4 / 4 ≡ t / 16) → T b j
          f_d' x hx z e j hj u (yes q) = p.f_g t ti (omega arith) mk j hj (grand_of (t / 16) (x / 4) j q u)
          f_d' x hx z e j hj u (no q) =
              let i : Desc_at D I c' x = is_d c' m' g'.core x hx e in
              p.f_d x hx z (mark_d' c m g.core x hx i.0 i.3 (sym (stands_g_off D I (t / 16) c (x / 4) q) ∙ i.1) (sym (s_d_g (t / 16) c (x / 4)) ∙ i.2)) j hj u

          f_g' : (x : ℕ) → x < I → t ≤ x → get_or m' x 0 ≡ 6 → (j : ℕ) → j < I → Under (x / 16) (j / 4) → Dec (x / 16 ≡ t / 16) → T b j
          f_g' x hx z e j hj u (yes q) = absurd (true≢false (sym (s_g_on (t / 16) c (x / 16) q) ∙ (is_g c' m' g'.core x hx e).2))
          f_g' x hx z e j hj u (no q) =
              let i : Grand_at D I c' x = is_g c' m' g'.core x hx e in
              p.f_g x hx z (mark_g' c m g.core x hx i.0 i.3 (sym (s_d_g (t / 16) c (x / 16)) ∙ i.1) (sym (s_g_off (t / 16) c (x / 16) q) ∙ i.2)) j hj u

      -- the next plane: nothing is settled in it, and no MNP is left
      pub frf_end : (t : ℕ) (c : Cfg) (m : List ℕ) (b₀ : ℕ) → b ≡ suc b₀ → FineR t c m → I ≤ t → FineFr T M b t m → ((j : ℕ) → j < I → T b₀ j) → PixFr T M b₀ 0 m
      frf_end t c m b₀ eb g h p lo = record {
        todo = λ j hj n. lo j hj;
        m2 = λ j hj e. absurd (none j hj e);
        m3 = λ j hj e. (let r : (e : ℕ) × (b ≤ e) × M e j = p.m3 j hj e in (r.0, omega arith, r.2));
      }
        where
          none : (j : ℕ) → j < I → get_or m j 0 ≡ 2 → ⊥
          none j hj e =
              let i : Alone_at D I c m j = is_alone sz c m g.core j hj (omega arith) (omega arith) in
              omega (arith, g.two j hj i.0 (i.1 ∙ e))
