-- Refusal 12, the other half, place by place: where there is no clash, the set around the question has a member elsewhere.
use mathlib.Core.Path.{◌≡◌, refl, sym, ap, subst, ◌∙◌}
use mathlib.Core.Bool.{Bool, true, false, ◌||◌}
use mathlib.Core.Logic.{◌⊎◌, inl, inr}
use mathlib.Core.List.{List}
use Prim.Native.Nat.{ℕ, zero, suc, ◌+◌, ◌*◌, ◌/◌, ◌%◌, ◌^◌, ◌≤◌, ◌<◌}
use native.Mathlib.Omega.{arith}
use native.Mathlib.Decide.{dec_lt, ℕ_discrete}
use lib.ListN.{get_or}
use lib.Dec.{ltb, eqb, lit≤}
use borrow.Author.Tests.{ltb-true, ltb-false, eqb-true, eqb-false}
use Rattle.nls.proofs.Tiled.{Tiled}
use Rattle.nls.proofs.Booleans.{neither}
use Rattle.nls.proofs.Arrays.{Bits}
use Rattle.nls.proofs.Machine.Table.{Cfg, alone, stands, alone_yes, alone_low, alone_kid, stands_yes, stands_low, stands_kid}
use Rattle.nls.proofs.Machine.Cover.{Under, kid, far, Core, Sets, is_alone, is_desc_at, is_grand_at, mark_d, mark_g, Desc_at, Grand_at, Alone_at}
use Rattle.nls.proofs.Machine.Steps.{preds, From}
use Rattle.nls.proofs.Reading.Told.{fam, Known, under_ge}
use Rattle.nls.proofs.Judging.Apart.{Cmp, same, over, below, cmp}
use Rattle.nls.proofs.Judging.Fresh.{SetFr}
use Rattle.nls.proofs.Judging.Clash.{Clash, last_child, last_grand, last_desc, last_root}

module _ {D I : ℕ} (sz : Tiled D I) where
  -- What has still to be carried through the set pass: W is the greatest array, k the known bits
  pub record Fresh (W k : Bits) (b t : ℕ) (c : Cfg) : Type 0 where
    pub f4 : (j : ℕ) → j < I → alone D I c j ≡ true → c.al j ≡ 4 → W.has j b ≡ true
    pub f_d : (h : ℕ) → D ≤ 4 * h → 4 * h < I → t ≤ 4 * h → stands D I c h ≡ true → c.s_d h ≡ false → (j : ℕ) → j < I → Under h j → W.has j b ≡ true
    pub f_g : (q : ℕ) → D ≤ 4 * q → 16 * q < I → t ≤ 16 * q → c.s_d q ≡ true → c.s_g q ≡ false → (j : ℕ) → j < I → Under q (j / 4) → W.has j b ≡ true
    pub m2 : (j : ℕ) → j < I → alone D I c j ≡ true → c.al j ≡ 2 → k.has j b ≡ true
    pub m3 : (j : ℕ) → j < I → alone D I c j ≡ true → c.al j ≡ 3 → (e : ℕ) × (b < e) × (k.has j e ≡ true)
    pub c4 : alone D I c t ≡ true → c.al t ≡ 4 → (D ≤ t) × (16 * (t / 4) < I → c.s_g (t / 4) ≡ false) × ((j : ℕ) → j / 4 ≡ t / 4 → j < t → (c.al j ≡ 1) ⊎ (c.al j ≡ 2))

  -- a bit at b outside the question, or a bit above b that is known: then no set round it was asked in this plane
  pub data Spare (W k : Bits) (b : ℕ) (In : ℕ → Type 0) : Type 0 where
    now : (j : ℕ) → j < I → In j → W.has j b ≡ true → Spare W k b In
    past : (j e : ℕ) → j < I → In j → b < e → k.has j e ≡ true → Spare W k b In

  -- from the marks
  pub fresh_of : (W k : Bits) (b t : ℕ) (c : Cfg) (m : List ℕ) → t < I → Core sz c m → SetFr sz (λ b j. W.has j b ≡ true) (λ e j. k.has j e ≡ true) b t m → Fresh W k b t c
  fresh_of W k b t c m ti kk p = record {
    f4 = λ j hj a e. p.f4 j hj (kk.tab.solo j hj a ∙ e);
    f_d = λ h lo hi z s n j hj u. p.f_d (4 * h) hi z (mark_d sz c m kk h lo hi s n) j hj (subst (λ (x : ℕ). Under x j) {x = h} {y = 4 * h / 4} (omega arith) u);
    f_g = λ q lo hi z s n j hj u. p.f_g (16 * q) hi z (mark_g sz c m kk q lo hi s n) j hj (subst (λ (x : ℕ). Under x (j / 4)) {x = q} {y = 16 * q / 16} (omega arith) u);
    m2 = λ j hj a e. p.m2 j hj (kk.tab.solo j hj a ∙ e);
    m3 = λ j hj a e. p.m3 j hj (kk.tab.solo j hj a ∙ e);
    c4 = λ a e. c4' (p.c4 ti (kk.tab.solo t ti a ∙ e));
  }
    where
      c4' : (D ≤ t) × (16 * (t / 4) < I → get_or m (16 * (t / 4)) 0 ≡ 6) × ((j : ℕ) → j / 4 ≡ t / 4 → j < t → (1 ≤ get_or m j 0) × (get_or m j 0 ≤ 2))
          → (D ≤ t) × (16 * (t / 4) < I → c.s_g (t / 4) ≡ false) × ((j : ℕ) → j / 4 ≡ t / 4 → j < t → (c.al j ≡ 1) ⊎ (c.al j ≡ 2))
      c4' r = (r.0, (λ h. subst (λ (x : ℕ). c.s_g x ≡ false) {x = 16 * (t / 4) / 16} {y = t / 4} (omega arith) (is_grand_at sz c m kk (16 * (t / 4)) h (r.1 h)).2), λ j e l. two j l (r.2 j e l))
        where
          two : (j : ℕ) → j < t → (1 ≤ get_or m j 0) × (get_or m j 0 ≤ 2) → (c.al j ≡ 1) ⊎ (c.al j ≡ 2)
          two j l q = pick (ℕ_discrete (get_or m j 0) 1) (is_alone sz c m kk j (omega arith) q.0 (omega (arith, q.1)))
            where
              pick : Dec (get_or m j 0 ≡ 1) → Alone_at D I c m j → (c.al j ≡ 1) ⊎ (c.al j ≡ 2)
              pick (yes z) it = inl (it.1 ∙ z)
              pick (no z) it = inr (omega (arith, it.1, q.0, q.1))

module _ (N : ℕ) {D : ℕ} (P : ℕ) (sz : Tiled D (4 ^ N)) where
  abbrev I : ℕ
  I = 4 ^ N

  module _ (W k : Bits) (k⊑W : (j e : ℕ) → k.has j e ≡ true → W.has j e ≡ true) (cap : (j e : ℕ) → W.has j e ≡ true → e < P)
      (b t : ℕ) (m : List ℕ) (c : Cfg) (ti : t < I)
      (above : From sz P (fam N W k) (suc b))
      (p : Sets sz (preds (fam N W k) b) (Known W k b) t c m) (f : Fresh sz W k b t c) where
    kk : Core sz c m
    kk = p.core

    -- MCP: there is a member of DESC(t / 4) other than t
    pub room_child : get_or m t 0 ≡ 4 → (Clash D I P b t m → ⊥) → Spare sz W k b (λ j. Under (t / 4) j × (j ≡ t → ⊥))
    room_child mk n = go (ℕ_discrete (t % 4) 3) (dec_lt (16 * (t / 4)) I)
      where
        it : Alone_at D I c m t
        it = is_alone sz c m kk t ti (omega arith) (omega arith)

        c4 : (D ≤ t) × (16 * (t / 4) < I → c.s_g (t / 4) ≡ false) × ((j : ℕ) → j / 4 ≡ t / 4 → j < t → (c.al j ≡ 1) ⊎ (c.al j ≡ 2))
        c4 = f.c4 it.0 (it.1 ∙ mk)

        sd : c.s_d (t / 4) ≡ true
        sd = alone_yes D I c t c4.0 it.0

        sib : (j : ℕ) → j / 4 ≡ t / 4 → alone D I c j ≡ true
        sib j e = alone_kid D I c j (subst (λ (x : ℕ). c.s_d x ≡ true) (sym e) sd)

        -- look at the three before t
        three : (r : ℕ) → r ≤ 3 → ((j : ℕ) → j / 4 ≡ t / 4 → j < 4 * (t / 4) + r → get_or m j 0 ≡ 1) ⊎ ((j : ℕ) × (j / 4 ≡ t / 4) × (j < 4 * (t / 4) + r) × (get_or m j 0 ≡ 1 → ⊥))
        three zero h = inl (λ j e z. absurd (omega arith))
        three (suc r) h = step (ℕ_discrete (get_or m (4 * (t / 4) + r) 0) 1) (three r (omega arith))
          where
            step : Dec (get_or m (4 * (t / 4) + r) 0 ≡ 1) → ((j : ℕ) → j / 4 ≡ t / 4 → j < 4 * (t / 4) + r → get_or m j 0 ≡ 1) ⊎ ((j : ℕ) × (j / 4 ≡ t / 4) × (j < 4 * (t / 4) + r) × (get_or m j 0 ≡ 1 → ⊥))
                → ((j : ℕ) → j / 4 ≡ t / 4 → j < 4 * (t / 4) + suc r → get_or m j 0 ≡ 1) ⊎ ((j : ℕ) × (j / 4 ≡ t / 4) × (j < 4 * (t / 4) + suc r) × (get_or m j 0 ≡ 1 → ⊥))
            step (no z) w = inr (4 * (t / 4) + r, omega arith, omega arith, z)
            step (yes z) (inr w) = inr (w.0, w.1, omega arith, w.3)
            step (yes z) (inl w) = inl (λ j e y. all j e y (ℕ_discrete j (4 * (t / 4) + r)))
              where
                all : (j : ℕ) → j / 4 ≡ t / 4 → j < 4 * (t / 4) + suc r → Dec (j ≡ 4 * (t / 4) + r) → get_or m j 0 ≡ 1
                all j e y (yes q) = ap (λ (x : ℕ). get_or m x 0) q ∙ z
                all j e y (no q) = w j e (omega arith)

        found : t % 4 ≡ 3 → I ≤ 16 * (t / 4) → ((j : ℕ) → j / 4 ≡ t / 4 → j < 4 * (t / 4) + 3 → get_or m j 0 ≡ 1) ⊎ ((j : ℕ) × (j / 4 ≡ t / 4) × (j < 4 * (t / 4) + 3) × (get_or m j 0 ≡ 1 → ⊥)) → Spare sz W k b (λ j. Under (t / 4) j × (j ≡ t → ⊥))
        found t3 big (inl w) = absurd (n (last_child mk t3 big (λ j e y. w j e (omega arith))))
        found t3 big (inr w) = two w.0 w.1 (omega arith) w.3 (c4.2 w.0 w.1 (omega arith))
          where
            two : (j : ℕ) → j / 4 ≡ t / 4 → j < t → (get_or m j 0 ≡ 1 → ⊥) → (c.al j ≡ 1) ⊎ (c.al j ≡ 2) → Spare sz W k b (λ j. Under (t / 4) j × (j ≡ t → ⊥))
            two j e y z (inl a) = absurd (z (kk.tab.solo j (omega arith) (sib j e) ∙ a))
            two j e y z (inr a) = now j (omega arith) (kid e, λ q. omega arith) (k⊑W j b (f.m2 j (omega arith) (sib j e) a))

        go : Dec (t % 4 ≡ 3) → Dec (16 * (t / 4) < I) → Spare sz W k b (λ j. Under (t / 4) j × (j ≡ t → ⊥))
        go (no z) y =
            let r : (alone D I c (t + 1) ≡ true) × (c.al (t + 1) ≡ 4) = p.grp ti it.0 (it.1 ∙ mk) (t + 1) (omega arith) (omega arith) in
            now (t + 1) (omega arith) (kid {i = t + 1} (omega arith), λ q. omega arith) (f.f4 (t + 1) (omega arith) r.0 r.1)
        go (yes z) (yes y) =
            now (16 * (t / 4)) y (far {i = 16 * (t / 4)} (kid {i = 16 * (t / 4) / 4} (omega arith)), λ q. omega (arith, c4.0))
            (f.f_g (t / 4) (omega (arith, c4.0)) y (omega (arith, c4.0)) sd (c4.1 y) (16 * (t / 4)) y (kid {i = 16 * (t / 4) / 4} (omega arith)))
        go (yes z) (no y) = found z (omega arith) (three 3 (lit≤ tt))

    -- MD below the roots: there is a member of GRAND(g / 4) outside DESC(g)
    pub room_desc : get_or m t 0 ≡ 5 → 4 * D ≤ t → (Clash D I P b t m → ⊥) → Spare sz W k b (λ j. (h : ℕ) × (h / 4 ≡ t / 4 / 4) × (h ≡ t / 4 → ⊥) × Under h j)
    room_desc mk big n = go (ℕ_discrete (t / 4 % 4) 3)
      where
        is : Desc_at D I c t
        is = is_desc_at sz c m kk t ti mk

        split : (h : ℕ) → h / 4 ≡ t / 4 / 4 → (h ≡ t / 4 → ⊥) → c.s_d h ≡ true → Spare sz W k b (λ j. (h : ℕ) × (h / 4 ≡ t / 4 / 4) × (h ≡ t / 4 → ⊥) × Under h j)
        split h e ne s =
            let r : (j : ℕ) × (e : ℕ) × (j < I) × Under h j × (b ≤ e) × (W.has j e ≡ true) = p.more.q_d h s in
            at r.0 r.1 r.2 r.3 r.4 r.5 (ℕ_discrete r.1 b)
          where
            at : (j x : ℕ) → j < I → Under h j → b ≤ x → W.has j x ≡ true → Dec (x ≡ b) → Spare sz W k b (λ j. (h : ℕ) × (h / 4 ≡ t / 4 / 4) × (h ≡ t / 4 → ⊥) × Under h j)
            at j x hj u le w (yes q) = now j hj (h, e, ne, u) (subst (λ (y : ℕ). W.has j y ≡ true) q w)
            at j x hj u le w (no q) = past j x hj (h, e, ne, u) (omega arith) (above x (omega arith) (cap j x w) j hj w)

        sg : (h : ℕ) → h / 4 ≡ t / 4 / 4 → stands D I c h ≡ true
        sg h e = stands_kid D I c h (subst (λ (x : ℕ). c.s_g x ≡ true) (sym e) (stands_yes D I c (t / 4) (omega arith) is.1))

        later : (t / 4 % 4 ≡ 3 → ⊥) → (x : Bool) → c.s_d (t / 4 + 1) ≡ x → Spare sz W k b (λ j. (h : ℕ) × (h / 4 ≡ t / 4 / 4) × (h ≡ t / 4 → ⊥) × Under h j)
        later z true e = split (t / 4 + 1) (omega arith) (λ q. omega arith) e
        later z false e =
            now (4 * (t / 4 + 1)) (omega (arith, is.0)) (t / 4 + 1, omega arith, (λ q. omega arith), kid {i = 4 * (t / 4 + 1)} (omega arith))
            (f.f_d (t / 4 + 1) (omega arith) (omega (arith, is.0)) (omega arith) (sg (t / 4 + 1) (omega arith)) e (4 * (t / 4 + 1)) (omega (arith, is.0)) (kid {i = 4 * (t / 4 + 1)} (omega arith)))

        -- look at the three before t
        base : ℕ
        base = 4 * (t / 4 / 4)

        three : (r : ℕ) → r ≤ 3 → ((h : ℕ) → h / 4 ≡ t / 4 / 4 → h < base + r → get_or m (4 * h) 0 ≡ 5) ⊎ ((h : ℕ) × (h / 4 ≡ t / 4 / 4) × (h < base + r) × (c.s_d h ≡ true))
        three zero h = inl (λ j e z. absurd (omega arith))
        three (suc r) h = step (c.s_d (base + r)) refl (three r (omega arith))
          where
            step : (x : Bool) → c.s_d (base + r) ≡ x → ((h : ℕ) → h / 4 ≡ t / 4 / 4 → h < base + r → get_or m (4 * h) 0 ≡ 5) ⊎ ((h : ℕ) × (h / 4 ≡ t / 4 / 4) × (h < base + r) × (c.s_d h ≡ true))
                → ((h : ℕ) → h / 4 ≡ t / 4 / 4 → h < base + suc r → get_or m (4 * h) 0 ≡ 5) ⊎ ((h : ℕ) × (h / 4 ≡ t / 4 / 4) × (h < base + suc r) × (c.s_d h ≡ true))
            step true z w = inr (base + r, omega arith, omega arith, z)
            step false z (inr w) = inr (w.0, w.1, omega arith, w.3)
            step false z (inl w) = inl (λ j e y. all j e y (ℕ_discrete j (base + r)))
              where
                all : (j : ℕ) → j / 4 ≡ t / 4 / 4 → j < base + suc r → Dec (j ≡ base + r) → get_or m (4 * j) 0 ≡ 5
                all j e y (yes q) = mark_d sz c m kk j (omega arith) (omega (arith, is.0)) (sg j e) (subst (λ (x : ℕ). c.s_d x ≡ false) (sym q) z)
                all j e y (no q) = w j e (omega arith)

        earlier : t / 4 % 4 ≡ 3 → ((h : ℕ) → h / 4 ≡ t / 4 / 4 → h < base + 3 → get_or m (4 * h) 0 ≡ 5) ⊎ ((h : ℕ) × (h / 4 ≡ t / 4 / 4) × (h < base + 3) × (c.s_d h ≡ true)) → Spare sz W k b (λ j. (h : ℕ) × (h / 4 ≡ t / 4 / 4) × (h ≡ t / 4 → ⊥) × Under h j)
        earlier z (inl w) = absurd (n (last_desc mk big z (λ h e y. w h e (omega arith))))
        earlier z (inr w) = split w.0 w.1 (λ q. omega arith) w.3

        go : Dec (t / 4 % 4 ≡ 3) → Spare sz W k b (λ j. (h : ℕ) × (h / 4 ≡ t / 4 / 4) × (h ≡ t / 4 → ⊥) × Under h j)
        go (no z) = later z (c.s_d (t / 4 + 1)) refl
        go (yes z) = earlier z (three 3 (lit≤ tt))

    -- MG: a child of t / 16 has a bit now, or had one before
    pub room_grand : get_or m t 0 ≡ 6 → (Clash D I P b t m → ⊥) → Spare sz W k b (λ j. j / 4 ≡ t / 16)
    room_grand mk n = found (four 4 (lit≤ tt))
      where
        is : Grand_at D I c t
        is = is_grand_at sz c m kk t ti mk

        kid_alone : (j : ℕ) → j / 4 ≡ t / 16 → alone D I c j ≡ true
        kid_alone j e = alone_kid D I c j (subst (λ (x : ℕ). c.s_d x ≡ true) (sym e) is.1)

        four : (r : ℕ) → r ≤ 4 → ((j : ℕ) → j / 4 ≡ t / 16 → j < 4 * (t / 16) + r → get_or m j 0 ≡ 1) ⊎ ((j : ℕ) × (j / 4 ≡ t / 16) × (get_or m j 0 ≡ 1 → ⊥))
        four zero h = inl (λ j e z. absurd (omega arith))
        four (suc r) h = step (ℕ_discrete (get_or m (4 * (t / 16) + r) 0) 1) (four r (omega arith))
          where
            step : Dec (get_or m (4 * (t / 16) + r) 0 ≡ 1) → ((j : ℕ) → j / 4 ≡ t / 16 → j < 4 * (t / 16) + r → get_or m j 0 ≡ 1) ⊎ ((j : ℕ) × (j / 4 ≡ t / 16) × (get_or m j 0 ≡ 1 → ⊥))
                → ((j : ℕ) → j / 4 ≡ t / 16 → j < 4 * (t / 16) + suc r → get_or m j 0 ≡ 1) ⊎ ((j : ℕ) × (j / 4 ≡ t / 16) × (get_or m j 0 ≡ 1 → ⊥))
            step (no z) w = inr (4 * (t / 16) + r, omega arith, z)
            step (yes z) (inr w) = inr w
            step (yes z) (inl w) = inl (λ j e y. all j e y (ℕ_discrete j (4 * (t / 16) + r)))
              where
                all : (j : ℕ) → j / 4 ≡ t / 16 → j < 4 * (t / 16) + suc r → Dec (j ≡ 4 * (t / 16) + r) → get_or m j 0 ≡ 1
                all j e y (yes q) = ap (λ (x : ℕ). get_or m x 0) q ∙ z
                all j e y (no q) = w j e (omega arith)

        kinds : (j : ℕ) → j / 4 ≡ t / 16 → (get_or m j 0 ≡ 1 → ⊥) → j < I → Dec (c.al j ≡ 2) → Dec (c.al j ≡ 3) → Spare sz W k b (λ j. j / 4 ≡ t / 16)
        kinds j e z hj (yes a) y = now j hj e (k⊑W j b (f.m2 j hj (kid_alone j e) a))
        kinds j e z hj (no a) (yes y) = let r : (x : ℕ) × (b < x) × (k.has j x ≡ true) = f.m3 j hj (kid_alone j e) y in past j r.0 hj e r.1 r.2
        kinds j e z hj (no a) (no y) = absurd (last4 (ℕ_discrete (c.al j) 4))
          where
            last4 : Dec (c.al j ≡ 4) → ⊥
            last4 (yes x) = omega (arith, p.four j hj (kid_alone j e) x, is.0, is.3)
            last4 (no x) = z (omega (arith, kk.tab.solo j hj (kid_alone j e), kk.rng j hj (kid_alone j e)))

        found : ((j : ℕ) → j / 4 ≡ t / 16 → j < 4 * (t / 16) + 4 → get_or m j 0 ≡ 1) ⊎ ((j : ℕ) × (j / 4 ≡ t / 16) × (get_or m j 0 ≡ 1 → ⊥)) → Spare sz W k b (λ j. j / 4 ≡ t / 16)
        found (inl w) = absurd (n (last_grand mk (λ j e. w j e (omega arith))))
        found (inr w) = kinds w.0 w.1 w.2 (omega (arith, is.0, is.3)) (ℕ_discrete (c.al w.0) 2) (ℕ_discrete (c.al w.0) 3)

    -- MD of a root, in the first plane: there is a member outside it
    pub root_apart : (g h j : ℕ) → D ≤ 4 * g → g < D → D ≤ 4 * h → h < D → (g ≡ h → ⊥) → Under g j → Under h j → ⊥
    root_apart g h j g1 g2 h1 h2 n u v = go (cmp g h j u v)
      where
        go : Cmp g h → ⊥
        go (same e) = n e
        go (over w) = omega (arith, under_ge g h w)
        go (below w) = omega (arith, under_ge h g w)

    pub room_root : get_or m t 0 ≡ 5 → t < 4 * D → suc b ≡ P → (Clash D I P b t m → ⊥) → (j : ℕ) × (j < I) × (W.has j b ≡ true) × (Under (t / 4) j → ⊥)
    room_root mk t_d b_p n = go (ℕ_discrete (t + 4) (4 * D))
      where
        is : Desc_at D I c t
        is = is_desc_at sz c m kk t ti mk

        top : (j e : ℕ) → b ≤ e → W.has j e ≡ true → W.has j b ≡ true
        top j e h w = subst (λ (x : ℕ). W.has j x ≡ true) {x = e} {y = b} (omega (arith, cap j e w)) w

        split : (h : ℕ) → D ≤ 4 * h → h < D → (t / 4 ≡ h → ⊥) → c.s_d h ≡ true → (j : ℕ) × (j < I) × (W.has j b ≡ true) × (Under (t / 4) j → ⊥)
        split h h1 h2 ne s =
            let r : (j : ℕ) × (e : ℕ) × (j < I) × Under h j × (b ≤ e) × (W.has j e ≡ true) = p.more.q_d h s in
            (r.0, r.2, top r.0 r.1 r.4 r.5, λ u. root_apart (t / 4) h r.0 (omega (arith, is.0, is.3)) (omega arith) h1 h2 ne u r.3)

        all_or : (x : ℕ) (f : ℕ → Bool) → ((j : ℕ) → j < x → f j ≡ true) ⊎ ((j : ℕ) × (j < x) × (f j ≡ false))
        all_or zero f = inl (λ j h. absurd (omega arith))
        all_or (suc x) f = step (f x) refl (all_or x f)
          where
            step : (y : Bool) → f x ≡ y → ((j : ℕ) → j < x → f j ≡ true) ⊎ ((j : ℕ) × (j < x) × (f j ≡ false)) → ((j : ℕ) → j < suc x → f j ≡ true) ⊎ ((j : ℕ) × (j < suc x) × (f j ≡ false))
            step false e r = inr (x, omega arith, e)
            step true e (inr r) = inr (r.0, omega (arith, r.1), r.2)
            step true e (inl r) = inl (λ j h. at j h (ℕ_discrete j x))
              where
                at : (j : ℕ) → j < suc x → Dec (j ≡ x) → f j ≡ true
                at j h (yes q) = ap f q ∙ e
                at j h (no q) = r j (omega arith)

        or_yes : (x y : Bool) → (x || y) ≡ true → (y ≡ true → ⊥) → x ≡ true
        or_yes true y e h = refl
        or_yes false y e h = absurd (h e)

        low_one : (j : ℕ) → j < D → (get_or m j 0 ≡ 1 → ⊥) → Dec (c.al j ≡ 2) → Dec (c.al j ≡ 3) → (j : ℕ) × (j < I) × (W.has j b ≡ true) × (Under (t / 4) j → ⊥)
        low_one j h z (yes a) y = (j, omega arith, k⊑W j b (f.m2 j (omega arith) (alone_low D I c j h) a), λ u. omega (arith, under_ge (t / 4) j u, is.0, is.3))
        low_one j h z (no a) (yes y) = let r : (x : ℕ) × (b < x) × (k.has j x ≡ true) = f.m3 j (omega arith) (alone_low D I c j h) y in absurd (omega (arith, r.1, cap j r.0 (k⊑W j r.0 r.2)))
        low_one j h z (no a) (no y) = absurd (last4 (ℕ_discrete (c.al j) 4))
          where
            last4 : Dec (c.al j ≡ 4) → ⊥
            last4 (yes x) = omega (arith, p.four j (omega arith) (alone_low D I c j h) x, is.3)
            last4 (no x) = z (omega (arith, kk.tab.solo j (omega arith) (alone_low D I c j h), kk.rng j (omega arith) (alone_low D I c j h)))

        last : t + 4 ≡ 4 * D → ((j : ℕ) → j < D → eqb (get_or m j 0) 1 ≡ true) ⊎ ((j : ℕ) × (j < D) × (eqb (get_or m j 0) 1 ≡ false))
            → ((h : ℕ) → h < t / 4 → (eqb (get_or m (4 * h) 0) 5 || ltb (4 * h) D) ≡ true) ⊎ ((h : ℕ) × (h < t / 4) × ((eqb (get_or m (4 * h) 0) 5 || ltb (4 * h) D) ≡ false))
            → (j : ℕ) × (j < I) × (W.has j b ≡ true) × (Under (t / 4) j → ⊥)
        last e (inr r) y = low_one r.0 r.1 (eqb-false _ _ r.2) (ℕ_discrete (c.al r.0) 2) (ℕ_discrete (c.al r.0) 3)
        last e (inl r) (inl y) = absurd (n (last_root mk e b_p (λ j h. eqb-true _ _ (r j h)) (λ h lo ht. eqb-true _ _ (or_yes (eqb (get_or m (4 * h) 0) 5) (ltb (4 * h) D) (y h (omega arith)) (λ q. omega (arith, ltb-true (4 * h) D q))))))
        last e (inl r) (inr y) = bad y.0 y.1 (neither (eqb (get_or m (4 * y.0) 0) 5) (ltb (4 * y.0) D) y.2) (c.s_d y.0) refl
          where
            bad : (h : ℕ) → h < t / 4 → (eqb (get_or m (4 * h) 0) 5 ≡ false) × (ltb (4 * h) D ≡ false) → (x : Bool) → c.s_d h ≡ x → (j : ℕ) × (j < I) × (W.has j b ≡ true) × (Under (t / 4) j → ⊥)
            bad h ht q true s = split h (ltb-false (4 * h) D q.1) (omega arith) (λ z. omega arith) s
            bad h ht q false s = absurd (eqb-false _ _ q.0 (mark_d sz c m kk h (ltb-false (4 * h) D q.1) (omega arith) (stands_low D I c h (omega arith)) s))

        later : (t + 4 ≡ 4 * D → ⊥) → (x : Bool) → c.s_d (t / 4 + 1) ≡ x → (j : ℕ) × (j < I) × (W.has j b ≡ true) × (Under (t / 4) j → ⊥)
        later z true s = split (t / 4 + 1) (omega (arith, is.3)) (omega (arith, is.0)) (λ q. omega arith) s
        later z false s = (
          4 * (t / 4 + 1),
          omega (arith, is.0),
          f.f_d (t / 4 + 1) (omega (arith, is.3)) (omega (arith, is.0)) (omega arith) (stands_low D I c (t / 4 + 1) (omega (arith, is.0))) s (4 * (t / 4 + 1)) (omega (arith, is.0)) (kid {i = 4 * (t / 4 + 1)} (omega arith)),
          λ u. root_apart (t / 4) (t / 4 + 1) (4 * (t / 4 + 1)) (omega (arith, is.0, is.3)) (omega arith) (omega (arith, is.3)) (omega (arith, is.0)) (λ q. omega arith) u (kid {i = 4 * (t / 4 + 1)} (omega arith)),
        )

        go : Dec (t + 4 ≡ 4 * D) → (j : ℕ) × (j < I) × (W.has j b ≡ true) × (Under (t / 4) j → ⊥)
        go (no z) = later z (c.s_d (t / 4 + 1)) refl
        go (yes z) = last z (all_or D (λ j. eqb (get_or m j 0) 1)) (all_or (t / 4) (λ h. eqb (get_or m (4 * h) 0) 5 || ltb (4 * h) D))
