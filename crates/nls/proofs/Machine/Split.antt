-- Splitting a set keeps what the table says.
use mathlib.Core.Path.{◌≡◌, refl, sym, ap, subst, ◌∙◌}
use mathlib.Core.Bool.{Bool, true, false, ◌||◌, true≢false, false≢true, or-true}
use Prim.Native.Nat.{ℕ, ◌*◌, ◌/◌, ◌%◌, ◌≤◌, ◌<◌}
use native.Mathlib.Omega.{arith}
use native.Mathlib.Decide.{dec_lt, ℕ_discrete}
use lib.Dec.{ltb, eqb}
use borrow.Author.Tests.{eq-eqb, ne_eqb}
use mathlib.Core.Logic.{◌⊎◌, inl, inr}
use Rattle.tree.proofs.Lists.{or_left, or_right}
use Rattle.nls.proofs.Tiled.{Tiled}
use Rattle.nls.proofs.Booleans.{or_off}
use Rattle.nls.proofs.Machine.Table.{up_low, up_5, up_7, Cfg, up, alone, stands, Ok, Table, alone_no, stands_no, no_stands, no_gd, no_dg}

-- DESC(g) is split: its four children stand alone, with MCP
unfoldable pub with_d : ℕ → Cfg → Cfg
with_d g c = record { s_d = λ h. eqb h g || c.s_d h; s_g = c.s_g; al = λ j. elim (eqb (j / 4) g) [ true ↦ 4 | false ↦ c.al j ] }

-- GRAND(q) is split
unfoldable pub with_g : ℕ → Cfg → Cfg
with_g q c = record { s_d = c.s_d; s_g = λ h. eqb h q || c.s_g h; al = c.al }

-- coefficient i has the mark v
unfoldable pub with_a : ℕ → ℕ → Cfg → Cfg
with_a i v c = record { s_d = c.s_d; s_g = c.s_g; al = λ j. elim (eqb j i) [ true ↦ v | false ↦ c.al j ] }

pick_true : {A : Type 0} (t : Bool) (x y : A) → t ≡ true → (elim t as (λ _. A) [ true ↦ x | false ↦ y ]) ≡ x
pick_true true x y e = refl
pick_true false x y e = absurd (false≢true e)

pick_false : {A : Type 0} (t : Bool) (x y : A) → t ≡ false → (elim t as (λ _. A) [ true ↦ x | false ↦ y ]) ≡ y
pick_false true x y e = absurd (true≢false e)
pick_false false x y e = refl

pub s_d_on : (g : ℕ) (c : Cfg) (h : ℕ) → h ≡ g → (with_d g c).s_d h ≡ true
unfolding with_d
s_d_on g c h e = or_left (eqb h g) (c.s_d h) (eq-eqb h g e)

pub s_d_off : (g : ℕ) (c : Cfg) (h : ℕ) → (h ≡ g → ⊥) → (with_d g c).s_d h ≡ c.s_d h
unfolding with_d
s_d_off g c h e = or_off (eqb h g) (c.s_d h) (ne_eqb h g e)

pub s_g_d : (g : ℕ) (c : Cfg) (h : ℕ) → (with_d g c).s_g h ≡ c.s_g h
unfolding with_d
s_g_d g c h = refl

pub al_d_off : (g : ℕ) (c : Cfg) (j : ℕ) → (j / 4 ≡ g → ⊥) → (with_d g c).al j ≡ c.al j
unfolding with_d
al_d_off g c j e = pick_false (eqb (j / 4) g) 4 (c.al j) (ne_eqb (j / 4) g e)

pub al_d_on : (g : ℕ) (c : Cfg) (j : ℕ) → j / 4 ≡ g → (with_d g c).al j ≡ 4
unfolding with_d
al_d_on g c j e = pick_true (eqb (j / 4) g) 4 (c.al j) (eq-eqb (j / 4) g e)

pub stands_d : (D I g : ℕ) (c : Cfg) (h : ℕ) → stands D I (with_d g c) h ≡ stands D I c h
unfolding stands with_d
stands_d D I g c h = refl

pub alone_on : (D I g : ℕ) (c : Cfg) (j : ℕ) → j / 4 ≡ g → alone D I (with_d g c) j ≡ true
unfolding alone
alone_on D I g c j e = ap (λ (x : Bool). ltb j D || x) (s_d_on g c (j / 4) e) ∙ or-true (ltb j D)

pub alone_off : (D I g : ℕ) (c : Cfg) (j : ℕ) → (j / 4 ≡ g → ⊥) → alone D I (with_d g c) j ≡ alone D I c j
unfolding alone
alone_off D I g c j e = ap (λ (x : Bool). ltb j D || x) (s_d_off g c (j / 4) e)

pub al_at : (i v : ℕ) (c : Cfg) (j : ℕ) → j ≡ i → (with_a i v c).al j ≡ v
unfolding with_a
al_at i v c j e = pick_true (eqb j i) v (c.al j) (eq-eqb j i e)

pub al_else : (i v : ℕ) (c : Cfg) (j : ℕ) → (j ≡ i → ⊥) → (with_a i v c).al j ≡ c.al j
unfolding with_a
al_else i v c j e = pick_false (eqb j i) v (c.al j) (ne_eqb j i e)

pub alone_a : (D I i v : ℕ) (c : Cfg) (j : ℕ) → alone D I (with_a i v c) j ≡ alone D I c j
unfolding with_a alone
alone_a D I i v c j = refl

pub stands_a : (D I i v : ℕ) (c : Cfg) (j : ℕ) → stands D I (with_a i v c) j ≡ stands D I c j
unfolding with_a stands
stands_a D I i v c j = refl

pub same_d : (i v : ℕ) (c : Cfg) (h : ℕ) → (with_a i v c).s_d h ≡ c.s_d h
unfolding with_a
same_d i v c h = refl

pub same_g : (i v : ℕ) (c : Cfg) (h : ℕ) → (with_a i v c).s_g h ≡ c.s_g h
unfolding with_a
same_g i v c h = refl

module _ {D I : ℕ} (sz : Tiled D I) (c : Cfg) (o : Ok D I c) (m : ℕ → ℕ) (t : Table D I c m) where
  module _ (g : ℕ) (g_lo : D ≤ 4 * g) (g_hi : 4 * g < I) (g_st : stands D I c g ≡ true) (g_no : c.s_d g ≡ false)
      (m' : ℕ → ℕ) (kids : (k : ℕ) → k < I → k / 4 ≡ g → m' k ≡ 4) (below : 16 * g < I → m' (16 * g) ≡ 6)
      (rest : (k : ℕ) → k < I → (k / 4 ≡ g → ⊥) → (k ≡ 16 * g → ⊥) → m' k ≡ m k) where
    abbrev c' : Cfg
    c' = with_d g c

    on : (h : ℕ) → h ≡ g → c'.s_d h ≡ true
    on = s_d_on g c

    off : (h : ℕ) → (h ≡ g → ⊥) → c'.s_d h ≡ c.s_d h
    off = s_d_off g c

    al_off : (j : ℕ) → (j / 4 ≡ g → ⊥) → c'.al j ≡ c.al j
    al_off = al_d_off g c

    al_on : (j : ℕ) → j / 4 ≡ g → c'.al j ≡ 4
    al_on = al_d_on g c

    st : (h : ℕ) → stands D I c' h ≡ stands D I c h
    st = stands_d D I g c

    a_on : (j : ℕ) → j / 4 ≡ g → alone D I c' j ≡ true
    a_on = alone_on D I g c

    a_off : (j : ℕ) → (j / 4 ≡ g → ⊥) → alone D I c' j ≡ alone D I c j
    a_off = alone_off D I g c

    -- a place that does not stand alone afterwards did not before, and is no child of g
    a_no : (j : ℕ) → alone D I c' j ≡ false → (j / 4 ≡ g → ⊥)
    a_no j e z = true≢false (sym (a_on j z) ∙ e)

    st_4g : stands D I c (4 * g) ≡ false
    st_4g = stands_no D I c (4 * g) (omega arith) (subst (λ (h : ℕ). c.s_g h ≡ false) {x = g} {y = 4 * g / 4} (omega arith) (no_gd D I c o g g_no))

    -- 16g is not alone before
    a_16g : alone D I c (16 * g) ≡ false
    a_16g = alone_no D I c (16 * g) (omega arith) (subst (λ (h : ℕ). c.s_d h ≡ false) {x = 4 * g} {y = 16 * g / 4} (omega arith) (no_dg D I c o (4 * g) st_4g))

    m_4g : m (4 * g) ≡ 5
    m_4g = t.head (4 * g) g_hi (alone_no D I c (4 * g) g_lo (subst (λ (h : ℕ). c.s_d h ≡ false) {x = g} {y = 4 * g / 4} (omega arith) g_no)) (omega arith)
        (subst (λ (h : ℕ). stands D I c h ≡ true) {x = g} {y = 4 * g / 4} (omega arith) g_st)

    m_16g : 16 * g < I → m (16 * g) ≡ 7
    unfolding up
    m_16g h = t.deep (16 * g) h a_16g (omega arith) (subst (λ (h : ℕ). stands D I c h ≡ false) {x = 4 * g} {y = 16 * g / 4} (omega arith) st_4g) (omega arith)
        (subst (λ (h : ℕ). c.s_d h ≡ false) {x = g} {y = 16 * g / 4 / 4} (omega arith) g_no)
        ∙ ap (λ (k : ℕ). up (m k)) {x = 16 * g / 4} {y = 4 * g} (omega arith) ∙ ap up m_4g

    -- the mark one level down is the same
    up_same : (k : ℕ) → k < I → (k / 4 ≡ g → ⊥) → up (m' k) ≡ up (m k)
    unfolding up
    up_same k h n = go (ℕ_discrete k (16 * g))
      where
        go : Dec (k ≡ 16 * g) → up (m' k) ≡ up (m k)
        go (no z) = ap up (rest k h n z)
        go (yes z) = ap up (ap m' z ∙ below (omega arith)) ∙ sym (ap up (ap m z ∙ m_16g (omega arith)))

    pub table_d : Table D I c' m'
    table_d = record {
      solo = λ j h a. solo' j h a (ℕ_discrete (j / 4) g) (ℕ_discrete j (16 * g));
      odd = λ j h a z. rest j h (a_no j a) (λ e. z (omega arith)) ∙ t.odd j h (old j a) z;
      head = λ j h a z s. rest j h (a_no j a) (λ e. true≢false (sym s ∙ st (j / 4) ∙ st16 j e)) ∙ t.head j h (old j a) z (sym (st (j / 4)) ∙ s);
      side = λ j h a s z. rest j h (a_no j a) (λ e. z (omega arith)) ∙ t.side j h (old j a) (sym (st (j / 4)) ∙ s) z;
      mid = λ j h a z s w d. mid' j h a z s w d (ℕ_discrete (j / 4 / 4) g);
      deep = λ j h a z s w d. deep' j h a z s w d (ℕ_discrete (j / 4 / 4) g);
    }
      where
        old : (j : ℕ) → alone D I c' j ≡ false → alone D I c j ≡ false
        old j a = sym (a_off j (a_no j a)) ∙ a

        st16 : (j : ℕ) → j ≡ 16 * g → stands D I c (j / 4) ≡ false
        st16 j e = subst (λ (h : ℕ). stands D I c h ≡ false) {x = 4 * g} {y = j / 4} (omega arith) st_4g

        solo' : (j : ℕ) → j < I → alone D I c' j ≡ true → Dec (j / 4 ≡ g) → Dec (j ≡ 16 * g) → m' j ≡ c'.al j
        solo' j h a (yes e) f = kids j h e ∙ sym (al_on j e)
        solo' j h a (no e) (yes f) = absurd (true≢false (sym a ∙ a_off j e ∙ subst (λ (k : ℕ). alone D I c k ≡ false) (sym f) a_16g))
        solo' j h a (no e) (no f) = rest j h e f ∙ t.solo j h (sym (a_off j e) ∙ a) ∙ sym (al_off j e)

        mid' : (j : ℕ) → j < I → alone D I c' j ≡ false → j % 4 ≡ 0 → stands D I c' (j / 4) ≡ false → j / 4 % 4 ≡ 0 → c'.s_d (j / 4 / 4) ≡ true → Dec (j / 4 / 4 ≡ g) → m' j ≡ 6
        mid' j h a z s w d (yes e) = let f : j ≡ 16 * g = omega arith in ap m' f ∙ below (omega arith)
        mid' j h a z s w d (no e) = rest j h (a_no j a) (λ f. e (omega arith)) ∙ t.mid j h (old j a) z (sym (st (j / 4)) ∙ s) w (sym (off (j / 4 / 4) e) ∙ d)

        deep' : (j : ℕ) → j < I → alone D I c' j ≡ false → j % 4 ≡ 0 → stands D I c' (j / 4) ≡ false → j / 4 % 4 ≡ 0 → c'.s_d (j / 4 / 4) ≡ false → Dec (j / 4 / 4 ≡ g) → m' j ≡ up (m' (j / 4))
        deep' j h a z s w d (yes e) = absurd (true≢false (sym (on (j / 4 / 4) e) ∙ d))
        deep' j h a z s w d (no e) = rest j h (a_no j a) (λ f. e (omega arith)) ∙ t.deep j h (old j a) z (sym (st (j / 4)) ∙ s) w (sym (off (j / 4 / 4) e) ∙ d) ∙ sym (up_same (j / 4) (omega arith) e)

    gd' : (q : ℕ) → c'.s_g q ≡ true → c'.s_d q ≡ true
    unfolding with_d
    gd' q e = or_right (eqb q g) (c.s_d q) (o.gd q e)

    pub ok_d : Ok D I c'
    ok_d = record { gd = gd'; dg = λ h e. dg' h e (ℕ_discrete h g); lo = λ h e. lo' h e (ℕ_discrete h g); hi = λ h e. hi' h e (ℕ_discrete h g) }
      where
        dg' : (h : ℕ) → c'.s_d h ≡ true → Dec (h ≡ g) → stands D I c' h ≡ true
        dg' h e (yes z) = st h ∙ subst (λ (k : ℕ). stands D I c k ≡ true) (sym z) g_st
        dg' h e (no z) = st h ∙ o.dg h (sym (off h z) ∙ e)

        lo' : (h : ℕ) → c'.s_d h ≡ true → Dec (h ≡ g) → D ≤ 4 * h
        lo' h e (yes z) = omega arith
        lo' h e (no z) = o.lo h (sym (off h z) ∙ e)

        hi' : (h : ℕ) → c'.s_d h ≡ true → Dec (h ≡ g) → 4 * h < I
        hi' h e (yes z) = omega arith
        hi' h e (no z) = o.hi h (sym (off h z) ∙ e)

  -- a coefficient that stands alone has another mark
  module _ (i v : ℕ) (i_al : alone D I c i ≡ true) (m' : ℕ → ℕ) (here : m' i ≡ v) (else : (k : ℕ) → k < I → (k ≡ i → ⊥) → m' k ≡ m k) where
    apart : (j : ℕ) → alone D I c j ≡ false → j ≡ i → ⊥
    apart j a e = true≢false (sym i_al ∙ ap (λ (k : ℕ). alone D I c k) (sym e) ∙ a)

    solo_a : (j : ℕ) → j < I → alone D I c j ≡ true → Dec (j ≡ i) → m' j ≡ (with_a i v c).al j
    solo_a j h a (yes e) = ap m' e ∙ here ∙ sym (al_at i v c j e)
    solo_a j h a (no e) = else j h e ∙ t.solo j h a ∙ sym (al_else i v c j e)

    pub table_a : Table D I (with_a i v c) m'
    unfolding with_a alone stands
    table_a = record {
      solo = λ j h a. solo_a j h a (ℕ_discrete j i);
      odd = λ j h a z. else j h (apart j a) ∙ t.odd j h a z;
      head = λ j h a z s. else j h (apart j a) ∙ t.head j h a z s;
      side = λ j h a s z. else j h (apart j a) ∙ t.side j h a s z;
      mid = λ j h a z s w d. else j h (apart j a) ∙ t.mid j h a z s w d;
      deep = λ j h a z s w d. else j h (apart j a) ∙ t.deep j h a z s w d
          ∙ ap up (sym (else (j / 4) (omega arith) (apart (j / 4) (alone_no D I c (j / 4) (no_stands D I c (j / 4) s).0 d))));
    }

  pub ok_a : (i v : ℕ) → Ok D I (with_a i v c)
  unfolding with_a stands
  ok_a i v = record { gd = o.gd; dg = o.dg; lo = o.lo; hi = o.hi }

  -- the mark of a place that does not stand alone is 0, or that of a set or of a row
  up_kind : (x : ℕ) → (up x ≡ 0) ⊎ (5 ≤ up x)
  up_kind x = go (dec_lt x 5) (dec_lt x 7)
    where
      go : Dec (x < 5) → Dec (x < 7) → (up x ≡ 0) ⊎ (5 ≤ up x)
      go (yes h) k = inl (up_low x h)
      go (no h) (yes k) = inr (omega (arith, up_5 x (omega arith) k))
      go (no h) (no k) = inr (omega (arith, up_7 x (omega arith)))

  pub kind_no : (j : ℕ) → j < I → alone D I c j ≡ false → (m j ≡ 0) ⊎ (5 ≤ m j)
  kind_no j h a = go (ℕ_discrete (j % 4) 0) (stands D I c (j / 4)) refl (ℕ_discrete (j / 4 % 4) 0) (c.s_d (j / 4 / 4)) refl
    where
      go : Dec (j % 4 ≡ 0) → (x : Bool) → stands D I c (j / 4) ≡ x → Dec (j / 4 % 4 ≡ 0) → (y : Bool) → c.s_d (j / 4 / 4) ≡ y → (m j ≡ 0) ⊎ (5 ≤ m j)
      go (no z) x ex w y ey = inl (t.odd j h a z)
      go (yes z) true ex w y ey = inr (omega (arith, t.head j h a z ex))
      go (yes z) false ex (no w) y ey = inl (t.side j h a ex w)
      go (yes z) false ex (yes w) true ey = inr (omega (arith, t.mid j h a z ex w ey))
      go (yes z) false ex (yes w) false ey = subst (λ (k : ℕ). (k ≡ 0) ⊎ (5 ≤ k)) (sym (t.deep j h a z ex w ey)) (up_kind (m (j / 4)))
