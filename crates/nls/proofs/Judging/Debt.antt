-- What was answered 1, what is known, and what is still open, from plane to plane: two small invariants by the split sets.
use mathlib.Core.Path.{◌≡◌, refl, sym, ap, subst, ◌∙◌}
use mathlib.Core.Bool.{Bool, true, false, true≢false}
use mathlib.Core.Logic.{◌⊎◌, inl, inr}
use Prim.Native.Nat.{ℕ, suc, ◌/◌, ◌≤◌, ◌<◌}
use native.Mathlib.Omega.{arith}
use native.Mathlib.Decide.{ℕ_discrete}
use Rattle.nls.specs.Scan.{Question, bit_of, in_desc, in_grand}
use Rattle.nls.proofs.Arrays.{Bits}
use Rattle.nls.proofs.Machine.Table.{Cfg, alone}
use Rattle.nls.proofs.Machine.Split.{with_d, with_g, with_a, al_at, al_else, alone_a, s_d_on, s_d_off, s_g_d, al_d_on, al_d_off, alone_off}
use Rattle.nls.proofs.Machine.Push.{s_d_g, al_g, alone_g, s_g_on, s_g_off}
use Rattle.nls.proofs.Machine.Cover.{Under}

module _ (D I P : ℕ) where
  -- w, the greatest array so far: planes below b are whole, MSP from z on is open, signs not asked are v
  pub record Hold (w : Bits) (v : Bool) (b z : ℕ) (c : Cfg) : Type 0 where
    pub hi : b < P
    pub low : (j e : ℕ) → e < b → w.has j e ≡ true
    pub op : (j : ℕ) → alone D I c j ≡ true → c.al j ≡ 3 → z ≤ j → w.has j b ≡ true
    pub ng : (j : ℕ) → (alone D I c j ≡ true → 2 ≤ c.al j → c.al j ≤ 3 → ⊥) → w.neg j ≡ v

  -- w, z change, the split sets do not
  pub hold_w : (w w' : Bits) (v : Bool) (b z z' : ℕ) (c : Cfg) → Hold w v b z c → z ≤ z' → ((j e : ℕ) → e < b → w.has j e ≡ true → w'.has j e ≡ true)
      → ((j : ℕ) → alone D I c j ≡ true → c.al j ≡ 3 → z' ≤ j → w.has j b ≡ true → w'.has j b ≡ true) → ((j : ℕ) → w'.neg j ≡ w.neg j) → Hold w' v b z' c
  hold_w w w' v b z z' c p zz f g n = record {
    hi = p.hi;
    low = λ j e h. f j e h (p.low j e h);
    op = λ j a e h. g j a e h (p.op j a e (omega arith));
    ng = λ j h. n j ∙ p.ng j h;
  }

  pub hold_z : (w : Bits) (v : Bool) (b z z' : ℕ) (c : Cfg) → Hold w v b z c → z ≤ z' → Hold w v b z' c
  hold_z w v b z z' c p zz = hold_w w w v b z z' c p zz (λ j e h x. x) (λ j a e h x. x) (λ j. refl)

  pub hold_a : (w w' : Bits) (v : Bool) (b z z' i x : ℕ) (c : Cfg) → Hold w v b z c → alone D I c i ≡ true → z ≤ z' → (x ≡ 3 → i < z') → ((2 ≤ x → x ≤ 3 → ⊥) → w'.neg i ≡ v)
      → ((j e : ℕ) → e < b → w.has j e ≡ true → w'.has j e ≡ true) → ((j : ℕ) → (j ≡ i → ⊥) → w.has j b ≡ true → w'.has j b ≡ true) → ((j : ℕ) → (j ≡ i → ⊥) → w'.neg j ≡ w.neg j)
      → Hold w' v b z' (with_a i x c)
  hold_a w w' v b z z' i x c p a zz x3 nv f g n = record {
    hi = p.hi;
    low = λ j e h. f j e h (p.low j e h);
    op = λ j aj e h. op' j (sym (alone_a D I i x c j) ∙ aj) e h (ℕ_discrete j i);
    ng = λ j h. ng' j (λ y. h (alone_a D I i x c j ∙ y)) (ℕ_discrete j i);
  }
    where
      op' : (j : ℕ) → alone D I c j ≡ true → (with_a i x c).al j ≡ 3 → z' ≤ j → Dec (j ≡ i) → w'.has j b ≡ true
      op' j aj e h (yes q) = absurd (omega (arith, x3 (sym (al_at i x c j q) ∙ e)))
      op' j aj e h (no q) = g j q (p.op j aj (sym (al_else i x c j q) ∙ e) (omega arith))

      ng' : (j : ℕ) → (alone D I c j ≡ true → 2 ≤ (with_a i x c).al j → (with_a i x c).al j ≤ 3 → ⊥) → Dec (j ≡ i) → w'.neg j ≡ v
      ng' j h (yes q) = ap (λ (y : ℕ). w'.neg y) q ∙ nv (λ l u. h (subst (λ (y : ℕ). alone D I c y ≡ true) (sym q) a) (omega (arith, al_at i x c j q)) (omega (arith, al_at i x c j q)))
      ng' j h (no q) = n j q ∙ p.ng j (λ y l u. h y (omega (arith, al_else i x c j q)) (omega (arith, al_else i x c j q)))

  pub hold_d : (w : Bits) (v : Bool) (b z g : ℕ) (c : Cfg) → Hold w v b z c → ((j : ℕ) → j / 4 ≡ g → alone D I c j ≡ false) → Hold w v b z (with_d g c)
  hold_d w v b z g c p na = record {
    hi = p.hi;
    low = p.low;
    op = λ j a e h. op' j a e h (ℕ_discrete (j / 4) g);
    ng = λ j h. ng' j h (ℕ_discrete (j / 4) g);
  }
    where
      op' : (j : ℕ) → alone D I (with_d g c) j ≡ true → (with_d g c).al j ≡ 3 → z ≤ j → Dec (j / 4 ≡ g) → w.has j b ≡ true
      op' j a e h (yes q) = absurd (omega (arith, al_d_on g c j q))
      op' j a e h (no q) = p.op j (sym (alone_off D I g c j q) ∙ a) (sym (al_d_off g c j q) ∙ e) h

      ng' : (j : ℕ) → (alone D I (with_d g c) j ≡ true → 2 ≤ (with_d g c).al j → (with_d g c).al j ≤ 3 → ⊥) → Dec (j / 4 ≡ g) → w.neg j ≡ v
      ng' j h (yes q) = p.ng j (λ y l u. true≢false (sym y ∙ na j q))
      ng' j h (no q) = p.ng j (λ y l u. h (alone_off D I g c j q ∙ y) (omega (arith, al_d_off g c j q)) (omega (arith, al_d_off g c j q)))

  pub hold_g : (w : Bits) (v : Bool) (b z q : ℕ) (c : Cfg) → Hold w v b z c → Hold w v b z (with_g q c)
  hold_g w v b z q c p = record {
    hi = p.hi;
    low = p.low;
    op = λ j a e h. p.op j (sym (alone_g D I q c j) ∙ a) (sym (al_g q c j) ∙ e) h;
    ng = λ j h. p.ng j (λ y l u. h (alone_g D I q c j ∙ y) (omega (arith, al_g q c j)) (omega (arith, al_g q c j)));
  }

  -- the next plane
  pub hold_down : (w : Bits) (v : Bool) (b b₀ z : ℕ) (c : Cfg) → b ≡ suc b₀ → Hold w v b z c → Hold w v b₀ 0 c
  hold_down w v b b₀ z c e p = record {
    hi = omega (arith, p.hi);
    low = λ j x h. p.low j x (omega arith);
    op = λ j a x h. p.low j b₀ (omega arith);
    ng = p.ng;
  }

module _ (I : ℕ) where
  -- O, what was answered 1: sets are split since, in plane lo or before; none of their bits was known then
  pub record Debt (O : Question → Type 0) (k : Bits) (b lo z : ℕ) (c : Cfg) : Type 0 where
    pub o_d : (h e : ℕ) → O (in_desc h e) → (c.s_d h ≡ true) × (lo ≤ e) × ((j x : ℕ) → j < I → Under h j → k.has j x ≡ true → x ≤ e)
    pub o_g : (q e : ℕ) → O (in_grand q e) → (c.s_g q ≡ true) × (lo ≤ e) × ((j x : ℕ) → j < I → Under q (j / 4) → k.has j x ≡ true → x ≤ e)
    pub o_o : (j e : ℕ) → O (bit_of j e) → (k.has j e ≡ true) × (b ≤ e) × (e ≡ b → c.al j ≡ 3 → j < z) × (j < I)

  pub debt_c : (O : Question → Type 0) (k : Bits) (b lo lo' z z' : ℕ) (c c' : Cfg) → Debt O k b lo z c → lo' ≤ lo → ((h : ℕ) → c.s_d h ≡ true → c'.s_d h ≡ true) → ((h : ℕ) → c.s_g h ≡ true → c'.s_g h ≡ true)
      → ((j : ℕ) → c'.al j ≡ 3 → (c.al j ≡ 3 → j < z) → j < z') → Debt O k b lo' z' c'
  debt_c O k b lo lo' z z' c c' p l d g a = record {
    o_d = λ h e o. (let r : (c.s_d h ≡ true) × (lo ≤ e) × ((j x : ℕ) → j < I → Under h j → k.has j x ≡ true → x ≤ e) = p.o_d h e o in (d h r.0, omega (arith, r.1), r.2));
    o_g = λ h e o. (let r : (c.s_g h ≡ true) × (lo ≤ e) × ((j x : ℕ) → j < I → Under h (j / 4) → k.has j x ≡ true → x ≤ e) = p.o_g h e o in (g h r.0, omega (arith, r.1), r.2));
    o_o = λ j e o. (let r : (k.has j e ≡ true) × (b ≤ e) × (e ≡ b → c.al j ≡ 3 → j < z) × (j < I) = p.o_o j e o in (r.0, r.1, (λ q y. a j y (r.2 q)), r.3));
  }

  pub debt_down : (O : Question → Type 0) (k : Bits) (b b₀ z : ℕ) (c : Cfg) → b ≡ suc b₀ → Debt O k b b z c → Debt O k b₀ (suc b₀) 0 c
  debt_down O k b b₀ z c q p = record {
    o_d = λ h e o. (let r : (c.s_d h ≡ true) × (b ≤ e) × ((j x : ℕ) → j < I → Under h j → k.has j x ≡ true → x ≤ e) = p.o_d h e o in (r.0, omega (arith, r.1), r.2));
    o_g = λ h e o. (let r : (c.s_g h ≡ true) × (b ≤ e) × ((j x : ℕ) → j < I → Under h (j / 4) → k.has j x ≡ true → x ≤ e) = p.o_g h e o in (r.0, omega (arith, r.1), r.2));
    o_o = λ j e o. (let r : (k.has j e ≡ true) × (b ≤ e) × (e ≡ b → c.al j ≡ 3 → j < z) × (j < I) = p.o_o j e o in (r.0, omega (arith, r.1), (λ y z. absurd (omega (arith, r.1))), r.3));
  }

  -- nothing new was answered 1
  pub debt_o : (O O' : Question → Type 0) (k k' : Bits) (b lo z : ℕ) (c : Cfg) → Debt O k b lo z c → ((p : Question) → O' p → O p) → ((j x : ℕ) → k'.has j x ≡ k.has j x) → Debt O' k' b lo z c
  debt_o O O' k k' b lo z c p f e = record {
    o_d = λ h x o. (let r : (c.s_d h ≡ true) × (lo ≤ x) × ((j y : ℕ) → j < I → Under h j → k.has j y ≡ true → y ≤ x) = p.o_d h x (f (in_desc h x) o) in (r.0, r.1, λ j y hj u z. r.2 j y hj u (sym (e j y) ∙ z)));
    o_g = λ h x o. (let r : (c.s_g h ≡ true) × (lo ≤ x) × ((j y : ℕ) → j < I → Under h (j / 4) → k.has j y ≡ true → y ≤ x) = p.o_g h x (f (in_grand h x) o) in (r.0, r.1, λ j y hj u z. r.2 j y hj u (sym (e j y) ∙ z)));
    o_o = λ j x o. (let r : (k.has j x ≡ true) × (b ≤ x) × (x ≡ b → c.al j ≡ 3 → j < z) × (j < I) = p.o_o j x (f (bit_of j x) o) in (e j x ∙ r.0, r.1, r.2, r.3));
  }

  -- a bit was
  pub debt_one : (O O' : Question → Type 0) (k k' : Bits) (b lo z z' t : ℕ) (c : Cfg) → Debt O k b lo z c → z ≤ z' → b ≤ lo → t < I → (c.al t ≡ 3 → t < z')
      → ((p : Question) → O' p → O p ⊎ (bit_of t b ≡ p)) → ((j x : ℕ) → k.has j x ≡ true → k'.has j x ≡ true) → k'.has t b ≡ true → ((j x : ℕ) → k'.has j x ≡ true → (k.has j x ≡ true) ⊎ (x ≡ b)) → Debt O' k' b lo z' c
  debt_one O O' k k' b lo z z' t c p zz bl ti a3 f up new back = record {
    o_d = λ h e o. o_d' h e (f (in_desc h e) o);
    o_g = λ h e o. o_g' h e (f (in_grand h e) o);
    o_o = λ j e o. o_o' j e (f (bit_of j e) o);
  }
    where
      o_d' : (h e : ℕ) → O (in_desc h e) ⊎ (bit_of t b ≡ in_desc h e) → (c.s_d h ≡ true) × (lo ≤ e) × ((j x : ℕ) → j < I → Under h j → k'.has j x ≡ true → x ≤ e)
      o_d' h e (inr y) = absurd (let bad : ◌≡◌ {A = ℕ} 0 1 = cc in omega arith)
      o_d' h e (inl o) = (r.0, r.1, λ j x hj u y. old j x hj u (back j x y))
        where
          r : (c.s_d h ≡ true) × (lo ≤ e) × ((j x : ℕ) → j < I → Under h j → k.has j x ≡ true → x ≤ e)
          r = p.o_d h e o

          old : (j x : ℕ) → j < I → Under h j → (k.has j x ≡ true) ⊎ (x ≡ b) → x ≤ e
          old j x hj u (inl y) = r.2 j x hj u y
          old j x hj u (inr y) = omega (arith, r.1)

      o_g' : (h e : ℕ) → O (in_grand h e) ⊎ (bit_of t b ≡ in_grand h e) → (c.s_g h ≡ true) × (lo ≤ e) × ((j x : ℕ) → j < I → Under h (j / 4) → k'.has j x ≡ true → x ≤ e)
      o_g' h e (inr y) = absurd (let bad : ◌≡◌ {A = ℕ} 0 1 = cc in omega arith)
      o_g' h e (inl o) = (r.0, r.1, λ j x hj u y. old j x hj u (back j x y))
        where
          r : (c.s_g h ≡ true) × (lo ≤ e) × ((j x : ℕ) → j < I → Under h (j / 4) → k.has j x ≡ true → x ≤ e)
          r = p.o_g h e o

          old : (j x : ℕ) → j < I → Under h (j / 4) → (k.has j x ≡ true) ⊎ (x ≡ b) → x ≤ e
          old j x hj u (inl y) = r.2 j x hj u y
          old j x hj u (inr y) = omega (arith, r.1)

      o_o' : (j e : ℕ) → O (bit_of j e) ⊎ (bit_of t b ≡ bit_of j e) → (k'.has j e ≡ true) × (b ≤ e) × (e ≡ b → c.al j ≡ 3 → j < z') × (j < I)
      o_o' j e (inl o) = let r : (k.has j e ≡ true) × (b ≤ e) × (e ≡ b → c.al j ≡ 3 → j < z) × (j < I) = p.o_o j e o in (up j e r.0, r.1, (λ q y. omega (arith, r.2 q y)), r.3)
      o_o' j e (inr y) =
          let e1 : t ≡ j = cc in
          let e2 : b ≡ e = cc in
          (subst (λ (x : ℕ). k'.has x e ≡ true) e1 (subst (λ (x : ℕ). k'.has t x ≡ true) e2 new), omega arith, (λ q w. omega (arith, a3 (ap c.al e1 ∙ w))), subst (λ (x : ℕ). x < I) e1 ti)

  -- a set was, and is split at once
  pub debt_d : (O O' : Question → Type 0) (k : Bits) (b z g : ℕ) (c : Cfg) → Debt O k b b z c → ((p : Question) → O' p → O p ⊎ (in_desc g b ≡ p)) → ((j x : ℕ) → j < I → Under g j → k.has j x ≡ true → ⊥) → Debt O' k b b z (with_d g c)
  debt_d O O' k b z g c p f new = record {
    o_d = λ h e o. o_d' h e (f (in_desc h e) o);
    o_g = λ h e o. o_g' h e (f (in_grand h e) o);
    o_o = λ j e o. o_o' j e (f (bit_of j e) o);
  }
    where
      grow : (h : ℕ) → c.s_d h ≡ true → Dec (h ≡ g) → (with_d g c).s_d h ≡ true
      grow h y (yes q) = s_d_on g c h q
      grow h y (no q) = s_d_off g c h q ∙ y

      o_d' : (h e : ℕ) → O (in_desc h e) ⊎ (in_desc g b ≡ in_desc h e) → ((with_d g c).s_d h ≡ true) × (b ≤ e) × ((j x : ℕ) → j < I → Under h j → k.has j x ≡ true → x ≤ e)
      o_d' h e (inl o) = let r : (c.s_d h ≡ true) × (b ≤ e) × ((j x : ℕ) → j < I → Under h j → k.has j x ≡ true → x ≤ e) = p.o_d h e o in (grow h r.0 (ℕ_discrete h g), r.1, r.2)
      o_d' h e (inr y) =
          let e1 : g ≡ h = cc in
          let e2 : b ≡ e = cc in
          (s_d_on g c h (sym e1), omega arith, λ j x hj u w. absurd (new j x hj (subst (λ (y : ℕ). Under y j) (sym e1) u) w))

      o_g' : (h e : ℕ) → O (in_grand h e) ⊎ (in_desc g b ≡ in_grand h e) → ((with_d g c).s_g h ≡ true) × (b ≤ e) × ((j x : ℕ) → j < I → Under h (j / 4) → k.has j x ≡ true → x ≤ e)
      o_g' h e (inr y) = absurd (let bad : ◌≡◌ {A = ℕ} 0 1 = cc in omega arith)
      o_g' h e (inl o) = let r : (c.s_g h ≡ true) × (b ≤ e) × ((j x : ℕ) → j < I → Under h (j / 4) → k.has j x ≡ true → x ≤ e) = p.o_g h e o in (s_g_d g c h ∙ r.0, r.1, r.2)

      o_o' : (j e : ℕ) → O (bit_of j e) ⊎ (in_desc g b ≡ bit_of j e) → (k.has j e ≡ true) × (b ≤ e) × (e ≡ b → (with_d g c).al j ≡ 3 → j < z) × (j < I)
      o_o' j e (inr y) = absurd (let bad : ◌≡◌ {A = ℕ} 0 1 = cc in omega arith)
      o_o' j e (inl o) = (r.0, r.1, (λ q y. al' q y (ℕ_discrete (j / 4) g)), r.3)
        where
          r : (k.has j e ≡ true) × (b ≤ e) × (e ≡ b → c.al j ≡ 3 → j < z) × (j < I)
          r = p.o_o j e o

          al' : e ≡ b → (with_d g c).al j ≡ 3 → Dec (j / 4 ≡ g) → j < z
          al' q y (yes w) = absurd (omega (arith, al_d_on g c j w))
          al' q y (no w) = r.2 q (sym (al_d_off g c j w) ∙ y)

  pub debt_g : (O O' : Question → Type 0) (k : Bits) (b z g : ℕ) (c : Cfg) → Debt O k b b z c → ((p : Question) → O' p → O p ⊎ (in_grand g b ≡ p)) → ((j x : ℕ) → j < I → Under g (j / 4) → k.has j x ≡ true → ⊥) → Debt O' k b b z (with_g g c)
  debt_g O O' k b z g c p f new = record {
    o_d = λ h e o. o_d' h e (f (in_desc h e) o);
    o_g = λ h e o. o_g' h e (f (in_grand h e) o);
    o_o = λ j e o. o_o' j e (f (bit_of j e) o);
  }
    where
      grow : (h : ℕ) → c.s_g h ≡ true → Dec (h ≡ g) → (with_g g c).s_g h ≡ true
      grow h y (yes q) = s_g_on g c h q
      grow h y (no q) = s_g_off g c h q ∙ y

      o_g' : (h e : ℕ) → O (in_grand h e) ⊎ (in_grand g b ≡ in_grand h e) → ((with_g g c).s_g h ≡ true) × (b ≤ e) × ((j x : ℕ) → j < I → Under h (j / 4) → k.has j x ≡ true → x ≤ e)
      o_g' h e (inl o) = let r : (c.s_g h ≡ true) × (b ≤ e) × ((j x : ℕ) → j < I → Under h (j / 4) → k.has j x ≡ true → x ≤ e) = p.o_g h e o in (grow h r.0 (ℕ_discrete h g), r.1, r.2)
      o_g' h e (inr y) =
          let e1 : g ≡ h = cc in
          let e2 : b ≡ e = cc in
          (s_g_on g c h (sym e1), omega arith, λ j x hj u w. absurd (new j x hj (subst (λ (y : ℕ). Under y (j / 4)) (sym e1) u) w))

      o_d' : (h e : ℕ) → O (in_desc h e) ⊎ (in_grand g b ≡ in_desc h e) → ((with_g g c).s_d h ≡ true) × (b ≤ e) × ((j x : ℕ) → j < I → Under h j → k.has j x ≡ true → x ≤ e)
      o_d' h e (inr y) = absurd (let bad : ◌≡◌ {A = ℕ} 0 1 = cc in omega arith)
      o_d' h e (inl o) = let r : (c.s_d h ≡ true) × (b ≤ e) × ((j x : ℕ) → j < I → Under h j → k.has j x ≡ true → x ≤ e) = p.o_d h e o in (s_d_g g c h ∙ r.0, r.1, r.2)

      o_o' : (j e : ℕ) → O (bit_of j e) ⊎ (in_grand g b ≡ bit_of j e) → (k.has j e ≡ true) × (b ≤ e) × (e ≡ b → (with_g g c).al j ≡ 3 → j < z) × (j < I)
      o_o' j e (inr y) = absurd (let bad : ◌≡◌ {A = ℕ} 0 1 = cc in omega arith)
      o_o' j e (inl o) = let r : (k.has j e ≡ true) × (b ≤ e) × (e ≡ b → c.al j ≡ 3 → j < z) × (j < I) = p.o_o j e o in (r.0, r.1, (λ q y. r.2 q (sym (al_g g c j) ∙ y)), r.3)
