-- Refusal 12, one half: where the marks say so, every array that fits answers 1, so a 0 fits none.
use mathlib.Core.Path.{◌≡◌, refl, sym, ap, subst, ◌∙◌}
use mathlib.Core.Bool.{true, false, true≢false}
use mathlib.Core.List.{List}
use Prim.Native.Nat.{ℕ, zero, suc, ◌+◌, ◌*◌, ◌/◌, ◌%◌, ◌^◌, ◌≤◌, ◌<◌}
use native.Mathlib.Omega.{arith}
use native.Mathlib.Decide.{dec_lt, ℕ_discrete}
use lib.ListN.{get_or}
use borrow.Author.Tests.{lt-ltb}
use Rattle.sizes.proofs.Laws.{both}
use Rattle.nls.specs.Scan.{bit_of, in_desc, in_grand}
use Rattle.nls.proofs.Tiled.{Tiled}
use Rattle.nls.proofs.Arrays.{Bits, inside, ans, below, member}
use Rattle.nls.proofs.Machine.Table.{Cfg, alone, stands, Ok, alone_no, no_alone, stands_no, no_dg, low, alone_yes, stands_yes}
use Rattle.nls.proofs.Machine.Cover.{Under, kid, far, Core, Sets, is_alone, is_desc_at, is_grand_at, Desc_at, Grand_at, Alone_at}
use Rattle.nls.proofs.Machine.Steps.{preds, From}
use Rattle.nls.proofs.Reading.Told.{fam, Known, under_below, under_ge}

-- An array of P planes: no bit from P on, and one in plane P - 1
pub record Valid (I P : ℕ) (A : Bits) : Type 0 where
  pub cap : (j e : ℕ) → A.has j e ≡ true → e < P
  pub top : (j : ℕ) × (e : ℕ) × (j < I) × (suc e ≡ P) × (A.has j e ≡ true)

-- At place t of the set pass, with the table m: a 0 leaves some set that was found significant with no member that is
pub data Clash (D I P : ℕ) (b t : ℕ) (m : List ℕ) : Type 0 where
  last_child : get_or m t 0 ≡ 4 → t % 4 ≡ 3 → I ≤ 16 * (t / 4) → ((j : ℕ) → j / 4 ≡ t / 4 → j < t → get_or m j 0 ≡ 1) → Clash D I P b t m
  last_grand : get_or m t 0 ≡ 6 → ((j : ℕ) → j / 4 ≡ t / 16 → get_or m j 0 ≡ 1) → Clash D I P b t m
  last_desc : get_or m t 0 ≡ 5 → 4 * D ≤ t → t / 4 % 4 ≡ 3 → ((h : ℕ) → h / 4 ≡ t / 4 / 4 → h < t / 4 → get_or m (4 * h) 0 ≡ 5) → Clash D I P b t m
  last_root : get_or m t 0 ≡ 5 → t + 4 ≡ 4 * D → suc b ≡ P → ((j : ℕ) → j < D → get_or m j 0 ≡ 1) → ((h : ℕ) → D ≤ 4 * h → 4 * h < t → get_or m (4 * h) 0 ≡ 5) → Clash D I P b t m

-- the children of q have between them all of GRAND(q)
pub via : (q j : ℕ) → Under q (j / 4) → (h : ℕ) × (h / 4 ≡ q) × Under h j
via q j x = under j (j / 4) refl x
  where
    under : (j v : ℕ) → j / 4 ≡ v → Under q v → (h : ℕ) × (h / 4 ≡ q) × Under h j
    under j v is (kid e) = (v, e, kid is)
    under j v is (far u) = let r : (h : ℕ) × (h / 4 ≡ q) × Under h v = under v (v / 4) refl u in (r.0, r.1, far (subst (λ (x : ℕ). Under r.0 x) (sym is) r.2))

module _ {D I : ℕ} (sz : Tiled D I) where
  -- nothing in a set that stands is alone
  pub dead_d : (c : Cfg) → Ok D I c → (h j : ℕ) → D ≤ 4 * h → c.s_d h ≡ false → Under h j → alone D I c j ≡ false
  dead_d c o h j a n (kid e) = alone_no D I c j (omega arith) (subst (λ (x : ℕ). c.s_d x ≡ false) (sym e) n)
  dead_d c o h j a n (far u) =
      let d : alone D I c (j / 4) ≡ false = dead_d c o h (j / 4) a n u in
      (low D I c o j (no_alone D I c (j / 4) d).0 d).1

  pub dead_g : (c : Cfg) → Ok D I c → (q j : ℕ) → D ≤ 4 * q → c.s_g q ≡ false → Under q (j / 4) → alone D I c j ≡ false
  dead_g c o q j a n x = under j (j / 4) refl x
    where
      under : (j v : ℕ) → j / 4 ≡ v → Under q v → alone D I c j ≡ false
      under j v is (kid e) =
          alone_no D I c j (omega arith) (no_dg D I c o (j / 4) (stands_no D I c (j / 4) (omega arith) (subst (λ (x : ℕ). c.s_g x ≡ false) (sym e ∙ ap (λ (x : ℕ). x / 4) (sym is)) n)))
      under j v is (far u) =
          let d : alone D I c v ≡ false = under v (v / 4) refl u in
          let e : alone D I c (j / 4) ≡ false = subst (λ (x : ℕ). alone D I c x ≡ false) (sym is) d in
          (low D I c o j (no_alone D I c (j / 4) e).0 e).1

  pub root : (n j : ℕ) → j ≤ n → D ≤ j → (h : ℕ) × (D ≤ 4 * h) × (h < D) × Under h j
  root zero j a b = absurd (omega arith)
  root (suc n) j a b = go (dec_lt (j / 4) D) (root n (j / 4))
    where
      go : Dec (j / 4 < D) → (j / 4 ≤ n → D ≤ j / 4 → (h : ℕ) × (D ≤ 4 * h) × (h < D) × Under h (j / 4)) → (h : ℕ) × (D ≤ 4 * h) × (h < D) × Under h j
      go (yes z) ih = (j / 4, omega arith, z, kid refl)
      go (no z) ih = let r : (h : ℕ) × (D ≤ 4 * h) × (h < D) × Under h (j / 4) = ih (omega arith) (omega arith) in (r.0, r.1, r.2, far r.3)

module _ (N : ℕ) {D : ℕ} (P : ℕ) (sz : Tiled D (4 ^ N)) where
  abbrev I : ℕ
  I = 4 ^ N

  module _ (A k : Bits) (va : Valid I P A) (b t : ℕ) (m : List ℕ) (c : Cfg) (ti : t < I)
      (above : From sz P (fam N A k) (suc b))
      (p : Sets sz (preds (fam N A k) b) (Known A k b) t c m) where
    kk : Core sz c m
    kk = p.core

    -- a bit above plane b is known, so its place stands alone, with MNP or MSP
    old : (j e : ℕ) → j < I → b < e → A.has j e ≡ true → (alone D I c j ≡ true) × (2 ≤ c.al j) × (c.al j ≤ 3)
    old j e hj h a = p.more.zs j hj (e, above e h (va.cap j e a) j hj a)

    known : (j : ℕ) → j < I → A.has j b ≡ true → Known A k b j → (alone D I c j ≡ true) × (2 ≤ c.al j) × (c.al j ≤ 3)
    known j hj a x = p.more.zs j hj (b, x a)

    -- the mark MIP, in the set pass: no bit from b on
    mip : (j e : ℕ) → j < I → get_or m j 0 ≡ 1 → b ≤ e → A.has j e ≡ true → ⊥
    mip j e hj mk h a = go (ℕ_discrete e b)
      where
        it : Alone_at D I c m j
        it = is_alone sz c m kk j hj (omega arith) (omega arith)

        go : Dec (e ≡ b) → ⊥
        go (yes z) = omega (arith, it.1, known j hj (subst (λ (x : ℕ). A.has j x ≡ true) z a) (p.done j hj it.0 (λ y. omega (arith, it.1)) (λ y. omega (arith, it.1))))
        go (no z) = omega (arith, it.1, old j e hj (omega arith) a)

    -- a bit from b on, of a place that is not alone, is bit b
    only_b : (j e : ℕ) → j < I → alone D I c j ≡ false → b ≤ e → A.has j e ≡ true → A.has j b ≡ true
    only_b j e hj n h a = go (ℕ_discrete e b)
      where
        go : Dec (e ≡ b) → A.has j b ≡ true
        go (yes z) = subst (λ (x : ℕ). A.has j x ≡ true) z a
        go (no z) = absurd (true≢false (sym (old j e hj (omega arith) a).0 ∙ n))

    -- a set that was answered 0 in this plane has no bit b
    past_d : (h j : ℕ) → D ≤ 4 * h → 4 * h < t → get_or m (4 * h) 0 ≡ 5 → j < I → Under h j → A.has j b ≡ true → ⊥
    past_d h j lo ht mk hj u a =
        let is : (4 * h % 4 ≡ 0) × (stands D I c (4 * h / 4) ≡ true) × (c.s_d (4 * h / 4) ≡ false) × (D ≤ 4 * h) = is_desc_at sz c m kk (4 * h) (omega arith) mk in
        let st : stands D I c h ≡ true = subst (λ (x : ℕ). stands D I c x ≡ true) {x = 4 * h / 4} {y = h} (omega arith) is.1 in
        let no : c.s_d h ≡ false = subst (λ (x : ℕ). c.s_d x ≡ false) {x = 4 * h / 4} {y = h} (omega arith) is.2 in
        true≢false (sym (known j hj a (p.d_d h lo (omega arith) ht st no j hj u)).0 ∙ dead_d sz c kk.ok h j lo no u)

    unsplit : (h : ℕ) → 4 * h < I → get_or m (4 * h) 0 ≡ 5 → c.s_d h ≡ false
    unsplit h hi mk = subst (λ (x : ℕ). c.s_d x ≡ false) {x = 4 * h / 4} {y = h} (omega arith) (is_desc_at sz c m kk (4 * h) hi mk).2

    yes_d : (g j : ℕ) → 1 ≤ g → j < I → Under g j → A.has j b ≡ true → ans N A (in_desc g b) ≡ true
    unfolding ans inside
    yes_d g j g1 hj u a = member N (λ x. below N g x) A b j (both (lt-ltb j I hj) (under_below N g j g1 hj u)) a

    yes_g : (q j : ℕ) → 1 ≤ q → j < I → Under q (j / 4) → A.has j b ≡ true → ans N A (in_grand q b) ≡ true
    unfolding ans inside
    yes_g q j g1 hj u a = member N (λ x. below N q (x / 4)) A b j (both (lt-ltb j I hj) (under_below N q (j / 4) g1 (omega arith) u)) a

    pub clash_grand : get_or m t 0 ≡ 6 → ((j : ℕ) → j / 4 ≡ t / 16 → get_or m j 0 ≡ 1) → ans N A (in_grand (t / 16) b) ≡ true
    clash_grand mk f =
        let is : Grand_at D I c t = is_grand_at sz c m kk t ti mk in
        let r : (j : ℕ) × (e : ℕ) × (j < I) × Under (t / 16) j × (b ≤ e) × (A.has j e ≡ true) = p.more.q_d (t / 16) is.1 in
        go is r.0 r.1 r.2 r.3 r.4 r.5
      where
        go : Grand_at D I c t
            → (j e : ℕ) → j < I → Under (t / 16) j → b ≤ e → A.has j e ≡ true → ans N A (in_grand (t / 16) b) ≡ true
        go is j e hj (kid z) h a = absurd (mip j e hj (f j z) h a)
        go is j e hj (far u) h a = yes_g (t / 16) j (omega (arith, is.3)) hj u (only_b j e hj (dead_g sz c kk.ok (t / 16) j is.3 is.2 u) h a)

    pub clash_child : get_or m t 0 ≡ 4 → t % 4 ≡ 3 → I ≤ 16 * (t / 4) → ((j : ℕ) → j / 4 ≡ t / 4 → j < t → get_or m j 0 ≡ 1) → ans N A (bit_of t b) ≡ true
    unfolding ans
    clash_child mk t3 big f =
        let r : (j : ℕ) × (e : ℕ) × (j < I) × Under (t / 4) j × (b ≤ e) × (A.has j e ≡ true) = p.more.q_d (t / 4) sd in
        go r.0 r.1 r.2 r.3 r.4 r.5
      where
        it : Alone_at D I c m t
        it = is_alone sz c m kk t ti (omega arith) (omega arith)

        sd : c.s_d (t / 4) ≡ true
        sd = alone_yes D I c t (omega arith) it.0

        me : (e : ℕ) → b ≤ e → A.has t e ≡ true → Dec (e ≡ b) → A.has t b ≡ true
        me e h a (yes z) = subst (λ (x : ℕ). A.has t x ≡ true) z a
        me e h a (no z) = absurd (omega (arith, it.1, old t e ti (omega arith) a))

        one_of : (j e : ℕ) → j < I → j / 4 ≡ t / 4 → b ≤ e → A.has j e ≡ true → Dec (j ≡ t) → A.has t b ≡ true
        one_of j e hj z h a (yes q) = me e h (subst (λ (x : ℕ). A.has x e ≡ true) q a) (ℕ_discrete e b)
        one_of j e hj z h a (no q) = absurd (mip j e hj (f j z (omega arith)) h a)

        go : (j e : ℕ) → j < I → Under (t / 4) j → b ≤ e → A.has j e ≡ true → A.has t b ≡ true
        go j e hj (kid z) h a = one_of j e hj z h a (ℕ_discrete j t)
        go j e hj (far u) h a = absurd (omega (arith, under_ge (t / 4) (j / 4) u))

    pub clash_desc : get_or m t 0 ≡ 5 → 4 * D ≤ t → t / 4 % 4 ≡ 3 → ((h : ℕ) → h / 4 ≡ t / 4 / 4 → h < t / 4 → get_or m (4 * h) 0 ≡ 5) → ans N A (in_desc (t / 4) b) ≡ true
    clash_desc mk big g3 f =
        let r : (j : ℕ) × (e : ℕ) × (j < I) × Under (t / 4 / 4) (j / 4) × (b ≤ e) × (A.has j e ≡ true) = p.more.q_g (t / 4 / 4) sg in
        let v : (h : ℕ) × (h / 4 ≡ t / 4 / 4) × Under h r.0 = via (t / 4 / 4) r.0 r.3 in
        go r.0 r.1 v.0 r.2 v.1 v.2 r.4 r.5 (ℕ_discrete v.0 (t / 4))
      where
        is : Desc_at D I c t
        is = is_desc_at sz c m kk t ti mk

        sg : c.s_g (t / 4 / 4) ≡ true
        sg = stands_yes D I c (t / 4) (omega arith) is.1

        go : (j e h : ℕ) → j < I → h / 4 ≡ t / 4 / 4 → Under h j → b ≤ e → A.has j e ≡ true → Dec (h ≡ t / 4) → ans N A (in_desc (t / 4) b) ≡ true
        go j e h hj z u be a (yes q) =
            let u' : Under (t / 4) j = subst (λ (x : ℕ). Under x j) q u in
            yes_d (t / 4) j (omega arith) hj u' (only_b j e hj (dead_d sz c kk.ok (t / 4) j (omega (arith, is.3)) is.2 u') be a)
        go j e h hj z u be a (no q) =
            let mh : get_or m (4 * h) 0 ≡ 5 = f h z (omega arith) in
            let lo : D ≤ 4 * h = omega arith in
            absurd (past_d h j lo (omega arith) mh hj u (only_b j e hj (dead_d sz c kk.ok h j lo (unsplit h (omega arith) mh) u) be a))

    pub clash_root : get_or m t 0 ≡ 5 → t + 4 ≡ 4 * D → suc b ≡ P → ((j : ℕ) → j < D → get_or m j 0 ≡ 1) → ((h : ℕ) → D ≤ 4 * h → 4 * h < t → get_or m (4 * h) 0 ≡ 5) → ans N A (in_desc (t / 4) b) ≡ true
    clash_root mk te bp f1 f2 =
        let v : (j : ℕ) × (e : ℕ) × (j < I) × (suc e ≡ P) × (A.has j e ≡ true) = va.top in
        let a : A.has v.0 b ≡ true = subst (λ (x : ℕ). A.has v.0 x ≡ true) {x = v.1} {y = b} (omega arith) v.4 in
        go v.0 v.2 a (dec_lt v.0 D)
      where
        go : (j : ℕ) → j < I → A.has j b ≡ true → Dec (j < D) → ans N A (in_desc (t / 4) b) ≡ true
        go j hj a (yes z) = absurd (mip j b hj (f1 j z) (omega arith) a)
        go j hj a (no z) =
            let r : (h : ℕ) × (D ≤ 4 * h) × (h < D) × Under h j = root sz j j (omega arith) (omega arith) in
            at_root r.0 r.1 r.2 r.3 (ℕ_discrete (4 * r.0) t)
          where
            at_root : (h : ℕ) → D ≤ 4 * h → h < D → Under h j → Dec (4 * h ≡ t) → ans N A (in_desc (t / 4) b) ≡ true
            at_root h lo hi u (yes q) = yes_d (t / 4) j (omega arith) hj (subst (λ (x : ℕ). Under x j) {x = h} {y = t / 4} (omega arith) u) a
            at_root h lo hi u (no q) = absurd (past_d h j lo (omega arith) (f2 h lo (omega arith)) hj u a)
