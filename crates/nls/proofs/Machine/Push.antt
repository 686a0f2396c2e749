-- What a push writes, and that a split of GRAND keeps what the table says.
use mathlib.Core.Path.{◌≡◌, refl, sym, ap, subst, ◌∙◌}
use mathlib.Core.Bool.{Bool, true, false, ◌||◌, true≢false, or-true}
use mathlib.Core.Logic.{◌⊎◌, inl, inr}
use mathlib.Core.List.{List}
use Prim.Native.Nat.{ℕ, zero, suc, ◌+◌, ◌*◌, ◌/◌, ◌%◌, ◌≤◌, ◌<◌}
use native.Mathlib.Omega.{arith}
use native.Mathlib.Decide.{dec_lt, dec_le, ℕ_discrete}
use lib.ListN.{length, get_or, set, length-set}
use lib.Seq.{get_or-set_same, get_or-set_other}
use lib.Dec.{ltb, eqb, lit<, lit≤}
use borrow.Author.Tests.{le-ltb, lt-ltb, eq-eqb, ne_eqb}
use Rattle.tree.proofs.Lists.{or_left}
use Rattle.nls.specs.Marks.{push_from, push, split_grand, push_roots}
use Rattle.nls.proofs.Tiled.{Tiled}
use Rattle.nls.proofs.Booleans.{or_off}
use Rattle.nls.proofs.Machine.Table.{Cfg, up, alone, stands, Ok, Table, alone_no, no_alone, stands_no, no_dg, low, up_5, up_7}
use Rattle.nls.proofs.Machine.Split.{with_g}

-- k is j, 4j, 16j ..
pub data Line (j : ℕ) : ℕ → Type 0 where
  here : {k : ℕ} → k ≡ j → Line j k
  down : {k : ℕ} → k % 4 ≡ 0 → Line j (k / 4) → Line j k

pub line_ge : (j k : ℕ) → Line j k → j ≤ k
line_ge j k (here e) = omega arith
line_ge j k (down e l) = omega (arith, line_ge j (k / 4) l)

line_4 : (j k : ℕ) → Line (4 * j) k → Line j k
line_4 j k (here e) = down {k = k} (omega arith) (here {k = k / 4} (omega arith))
line_4 j k (down e l) = down e (line_4 j (k / 4) l)

line_cases : (j k : ℕ) → Line j k → (k ≡ j) ⊎ Line (4 * j) k
line_cases j k (here e) = inl e
line_cases j k (down e l) = inr (go (line_cases j (k / 4) l))
  where
    go : (k / 4 ≡ j) ⊎ Line (4 * j) (k / 4) → Line (4 * j) k
    go (inl z) = here {k = k} (omega arith)
    go (inr z) = down e z

line_up : (j k : ℕ) → Line j k → (k ≡ j → ⊥) → (k % 4 ≡ 0) × Line j (k / 4)
line_up j k (here e) n = absurd (n e)
line_up j k (down e l) n = (e, l)

-- two lines that begin within a factor of 4 do not meet
line_meet : (h j k : ℕ) → h < 4 * j → j < 4 * h → Line h k → Line j k → h ≡ j
line_meet h j k a b (here e) (here f) = omega arith
line_meet h j k a b (here e) (down z l) = absurd (omega (arith, line_ge j (k / 4) l))
line_meet h j k a b (down z l) (here f) = absurd (omega (arith, line_ge h (k / 4) l))
line_meet h j k a b (down z l) (down y r) = line_meet h j (k / 4) a b l r

module _ (I : ℕ) where
  push_on : (n j v : ℕ) (l : List ℕ) → j < I → push_from I (suc n) j v l ≡ push_from I n (4 * j) (v + 1) (set l j v)
  unfolding push_from
  push_on n j v l h = rw (lt-ltb j I h, push_from)

  push_stop : (n j v : ℕ) (l : List ℕ) → I ≤ j → push_from I (suc n) j v l ≡ l
  unfolding push_from
  push_stop n j v l h = rw (le-ltb j I h, push_from)

  push_none : (j v : ℕ) (l : List ℕ) → push_from I zero j v l ≡ l
  unfolding push_from
  push_none j v l = refl

  pub push_len : (n j v : ℕ) (l : List ℕ) → length (push_from I n j v l) ≡ length l
  push_len zero j v l = ap length (push_none j v l)
  push_len (suc n) j v l = go (dec_lt j I) (push_len n (4 * j) (v + 1) (set l j v))
    where
      go : Dec (j < I) → length (push_from I n (4 * j) (v + 1) (set l j v)) ≡ length (set l j v) → length (push_from I (suc n) j v l) ≡ length l
      go (yes h) ih = ap length (push_on n j v l h) ∙ ih ∙ length-set l j v
      go (no h) ih = ap length (push_stop n j v l (omega arith))

  pub push_off : (n j v : ℕ) (l : List ℕ) (k : ℕ) → (Line j k → ⊥) → get_or (push_from I n j v l) k 0 ≡ get_or l k 0
  push_off zero j v l k f = ap (λ (r : List ℕ). get_or r k 0) (push_none j v l)
  push_off (suc n) j v l k f = go (dec_lt j I) (push_off n (4 * j) (v + 1) (set l j v) k (λ z. f (line_4 j k z)))
    where
      go : Dec (j < I) → get_or (push_from I n (4 * j) (v + 1) (set l j v)) k 0 ≡ get_or (set l j v) k 0 → get_or (push_from I (suc n) j v l) k 0 ≡ get_or l k 0
      go (yes h) ih = ap (λ (r : List ℕ). get_or r k 0) (push_on n j v l h) ∙ ih ∙ get_or-set_other l j k v 0 (λ e. f (here e))
      go (no h) ih = ap (λ (r : List ℕ). get_or r k 0) (push_stop n j v l (omega arith))

  pub push_top : (n j v : ℕ) (l : List ℕ) → length l ≡ I → 1 ≤ j → j < I → I ≤ n + j → get_or (push_from I n j v l) j 0 ≡ v
  push_top zero j v l e a b f = absurd (omega arith)
  push_top (suc n) j v l e a b f = ap (λ (r : List ℕ). get_or r j 0) (push_on n j v l b)
      ∙ push_off n (4 * j) (v + 1) (set l j v) j (λ z. omega (arith, line_ge (4 * j) j z)) ∙ get_or-set_same l j v 0 (omega arith)

  pub push_down : (n j v : ℕ) (l : List ℕ) (k : ℕ) → length l ≡ I → 1 ≤ j → I ≤ n + j → k < I → Line j k → (k ≡ j → ⊥)
      → get_or (push_from I n j v l) k 0 ≡ get_or (push_from I n j v l) (k / 4) 0 + 1
  push_down zero j v l k e a f h z n = absurd (omega (arith, line_ge j k z))
  push_down (suc n) j v l k e a f h z w =
      subst (λ (r : List ℕ). get_or r k 0 ≡ get_or r (k / 4) 0 + 1) (sym (push_on n j v l ji)) (go (line_cases j k z) (ℕ_discrete k (4 * j)) (push_down n (4 * j) (v + 1) (set l j v) k e' (omega arith) (omega arith) h))
    where
      ji : j < I
      ji = omega (arith, line_ge j k z)

      e' : length (set l j v) ≡ I
      e' = length-set l j v ∙ e

      go : (k ≡ j) ⊎ Line (4 * j) k → Dec (k ≡ 4 * j) → (Line (4 * j) k → (k ≡ 4 * j → ⊥) → get_or (push_from I n (4 * j) (v + 1) (set l j v)) k 0 ≡ get_or (push_from I n (4 * j) (v + 1) (set l j v)) (k / 4) 0 + 1)
          → get_or (push_from I n (4 * j) (v + 1) (set l j v)) k 0 ≡ get_or (push_from I n (4 * j) (v + 1) (set l j v)) (k / 4) 0 + 1
      go (inl q) d ih = absurd (w q)
      go (inr q) (no d) ih = ih q d
      go (inr q) (yes d) ih =
          ap (λ (x : ℕ). get_or (push_from I n (4 * j) (v + 1) (set l j v)) x 0) d
          ∙ push_top n (4 * j) (v + 1) (set l j v) e' (omega arith) (omega arith) (omega arith)
          ∙ ap (λ (x : ℕ). x + 1) (sym (push_off n (4 * j) (v + 1) (set l j v) j (λ y. omega (arith, line_ge (4 * j) j y)) ∙ get_or-set_same l j v 0 (omega arith)))
          ∙ ap (λ (x : ℕ). get_or (push_from I n (4 * j) (v + 1) (set l j v)) x 0 + 1) {x = j} {y = k / 4} (omega arith)

  push_ge : (n j v : ℕ) (l : List ℕ) → length l ≡ I → 1 ≤ j → I ≤ n + j → (k : ℕ) → k < I → Line j k → v ≤ get_or (push_from I n j v l) k 0
  push_ge n j v l e a f k h (here q) = omega (arith, ap (λ (x : ℕ). get_or (push_from I n j v l) x 0) q, push_top n j v l e a (omega arith) f)
  push_ge n j v l e a f k h (down q z) = go (ℕ_discrete k j) (push_ge n j v l e a f (k / 4) (omega arith) z)
    where
      go : Dec (k ≡ j) → v ≤ get_or (push_from I n j v l) (k / 4) 0 → v ≤ get_or (push_from I n j v l) k 0
      go (yes y) ih = absurd (omega (arith, line_ge j (k / 4) z))
      go (no y) ih = omega (arith, push_down n j v l k e a f h (down q z) y)

  -- MD at h, and its rows
  abbrev Mark : ℕ → List ℕ → List ℕ
  Mark h l = push I h (set l h 5)

  module _ (h : ℕ) (l : List ℕ) (len : length l ≡ I) (h1 : 1 ≤ h) (h_i : h < I) where
    len' : length (set l h 5) ≡ I
    len' = length-set l h 5 ∙ len

    mark_len : length (Mark h l) ≡ I
    mark_len = push_len I (4 * h) 7 (set l h 5) ∙ len'

    mark_off : (k : ℕ) → (Line h k → ⊥) → get_or (Mark h l) k 0 ≡ get_or l k 0
    mark_off k f = push_off I (4 * h) 7 (set l h 5) k (λ z. f (line_4 h k z)) ∙ get_or-set_other l h k 5 0 (λ e. f (here e))

    mark_head : get_or (Mark h l) h 0 ≡ 5
    mark_head = push_off I (4 * h) 7 (set l h 5) h (λ z. omega (arith, line_ge (4 * h) h z)) ∙ get_or-set_same l h 5 0 (omega (arith, len))

    mark_line : (k : ℕ) → k < I → Line h k → (k ≡ h → ⊥) → get_or (Mark h l) k 0 ≡ up (get_or (Mark h l) (k / 4) 0)
    mark_line k hk z w = go (line_cases h k z) (ℕ_discrete k (4 * h))
      where
        go : (k ≡ h) ⊎ Line (4 * h) k → Dec (k ≡ 4 * h) → get_or (Mark h l) k 0 ≡ up (get_or (Mark h l) (k / 4) 0)
        go (inl q) d = absurd (w q)
        go (inr q) (yes d) =
            ap (λ (x : ℕ). get_or (Mark h l) x 0) d ∙ push_top I (4 * h) 7 (set l h 5) len' (omega arith) (omega arith) (omega arith)
            ∙ sym (ap (λ (x : ℕ). up (get_or (Mark h l) x 0)) {x = k / 4} {y = h} (omega arith) ∙ ap up mark_head ∙ up_5 5 (lit≤ tt) (lit< tt))
        go (inr q) (no d) =
            let u : (k % 4 ≡ 0) × Line (4 * h) (k / 4) = line_up (4 * h) k q d in
            push_down I (4 * h) 7 (set l h 5) k len' (omega arith) (omega arith) hk q d
            ∙ sym (up_7 (get_or (Mark h l) (k / 4) 0) (push_ge I (4 * h) 7 (set l h 5) len' (omega arith) (omega arith) (k / 4) (omega arith) u.1))

-- The four heads from i on, of which n are done
abbrev pub Head : ℕ → ℕ → ℕ → Type 0
Head i n h = (i ≤ h) × (h < i + 4 * n) × (h % 4 ≡ 0)

module _ (I i : ℕ) (i_4 : i % 4 ≡ 0) (i_pos : 1 ≤ i) where
  pub record Done (n : ℕ) (l r : List ℕ) : Type 0 where
    pub len : length r ≡ I
    pub off : (k : ℕ) → ((h : ℕ) → Head i n h → Line h k → ⊥) → get_or r k 0 ≡ get_or l k 0
    pub top : (h : ℕ) → Head i n h → get_or r h 0 ≡ 5
    pub line : (h k : ℕ) → Head i n h → Line h k → (k ≡ h → ⊥) → k < I → get_or r k 0 ≡ up (get_or r (k / 4) 0)

  pub done_0 : (l : List ℕ) → length l ≡ I → Done 0 l l
  done_0 l e = record { len = e; off = λ k f. refl; top = λ h a. absurd (omega arith); line = λ h k a. absurd (omega arith) }

  pub done_suc : (n : ℕ) (l r : List ℕ) → i + 4 * (n + 1) ≤ I → i + 4 * (n + 1) ≤ 4 * i → Done n l r → Done (n + 1) l (Mark I (i + 4 * n) r)
  done_suc n l r n_i n4 d = record {
    len = mark_len I x r d.len x1 x_i;
    off = λ k f. mark_off I x r d.len x1 x_i k (f x me) ∙ d.off k (λ h a. f h (omega arith, omega arith, a.2));
    top = λ h a. top' h a (ℕ_discrete h x);
    line = λ h k a z w ki. line' h k a z w ki (ℕ_discrete h x);
  }
    where
      x : ℕ
      x = i + 4 * n

      x1 : 1 ≤ x
      x1 = omega arith

      x_i : x < I
      x_i = omega arith

      me : Head i (n + 1) x
      me = (omega arith, omega arith, omega arith)

      older : (h : ℕ) → Head i (n + 1) h → (h ≡ x → ⊥) → Head i n h
      older h a e = (a.0, omega arith, a.2)

      clear : (h k : ℕ) → Head i (n + 1) h → (h ≡ x → ⊥) → Line h k → Line x k → ⊥
      clear h k a e z y = e (line_meet h x k (omega arith) (omega arith) z y)

      top' : (h : ℕ) → Head i (n + 1) h → Dec (h ≡ x) → get_or (Mark I x r) h 0 ≡ 5
      top' h a (yes e) = ap (λ (k : ℕ). get_or (Mark I x r) k 0) e ∙ mark_head I x r d.len x1 x_i
      top' h a (no e) = mark_off I x r d.len x1 x_i h (clear h h a e (here refl)) ∙ d.top h (older h a e)

      line' : (h k : ℕ) → Head i (n + 1) h → Line h k → (k ≡ h → ⊥) → k < I → Dec (h ≡ x) → get_or (Mark I x r) k 0 ≡ up (get_or (Mark I x r) (k / 4) 0)
      line' h k a z w ki (yes e) = mark_line I x r d.len x1 x_i k ki (subst (λ (y : ℕ). Line y k) e z) (λ q. w (q ∙ sym e))
      line' h k a z w ki (no e) =
          mark_off I x r d.len x1 x_i k (clear h k a e z) ∙ d.line h k (older h a e) z w ki
          ∙ ap up (sym (mark_off I x r d.len x1 x_i (k / 4) (clear h (k / 4) a e (line_up h k z w).1)))

  done_grand : (l : List ℕ) → length l ≡ I → i + 16 ≤ I → i + 16 ≤ 4 * i → Done 4 l (split_grand I i l)
  done_grand l e a b =
      let d1 : Done 1 l (Mark I i l) = subst (λ (x : ℕ). Done 1 l (Mark I x l)) {x = i + 4 * 0} {y = i} (omega arith) (done_suc 0 l l (omega arith) (omega arith) (done_0 l e)) in
      done_suc 3 l _ (omega arith) (omega arith) (done_suc 2 l _ (omega arith) (omega arith) (done_suc 1 l _ (omega arith) (omega arith) d1))

  pub done_roots : (n k : ℕ) (l r : List ℕ) → i + 4 * (k + n) ≤ I → i + 4 * (k + n) ≤ 4 * i → Done k l r → Done (k + n) l (push_roots I n (i + 4 * k) r)
  unfolding push_roots
  done_roots zero k l r a b d = subst (λ (x : ℕ). Done x l r) {x = k} {y = k + 0} (omega arith) d
  done_roots (suc n) k l r a b d =
      subst (λ (x : ℕ). Done x l (push_roots I n (i + 4 * k + 4) (Mark I (i + 4 * k) r))) {x = k + 1 + n} {y = k + suc n} (omega arith)
      (subst (λ (x : ℕ). Done (k + 1 + n) l (push_roots I n x (Mark I (i + 4 * k) r))) {x = i + 4 * (k + 1)} {y = i + 4 * k + 4} (omega arith)
      (done_roots n (k + 1) l (Mark I (i + 4 * k) r) (omega arith) (omega arith) (done_suc k l r (omega arith) (omega arith) d)))

  -- k is on a line of one of the n heads
  abbrev pub On : ℕ → ℕ → Type 0
  On n k = (h : ℕ) × Head i n h × Line h k

  pub on? : (n f k : ℕ) → k ≤ f → Dec (On n k)
  on? n zero k b = no (λ z. omega (arith, line_ge z.0 k z.2, z.1))
  on? n (suc f) k b = go (dec_le i k) (dec_lt k (i + 4 * n)) (ℕ_discrete k 0) (ℕ_discrete (k % 4) 0) (on? n f (k / 4))
    where
      strict : (z : On n k) → ((k ≡ z.0) → ⊥) → (k % 4 ≡ 0) × On n (k / 4)
      strict z w = let u : (k % 4 ≡ 0) × Line z.0 (k / 4) = line_up z.0 k z.2 w in (u.0, (z.0, z.1, u.1))

      back : (k % 4 ≡ 0) → ((i ≤ k) → (k < i + 4 * n) → ⊥) → (On n (k / 4) → ⊥) → On n k → ⊥
      back e a g z = g (strict z (λ q. a (omega (arith, z.1)) (omega (arith, z.1)))).1

      next : k % 4 ≡ 0 → ((i ≤ k) → (k < i + 4 * n) → ⊥) → Dec (On n (k / 4)) → Dec (On n k)
      next e a (yes z) = yes (z.0, z.1, down e z.2)
      next e a (no z) = no (back e a z)

      go : Dec (i ≤ k) → Dec (k < i + 4 * n) → Dec (k ≡ 0) → Dec (k % 4 ≡ 0) → (k / 4 ≤ f → Dec (On n (k / 4))) → Dec (On n k)
      go a c z (no e) ih = no (λ y. e (rem y (ℕ_discrete k y.0)))
        where
          rem : (y : On n k) → Dec (k ≡ y.0) → k % 4 ≡ 0
          rem y (yes q) = ap (λ (x : ℕ). x % 4) q ∙ y.1.2
          rem y (no q) = (strict y q).0
      go a c (yes z) (yes e) ih = no (λ y. omega (arith, line_ge y.0 k y.2, y.1))
      go (yes a) (yes c) (no z) (yes e) ih = yes (k, (a, omega arith, e), here refl)
      go (yes a) (no c) (no z) (yes e) ih = next e (λ p q. c q) (ih (omega arith))
      go (no a) c (no z) (yes e) ih = next e (λ p q. a p) (ih (omega arith))

pub line_mod : (i n h k : ℕ) → Head i n h → Line h k → k % 4 ≡ 0
line_mod i n h k a (here e) = ap (λ (x : ℕ). x % 4) e ∙ a.2
line_mod i n h k a (down e z) = e

-- on a line: a head itself, or below one
pub kinds : (i n k h : ℕ) → Head i n h → Line h k → (Head i n k) ⊎ ((k ≡ h → ⊥) × Line h (k / 4))
kinds i n k h a z = go (ℕ_discrete k h)
  where
    go : Dec (k ≡ h) → (Head i n k) ⊎ ((k ≡ h → ⊥) × Line h (k / 4))
    go (yes e) = inl (subst (λ (x : ℕ). Head i n x) (sym e) a)
    go (no e) = inr (e, (line_up h k z e).1)

pub s_g_off : (q : ℕ) (c : Cfg) (h : ℕ) → (h ≡ q → ⊥) → (with_g q c).s_g h ≡ c.s_g h
unfolding with_g
s_g_off q c h e = or_off (eqb h q) (c.s_g h) (ne_eqb h q e)

pub s_g_on : (q : ℕ) (c : Cfg) (h : ℕ) → h ≡ q → (with_g q c).s_g h ≡ true
unfolding with_g
s_g_on q c h e = or_left (eqb h q) (c.s_g h) (eq-eqb h q e)

pub s_d_g : (q : ℕ) (c : Cfg) (h : ℕ) → (with_g q c).s_d h ≡ c.s_d h
unfolding with_g
s_d_g q c h = refl

pub al_g : (q : ℕ) (c : Cfg) (h : ℕ) → (with_g q c).al h ≡ c.al h
unfolding with_g
al_g q c h = refl

pub alone_g : (D I q : ℕ) (c : Cfg) (h : ℕ) → alone D I (with_g q c) h ≡ alone D I c h
unfolding with_g alone
alone_g D I q c h = refl

pub stands_g_on : (D I q : ℕ) (c : Cfg) (h : ℕ) → h / 4 ≡ q → stands D I (with_g q c) h ≡ true
unfolding stands
stands_g_on D I q c h e = ap (λ (x : Bool). ltb h D || x) (s_g_on q c (h / 4) e) ∙ or-true (ltb h D)

pub stands_g_off : (D I q : ℕ) (c : Cfg) (h : ℕ) → (h / 4 ≡ q → ⊥) → stands D I (with_g q c) h ≡ stands D I c h
unfolding stands
stands_g_off D I q c h e = ap (λ (x : Bool). ltb h D || x) (s_g_off q c (h / 4) e)

module _ {D I : ℕ} (sz : Tiled D I) (c : Cfg) (o : Ok D I c) (l : List ℕ) (len : length l ≡ I) (t : Table D I c (λ j. get_or l j 0))
    (q : ℕ) (q_lo : D ≤ 4 * q) (q_hi : 16 * q < I) (q_d : c.s_d q ≡ true) (q_no : c.s_g q ≡ false) where
  abbrev pub r : List ℕ
  r = split_grand I (16 * q) l

  dn : Done I (16 * q) (omega arith) (omega arith) 4 l r
  dn = done_grand I (16 * q) (omega arith) (omega arith) l len (omega arith) (omega arith)

  abbrev Is : ℕ → Type 0
  Is k = (h : ℕ) × Head (16 * q) 4 h × Line h k

  is? : (k : ℕ) → Dec (Is k)
  is? k = on? I (16 * q) (omega arith) (omega arith) 4 k k (omega arith)

  -- what lies on a line does not stand alone, and only the heads are first in a set
  head_no : (k : ℕ) → Head (16 * q) 4 k → (stands D I c (k / 4) ≡ false) × (alone D I c k ≡ false)
  head_no k a =
      let s : stands D I c (k / 4) ≡ false = stands_no D I c (k / 4) (omega arith) (subst (λ (h : ℕ). c.s_g h ≡ false) {x = q} {y = k / 4 / 4} (omega arith) q_no) in
      (s, alone_no D I c k (omega arith) (no_dg D I c o (k / 4) s))

  line_no : (h k : ℕ) → Head (16 * q) 4 h → Line h k → (stands D I c (k / 4) ≡ false) × (alone D I c k ≡ false)
  line_no h k a (here e) = head_no k (subst (λ (x : ℕ). Head (16 * q) 4 x) (sym e) a)
  line_no h k a (down e z) = low D I c o k (omega (arith, line_ge h (k / 4) z, a)) (line_no h (k / 4) a z).1

  head_q : (k : ℕ) → Head (16 * q) 4 k → k / 4 / 4 ≡ q
  head_q k a = omega arith

  pub table_g : Table D I (with_g q c) (λ j. get_or r j 0)
  table_g = record {
    solo = λ j h a. same j (λ z. true≢false (sym a ∙ alone_g D I q c j ∙ (line_no z.0 j z.1 z.2).1)) ∙ t.solo j h (sym (alone_g D I q c j) ∙ a) ∙ sym (al_g q c j);
    odd = λ j h a n. same j (λ z. n (line_mod (16 * q) 4 z.0 j z.1 z.2)) ∙ t.odd j h (sym (alone_g D I q c j) ∙ a) n;
    head = λ j h a e s. head' j h (sym (alone_g D I q c j) ∙ a) e s (ℕ_discrete (j / 4 / 4) q);
    side = λ j h a s n. same j (λ z. side' j s n z (kinds (16 * q) 4 j z.0 z.1 z.2)) ∙ t.side j h (sym (alone_g D I q c j) ∙ a) (st_old j s) n;
    mid = λ j h a e s w d. same j (λ z. mid' j s d z (kinds (16 * q) 4 j z.0 z.1 z.2)) ∙ t.mid j h (sym (alone_g D I q c j) ∙ a) e (st_old j s) w (sym (s_d_g q c (j / 4 / 4)) ∙ d);
    deep = λ j h a e s w d. deep' j h (sym (alone_g D I q c j) ∙ a) e s w (sym (s_d_g q c (j / 4 / 4)) ∙ d) (is? j);
  }
    where
      same : (j : ℕ) → (Is j → ⊥) → get_or r j 0 ≡ get_or l j 0
      same j n = dn.off j (λ h a z. n (h, a, z))

      st_q : (j : ℕ) → stands D I (with_g q c) (j / 4) ≡ false → (j / 4 / 4 ≡ q → ⊥)
      st_q j s e = true≢false (sym (stands_g_on D I q c (j / 4) e) ∙ s)

      st_old : (j : ℕ) → stands D I (with_g q c) (j / 4) ≡ false → stands D I c (j / 4) ≡ false
      st_old j s = sym (stands_g_off D I q c (j / 4) (st_q j s)) ∙ s

      head' : (j : ℕ) → j < I → alone D I c j ≡ false → j % 4 ≡ 0 → stands D I (with_g q c) (j / 4) ≡ true → Dec (j / 4 / 4 ≡ q) → get_or r j 0 ≡ 5
      head' j h a e s (yes z) = dn.top j (omega arith, omega arith, e)
      head' j h a e s (no z) =
          let s' : stands D I c (j / 4) ≡ true = sym (stands_g_off D I q c (j / 4) z) ∙ s in
          same j (λ y. true≢false (sym s' ∙ (line_no y.0 j y.1 y.2).0)) ∙ t.head j h a e s'

      side' : (j : ℕ) → stands D I (with_g q c) (j / 4) ≡ false → (j / 4 % 4 ≡ 0 → ⊥) → (z : Is j) → (Head (16 * q) 4 j) ⊎ ((j ≡ z.0 → ⊥) × Line z.0 (j / 4)) → ⊥
      side' j s n z (inl a) = st_q j s (head_q j a)
      side' j s n z (inr y) = n (line_mod (16 * q) 4 z.0 (j / 4) z.1 y.1)

      mid' : (j : ℕ) → stands D I (with_g q c) (j / 4) ≡ false → (with_g q c).s_d (j / 4 / 4) ≡ true → (z : Is j) → (Head (16 * q) 4 j) ⊎ ((j ≡ z.0 → ⊥) × Line z.0 (j / 4)) → ⊥
      mid' j s d z (inl a) = st_q j s (head_q j a)
      mid' j s d z (inr y) = true≢false (sym d ∙ s_d_g q c (j / 4 / 4) ∙ (no_alone D I c (j / 4) (line_no z.0 (j / 4) z.1 y.1).1).1)

      deep' : (j : ℕ) → j < I → alone D I c j ≡ false → j % 4 ≡ 0 → stands D I (with_g q c) (j / 4) ≡ false → j / 4 % 4 ≡ 0 → c.s_d (j / 4 / 4) ≡ false → Dec (Is j) → get_or r j 0 ≡ up (get_or r (j / 4) 0)
      deep' j h a e s w d (yes z) = go (kinds (16 * q) 4 j z.0 z.1 z.2)
        where
          go : (Head (16 * q) 4 j) ⊎ ((j ≡ z.0 → ⊥) × Line z.0 (j / 4)) → get_or r j 0 ≡ up (get_or r (j / 4) 0)
          go (inl b) = absurd (st_q j s (head_q j b))
          go (inr b) = dn.line z.0 j z.1 z.2 b.0 h
      deep' j h a e s w d (no z) = same j z ∙ t.deep j h a e (st_old j s) w d ∙ ap up (sym (same (j / 4) (λ y. z (y.0, y.1, down e y.2))))

  pub ok_g : Ok D I (with_g q c)
  ok_g = record {
    gd = λ h e. gd' h e (ℕ_discrete h q);
    dg = λ h e. dg' h (sym (s_d_g q c h) ∙ e) (ℕ_discrete (h / 4) q);
    lo = λ h e. o.lo h (sym (s_d_g q c h) ∙ e);
    hi = λ h e. o.hi h (sym (s_d_g q c h) ∙ e);
  }
    where
      gd' : (h : ℕ) → (with_g q c).s_g h ≡ true → Dec (h ≡ q) → (with_g q c).s_d h ≡ true
      gd' h e (yes z) = s_d_g q c h ∙ ap c.s_d z ∙ q_d
      gd' h e (no z) = s_d_g q c h ∙ o.gd h (sym (s_g_off q c h z) ∙ e)

      dg' : (h : ℕ) → c.s_d h ≡ true → Dec (h / 4 ≡ q) → stands D I (with_g q c) h ≡ true
      dg' h e (yes z) = stands_g_on D I q c h z
      dg' h e (no z) = stands_g_off D I q c h z ∙ o.dg h e

  pub len_g : length (split_grand I (16 * q) l) ≡ I
  len_g = dn.len
