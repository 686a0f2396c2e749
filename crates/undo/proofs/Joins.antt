-- A split is undone by a join: `unsplit_desc` and `unsplit_grand`. Two tables are compared that are the same but at some places, which get fewer
-- with each mark that is written to both.
use mathlib.Core.Path.{◌≡◌, refl, sym, ap, subst, ◌∙◌}
use mathlib.Core.Bool.{Bool, true, false}
use mathlib.Core.Logic.{◌⊎◌, inl, inr}
use mathlib.Core.List.{List}
use Prim.Native.Nat.{ℕ, zero, suc, ◌+◌, ◌*◌, ◌/◌, ◌%◌, ◌≤◌, ◌<◌}
use native.Mathlib.Omega.{arith}
use native.Mathlib.Decide.{ℕ_discrete}
use lib.ListN.{length, get_or, set, length-set}
use lib.Seq.{get_or-set_same, get_or-set_other, set-get_or, ext_get_or}
use lib.Dec.{ltb, lit<, lit≤}
use borrow.Author.Tests.{ltb-true, ltb-false}
use Rattle.nls.specs.Marks.{skip, push_from, split_desc, split_grand}
use Rattle.nls.proofs.Tiled.{Tiled}
use Rattle.nls.proofs.Machine.Table.{Cfg, up, alone, stands, alone_no, no_alone, low, gap, up_5, up_7, up_low, skip_5}
use Rattle.nls.proofs.Machine.Cover.{Core, Desc_at, Grand_at, is_desc_at, is_grand_at, not_alone}
use Rattle.undo.specs.Back.{wipe_from, wiped, join_desc, join_grand}

-- k is j, 4j, 16j .., of which there are n
abbrev On : ℕ → ℕ → ℕ → Type 0
On zero j k = ⊥
On (suc n) j k = (k ≡ j) ⊎ On n (4 * j) k

on_ge : (n j k : ℕ) → On n j k → j ≤ k
on_ge zero j k o = absurd o
on_ge (suc n) j k (inl e) = omega arith
on_ge (suc n) j k (inr o) = omega (arith, on_ge n (4 * j) k o)

-- a mark that is there is written
pub same_there : (l : List ℕ) (j v : ℕ) → get_or l j 0 ≡ v → set l j v ≡ l
same_there l j v e = ap (λ (x : ℕ). set l j x) (sym e) ∙ set-get_or l j 0

module _ (I : ℕ) where
  -- two tables of I places are the same but in S
  record Agree (S : ℕ → Type 0) (a b : List ℕ) : Type 0 where
    one : length a ≡ I
    two : length b ≡ I
    same : (k : ℕ) → k < I → (S k → ⊥) → get_or a k 0 ≡ get_or b k 0

  agree_self : (a : List ℕ) → length a ≡ I → Agree (λ k. ⊥) a a
  agree_self a e = record { one = e; two = e; same = λ k h n. refl }

  agree_end : {S : ℕ → Type 0} {a b : List ℕ} → Agree S a b → ((k : ℕ) → k < I → S k → ⊥) → a ≡ b
  agree_end {S} {a} {b} g n = ext_get_or 0 a b (g.one ∙ sym g.two) (λ k h. g.same k (omega (arith, h, g.one)) (n k (omega (arith, h, g.one))))

  -- one is written to
  agree_one : {S : ℕ → Type 0} {a b : List ℕ} (j v : ℕ) → Agree S a b → Agree (λ k. S k ⊎ (k ≡ j)) (set a j v) b
  agree_one {S} {a} {b} j v g = record { one = length-set a j v ∙ g.one; two = g.two; same = λ k h n. get_or-set_other a j k v 0 (λ e. n (inr e)) ∙ g.same k h (λ s. n (inl s)) }

  -- both are
  agree_both : {S : ℕ → Type 0} {a b : List ℕ} (j v : ℕ) → j < I → Agree S a b → Agree (λ k. S k × (k ≡ j → ⊥)) (set a j v) (set b j v)
  agree_both {S} {a} {b} j v ji g = record { one = length-set a j v ∙ g.one; two = length-set b j v ∙ g.two; same = λ k h n. go k h n (ℕ_discrete k j) }
    where
      go : (k : ℕ) → k < I → (S k × (k ≡ j → ⊥) → ⊥) → Dec (k ≡ j) → get_or (set a j v) k 0 ≡ get_or (set b j v) k 0
      go k h n (yes e) = ap (λ (x : ℕ). get_or (set a j v) x 0) e ∙ get_or-set_same a j v 0 (omega (arith, g.one)) ∙ sym (ap (λ (x : ℕ). get_or (set b j v) x 0) e ∙ get_or-set_same b j v 0 (omega (arith, g.two)))
      go k h n (no e) = get_or-set_other a j k v 0 e ∙ g.same k h (λ s. n (s, e)) ∙ sym (get_or-set_other b j k v 0 e)

  -- a push is made to one
  agree_push : (n j v : ℕ) {S : ℕ → Type 0} {a b : List ℕ} → Agree S a b → Agree (λ k. S k ⊎ On n j k) (push_from I n j v a) b
  unfolding push_from
  agree_push zero j v {S} {a} {b} g = record { one = g.one; two = g.two; same = λ k h n. g.same k h (λ s. n (inl s)) }
  agree_push (suc n) j v {S} {a} {b} g = go (ltb j I) (agree_push n (4 * j) (v + 1) {S = λ k. S k ⊎ (k ≡ j)} {a = set a j v} {b = b} (agree_one {S = S} {a = a} {b = b} j v g))
    where
      go : (t : Bool) → Agree (λ k. (S k ⊎ (k ≡ j)) ⊎ On n (4 * j) k) (push_from I n (4 * j) (v + 1) (set a j v)) b
          → Agree (λ k. S k ⊎ On (suc n) j k) (elim t as (λ _. List ℕ) [ true ↦ push_from I n (4 * j) (v + 1) (set a j v) | false ↦ a ]) b
      go true ih = record { one = ih.one; two = ih.two; same = λ k h n. ih.same k h (all k n) }
        where
          all : (k : ℕ) → (S k ⊎ On (suc n) j k → ⊥) → (S k ⊎ (k ≡ j)) ⊎ On n (4 * j) k → ⊥
          all k f (inl (inl s)) = f (inl s)
          all k f (inl (inr e)) = f (inr (inl e))
          all k f (inr o) = f (inr (inr o))
      go false ih = record { one = g.one; two = g.two; same = λ k h n. g.same k h (λ s. n (inl s)) }

  -- what both lose
  lose : (S : ℕ → Type 0) (n j k : ℕ) → (S k × (On (suc n) j k → ⊥) → ⊥) → (S k × (k ≡ j → ⊥)) × (On n (4 * j) k → ⊥) → ⊥
  lose S n j k f s = f (s.0.0, both)
    where
      both : On (suc n) j k → ⊥
      both (inl e) = s.0.1 e
      both (inr o) = s.1 o

  past_end : (S : ℕ → Type 0) (n j k : ℕ) → I ≤ j → k < I → (S k × (On (suc n) j k → ⊥) → ⊥) → S k → ⊥
  past_end S n j k h ki f s = f (s, λ o. omega (arith, on_ge (suc n) j k o))

  -- a push is taken back from both
  agree_wipes : (n j : ℕ) {S : ℕ → Type 0} {a b : List ℕ} → Agree S a b → Agree (λ k. S k × (On n j k → ⊥)) (wipe_from I n j a) (wipe_from I n j b)
  unfolding wipe_from
  agree_wipes zero j {S} {a} {b} g = record { one = g.one; two = g.two; same = λ k h n. g.same k h (λ s. n (s, λ o. o)) }
  agree_wipes (suc n) j {S} {a} {b} g = go (ltb j I) refl (λ ji. agree_wipes n (4 * j) {S = λ k. S k × (k ≡ j → ⊥)} {a = set a j 0} {b = set b j 0} (agree_both {S = S} {a = a} {b = b} j 0 ji g))
    where
      go : (t : Bool) → ltb j I ≡ t → (j < I → Agree (λ k. (S k × (k ≡ j → ⊥)) × (On n (4 * j) k → ⊥)) (wipe_from I n (4 * j) (set a j 0)) (wipe_from I n (4 * j) (set b j 0)))
          → Agree (λ k. S k × (On (suc n) j k → ⊥)) (elim t as (λ _. List ℕ) [ true ↦ wipe_from I n (4 * j) (set a j 0) | false ↦ a ]) (elim t as (λ _. List ℕ) [ true ↦ wipe_from I n (4 * j) (set b j 0) | false ↦ b ])
      go true e ih = let r = ih (ltb-true j I e) in record { one = r.one; two = r.two; same = λ k h f. r.same k h (lose S n j k f) }
      go false e ih = record { one = g.one; two = g.two; same = λ k h f. g.same k h (past_end S n j k (ltb-false j I e) h f) }

  -- a push is made to both
  agree_pushes : (n j v : ℕ) {S : ℕ → Type 0} {a b : List ℕ} → Agree S a b → Agree (λ k. S k × (On n j k → ⊥)) (push_from I n j v a) (push_from I n j v b)
  unfolding push_from
  agree_pushes zero j v {S} {a} {b} g = record { one = g.one; two = g.two; same = λ k h n. g.same k h (λ s. n (s, λ o. o)) }
  agree_pushes (suc n) j v {S} {a} {b} g = go (ltb j I) refl (λ ji. agree_pushes n (4 * j) (v + 1) {S = λ k. S k × (k ≡ j → ⊥)} {a = set a j v} {b = set b j v} (agree_both {S = S} {a = a} {b = b} j v ji g))
    where
      go : (t : Bool) → ltb j I ≡ t → (j < I → Agree (λ k. (S k × (k ≡ j → ⊥)) × (On n (4 * j) k → ⊥)) (push_from I n (4 * j) (v + 1) (set a j v)) (push_from I n (4 * j) (v + 1) (set b j v)))
          → Agree (λ k. S k × (On (suc n) j k → ⊥)) (elim t as (λ _. List ℕ) [ true ↦ push_from I n (4 * j) (v + 1) (set a j v) | false ↦ a ]) (elim t as (λ _. List ℕ) [ true ↦ push_from I n (4 * j) (v + 1) (set b j v) | false ↦ b ])
      go true e ih = let r = ih (ltb-true j I e) in record { one = r.one; two = r.two; same = λ k h f. r.same k h (lose S n j k f) }
      go false e ih = record { one = g.one; two = g.two; same = λ k h f. g.same k h (past_end S n j k (ltb-false j I e) h f) }

  -- writes of what is there change nothing
  wipe_bare : (n j : ℕ) (l : List ℕ) → ((k : ℕ) → k < I → On n j k → get_or l k 0 ≡ 0) → wipe_from I n j l ≡ l
  unfolding wipe_from
  wipe_bare zero j l f = refl
  wipe_bare (suc n) j l f = go (ltb j I) refl (wipe_bare n (4 * j) l (λ k h o. f k h (inr o)))
    where
      go : (t : Bool) → ltb j I ≡ t → wipe_from I n (4 * j) l ≡ l → (elim t as (λ _. List ℕ) [ true ↦ wipe_from I n (4 * j) (set l j 0) | false ↦ l ]) ≡ l
      go true e ih = ap (λ (r : List ℕ). wipe_from I n (4 * j) r) (same_there l j 0 (f j (ltb-true j I e) (inl refl))) ∙ ih
      go false e ih = refl

  -- the codes v, v + 1 .. stand at j, 4j ..
  abbrev Codes : ℕ → ℕ → ℕ → List ℕ → Type 0
  Codes zero j v l = Unit {0}
  Codes (suc n) j v l = j < I → (get_or l j 0 ≡ v) × Codes n (4 * j) (v + 1) l

  push_there : (n j v : ℕ) (l : List ℕ) → Codes n j v l → push_from I n j v l ≡ l
  unfolding push_from
  push_there zero j v l f = refl
  push_there (suc n) j v l f = go (ltb j I) refl (λ g. push_there n (4 * j) (v + 1) l g)
    where
      go : (t : Bool) → ltb j I ≡ t → (Codes n (4 * j) (v + 1) l → push_from I n (4 * j) (v + 1) l ≡ l) → (elim t as (λ _. List ℕ) [ true ↦ push_from I n (4 * j) (v + 1) (set l j v) | false ↦ l ]) ≡ l
      go true e ih = ap (λ (r : List ℕ). push_from I n (4 * j) (v + 1) r) (same_there l j v (f (ltb-true j I e)).0) ∙ ih (f (ltb-true j I e)).1
      go false e ih = refl

module _ {D I : ℕ} (sz : Tiled D I) (c : Cfg) (l : List ℕ) (k : Core sz c l) where
  abbrev m : ℕ → ℕ
  m j = get_or l j 0

  -- one row down
  below : (j : ℕ) → 4 * j < I → alone D I c j ≡ false → (alone D I c (4 * j) ≡ false) × (j % 4 ≡ 0 → m (4 * j) ≡ up (m j)) × (m j ≡ 0 → m (4 * j) ≡ 0)
  below j h a = (lw.1, deep, zeros (ℕ_discrete (j % 4) 0))
    where
      lw : (stands D I c (4 * j / 4) ≡ false) × (alone D I c (4 * j) ≡ false)
      lw = low D I c k.ok (4 * j) (omega (arith, (no_alone D I c j a).0)) (subst (λ (x : ℕ). alone D I c x ≡ false) {x = j} {y = 4 * j / 4} (omega arith) a)

      deep : j % 4 ≡ 0 → m (4 * j) ≡ up (m j)
      deep e = k.tab.deep (4 * j) h lw.1 (omega arith) lw.0 (omega (arith, e)) (subst (λ (x : ℕ). c.s_d x ≡ false) {x = j / 4} {y = 4 * j / 4 / 4} (omega arith) (no_alone D I c j a).1)
          ∙ ap (λ (x : ℕ). up (m x)) {x = 4 * j / 4} {y = j} (omega arith)

      zeros : Dec (j % 4 ≡ 0) → m j ≡ 0 → m (4 * j) ≡ 0
      zeros (yes e) z = deep e ∙ ap up z ∙ up_low 0 (lit< tt)
      zeros (no e) z = k.tab.side (4 * j) h lw.1 lw.0 (λ q. e (subst (λ (x : ℕ). x % 4 ≡ 0) {x = 4 * j / 4} {y = j} (omega arith) q))

  bare_line : (n j : ℕ) → (j < I → (alone D I c j ≡ false) × (m j ≡ 0)) → (i : ℕ) → i < I → On n j i → m i ≡ 0
  bare_line zero j f i h o = absurd o
  bare_line (suc n) j f i h (inl e) = ap m e ∙ (f (omega arith)).1
  bare_line (suc n) j f i h (inr o) =
      bare_line n (4 * j) (λ h4. let r = f (omega arith) in let b = below j h4 r.0 in (b.0, b.2 r.1)) i h o

  code_line : (n j v : ℕ) → 7 ≤ v → (j < I → (alone D I c j ≡ false) × (m j ≡ v) × (j % 4 ≡ 0)) → Codes I n j v l
  code_line zero j v h f = tt
  code_line (suc n) j v h f = λ ji. let r = f ji in
      (r.1, code_line n (4 * j) (v + 1) (omega arith) (λ h4. let b = below j h4 r.0 in (b.0, b.1 r.2 ∙ ap up r.1 ∙ up_7 v h, omega arith)))

  -- DESC at t is split and joined
  pub unsplit_desc : (t : ℕ) → t < I → m t ≡ 5 → (x : Bool) → ltb (4 * t) I ≡ x → join_desc I t (split_desc I t l x) x ≡ l
  unsplit_desc t ti e x ex = go x ex
    where
      is : Desc_at D I c t
      is = is_desc_at sz c l k t ti e

      a : alone D I c t ≡ false
      a = not_alone sz c l k t ti (omega arith)

      fit : t + 3 < I
      fit = omega (arith, is.0, sz.sixteens)

      odd : (j : ℕ) → t < j → j < t + 4 → m j ≡ 0
      odd j h1 h2 = k.tab.odd j (omega (arith, fit, h2)) aj (λ q. omega (arith, q, is.0, h1, h2))
        where
          aj : alone D I c j ≡ false
          aj = alone_no D I c j (omega (arith, is.3)) (subst (λ (x : ℕ). c.s_d x ≡ false) {x = t / 4} {y = j / 4} (omega (arith, is.0)) is.2)

      four : {S : ℕ → Type 0} {x y : List ℕ} → Agree I S x y → Agree I (λ j. (((S j × (j ≡ t → ⊥)) × (j ≡ t + 1 → ⊥)) × (j ≡ t + 2 → ⊥)) × (j ≡ t + 3 → ⊥)) (set (set (set (set x t 5) (t + 1) 0) (t + 2) 0) (t + 3) 0) (set (set (set (set y t 5) (t + 1) 0) (t + 2) 0) (t + 3) 0)
      four g = agree_both I (t + 3) 0 (omega (arith, fit)) (agree_both I (t + 2) 0 (omega (arith, fit)) (agree_both I (t + 1) 0 (omega (arith, fit)) (agree_both I t 5 ti g)))

      back : set (set (set (set l t 5) (t + 1) 0) (t + 2) 0) (t + 3) 0 ≡ l
      back =
          ap (λ (r : List ℕ). set (set (set r (t + 1) 0) (t + 2) 0) (t + 3) 0) (same_there l t 5 e)
          ∙ ap (λ (r : List ℕ). set (set r (t + 2) 0) (t + 3) 0) (same_there l (t + 1) 0 (odd (t + 1) (omega arith) (omega arith)))
          ∙ ap (λ (r : List ℕ). set r (t + 3) 0) (same_there l (t + 2) 0 (odd (t + 2) (omega arith) (omega arith)))
          ∙ same_there l (t + 3) 0 (odd (t + 3) (omega arith) (omega arith))

      go : (x : Bool) → ltb (4 * t) I ≡ x → join_desc I t (split_desc I t l x) x ≡ l
      go true ex =
          agree_end I
          (agree_both I (4 * t) 7 (ltb-true (4 * t) I ex) (four
          (agree_one I (4 * t) 6 (agree_one I (t + 3) 4 (agree_one I (t + 2) 4 (agree_one I (t + 1) 4 (agree_one I t 4 (agree_self I l k.len))))))))
          (λ j h s. none j s)
          ∙ ap (λ (r : List ℕ). set r (4 * t) 7) back
          ∙ same_there l (4 * t) 7 ((below t (ltb-true (4 * t) I ex) a).1 is.0 ∙ ap up e ∙ up_5 5 (lit≤ tt) (lit< tt))
        where
          none : (j : ℕ) → ((((((((((⊥ ⊎ (j ≡ t)) ⊎ (j ≡ t + 1)) ⊎ (j ≡ t + 2)) ⊎ (j ≡ t + 3)) ⊎ (j ≡ 4 * t)) × (j ≡ t → ⊥)) × (j ≡ t + 1 → ⊥)) × (j ≡ t + 2 → ⊥)) × (j ≡ t + 3 → ⊥)) × (j ≡ 4 * t → ⊥)) → ⊥
          none j (((((inl (inl (inl (inl (inl z)))), n0), n1), n2), n3), n4) = z
          none j (((((inl (inl (inl (inl (inr z)))), n0), n1), n2), n3), n4) = n0 z
          none j (((((inl (inl (inl (inr z))), n0), n1), n2), n3), n4) = n1 z
          none j (((((inl (inl (inr z)), n0), n1), n2), n3), n4) = n2 z
          none j (((((inl (inr z), n0), n1), n2), n3), n4) = n3 z
          none j (((((inr z, n0), n1), n2), n3), n4) = n4 z
      go false ex =
          agree_end I
          (four (agree_one I (t + 3) 4 (agree_one I (t + 2) 4 (agree_one I (t + 1) 4 (agree_one I t 4 (agree_self I l k.len))))))
          (λ j h s. none j s)
          ∙ back
        where
          none : (j : ℕ) → ((((((((⊥ ⊎ (j ≡ t)) ⊎ (j ≡ t + 1)) ⊎ (j ≡ t + 2)) ⊎ (j ≡ t + 3)) × (j ≡ t → ⊥)) × (j ≡ t + 1 → ⊥)) × (j ≡ t + 2 → ⊥)) × (j ≡ t + 3 → ⊥)) → ⊥
          none j ((((inl (inl (inl (inl z))), n0), n1), n2), n3) = z
          none j ((((inl (inl (inl (inr z))), n0), n1), n2), n3) = n0 z
          none j ((((inl (inl (inr z)), n0), n1), n2), n3) = n1 z
          none j ((((inl (inr z), n0), n1), n2), n3) = n2 z
          none j ((((inr z, n0), n1), n2), n3) = n3 z

  -- GRAND at t is split and joined
  pub unsplit_grand : (t : ℕ) → t < I → m t ≡ 6 → join_grand I t (split_grand I t l) ≡ l
  unsplit_grand t ti e =
      agree_end I
      (agree_pushes I I (4 * t) 8 (agree_both I t 6 ti
      (agree_wipes I I (4 * (t + 4)) (agree_both I (t + 4) 0 (omega (arith, fit))
      (agree_wipes I I (4 * (t + 8)) (agree_both I (t + 8) 0 (omega (arith, fit))
      (agree_wipes I I (4 * (t + 12)) (agree_both I (t + 12) 0 (omega (arith, fit))
      (agree_push I I (4 * (t + 12)) 7 (agree_one I (t + 12) 5
      (agree_push I I (4 * (t + 8)) 7 (agree_one I (t + 8) 5
      (agree_push I I (4 * (t + 4)) 7 (agree_one I (t + 4) 5
      (agree_push I I (4 * t) 7 (agree_one I t 5 (agree_self I l k.len)))))))))))))))))
      (λ j h s. none j s)
      ∙ ap (λ (r : List ℕ). push_from I I (4 * t) 8 (set (wiped I (t + 4) (wiped I (t + 8) r)) t 6)) (clean (t + 12) (omega arith) (omega arith))
      ∙ ap (λ (r : List ℕ). push_from I I (4 * t) 8 (set (wiped I (t + 4) r) t 6)) (clean (t + 8) (omega arith) (omega arith))
      ∙ ap (λ (r : List ℕ). push_from I I (4 * t) 8 (set r t 6)) (clean (t + 4) (omega arith) (omega arith))
      ∙ ap (λ (r : List ℕ). push_from I I (4 * t) 8 r) (same_there l t 6 e)
      ∙ push_there I I (4 * t) 8 l (code_line I (4 * t) 8 (lit≤ tt) (λ h. let b = below t h a in (b.0, b.1 t4 ∙ ap up e ∙ up_5 6 (lit≤ tt) (lit< tt), omega arith)))
    where
      is : Grand_at D I c t
      is = is_grand_at sz c l k t ti e

      a : alone D I c t ≡ false
      a = is.4

      t16 : t ≡ 16 * (t / 16)
      t16 = is.0

      t4 : t % 4 ≡ 0
      t4 = omega (arith, t16)

      fit : t + 15 < I
      fit = room (t / 16) (I / 16) t I t16 (omega (arith, sz.sixteens)) ti
        where
          room : (x y p q : ℕ) → p ≡ 16 * x → q ≡ 16 * y → p < q → p + 15 < q
          room x y p q u v h = omega (arith, u, v, h)

      inner : (j : ℕ) → t < j → j < t + 16 → (alone D I c j ≡ false) × (m j ≡ 0)
      inner j h1 h2 =
          gap sz c m k.ok k.tab t ti a (omega arith) j h1
          (subst (λ (x : ℕ). j < t + x) (sym (ap skip e ∙ skip_5 6 (lit≤ tt) (lit< tt))) h2) (omega (arith, fit, h2))

      clean : (j : ℕ) → t < j → j < t + 16 → wiped I j l ≡ l
      clean j h1 h2 =
          ap (λ (r : List ℕ). wipe_from I I (4 * j) r) (same_there l j 0 (inner j h1 h2).1)
          ∙ wipe_bare I I (4 * j) l (λ i h o. bare_line I (4 * j) (λ h4. let b = below j h4 (inner j h1 h2).0 in (b.0, b.2 (inner j h1 h2).1)) i h o)

      none : (j : ℕ) → ((((((((((((((((⊥ ⊎ (j ≡ t)) ⊎ On I (4 * t) j) ⊎ (j ≡ t + 4)) ⊎ On I (4 * (t + 4)) j) ⊎ (j ≡ t + 8)) ⊎ On I (4 * (t + 8)) j) ⊎ (j ≡ t + 12)) ⊎ On I (4 * (t + 12)) j)
          × (j ≡ t + 12 → ⊥)) × (On I (4 * (t + 12)) j → ⊥)) × (j ≡ t + 8 → ⊥)) × (On I (4 * (t + 8)) j → ⊥)) × (j ≡ t + 4 → ⊥)) × (On I (4 * (t + 4)) j → ⊥)) × (j ≡ t → ⊥)) × (On I (4 * t) j → ⊥)) → ⊥
      none j ((((((((s, n12), o12), n8), o8), n4), o4), n0), o0) = by s
        where
          by : (((((((⊥ ⊎ (j ≡ t)) ⊎ On I (4 * t) j) ⊎ (j ≡ t + 4)) ⊎ On I (4 * (t + 4)) j) ⊎ (j ≡ t + 8)) ⊎ On I (4 * (t + 8)) j) ⊎ (j ≡ t + 12)) ⊎ On I (4 * (t + 12)) j → ⊥
          by (inr z) = o12 z
          by (inl (inr z)) = n12 z
          by (inl (inl (inr z))) = o8 z
          by (inl (inl (inl (inr z)))) = n8 z
          by (inl (inl (inl (inl (inr z))))) = o4 z
          by (inl (inl (inl (inl (inl (inr z)))))) = n4 z
          by (inl (inl (inl (inl (inl (inl (inr z))))))) = o0 z
          by (inl (inl (inl (inl (inl (inl (inl (inr z)))))))) = n0 z
          by (inl (inl (inl (inl (inl (inl (inl (inl z)))))))) = z
