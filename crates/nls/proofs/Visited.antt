-- Mark 0 is never visited: in every run, on any bits, each place that is looked at has another mark.
use mathlib.Core.Path.{◌≡◌, refl, sym, ap, subst, ◌∙◌}
use mathlib.Core.Bool.{Bool, true, false}
use mathlib.Core.List.{List}
use Prim.Native.Nat.{ℕ, zero, suc, ◌+◌, ◌*◌, ◌/◌, ◌≤◌, ◌<◌}
use native.Mathlib.Omega.{arith}
use native.Mathlib.Decide.{dec_lt}
use lib.ListN.{get_or, set}
use lib.Seq.{get_or-set_same}
use lib.Dec.{ltb, eqb, lit<, lit≤}
use borrow.Author.Tests.{ltb-true, eqb-true, eqb-false}
use Rattle.sizes.specs.Sizes.{all_of, coarsest_of, Sized}
use Rattle.nls.specs.Marks.{no_mark, skip, set_skip, split_grand, start_marks}
use Rattle.nls.specs.Scan.{State, Look, over, silent, asks, Question, bit_of, sign_of, in_desc, in_grand, Pass, pixels, sets, refining, state_at, look, look_at, look_pixels, look_sets, look_refining, tell, tell_at, tell_sets}
use Rattle.nls.proofs.Tiled.{Tiled, tiled}
use Rattle.nls.proofs.Kept.{AfterMove}
use Rattle.nls.proofs.Machine.Table.{Cfg, no_alone, skip_5}
use Rattle.nls.proofs.Machine.Push.{s_d_g, stands_g_on}
use Rattle.nls.proofs.Machine.Split.{with_a, with_g}
use Rattle.nls.proofs.Machine.Cover.{Core, Sets, Alone_at, Desc_at, Grand_at, is_alone, is_desc_at, is_grand_at, mark_d, split_kids, core_a, core_g, sets_even, skip_1, sskip_small, sskip_big}
use Rattle.nls.proofs.Machine.Steps.{Fam, preds, Good, Good_at, Good_look, Learned, On_ask, good_look, good_tell}
use Rattle.nls.proofs.Machine.Start.{c0, pix_0, good_first}
use Rattle.nls.proofs.Machine.Blocks.{after_block, after_four, at_0}

-- Every state of a run from the start table, whatever is answered, with those before and between silent moves.
pub data Passed (N L P : ℕ) : State → Type 0 where
  begun : Passed N L P (state_at P pixels 0 (start_marks (all_of N) (coarsest_of N L)))
  moved : (s t : State) → Passed N L P s → look (all_of N) s ≡ silent t → Passed N L P t
  told : (s : State) (q : Question) (a : Bool) → Passed N L P s → look (all_of N) s ≡ asks q → Passed N L P (tell (all_of N) s a)

-- for the invariant of Machine/Steps: nothing that an answer must bring, so that any answer keeps it
abbrev free : Fam
free = record {
  X = λ b j. Unit {0};
  Y = λ j. Unit {0};
  QD = λ b h. Unit {0};
  QG = λ b h. Unit {0};
  Z = λ j. ⊥;
  dn_d = λ b h q. q;
  dn_g = λ b h q. q;
}

free_learned : (I : ℕ) (q : Question) (a : Bool) → Learned I free (λ j. ⊥) q a
free_learned I (bit_of i b) true = (tt, λ j z n. z)
free_learned I (bit_of i b) false = (tt, λ j z. z)
free_learned I (sign_of i) a = (tt, λ j z. z)
free_learned I (in_desc g b) true = (tt, λ j z. z)
free_learned I (in_desc g b) false = ((λ o i h u. tt), λ j z. z)
free_learned I (in_grand g b) true = (tt, λ j z. z)
free_learned I (in_grand g b) false = ((λ o i h u. tt), λ j z. z)

module _ {D I : ℕ} (sz : Tiled D I) (P : ℕ) where
  -- the place is the start of a block, or lies past the table
  abbrev pub Begun : List ℕ → ℕ → Type 0
  Begun m i = i < I → get_or m i 0 ≡ 0 → ⊥

  abbrev Shown : State → Type 0
  Shown s = Begun s.marks s.place

  -- past a coefficient
  pub past_one : (c : Cfg) (m : List ℕ) → Core sz c m → (i : ℕ) → i < I → (get_or m i 0 ≡ 0 → ⊥) → get_or m i 0 < 5 → Begun m (i + 1)
  past_one c m k i h n s = subst (λ (x : ℕ). Begun m (i + x)) (skip_1 (get_or m i 0) s) (after_block sz c m k i h n)

  -- past one that has got the mark v
  pub past_marked : (c : Cfg) (m : List ℕ) → Core sz c m → (i v : ℕ) → i < I → 1 ≤ get_or m i 0 → get_or m i 0 < 5 → 1 ≤ v → v ≤ 4 → Begun (set m i v) (i + 1)
  past_marked c m k i v h lo hi v1 v4 =
      let it : Alone_at D I c m i = is_alone sz c m k i h lo hi in
      let now : get_or (set m i v) i 0 ≡ v = get_or-set_same m i v 0 (omega (arith, h, k.len)) in
      past_one (with_a i v c) (set m i v) (core_a sz c m i v k h it.0 v1 v4) i h (λ z. omega (arith, z, now, v1)) (omega (arith, now, v4))

  -- ---- silent moves
  quiet_pixels : (b i : ℕ) (m : List ℕ) (x y : Bool) → ltb i I ≡ x → Good_at sz P free (suc b) pixels i false m → Begun m i
      → AfterMove I Shown (look_pixels b i m x y)
  quiet_pixels b i m false y ex g r = at_0 sz g.1.0 m g.1.1.core
  quiet_pixels b i m true true ex g r = tt
  quiet_pixels b i m true false ex g r = let hi : i < I = ltb-true i I ex in after_block sz g.1.0 m g.1.1.core i hi (r hi)

  quiet_sets : (b i : ℕ) (m : List ℕ) (x d q c : Bool) → ltb i I ≡ x → eqb (get_or m i 0) 4 ≡ c → Good_at sz P free (suc b) sets i false m → Begun m i
      → AfterMove I Shown (look_sets b i m x d q c)
  quiet_sets b i m false d q c ex ec g r = at_0 sz g.1.0 m g.1.1.core
  quiet_sets b i m true true q c ex ec g r = tt
  quiet_sets b i m true false true c ex ec g r = tt
  quiet_sets b i m true false false true ex ec g r = tt
  quiet_sets b i m true false false false ex ec g r = on (dec_lt (get_or m i 0) 5)
    where
      hi : i < I
      hi = ltb-true i I ex

      p : Sets sz (preds free b) (λ j. Unit {0}) i g.1.0 m
      p = g.1.1

      on : Dec (get_or m i 0 < 5) → Begun m (i + set_skip (get_or m i 0))
      on (yes z) =
          subst (λ (x : ℕ). Begun m (i + x)) (sym (sskip_small (get_or m i 0) z))
          (after_four sz g.1.0 m p.core i hi (sets_even sz (preds free b) (λ j. Unit {0}) i g.1.0 m p hi (eqb-false (get_or m i 0) 4 ec)) (is_alone sz g.1.0 m p.core i hi (omega (arith, r hi)) z).0)
      on (no z) =
          subst (λ (x : ℕ). Begun m (i + x)) (sym (sskip_big (get_or m i 0) (omega (arith, z)))) (after_block sz g.1.0 m p.core i hi (r hi))

  quiet_refining : (b i : ℕ) (m : List ℕ) (x s n : Bool) → ltb i I ≡ x → eqb (get_or m i 0) 2 ≡ n → Good_at sz P free (suc b) refining i false m → Begun m i
      → AfterMove I Shown (look_refining b i m x s n)
  quiet_refining b i m false s n ex en g r = at_0 sz g.1.0 m g.1.1.core
  quiet_refining b i m true true n ex en g r = tt
  quiet_refining b i m true false true ex en g r =
      let e : get_or m i 0 ≡ 2 = eqb-true (get_or m i 0) 2 en in
      past_marked g.1.0 m g.1.1.core i 3 (ltb-true i I ex) (omega (arith, e)) (omega (arith, e)) (lit≤ tt) (lit≤ tt)
  quiet_refining b i m true false false ex en g r = let hi : i < I = ltb-true i I ex in after_block sz g.1.0 m g.1.1.core i hi (r hi)

  quiet_at : (l : ℕ) (p : Pass) (i : ℕ) (w : Bool) (m : List ℕ) → Good_at sz P free l p i w m → Begun m i → AfterMove I Shown (look_at I l p i w m)
  quiet_at zero p i w m g r = tt
  quiet_at (suc b) p i true m g r = tt
  quiet_at (suc b) pixels i false m g r = quiet_pixels b i m (ltb i I) (eqb (get_or m i 0) 1) refl g r
  quiet_at (suc b) sets i false m g r = quiet_sets b i m (ltb i I) (eqb (get_or m i 0) 5) (eqb (get_or m i 0) 6) (eqb (get_or m i 0) 4) refl refl g r
  quiet_at (suc b) refining i false m g r = quiet_refining b i m (ltb i I) (eqb (get_or m i 0) 3) (eqb (get_or m i 0) 2) refl refl g r

  -- ---- answers: t is the state after one
  abbrev AfterAnswer : State → Look → Type 0
  AfterAnswer t over = Unit {0}
  AfterAnswer t (silent s) = Unit {0}
  AfterAnswer t (asks q) = Shown t

  told_pixels : (b i : ℕ) (m : List ℕ) (x y a : Bool) → ltb i I ≡ x → eqb (get_or m i 0) 1 ≡ y → Good_at sz P free (suc b) pixels i false m → Begun m i
      → AfterAnswer (tell_at I (suc b) pixels i false m a) (look_pixels b i m x y)
  told_pixels b i m false y a ex ey g r = tt
  told_pixels b i m true false a ex ey g r = tt
  told_pixels b i m true true true ex ey g r = r
  told_pixels b i m true true false ex ey g r =
      let hi : i < I = ltb-true i I ex in past_one g.1.0 m g.1.1.core i hi (r hi) (omega (arith, eqb-true (get_or m i 0) 1 ey))

  -- where GRAND was split there is MD
  pub grand_split : (c : Cfg) (m : List ℕ) → Core sz c m → (i : ℕ) → i < I → get_or m i 0 ≡ 6 → Core sz (with_g (i / 16) c) (split_grand I i m)
      → get_or (split_grand I i m) i 0 ≡ 5
  grand_split c m k i hi e6 kg =
      let s : Grand_at D I c i = is_grand_at sz c m k i hi e6 in
      let i4 : 4 * (4 * (i / 16)) ≡ i = omega (arith, s.0) in
      ap (λ (x : ℕ). get_or (split_grand I i m) x 0) (sym i4)
      ∙ mark_d sz (with_g (i / 16) c) (split_grand I i m) kg (4 * (i / 16)) (omega (arith, s.3)) (omega (arith, i4, hi))
      (stands_g_on D I (i / 16) c (4 * (i / 16)) (omega arith))
      (s_d_g (i / 16) c (4 * (i / 16)) ∙ subst (λ (x : ℕ). c.s_d x ≡ false) {x = i / 4} {y = 4 * (i / 16)} (omega (arith, s.0)) (no_alone D I c i s.4).1)

  told_sets_lem : (b i : ℕ) (m : List ℕ) (x d q c a : Bool) → ltb i I ≡ x → eqb (get_or m i 0) 5 ≡ d → eqb (get_or m i 0) 6 ≡ q → eqb (get_or m i 0) 4 ≡ c
      → Good_at sz P free (suc b) sets i false m → Begun m i → AfterAnswer (tell_sets I (suc b) i m a d q) (look_sets b i m x d q c)
  told_sets_lem b i m false d q c a ex ed eg ec g r = tt
  told_sets_lem b i m true false false false a ex ed eg ec g r = tt
  told_sets_lem b i m true true q c true ex ed eg ec g r =
      let hi : i < I = ltb-true i I ex in
      let k : Core sz g.1.0 m = g.1.1.core in
      let s : Desc_at D I g.1.0 i = is_desc_at sz g.1.0 m k i hi (eqb-true (get_or m i 0) 5 ed) in
      λ h z. omega (arith, z, split_kids I i m k.len (omega (arith, s.0, sz.sixteens, hi)) (omega (arith, s.3, sz.least)) (ltb (4 * i) I) i (omega arith) (omega arith))
  told_sets_lem b i m true true q c false ex ed eg ec g r =
      let hi : i < I = ltb-true i I ex in
      subst (λ (x : ℕ). Begun m (i + x)) (ap skip (eqb-true (get_or m i 0) 5 ed) ∙ skip_5 5 (lit≤ tt) (lit< tt))
      (after_block sz g.1.0 m g.1.1.core i hi (r hi))
  told_sets_lem b i m true false true c true ex ed eg ec g r =
      let hi : i < I = ltb-true i I ex in
      let e : get_or m i 0 ≡ 6 = eqb-true (get_or m i 0) 6 eg in
      λ h z. omega (arith, z, grand_split g.1.0 m g.1.1.core i hi e (core_g sz g.1.0 m g.1.1.core i hi e))
  told_sets_lem b i m true false true c false ex ed eg ec g r =
      let hi : i < I = ltb-true i I ex in
      subst (λ (x : ℕ). Begun m (i + x)) (ap skip (eqb-true (get_or m i 0) 6 eg) ∙ skip_5 6 (lit≤ tt) (lit< tt))
      (after_block sz g.1.0 m g.1.1.core i hi (r hi))
  told_sets_lem b i m true false false true true ex ed eg ec g r = r
  told_sets_lem b i m true false false true false ex ed eg ec g r =
      let e : get_or m i 0 ≡ 4 = eqb-true (get_or m i 0) 4 ec in
      past_marked g.1.0 m g.1.1.core i 1 (ltb-true i I ex) (omega (arith, e)) (omega (arith, e)) (lit≤ tt) (lit≤ tt)

  told_refining : (b i : ℕ) (m : List ℕ) (x s n : Bool) → ltb i I ≡ x → eqb (get_or m i 0) 3 ≡ s → Good_at sz P free (suc b) refining i false m → Begun m i
      → AfterAnswer (state_at (suc b) refining (i + 1) m) (look_refining b i m x s n)
  told_refining b i m false s n ex es g r = tt
  told_refining b i m true false true ex es g r = tt
  told_refining b i m true false false ex es g r = tt
  told_refining b i m true true n ex es g r =
      let hi : i < I = ltb-true i I ex in past_one g.1.0 m g.1.1.core i hi (r hi) (omega (arith, eqb-true (get_or m i 0) 3 es))

  told_at_lem : (l : ℕ) (p : Pass) (i : ℕ) (w : Bool) (m : List ℕ) (a : Bool) → Good_at sz P free l p i w m → Begun m i
      → AfterAnswer (tell_at I l p i w m a) (look_at I l p i w m)
  told_at_lem zero p i w m a g r = tt
  told_at_lem (suc b) pixels i true m a g r = past_marked g.1.0 m g.1.1.core i 2 g.2 (omega (arith, g.3)) (omega (arith, g.3)) (lit≤ tt) (lit≤ tt)
  told_at_lem (suc b) sets i true m a g r = past_marked g.1.0 m g.1.1.core i 2 g.2 (omega (arith, g.3)) (omega (arith, g.3)) (lit≤ tt) (lit≤ tt)
  told_at_lem (suc b) refining i true m a g r = absurd g
  told_at_lem (suc b) pixels i false m a g r = told_pixels b i m (ltb i I) (eqb (get_or m i 0) 1) a refl refl g r
  told_at_lem (suc b) sets i false m a g r = told_sets_lem b i m (ltb i I) (eqb (get_or m i 0) 5) (eqb (get_or m i 0) 6) (eqb (get_or m i 0) 4) a refl refl refl refl g r
  told_at_lem (suc b) refining i false m a g r = told_refining b i m (ltb i I) (eqb (get_or m i 0) 3) (eqb (get_or m i 0) 2) refl refl g r

  -- one move or one answer keeps both
  by_move : (s t : State) → look I s ≡ silent t → Good sz P free s × Shown s → Good sz P free t × Shown t
  by_move s t e h = (
    subst (λ (k : Look). Good_look sz P free k) e (good_look sz P free s.left s.pass s.place s.pending s.marks h.0),
    subst (λ (k : Look). AfterMove I Shown k) e (quiet_at s.left s.pass s.place s.pending s.marks h.0 h.1),
  )

  by_answer : (s : State) (q : Question) (a : Bool) → look I s ≡ asks q → Good sz P free s × Shown s → Good sz P free (tell I s a) × Shown (tell I s a)
  by_answer s q a e h = (
    good_tell sz P free (λ j. ⊥) s.left s.pass s.place s.pending s.marks a h.0
        (subst (λ (k : Look). On_ask I free (λ j. ⊥) a k) (sym e) (free_learned I q a)),
    subst (λ (k : Look). AfterAnswer (tell I s a) k) e (told_at_lem s.left s.pass s.place s.pending s.marks a h.0 h.1),
  )

  first_shown : Begun (start_marks I D) 0
  unfolding start_marks
  first_shown = at_0 sz c0 (start_marks I D) (pix_0 sz (preds free 0) (λ j. Unit {0}) (λ j z. z)).core

module _ (N L : ℕ) (sized : Sized N L) (P : ℕ) where
  kept : (s : State) → Passed N L P s → Good (tiled N L sized) P free s × Shown (tiled N L sized) P s
  kept s begun = (good_first (tiled N L sized) P free (λ j z. z), first_shown (tiled N L sized) P)
  kept t (moved s t' p e) = by_move (tiled N L sized) P s t e (kept s p)
  kept t (told s q a p e) = by_answer (tiled N L sized) P s q a e (kept s p)

  pub no_mark_0 : (s : State) → Passed N L P s → s.place < all_of N → get_or s.marks s.place 0 ≡ no_mark → ⊥
  no_mark_0 s p = (kept s p).1
