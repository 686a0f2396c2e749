-- After bits that some array's stream begins with, each precision is what the scan's state says (specs/Turns).
use mathlib.Core.Path.{◌≡◌, refl, sym, ap, subst, ◌∙◌}
use mathlib.Core.Bool.{Bool, true, false, cond, false≢true}
use mathlib.Core.Logic.{◌⊎◌, inl, inr, ⊎_elim}
use mathlib.Core.List.{List}
use Prim.Native.Nat.{ℕ, zero, suc, ◌+◌, ◌*◌, ◌-◌, ◌/◌, ◌≤◌, ◌<◌, min}
use native.Mathlib.Omega.{arith}
use lib.Dec.{ltb, eqb}
use lib.IntN.{ℤ}
use lib.ListN.{get_or, replicate, length-replicate, get_or-replicate}
use borrow.Author.Tests.{ltb-true, ltb-false, le-leb, lt-leb}
use Rattle.sizes.specs.Sizes.{all_of, coarsest_of, Sized}
use Rattle.nls.specs.Marks.{start_marks}
use Rattle.nls.specs.Scan as scan
use Rattle.nls.specs.Scan.{State, Look, over, silent, asks, Pass, pixels, sets, refining, look, look_at, look_pixels, look_sets, look_refining, tell, ask, asked, next}
use Rattle.nls.specs.Stream.{begin, after}
use Rattle.nls.specs.Reading.{Known, nothing, learn_at, known, precision_at}
use Rattle.nls.specs.Judging.{Begins}
use Rattle.nls.specs.Turns.{standing, holder, turn, precision_of}
use Rattle.nls.proofs.Tiled.{Tiled, tiled}
use Rattle.nls.proofs.Arrays.{Bits, bits_of_arr, told, Fit}
use Rattle.nls.proofs.Lists.{arr_of}
use Rattle.nls.proofs.Streams.{begins_iff, settles}
use Rattle.nls.proofs.Machine.Table.{Cfg, alone, stands}
use Rattle.nls.proofs.Counting.Sums.{order}
use Rattle.nls.proofs.Machine.Split.{kind_no}
use Rattle.nls.proofs.Machine.Cover.{Core, Home, in_d, in_g, home, is_alone, is_desc_at, is_grand_at, Alone_at, Desc_at, Grand_at}
use Rattle.nls.proofs.Machine.Steps.{Fam, preds, Good, Good_at, Good_look, good_look}
use Rattle.nls.proofs.Machine.Start as first
use Rattle.nls.proofs.Reading.Know.{know_o, least}
use Rattle.nls.proofs.Judging.Clash.{dead_d, dead_g}
use Rattle.nls.proofs.Kept.{AfterMove, settle_keeps}
use Rattle.nls.proofs.Known.{Sound, known_sound}
use Rattle.nls.proofs.KnownBits.{answered_own}
use Rattle.nls.proofs.Precision.PlaneEnds.{notes, Noted, along, ends_tell, noted_left}
use Rattle.nls.proofs.Precision.Holders.{unmarked, held_d, held_g}
use Rattle.nls.proofs.Precision.Seen.{Seen, by_itself, in_desc, in_grand, Only, OnlyAt, OnlyOf, only_look, only_tell, Tells, in_table}

-- ---- the turn of a place, by its mark
pub data Kind (v : ℕ) : Type 0 where
  new : 1 ≤ v → v ≤ 2 → Kind v
  old : 3 ≤ v → v ≤ 4 → Kind v
  covered : (v ≡ 0) ⊎ (5 ≤ v) → Kind v

pub kind : (v : ℕ) → Kind v
kind zero = covered (inl refl)
kind (suc zero) = new (omega arith) (omega arith)
kind (suc (suc zero)) = new (omega arith) (omega arith)
kind (suc (suc (suc zero))) = old (omega arith) (omega arith)
kind (suc (suc (suc (suc zero)))) = old (omega arith) (omega arith)
kind (suc (suc (suc (suc (suc v))))) = covered (inr (omega arith))

module _ (I : ℕ) (m : List ℕ) (j : ℕ) where
  pub turn_new : 1 ≤ get_or m j 0 → get_or m j 0 ≤ 2 → turn I m j ≡ j
  unfolding turn
  turn_new a b = rw (le-leb 1 (get_or m j 0) a, le-leb (get_or m j 0) 4 (omega arith), le-leb (get_or m j 0) 2 b) refl

  pub turn_old : 3 ≤ get_or m j 0 → get_or m j 0 ≤ 4 → turn I m j ≡ 2 * I + j
  unfolding turn
  turn_old a b = rw (le-leb 1 (get_or m j 0) (omega arith), le-leb (get_or m j 0) 4 b, lt-leb (get_or m j 0) 2 a) refl

  pub turn_set : (get_or m j 0 ≡ 0) ⊎ (5 ≤ get_or m j 0) → turn I m j ≡ I + holder I m j
  unfolding turn
  turn_set (inl e) = rw (lt-leb 1 (get_or m j 0) (omega arith)) refl
  turn_set (inr h) = rw (le-leb 1 (get_or m j 0) (omega arith), lt-leb (get_or m j 0) 4 h) refl

module _ (N L : ℕ) (size : Sized N L) (P : ℕ) where
  abbrev I : ℕ
  I = all_of N

  abbrev D : ℕ
  D = coarsest_of N L

  abbrev sz : Tiled D I
  sz = tiled N L size

  -- ---- a state: what its turns say is what was noted in its plane
  module _ (k : Bits) (o : Known) (b i : ℕ) (m : List ℕ) (hi : i < I) (j : ℕ) (hj : j < I) where
    abbrev Held : Pass → Bool → Type 0
    Held p w = Good_at sz P (notes N L size P k o) (suc b) p i w m

    -- what does not stand alone: the holder's place
    holds : (c : Cfg) (r : Core sz c m) → Home sz c j → holder I m j < I
    holds c r (in_d h lo up s d u) = omega (arith, held_d sz c m r h j lo s d hj u)
    holds c r (in_g q lo up s d u) = omega (arith, held_g sz c m r q j lo s d hj u)

    module _ (w : Bool) (own : k.has j b ≡ true → (w ≡ true → j ≡ i → ⊥) → get_or o.planes j 0 ≤ b) where
      settled : Noted N L size P k o b j → (w ≡ true → j ≡ i → ⊥) → get_or o.planes j 0 ≤ b
      settled x n = ⊎_elim (λ y. y) (λ y. own y n) (x hj)

      yes_pixels : Held pixels w → turn I m j < i → get_or o.planes j 0 ≤ b
      yes_pixels g h = on (kind (get_or m j 0))
        where
          done : (w : Bool) → Held pixels w → 1 ≤ get_or m j 0 → get_or m j 0 ≤ 2 → j < i → Noted N L size P k o b j
          done true g x y l = let a : Alone_at D I g.1.0 m j = is_alone sz g.1.0 m g.1.1.core j hj x (omega arith) in g.1.1.done j hj a.0 l (λ z. omega (arith, a.1))
          done false g x y l = let a : Alone_at D I g.1.0 m j = is_alone sz g.1.0 m g.1.1.core j hj x (omega arith) in g.1.1.done j hj a.0 l (λ z. omega (arith, a.1))

          on : Kind (get_or m j 0) → get_or o.planes j 0 ≤ b
          on (new x y) = let l : j < i = omega (arith, turn_new I m j x y) in settled (done w g x y l) (λ e q. omega arith)
          on (old x y) = absurd (omega (arith, turn_old I m j x y))
          on (covered x) = absurd (omega (arith, turn_set I m j x))

      yes_sets : Held sets w → turn I m j < I + i → get_or o.planes j 0 ≤ b
      yes_sets g h = on (kind (get_or m j 0))
        where
          not_i : (w : Bool) → Held sets w → (get_or m j 0 ≡ 4 → ⊥) → w ≡ true → j ≡ i → ⊥
          not_i true g n e q = n (ap (λ (x : ℕ). get_or m x 0) q ∙ g.3)
          not_i false g n e q = false≢true e

          done : (w : Bool) → Held sets w → 1 ≤ get_or m j 0 → get_or m j 0 ≤ 2 → Noted N L size P k o b j
          done true g x y = let a : Alone_at D I g.1.0 m j = is_alone sz g.1.0 m g.1.1.core j hj x (omega arith) in g.1.1.done j hj a.0 (λ z. omega (arith, a.1)) (λ z. omega (arith, a.1))
          done false g x y = let a : Alone_at D I g.1.0 m j = is_alone sz g.1.0 m g.1.1.core j hj x (omega arith) in g.1.1.done j hj a.0 (λ z. omega (arith, a.1)) (λ z. omega (arith, a.1))

          inside : (w : Bool) → Held sets w → (get_or m j 0 ≡ 0) ⊎ (5 ≤ get_or m j 0) → holder I m j < i → Noted N L size P k o b j
          inside true g v l = at (home sz g.1.0 g.1.1.core.ok j hj (unmarked sz g.1.0 m g.1.1.core j hj v))
            where
              at : Home sz g.1.0 j → Noted N L size P k o b j
              at (in_d h lo up s d u) = g.1.1.d_d h lo up (omega (arith, held_d sz g.1.0 m g.1.1.core h j lo s d hj u)) s d j hj u
              at (in_g q lo up s d u) = g.1.1.d_g q lo up (omega (arith, held_g sz g.1.0 m g.1.1.core q j lo s d hj u)) s d j hj u
          inside false g v l = at (home sz g.1.0 g.1.1.core.ok j hj (unmarked sz g.1.0 m g.1.1.core j hj v))
            where
              at : Home sz g.1.0 j → Noted N L size P k o b j
              at (in_d h lo up s d u) = g.1.1.d_d h lo up (omega (arith, held_d sz g.1.0 m g.1.1.core h j lo s d hj u)) s d j hj u
              at (in_g q lo up s d u) = g.1.1.d_g q lo up (omega (arith, held_g sz g.1.0 m g.1.1.core q j lo s d hj u)) s d j hj u

          on : Kind (get_or m j 0) → get_or o.planes j 0 ≤ b
          on (new x y) = settled (done w g x y) (not_i w g (λ z. omega arith))
          on (old x y) = absurd (omega (arith, turn_old I m j x y))
          on (covered x) = settled (inside w g x (omega (arith, turn_set I m j x))) (not_i w g (λ z. ⊎_elim (λ y. omega arith) (λ y. omega arith) x))

      yes_refining : Held refining w → turn I m j < 2 * I + i → get_or o.planes j 0 ≤ b
      yes_refining g h = settled (done w g) (never w g)
        where
          never : (w : Bool) → Held refining w → w ≡ true → j ≡ i → ⊥
          never true g e = absurd g
          never false g e = absurd (false≢true e)

          done : (w : Bool) → Held refining w → Noted N L size P k o b j
          done true g = absurd g
          done false g = g.1.1.done j hj (λ a e l. late a e l)
            where
              late : alone D I g.1.0 j ≡ true → g.1.0.al j ≡ 3 → i ≤ j → ⊥
              late a e l =
                  let v : get_or m j 0 ≡ 3 = g.1.1.core.tab.solo j hj a ∙ e in
                  omega (arith, turn_old I m j (omega arith) (omega arith))

      pub yes_seen : (p : Pass) → Held p w → turn I m j < standing I p i → get_or o.planes j 0 ≤ b
      yes_seen pixels g h = yes_pixels g h
      yes_seen sets g h = yes_sets g h
      yes_seen refining g h = yes_refining g h

    core_of : (w : Bool) → Held sets w → (c : Cfg) × Core sz c m
    core_of true g = (g.1.0, g.1.1.core)
    core_of false g = (g.1.0, g.1.1.core)

    seen_turn : (c : Cfg) → Core sz c m → Seen i m j → turn I m j < I + i
    seen_turn c r (by_itself x y) = omega (arith, turn_new I m j x y)
    seen_turn c r (in_desc h e l u) =
        let w : Desc_at D I c (4 * h) = is_desc_at sz c m r (4 * h) (in_table sz c m r (4 * h) (omega arith)) e in
        let q : 4 * h / 4 ≡ h = omega arith in
        let d : c.s_d h ≡ false = subst (λ (x : ℕ). c.s_d x ≡ false) q w.2 in
        omega (
          arith,
          turn_set I m j (kind_no sz c r.ok (λ x. get_or m x 0) r.tab j hj (dead_d sz c r.ok h j w.3 d u)),
          held_d sz c m r h j w.3 (subst (λ (x : ℕ). stands D I c x ≡ true) q w.1) d hj u,
        )
    seen_turn c r (in_grand q e l u) =
        let w : Grand_at D I c (16 * q) = is_grand_at sz c m r (16 * q) (in_table sz c m r (16 * q) (omega arith)) e in
        let same : 16 * q / 16 ≡ q = omega arith in
        let d : c.s_g q ≡ false = subst (λ (x : ℕ). c.s_g x ≡ false) same w.2 in
        omega (
          arith,
          turn_set I m j (kind_no sz c r.ok (λ x. get_or m x 0) r.tab j hj (dead_g sz c r.ok q j (omega (arith, w.3)) d u)),
          held_g sz c m r q j (omega (arith, w.3)) (subst (λ (x : ℕ). c.s_d x ≡ true) same w.1) d hj u,
        )

    pub only_seen : (p : Pass) (w : Bool) → Held p w → Only I b p i m o.planes → get_or o.planes j 0 ≤ b → turn I m j < standing I p i
    only_seen pixels w g r e = let s = r.seen j hj e in omega (arith, s.2, turn_new I m j s.0 s.1)
    only_seen sets w g r e = let c = core_of w g in seen_turn c.0 c.1 (r.seen j hj e)
    only_seen refining true g r e = absurd g
    only_seen refining false g r e = on (kind (get_or m j 0))
      where
        on : Kind (get_or m j 0) → turn I m j < 2 * I + i
        on (new x y) = omega (arith, turn_new I m j x y)
        on (old x y) =
            let a : Alone_at D I g.1.0 m j = is_alone sz g.1.0 m g.1.1.core j hj (omega arith) (omega arith) in
            let three : get_or m j 0 ≡ 3 = ⊎_elim (λ z. absurd (g.1.1.no4 j hj a.0 (omega (arith, a.1)))) (λ z. omega arith) (order 4 (get_or m j 0)) in
            omega (arith, turn_old I m j x y, r.seen j hj e three)
        on (covered x) = omega (arith, turn_set I m j x, holds g.1.0 g.1.1.core (home sz g.1.0 g.1.1.core.ok j hj (unmarked sz g.1.0 m g.1.1.core j hj x)))

  -- ---- along a run
  module _ (A : Bits) where
    abbrev Runs : Bits → Known → State → Type 0
    Runs k o t = Good sz P (notes N L size P k o) t × OnlyOf N L size P o.planes t

    moves : (k : Bits) (o : Known) (t : State) → Runs k o t → AfterMove I (Runs k o) (look I t)
    moves k o t h = join (look I t) (good_look sz P (notes N L size P k o) t.left t.pass t.place t.pending t.marks h.0)
        (only_look N L size P k o o.planes t.left t.pass t.place t.pending t.marks h.0 h.1)
      where
        join : (x : Look) → Good_look sz P (notes N L size P k o) x → AfterMove I (OnlyOf N L size P o.planes) x → AfterMove I (Runs k o) x
        join over g r = tt
        join (silent s) g r = (g, r)
        join (asks q) g r = tt

    runs_next : (k : Bits) (o : Known) (s : State) (a : Bool) → Sound I P s o → Runs k o s → told N A (ask I s) a
        → Runs (know_o (ask I s) a k) (learn_at N L (ask I s) s a o) (next I s a)
    unfolding next
    runs_next k o s a h r t =
        settle_keeps I (Runs (know_o (ask I s) a k) (learn_at N L (ask I s) s a o)) (moves (know_o (ask I s) a k) (learn_at N L (ask I s) s a o)) (tell I s a)
        (ends_tell N L size P A k o s a h r.0 t, (unfold ask in on (look I s) t (only_tell N L size P k o s.left s.pass s.place s.pending s.marks a r.0 r.1)))
      where
        on : (x : Look) → told N A (asked I x) a → Tells N L size P k o (s.left - 1) s.pass a (tell I s a) x → OnlyOf N L size P (learn_at N L (asked I x) s a o).planes (tell I s a)
        on over t f = absurd t
        on (silent r) t f = absurd t
        on (asks q) t f = f

    runs_first : Runs first.nothing (nothing N P) (scan.state_at P pixels 0 (first.first sz))
    runs_first = (good P, only P (omega arith))
      where
        good : (l : ℕ) → Good_at sz l (notes N L size P first.nothing (nothing N P)) l pixels 0 false (first.first sz)
        good zero = ((λ e h1 h2. absurd (omega arith)), λ j hj z. absurd z)
        good (suc b) = ((λ e h1 h2. absurd (omega arith)), (first.c0, first.pix_0 sz (preds (notes N L size P first.nothing (nothing N P)) b) ((notes N L size P first.nothing (nothing N P)).X b) (λ j z. z)))

        only : (l : ℕ) → l ≤ P → OnlyAt N L size P l pixels 0 (first.first sz) (replicate I P)
        only zero h = tt
        only (suc b) h = record {
          long = length-replicate {A = ℕ} I P;
          low = λ j hj. omega (arith, get_or-replicate I j P 0 hj);
          seen = λ j hj e. absurd (omega (arith, get_or-replicate I j P 0 hj));
        }

    runs_begin : Runs first.nothing (nothing N P) (begin N L P)
    unfolding scan.start start_marks
    runs_begin = settle_keeps I (Runs first.nothing (nothing N P)) (moves first.nothing (nothing N P)) (scan.state_at P pixels 0 (first.first sz)) runs_first

    pub runs_after : (u : List Bool) → Fit N A (begin N L P) u → Runs (least N (begin N L P) u first.nothing) (known N L P u) (after N L P u)
    runs_after = along N L P A Runs runs_next runs_begin

  -- a settled scan stands at a place
  in_place : (F : Fam) (b : ℕ) (p : Pass) (i : ℕ) (w : Bool) (m : List ℕ) → Good_at sz P F (suc b) p i w m → ((t : State) → look_at I (suc b) p i w m ≡ silent t → ⊥) → i < I
  in_place F b pixels i true m g n = g.2
  in_place F b sets i true m g n = g.2
  in_place F b refining i true m g n = absurd g
  in_place F b pixels i false m g n = on (ltb i I) refl (eqb (get_or m i 0) 1) n
    where
      on : (x : Bool) → ltb i I ≡ x → (y : Bool) → ((t : State) → look_pixels b i m x y ≡ silent t → ⊥) → i < I
      on true e y n = ltb-true i I e
      on false e y n = absurd (n _ refl)
  in_place F b sets i false m g n = on (ltb i I) refl (eqb (get_or m i 0) 5) (eqb (get_or m i 0) 6) (eqb (get_or m i 0) 4) n
    where
      on : (x : Bool) → ltb i I ≡ x → (d q c : Bool) → ((t : State) → look_sets b i m x d q c ≡ silent t → ⊥) → i < I
      on true e d q c n = ltb-true i I e
      on false e d q c n = absurd (n _ refl)
  in_place F b refining i false m g n = on (ltb i I) refl (eqb (get_or m i 0) 3) (eqb (get_or m i 0) 2) n
    where
      on : (x : Bool) → ltb i I ≡ x → (d q : Bool) → ((t : State) → look_refining b i m x d q ≡ silent t → ⊥) → i < I
      on true e d q n = ltb-true i I e
      on false e d q n = absurd (n _ refl)

pub precision_of_lem : (N L : ℕ) → Sized N L → (P : ℕ) (A : List ℤ) (u : List Bool) → Begins N L P A u → (j : ℕ) → j < all_of N
    → precision_at N L P u j ≡ precision_of (all_of N) (after N L P u) j
precision_of_lem N L size P A u begins j hj =
    go s.left s.pass s.place s.pending s.marks run.0 run.1 (settles N L P u)
    (λ h q. answered_own N L size P A begins.planes.below u fits j (s.left - 1) hj h (λ w e l. q w e l)) ((known_sound N L P u).least j hj) (noted_left N L size P A u begins j hj)
  where
    s : State
    s = after N L P u

    fits : Fit N (bits_of_arr (arr_of A)) (begin N L P) u
    fits = ((begins_iff N L size P A u).0 begins).2

    k : Bits
    k = least N (begin N L P) u first.nothing

    run : Runs N L size P (bits_of_arr (arr_of A)) (least N (begin N L P) u first.nothing) (known N L P u) (after N L P u)
    run = runs_after N L size P (bits_of_arr (arr_of A)) u fits

    go : (l : ℕ) (p : Pass) (i : ℕ) (w : Bool) (m : List ℕ) → Good_at (tiled N L size) P (notes N L size P (least N (begin N L P) u first.nothing) (known N L P u)) l p i w m
        → OnlyAt N L size P l p i m (known N L P u).planes → ((t : State) → look_at (all_of N) l p i w m ≡ silent t → ⊥)
        → ((least N (begin N L P) u first.nothing).has j (l - 1) ≡ true → (w ≡ true → j ≡ i → suc (l - 1) ≡ l → ⊥) → get_or (known N L P u).planes j 0 ≤ l - 1)
        → l ≤ suc (get_or (known N L P u).planes j 0) → get_or (known N L P u).planes j 0 ≤ l
        → min (get_or (known N L P u).planes j 0) l ≡ cond (ltb (turn (all_of N) m j) (standing (all_of N) p i)) (l - 1) l
    go zero p i w m g r n own lo up = on (ltb (turn (all_of N) m j) (standing (all_of N) p i))
      where
        on : (x : Bool) → min (get_or (known N L P u).planes j 0) 0 ≡ cond x (0 - 1) 0
        on true = omega arith
        on false = omega arith
    go (suc b) p i w m g r n own lo up = on (ltb (turn (all_of N) m j) (standing (all_of N) p i)) refl
      where
        hi : i < all_of N
        hi = in_place N L size P (notes N L size P (least N (begin N L P) u first.nothing) (known N L P u)) b p i w m g n

        e : suc b - 1 ≡ b
        e = omega arith

        mine : (least N (begin N L P) u first.nothing).has j b ≡ true → (w ≡ true → j ≡ i → ⊥) → get_or (known N L P u).planes j 0 ≤ b
        mine h q = omega (arith, own (subst (λ (x : ℕ). (least N (begin N L P) u first.nothing).has j x ≡ true) (sym e) h) (λ v z y. q v z))

        on : (x : Bool) → ltb (turn (all_of N) m j) (standing (all_of N) p i) ≡ x → min (get_or (known N L P u).planes j 0) (suc b) ≡ cond x (suc b - 1) (suc b)
        on true y = omega (arith, yes_seen N L size P (least N (begin N L P) u first.nothing) (known N L P u) b i m hi j hj w mine p g (ltb-true (turn (all_of N) m j) (standing (all_of N) p i) y))
        on false y = omega (arith, late (order (get_or (known N L P u).planes j 0) b))
          where
            late : (get_or (known N L P u).planes j 0 ≤ b) ⊎ (b < get_or (known N L P u).planes j 0) → suc b ≤ get_or (known N L P u).planes j 0
            late (inl z) = absurd (omega (arith, ltb-false (turn (all_of N) m j) (standing (all_of N) p i) y, only_seen N L size P (least N (begin N L P) u first.nothing) (known N L P u) b i m hi j hj p w g r z))
            late (inr z) = z
