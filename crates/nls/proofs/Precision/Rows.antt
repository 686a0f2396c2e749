-- The turn of a place from its own mark, the place before and the parent alone: what a walk over the marks computes.
use mathlib.Core.Path.{◌≡◌, refl, sym, ap, subst, ◌∙◌}
use mathlib.Core.Bool.{Bool, true, false}
use mathlib.Core.Logic.{◌⊎◌, inl, inr, ⊎_elim}
use mathlib.Core.List.{List}
use Prim.Native.Nat.{ℕ, zero, suc, ◌+◌, ◌*◌, ◌-◌, ◌/◌, ◌%◌, ◌≤◌, ◌<◌, ◌^◌}
use native.Mathlib.Omega.{arith}
use native.Mathlib.Decide.{dec_lt, ℕ_discrete}
use lib.IntN.{ℤ}
use lib.ListN.{get_or}
use lib.Pow.{pow_mono}
use lib.Dec.{lit<, lit≤}
use native.Mathlib.Nat.{pow-succ', mul-mod_left, mul-le-mul_right, mul_left_comm}
use Rattle.nls.specs.Marks.{skip}
use Rattle.nls.proofs.Known.{room}
use Rattle.sizes.specs.Sizes.{all_of, coarsest_of, Sized}
use Rattle.nls.specs.Scan.{State, Pass, pixels, sets, refining}
use Rattle.nls.specs.Stream.{after}
use Rattle.nls.specs.Judging.{Begins}
use Rattle.nls.specs.Turns.{holder, turn}
use Rattle.nls.proofs.Tiled.{Tiled, tiled}
use Rattle.nls.proofs.Arrays.{bits_of_arr}
use Rattle.nls.proofs.Lists.{arr_of}
use Rattle.nls.proofs.Streams.{begins_iff}
use Rattle.nls.proofs.Machine.Steps.{Fam, Good_at}
use Rattle.nls.proofs.Precision.PlaneEnds.{noted_all}
use Rattle.nls.proofs.Machine.Table.{Cfg, up, alone, stands, alone_no, no_alone, stands_no, no_stands, no_dg, low, gap, up_5, up_7, up_big, skip_5, skip_up}
use Rattle.nls.proofs.Machine.Split.{kind_no}
use Rattle.nls.proofs.Machine.Cover.{kid, far, Core, Home, in_d, in_g, home, not_alone, is_desc_at, is_grand_at, Desc_at, Grand_at}
use Rattle.nls.proofs.Precision.Holders.{unmarked, held_d, held_g}
use Rattle.nls.proofs.Precision.Turns.{turn_set}
use Rattle.nls.proofs.Counting.Sums.{order}

-- the marks of every state of a plane in progress lie as Machine/Table says
core_good : {D I : ℕ} (sz : Tiled D I) (P : ℕ) (F : Fam) (l : ℕ) (p : Pass) (i : ℕ) (w : Bool) (m : List ℕ) → Good_at sz P F l p i w m → 1 ≤ l → (c : Cfg) × Core sz c m
core_good sz P F zero p i w m g h = absurd (omega arith)
core_good sz P F (suc b) pixels i true m g h = (g.1.0, g.1.1.core)
core_good sz P F (suc b) pixels i false m g h = (g.1.0, g.1.1.core)
core_good sz P F (suc b) sets i true m g h = (g.1.0, g.1.1.core)
core_good sz P F (suc b) sets i false m g h = (g.1.0, g.1.1.core)
core_good sz P F (suc b) refining i true m g h = absurd g
core_good sz P F (suc b) refining i false m g h = (g.1.0, g.1.1.core)

pub core_after : (N L : ℕ) (size : Sized N L) (P : ℕ) (A : List ℤ) (u : List Bool) → Begins N L P A u → 1 ≤ (after N L P u).left → (c : Cfg) × Core (tiled N L size) c (after N L P u).marks
core_after N L size P A u begins h =
    let s : State = after N L P u in
    core_good (tiled N L size) P _ s.left s.pass s.place s.pending s.marks (noted_all N L size P (bits_of_arr (arr_of A)) u ((begins_iff N L size P A u).0 begins).2) h

-- the four of a group have one holder
hold_four : (n : ℕ) (m : List ℕ) (j i : ℕ) → 1 ≤ n → j / 4 ≡ i / 4 → holder n m j ≡ holder n m i
unfolding holder
hold_four zero m j i h e = absurd (omega arith)
hold_four (suc n) m j i h e =
    let q : j / 16 ≡ i / 16 = omega arith in
    rw (e, q) refl

module _ (N L : ℕ) (size : Sized N L) (c : Cfg) (m : List ℕ) (k : Core (tiled N L size) c m) where
  abbrev I : ℕ
  I = all_of N

  abbrev D : ℕ
  D = coarsest_of N L

  abbrev sz : Tiled D I
  sz = tiled N L size

  -- a place whose parent does not stand alone either has the parent's holder
  hold_parent : (j : ℕ) → j < I → alone D I c (j / 4) ≡ false → holder I m j ≡ holder I m (j / 4)
  hold_parent j hj a = on (home sz c k.ok (j / 4) (omega arith) a)
    where
      on : Home sz c (j / 4) → holder I m j ≡ holder I m (j / 4)
      on (in_d h lo hi s d u) = held_d sz c m k h j lo s d hj (far u) ∙ sym (held_d sz c m k h (j / 4) lo s d (omega arith) u)
      on (in_g q lo hi s d u) = held_g sz c m k q j lo s d hj (far u) ∙ sym (held_g sz c m k q (j / 4) lo s d (omega arith) u)

  -- mark 0: as the place before
  abbrev Follows : ℕ → Type 0
  Follows j = (alone D I c (j - 1) ≡ false) × (holder I m j ≡ holder I m (j - 1))

  follows : (n j : ℕ) → j ≤ n → j < I → alone D I c j ≡ false → get_or m j 0 ≡ 0 → Follows j
  follows zero j a hj o e = absurd (omega (arith, (no_alone D I c j o).0, sz.least))
  follows (suc n) j a hj o e = on (ℕ_discrete (j % 4) 0) (stands D I c (j / 4)) refl (ℕ_discrete (j / 4 % 4) 0) (c.s_d (j / 4 / 4)) refl (follows n (j / 4))
    where
      dj : D ≤ j
      dj = (no_alone D I c j o).0

      on : Dec (j % 4 ≡ 0) → (x : Bool) → stands D I c (j / 4) ≡ x → Dec (j / 4 % 4 ≡ 0) → (y : Bool) → c.s_d (j / 4 / 4) ≡ y
          → (j / 4 ≤ n → j / 4 < I → alone D I c (j / 4) ≡ false → get_or m (j / 4) 0 ≡ 0 → Follows (j / 4)) → Follows j
      on (no z) x ex w y ey ih =
          let same : (j - 1) / 4 ≡ j / 4 = omega arith in (
            alone_no D I c (j - 1) (omega (arith, dj, sz.fours)) (subst (λ (h : ℕ). c.s_d h ≡ false) (sym same) (no_alone D I c j o).1),
            hold_four I m j (j - 1) (omega arith) (sym same),
          )
      on (yes z) true ex w y ey ih = absurd (omega (arith, k.tab.head j hj o z ex))
      on (yes z) false ex (no w) y ey ih = inside y ey
        where
          lo : D ≤ j / 4
          lo = (no_stands D I c (j / 4) ex).0

          back : (j - 1) / 4 ≡ j / 4 - 1
          back = omega (arith, z)

          more : D ≤ (j - 1) / 4
          more = beyond (j / 4) lo w back
            where
              beyond : (x : ℕ) → D ≤ x → (x % 4 ≡ 0 → ⊥) → (j - 1) / 4 ≡ x - 1 → D ≤ (j - 1) / 4
              beyond x l n e = omega (arith, sz.fours)

          same : (j - 1) / 4 / 4 ≡ j / 4 / 4
          same = omega arith

          shut : c.s_g (j / 4 / 4) ≡ false
          shut = (no_stands D I c (j / 4) ex).1

          before : stands D I c ((j - 1) / 4) ≡ false
          before = stands_no D I c ((j - 1) / 4) more (subst (λ (h : ℕ). c.s_g h ≡ false) (sym same) shut)

          off : alone D I c (j - 1) ≡ false
          off = alone_no D I c (j - 1) (omega (arith, more)) (no_dg D I c k.ok ((j - 1) / 4) before)

          inside : (y : Bool) → c.s_d (j / 4 / 4) ≡ y → Follows j
          inside true ey = (
            off,
            held_g sz c m k (j / 4 / 4) j (k.ok.lo (j / 4 / 4) ey) ey shut hj (kid refl)
                ∙ sym (held_g sz c m k (j / 4 / 4) (j - 1) (k.ok.lo (j / 4 / 4) ey) ey shut (omega arith) (kid same)),
          )
          inside false ey = (
            off,
            hold_parent j hj (alone_no D I c (j / 4) lo ey)
                ∙ hold_four I m (j / 4) ((j - 1) / 4) (omega arith) (sym same)
                ∙ sym (hold_parent (j - 1) (omega arith) (alone_no D I c ((j - 1) / 4) more (subst (λ (h : ℕ). c.s_d h ≡ false) (sym same) ey))),
          )
      on (yes z) false ex (yes w) true ey ih = absurd (omega (arith, k.tab.mid j hj o z ex w ey))
      on (yes z) false ex (yes w) false ey ih =
          let lo : D ≤ j / 4 = (no_stands D I c (j / 4) ex).0 in
          let par : alone D I c (j / 4) ≡ false = alone_no D I c (j / 4) lo ey in
          let none : get_or m (j / 4) 0 ≡ 0 = blank (kind_no sz c k.ok (λ i. get_or m i 0) k.tab (j / 4) (omega arith) par) (sym (k.tab.deep j hj o z ex w ey) ∙ e) in
          let r : Follows (j / 4) = ih (omega (arith, dj, sz.least)) (omega arith) par none in
          let same : j / 4 - 1 ≡ (j - 1) / 4 = omega (arith, dj, sz.least) in
          let side : alone D I c ((j - 1) / 4) ≡ false = subst (λ (x : ℕ). alone D I c x ≡ false) same r.0 in (
            (low D I c k.ok (j - 1) (no_alone D I c ((j - 1) / 4) side).0 side).1,
            hold_parent j hj par ∙ r.1 ∙ ap (λ (x : ℕ). holder I m x) same ∙ sym (hold_parent (j - 1) (omega arith) side),
          )
        where
          blank : (get_or m (j / 4) 0 ≡ 0) ⊎ (5 ≤ get_or m (j / 4) 0) → up (get_or m (j / 4) 0) ≡ 0 → get_or m (j / 4) 0 ≡ 0
          blank (inl x) q = x
          blank (inr x) q = absurd (big (dec_lt (get_or m (j / 4) 0) 7))
            where
              big : Dec (get_or m (j / 4) 0 < 7) → ⊥
              big (yes y) = omega (arith, up_5 (get_or m (j / 4) 0) x y)
              big (no y) = omega (arith, up_7 (get_or m (j / 4) 0) (omega arith))

  kind_of : (j : ℕ) → j < I → alone D I c j ≡ false → (get_or m j 0 ≡ 0) ⊎ (5 ≤ get_or m j 0)
  kind_of j hj a = kind_no sz c k.ok (λ i. get_or m i 0) k.tab j hj a

  pub turn_none : (j : ℕ) → j < I → get_or m j 0 ≡ 0 → turn I m j ≡ turn I m (j - 1)
  turn_none j hj e =
      let r : Follows j = follows j j (omega arith) hj (unmarked sz c m k j hj (inl e)) e in
      turn_set I m j (inl e) ∙ ap (λ (x : ℕ). I + x) r.1 ∙ sym (turn_set I m (j - 1) (kind_of (j - 1) (omega arith) r.0))

  pub turn_head : (j : ℕ) → j < I → 5 ≤ get_or m j 0 → get_or m j 0 ≤ 6 → turn I m j ≡ I + j
  turn_head j hj lo hi = turn_set I m j (inr lo) ∙ ap (λ (x : ℕ). I + x) (on (ℕ_discrete (get_or m j 0) 5))
    where
      on : Dec (get_or m j 0 ≡ 5) → holder I m j ≡ j
      on (yes e) =
          let d : Desc_at D I c j = is_desc_at sz c m k j hj e in
          held_d sz c m k (j / 4) j (omega (arith, d.0, d.3)) d.1 d.2 hj (kid refl) ∙ omega (arith, d.0)
      on (no e) =
          let g : Grand_at D I c j = is_grand_at sz c m k j hj (omega arith) in
          held_g sz c m k (j / 16) j g.3 g.1 g.2 hj (kid (omega arith)) ∙ sym g.0

  pub turn_row : (j : ℕ) → j < I → 7 ≤ get_or m j 0 → turn I m j ≡ turn I m (j / 4)
  turn_row j hj h = on (ℕ_discrete (j % 4) 0) (stands D I c (j / 4)) refl (ℕ_discrete (j / 4 % 4) 0) (c.s_d (j / 4 / 4)) refl
    where
      a : alone D I c j ≡ false
      a = not_alone sz c m k j hj (omega arith)

      on : Dec (j % 4 ≡ 0) → (x : Bool) → stands D I c (j / 4) ≡ x → Dec (j / 4 % 4 ≡ 0) → (y : Bool) → c.s_d (j / 4 / 4) ≡ y → turn I m j ≡ turn I m (j / 4)
      on (no z) x ex w y ey = absurd (omega (arith, k.tab.odd j hj a z))
      on (yes z) true ex w y ey = absurd (omega (arith, k.tab.head j hj a z ex))
      on (yes z) false ex (no w) y ey = absurd (omega (arith, k.tab.side j hj a ex w))
      on (yes z) false ex (yes w) true ey = absurd (omega (arith, k.tab.mid j hj a z ex w ey))
      on (yes z) false ex (yes w) false ey =
          let par : alone D I c (j / 4) ≡ false = alone_no D I c (j / 4) (no_stands D I c (j / 4) ex).0 ey in
          turn_set I m j (inr (omega arith)) ∙ ap (λ (x : ℕ). I + x) (hold_parent j hj par) ∙ sym (turn_set I m (j / 4) (kind_of (j / 4) (omega arith) par))

  -- all of a row have one turn
  pub row_same : (t d : ℕ) → t < I → 5 ≤ get_or m t 0 → d < skip (get_or m t 0) → t + d < I → turn I m (t + d) ≡ turn I m t
  row_same t zero ht h l r = ap (λ (x : ℕ). turn I m x) {x = t + zero} {y = t} (omega arith)
  row_same t (suc d) ht h l r =
      let z : get_or m (t + suc d) 0 ≡ 0 = (gap sz c (λ i. get_or m i 0) k.ok k.tab t ht (not_alone sz c m k t ht h) h (t + suc d) (omega arith) (omega arith) r).1 in
      turn_none (t + suc d) r z ∙ ap (λ (x : ℕ). turn I m x) {x = t + suc d - 1} {y = t + d} (omega arith) ∙ row_same t d ht h (omega arith) (omega arith)

  -- MNk is the mark of the parent's row, one level down
  pub row_of : (j : ℕ) → j < I → 7 ≤ get_or m j 0 → (j % 4 ≡ 0) × (get_or m j 0 ≡ up (get_or m (j / 4) 0)) × (5 ≤ get_or m (j / 4) 0) × (4 ≤ j)
  row_of j hj h = on (ℕ_discrete (j % 4) 0) (stands D I c (j / 4)) refl (ℕ_discrete (j / 4 % 4) 0) (c.s_d (j / 4 / 4)) refl
    where
      a : alone D I c j ≡ false
      a = not_alone sz c m k j hj (omega arith)

      on : Dec (j % 4 ≡ 0) → (x : Bool) → stands D I c (j / 4) ≡ x → Dec (j / 4 % 4 ≡ 0) → (y : Bool) → c.s_d (j / 4 / 4) ≡ y
          → (j % 4 ≡ 0) × (get_or m j 0 ≡ up (get_or m (j / 4) 0)) × (5 ≤ get_or m (j / 4) 0) × (4 ≤ j)
      on (no z) x ex w y ey = absurd (omega (arith, k.tab.odd j hj a z))
      on (yes z) true ex w y ey = absurd (omega (arith, k.tab.head j hj a z ex))
      on (yes z) false ex (no w) y ey = absurd (omega (arith, k.tab.side j hj a ex w))
      on (yes z) false ex (yes w) true ey = absurd (omega (arith, k.tab.mid j hj a z ex w ey))
      on (yes z) false ex (yes w) false ey =
          let e : get_or m j 0 ≡ up (get_or m (j / 4) 0) = k.tab.deep j hj a z ex w ey in
          (z, e, up_big (get_or m (j / 4) 0) (omega arith), omega (arith, (no_alone D I c j a).0, sz.least))

-- ---- where a row ends
four_two : (p : ℕ) → 4 ^ p ≡ 2 ^ (2 * p)
four_two zero = refl
four_two (suc p) =
    let e : 2 * suc p ≡ suc (suc (2 * p)) = omega arith in
    pow-succ' 4 p ∙ ap (λ (x : ℕ). 4 * x) (four_two p) ∙ sym (ap (λ (x : ℕ). 2 ^ x) e ∙ pow-succ' 2 (suc (2 * p)) ∙ ap (λ (x : ℕ). 2 * x) (pow-succ' 2 (2 * p)) ∙ omega arith)

-- a multiple of a power of 4 that is below a higher one
pub room_four : (p n x q : ℕ) → x ≡ q * 4 ^ p → 1 ≤ x → x < 4 ^ n → x + 4 ^ p ≤ 4 ^ n
room_four p n x q e h l = ⊎_elim low (λ k. absurd (high k)) (order p n)
  where
    multiple : x % 2 ^ (2 * p) ≡ 0
    multiple = ap (λ (y : ℕ). y % 2 ^ (2 * p)) (e ∙ ap (λ (y : ℕ). q * y) (four_two p)) ∙ mul-mod_left q (2 ^ (2 * p))

    low : p ≤ n → x + 4 ^ p ≤ 4 ^ n
    low k = omega (arith, four_two p, four_two n, room (2 * p) (2 * n) x (omega arith) multiple (omega (arith, four_two n)))

    high : n < p → ⊥
    high k = ⊎_elim (λ y. omega (arith, mul-le-mul_right {m = 1} {n = q} (4 ^ p) y, four_two p, four_two n, pow_mono {i = 2 * n} {j = 2 * p} (omega arith))) (λ y. omega (arith, e, ap (λ (z : ℕ). z * 4 ^ p) {x = q} {y = 0} (omega arith))) (order 1 q)

module _ (N L : ℕ) (size : Sized N L) (c : Cfg) (m : List ℕ) (k : Core (tiled N L size) c m) where
  -- a row begins at a multiple of its length, a power of 4
  abbrev Even : ℕ → Type 0
  Even j = (p : ℕ) × (q : ℕ) × (skip (get_or m j 0) ≡ 4 ^ p) × (j ≡ q * 4 ^ p)

  even : (n j : ℕ) → j ≤ n → j < all_of N → 5 ≤ get_or m j 0 → Even j
  even zero j a hj h = absurd (omega (arith, (no_alone (coarsest_of N L) (all_of N) c j (not_alone (tiled N L size) c m k j hj h)).0, (tiled N L size).least))
  even (suc n) j a hj h = on (ℕ_discrete (get_or m j 0) 5) (ℕ_discrete (get_or m j 0) 6) (even n (j / 4))
    where
      on : Dec (get_or m j 0 ≡ 5) → Dec (get_or m j 0 ≡ 6) → (j / 4 ≤ n → j / 4 < all_of N → 5 ≤ get_or m (j / 4) 0 → Even (j / 4)) → Even j
      on (yes e) y ih =
          let d : Desc_at (coarsest_of N L) (all_of N) c j = is_desc_at (tiled N L size) c m k j hj e in
          (1, j / 4, ap skip e ∙ skip_5 5 (lit≤ tt) (lit< tt), omega (arith, d.0))
      on (no e) (yes y) ih =
          let g : Grand_at (coarsest_of N L) (all_of N) c j = is_grand_at (tiled N L size) c m k j hj y in
          (2, j / 16, ap skip y ∙ skip_5 6 (lit≤ tt) (lit< tt), omega (arith, g.0))
      on (no e) (no y) ih =
          let r = row_of N L size c m k j hj (omega arith) in
          let t : Even (j / 4) = ih (omega (arith, r.3)) (omega arith) r.2 in (
            suc t.0,
            t.1,
            ap skip r.1 ∙ skip_up (get_or m (j / 4) 0) r.2 ∙ ap (λ (x : ℕ). 4 * x) t.2 ∙ sym (pow-succ' 4 t.0),
            omega (arith, r.0, t.3, ap (λ (x : ℕ). t.1 * x) (pow-succ' 4 t.0), mul_left_comm t.1 4 (4 ^ t.0)),
          )

  pub row_fits : (j : ℕ) → j < all_of N → 5 ≤ get_or m j 0 → j + skip (get_or m j 0) ≤ all_of N
  row_fits j hj h =
      let t : Even j = even j j (omega arith) hj h in
      let d : coarsest_of N L ≤ j = (no_alone (coarsest_of N L) (all_of N) c j (not_alone (tiled N L size) c m k j hj h)).0 in
      omega (arith, t.2, room_four t.0 N j t.1 t.3 (omega (arith, d, (tiled N L size).least)) hj)
