-- What a plane has noted, from the marks and the place: only coefficients that were asked for, and members of sets that were tested 0.
use mathlib.Core.Path.{◌≡◌, refl, sym, ap, subst, ◌∙◌}
use mathlib.Core.Bool.{Bool, true, false, true≢false}
use mathlib.Core.Logic.{⊎_elim}
use mathlib.Core.List.{List}
use Prim.Native.Nat.{ℕ, zero, suc, ◌+◌, ◌*◌, ◌-◌, ◌/◌, ◌≤◌, ◌<◌}
use native.Mathlib.Omega.{arith}
use native.Mathlib.Decide.{ℕ_discrete}
use lib.Dec.{ltb, eqb}
use lib.ListN.{length, get_or, set, length-set, get_or-eq_default}
use Rattle.nls.proofs.Counting.Sums.{order}
use lib.Seq.{get_or-set_same, get_or-set_other}
use borrow.Author.Tests.{ltb-true, eqb-true}
use Rattle.sizes.specs.Sizes.{all_of, coarsest_of, Sized}
use Rattle.tree.specs.Tree.{desc, grand, any_in}
use Rattle.tree.proofs.Members.{InDesc, InGrand, desc_find, grand_find}
use Rattle.nls.specs.Marks.{push, split_desc, split_grand}
use Rattle.nls.specs.Scan as scan
use Rattle.nls.specs.Scan.{State, Look, over, silent, asks, Pass, pixels, sets, refining, look_at, look_pixels, look_sets, look_refining, tell_at, tell_sets}
use Rattle.nls.specs.Reading.{Known, set_each, learn}
use Rattle.nls.proofs.Tiled.{Tiled, tiled}
use Rattle.nls.proofs.Arrays.{Bits}
use Rattle.nls.proofs.Machine.Table.{Cfg, alone_no}
use Rattle.nls.proofs.Machine.Push.{push_off, line_ge, al_g, alone_g}
use Rattle.nls.proofs.Machine.Split.{with_d, with_g, alone_off, al_d_off}
use Rattle.nls.proofs.Machine.Cover.{Under, Core, Sets, is_alone, is_desc_at, is_grand_at, sets_d1, sets_g1, Alone_at, Desc_at, Grand_at}
use Rattle.nls.proofs.Machine.Steps.{preds, Good_at}
use Rattle.nls.proofs.Reading.Told.{below_under}
use Rattle.nls.proofs.Judging.Clash.{dead_d, dead_g}
use Rattle.nls.proofs.Kept.{AfterMove}
use Rattle.nls.proofs.Known.{plane_at}
use Rattle.nls.proofs.KnownBits.{under_is}
use Rattle.nls.proofs.Precision.PlaneEnds.{notes}
use Rattle.nls.proofs.Precision.Noted.{each_length, each_in, each_out}

-- a split at t writes nothing before t
before_root : (I i : ℕ) (m : List ℕ) (k : ℕ) → k < i → get_or (push I i (set m i 5)) k 0 ≡ get_or m k 0
before_root I i m k h = push_off I I (4 * i) 7 (set m i 5) k (λ x. omega (arith, line_ge (4 * i) k x)) ∙ get_or-set_other m i k 5 0 (λ q. omega arith)

before_grand : (I t : ℕ) (m : List ℕ) (k : ℕ) → k < t → get_or (split_grand I t m) k 0 ≡ get_or m k 0
before_grand I t m k h =
    before_root I (t + 12) (push I (t + 8) (set (push I (t + 4) (set (push I t (set m t 5)) (t + 4) 5)) (t + 8) 5)) k (omega arith)
    ∙ before_root I (t + 8) (push I (t + 4) (set (push I t (set m t 5)) (t + 4) 5)) k (omega arith)
    ∙ before_root I (t + 4) (push I t (set m t 5)) k (omega arith)
    ∙ before_root I t m k h

before_desc : (I t : ℕ) (m : List ℕ) (x : Bool) (k : ℕ) → k < t → get_or (split_desc I t m x) k 0 ≡ get_or m k 0
before_desc I t m x k h = on x
  where
    four : get_or (split_desc I t m false) k 0 ≡ get_or m k 0
    four =
        get_or-set_other (set (set (set m t 4) (t + 1) 4) (t + 2) 4) (t + 3) k 4 0 (λ q. omega arith)
        ∙ get_or-set_other (set (set m t 4) (t + 1) 4) (t + 2) k 4 0 (λ q. omega arith)
        ∙ get_or-set_other (set m t 4) (t + 1) k 4 0 (λ q. omega arith)
        ∙ get_or-set_other m t k 4 0 (λ q. omega arith)

    on : (x : Bool) → get_or (split_desc I t m x) k 0 ≡ get_or m k 0
    on true = get_or-set_other (split_desc I t m false) (4 * t) k 6 0 (λ q. omega arith) ∙ four
    on false = four

-- where the set pass stands at i
pub data Seen (i : ℕ) (m : List ℕ) (j : ℕ) : Type 0 where
  by_itself : 1 ≤ get_or m j 0 → get_or m j 0 ≤ 2 → Seen i m j
  in_desc : (h : ℕ) → get_or m (4 * h) 0 ≡ 5 → 4 * h < i → Under h j → Seen i m j
  in_grand : (q : ℕ) → get_or m (16 * q) 0 ≡ 6 → 16 * q < i → Under q (j / 4) → Seen i m j

seen_to : {i i' : ℕ} {m m' : List ℕ} {j : ℕ} → i ≤ i' → ((1 ≤ get_or m j 0) → get_or m j 0 ≤ 2 → get_or m' j 0 ≡ get_or m j 0) → ((k : ℕ) → k < i → get_or m' k 0 ≡ get_or m k 0) → Seen i m j → Seen i' m' j
seen_to h f g (by_itself a b) = by_itself (omega (arith, f a b)) (omega (arith, f a b))
seen_to h f g (in_desc k e l u) = in_desc k (g (4 * k) l ∙ e) (omega arith) u
seen_to h f g (in_grand k e l u) = in_grand k (g (16 * k) l ∙ e) (omega arith) u

seen_on : {i i' : ℕ} {m : List ℕ} {j : ℕ} → i ≤ i' → Seen i m j → Seen i' m j
seen_on h s = seen_to h (λ a b. refl) (λ k l. refl) s

abbrev pub SeenIn : Pass → ℕ → List ℕ → ℕ → Type 0
SeenIn pixels i m j = (1 ≤ get_or m j 0) × (get_or m j 0 ≤ 2) × (j < i)
SeenIn sets i m j = Seen i m j
SeenIn refining i m j = get_or m j 0 ≡ 3 → j < i

-- plane b is in progress: nothing lies below it, and what was noted in it was seen
pub record Only (I b : ℕ) (p : Pass) (i : ℕ) (m pl : List ℕ) : Type 0 where
  pub long : length pl ≡ I
  pub low : (j : ℕ) → j < I → b ≤ get_or pl j 0
  pub seen : (j : ℕ) → j < I → get_or pl j 0 ≤ b → SeenIn p i m j

only_to : {I b : ℕ} {p p' : Pass} {i i' : ℕ} {m m' pl : List ℕ} → ((j : ℕ) → j < I → SeenIn p i m j → SeenIn p' i' m' j) → Only I b p i m pl → Only I b p' i' m' pl
only_to f r = record { long = r.long; low = r.low; seen = λ j hj e. f j hj (r.seen j hj e) }

-- place t is noted
only_set : {I b : ℕ} {p p' : Pass} {i i' : ℕ} {m m' pl : List ℕ} (t : ℕ) → (t < I → SeenIn p' i' m' t) → ((j : ℕ) → j < I → (j ≡ t → ⊥) → SeenIn p i m j → SeenIn p' i' m' j)
    → Only I b p i m pl → Only I b p' i' m' (set pl t b)
only_set {I} {b} {p} {p'} {i} {i'} {m} {m'} {pl} t f g r = record {
  long = length-set pl t b ∙ r.long;
  low = λ j hj. plane_at pl t b (λ n. b ≤ n) j (omega (arith, r.long)) (λ q. omega arith) (r.low j hj);
  seen = λ j hj e. on j hj e (ℕ_discrete j t);
}
  where
    on : (j : ℕ) → j < I → get_or (set pl t b) j 0 ≤ b → Dec (j ≡ t) → SeenIn p' i' m' j
    on j hj e (yes q) = subst (λ (x : ℕ). SeenIn p' i' m' x) (sym q) (f (omega arith))
    on j hj e (no q) = g j hj q (r.seen j hj (omega (arith, get_or-set_other pl t j b 0 q)))

-- a mark lies in the table
pub in_table : {D I : ℕ} (sz : Tiled D I) (c : Cfg) (m : List ℕ) → Core sz c m → (q : ℕ) → 1 ≤ get_or m q 0 → q < I
in_table {D} {I} sz c m k q n = ⊎_elim (λ h. absurd (omega (arith, get_or-eq_default m 0 {n = q} (omega (arith, k.len))))) (λ h. h) (order I q)

-- the members of a set are noted
only_each : {I b : ℕ} {i i' : ℕ} {m pl : List ℕ} (l : List ℕ) → i ≤ i' → ((j : ℕ) → j < I → any_in (λ x. eqb x j) l ≡ true → Seen i' m j)
    → Only I b sets i m pl → Only I b sets i' m (set_each l b pl)
only_each {I} {b} {i} {i'} {m} {pl} l h f r = record {
  long = each_length l b pl ∙ r.long;
  low = λ j hj. low j hj (any_in (λ x. eqb x j) l) refl;
  seen = λ j hj e. on j hj e (any_in (λ x. eqb x j) l) refl;
}
  where
    low : (j : ℕ) → j < I → (x : Bool) → any_in (λ x. eqb x j) l ≡ x → b ≤ get_or (set_each l b pl) j 0
    low j hj true ex = omega (arith, each_in l b pl j (omega (arith, hj, r.long)) ex)
    low j hj false ex = omega (arith, each_out l b pl j (omega (arith, hj, r.long)) ex, r.low j hj)

    on : (j : ℕ) → j < I → get_or (set_each l b pl) j 0 ≤ b → (x : Bool) → any_in (λ x. eqb x j) l ≡ x → Seen i' m j
    on j hj e true ex = f j hj ex
    on j hj e false ex = seen_on h (r.seen j hj (omega (arith, each_out l b pl j (omega (arith, hj, r.long)) ex)))

module _ (N L : ℕ) (size : Sized N L) (P : ℕ) where
  abbrev I : ℕ
  I = all_of N

  abbrev D : ℕ
  D = coarsest_of N L

  abbrev sz : Tiled D I
  sz = tiled N L size

  abbrev pub OnlyAt : ℕ → Pass → ℕ → List ℕ → List ℕ → Type 0
  OnlyAt zero p i m pl = Unit {0}
  OnlyAt (suc b) p i m pl = Only I b p i m pl

  abbrev pub OnlyOf : List ℕ → State → Type 0
  OnlyOf pl t = OnlyAt t.left t.pass t.place t.marks pl

  -- members of the sets that were asked about
  pub of_desc : (g j : ℕ) → any_in (λ x. eqb x j) (desc N L g) ≡ true → Under g j
  of_desc g j e =
      let r : (i : ℕ) × InDesc N L g i × (eqb i j ≡ true) = desc_find N L size (λ x. eqb x j) g e in
      subst (λ (x : ℕ). Under g x) (eqb-true r.0 j r.2) (below_under N g r.0 (under_is N g r.0 ∙ r.1.2))

  pub of_grand : (g j : ℕ) → any_in (λ x. eqb x j) (grand N L g) ≡ true → Under g (j / 4)
  of_grand g j e =
      let r : (i : ℕ) × InGrand N L g i × (eqb i j ≡ true) = grand_find N L size (λ x. eqb x j) g e in
      subst (λ (x : ℕ). Under g (x / 4)) (eqb-true r.0 j r.2) (below_under N g (r.0 / 4) (under_is N g (r.0 / 4) ∙ r.1.2))

  module _ (k : Bits) (o : Known) where
    abbrev Held : ℕ → Pass → ℕ → Bool → List ℕ → Type 0
    Held l p i w m = Good_at sz P (notes N L size P k o) l p i w m

    -- nothing that was seen in the set pass has MSP
    not_found : (b i : ℕ) (m : List ℕ) (c : Cfg) → Core sz c m → (j : ℕ) → j < I → Seen i m j → get_or m j 0 ≡ 3 → ⊥
    not_found b i m c r j hj (by_itself x y) e = omega arith
    not_found b i m c r j hj (in_desc h d l u) e =
        let w : Desc_at D I c (4 * h) = is_desc_at sz c m r (4 * h) (in_table sz c m r (4 * h) (omega arith)) d in
        let a : Alone_at D I c m j = is_alone sz c m r j hj (omega arith) (omega arith) in
        true≢false (sym a.0 ∙ dead_d sz c r.ok h j w.3 (subst (λ (x : ℕ). c.s_d x ≡ false) {x = 4 * h / 4} {y = h} (omega arith) w.2) u)
    not_found b i m c r j hj (in_grand q d l u) e =
        let w : Grand_at D I c (16 * q) = is_grand_at sz c m r (16 * q) (in_table sz c m r (16 * q) (omega arith)) d in
        let a : Alone_at D I c m j = is_alone sz c m r j hj (omega arith) (omega arith) in
        let same : 16 * q / 16 ≡ q = omega arith in
        true≢false (sym a.0 ∙ dead_g sz c r.ok q j (omega (arith, w.3)) (subst (λ (x : ℕ). c.s_g x ≡ false) same w.2) u)

    -- silent moves
    module _ (pl : List ℕ) where
      abbrev Moves : Look → Type 0
      Moves = AfterMove I (OnlyOf pl)

      only_pixels : (b i : ℕ) (m : List ℕ) (x y : Bool) → Only I b pixels i m pl → Moves (look_pixels b i m x y)
      only_pixels b i m false y r = only_to (λ j hj s. by_itself s.0 s.1) r
      only_pixels b i m true true r = tt
      only_pixels b i m true false r = only_to (λ j hj s. (s.0, s.1, omega (arith, s.2))) r

      only_sets : (b i : ℕ) (m : List ℕ) (x d g c : Bool) → Held (suc b) sets i false m → Only I b sets i m pl → Moves (look_sets b i m x d g c)
      only_sets b i m false d g c h r = only_to (λ j hj s e. absurd (not_found b i m h.1.0 h.1.1.core j hj s e)) r
      only_sets b i m true true g c h r = tt
      only_sets b i m true false true c h r = tt
      only_sets b i m true false false true h r = tt
      only_sets b i m true false false false h r = only_to (λ j hj s. seen_on (omega arith) s) r

      only_refining : (b i : ℕ) (m : List ℕ) (x s n : Bool) → Only I b refining i m pl → Moves (look_refining b i m x s n)
      only_refining b i m false s n r = on b r
        where
          on : (b : ℕ) → Only I b refining i m pl → OnlyAt b pixels 0 m pl
          on zero r = tt
          on (suc a) r = record { long = r.long; low = λ j hj. omega (arith, r.low j hj); seen = λ j hj e. absurd (omega (arith, r.low j hj)) }
      only_refining b i m true true n r = tt
      only_refining b i m true false true r = only_to (λ j hj s e. on j s e (ℕ_discrete j i)) r
        where
          on : (j : ℕ) → (get_or m j 0 ≡ 3 → j < i) → get_or (set m i 3) j 0 ≡ 3 → Dec (j ≡ i) → j < i + 1
          on j s e (yes q) = omega arith
          on j s e (no q) = omega (arith, s (sym (get_or-set_other m i j 3 0 q) ∙ e))
      only_refining b i m true false false r = only_to (λ j hj s e. omega (arith, s e)) r

      pub only_look : (l : ℕ) (p : Pass) (i : ℕ) (w : Bool) (m : List ℕ) → Held l p i w m → OnlyAt l p i m pl → Moves (look_at I l p i w m)
      only_look zero p i w m h r = tt
      only_look (suc b) p i true m h r = tt
      only_look (suc b) pixels i false m h r = only_pixels b i m (ltb i I) (eqb (get_or m i 0) 1) r
      only_look (suc b) sets i false m h r = only_sets b i m (ltb i I) (eqb (get_or m i 0) 5) (eqb (get_or m i 0) 6) (eqb (get_or m i 0) 4) h r
      only_look (suc b) refining i false m h r = only_refining b i m (ltb i I) (eqb (get_or m i 0) 3) (eqb (get_or m i 0) 2) r

    -- an answer a in plane b, in pass p; t is the state after it
    abbrev pub Tells : ℕ → Pass → Bool → State → Look → Type 0
    Tells b p a t over = Unit {0}
    Tells b p a t (silent r) = Unit {0}
    Tells b p a t (asks q) = OnlyOf (learn N L p b q a o).planes t

    tells_pixels : (b i : ℕ) (m : List ℕ) (a x y : Bool) → eqb (get_or m i 0) 1 ≡ y → Only I b pixels i m o.planes → Tells b pixels a (tell_at I (suc b) pixels i false m a) (look_pixels b i m x y)
    tells_pixels b i m a false y ey r = tt
    tells_pixels b i m true true true ey r = r
    tells_pixels b i m false true true ey r =
        only_set i (λ hi. let e : get_or m i 0 ≡ 1 = eqb-true (get_or m i 0) 1 ey in (omega arith, omega arith, omega arith)) (λ j hj q s. (s.0, s.1, omega (arith, s.2))) r
    tells_pixels b i m a true false ey r = tt

    -- marks of coefficients by themselves are kept by a split
    pub kept_d : (b i : ℕ) (m : List ℕ) → Held (suc b) sets i false m → i < I → get_or m i 0 ≡ 5 → (j : ℕ) → j < I → 1 ≤ get_or m j 0 → get_or m j 0 ≤ 4 → get_or (split_desc I i m (ltb (4 * i) I)) j 0 ≡ get_or m j 0
    kept_d b i m h hi e j hj lo up =
        next.core.tab.solo j hj (alone_off D I (i / 4) c j other ∙ a.0) ∙ al_d_off (i / 4) c j other ∙ a.1
      where
        c : Cfg
        c = h.1.0

        next : Sets sz (preds (notes N L size P k o) b) ((notes N L size P k o).X b) i (with_d (i / 4) c) (split_desc I i m (ltb (4 * i) I))
        next = sets_d1 sz (preds (notes N L size P k o) b) ((notes N L size P k o).X b) i c m h.1.1 hi e tt

        a : Alone_at D I c m j
        a = is_alone sz c m h.1.1.core j hj lo (omega arith)

        d : Desc_at D I c i
        d = is_desc_at sz c m h.1.1.core i hi e

        other : j / 4 ≡ i / 4 → ⊥
        other q = true≢false (sym a.0 ∙ alone_no D I c j (omega (arith, d.0, d.3)) (subst (λ (x : ℕ). c.s_d x ≡ false) (sym q) d.2))

    pub kept_g : (b i : ℕ) (m : List ℕ) → Held (suc b) sets i false m → i < I → get_or m i 0 ≡ 6 → (j : ℕ) → j < I → 1 ≤ get_or m j 0 → get_or m j 0 ≤ 4 → get_or (split_grand I i m) j 0 ≡ get_or m j 0
    kept_g b i m h hi e j hj lo up =
        next.core.tab.solo j hj (alone_g D I (i / 16) c j ∙ a.0) ∙ al_g (i / 16) c j ∙ a.1
      where
        c : Cfg
        c = h.1.0

        next : Sets sz (preds (notes N L size P k o) b) ((notes N L size P k o).X b) i (with_g (i / 16) c) (split_grand I i m)
        next = sets_g1 sz (preds (notes N L size P k o) b) ((notes N L size P k o).X b) i c m h.1.1 hi e tt

        a : Alone_at D I c m j
        a = is_alone sz c m h.1.1.core j hj lo (omega arith)

    -- MIP or MNP is put at i, where there was MCP
    seen_put : (i v : ℕ) (m : List ℕ) (j : ℕ) → (j ≡ i → ⊥) → Seen i m j → Seen (i + 1) (set m i v) j
    seen_put i v m j q s = seen_to (omega arith) (λ a b. get_or-set_other m i j v 0 q) (λ x l. get_or-set_other m i x v 0 (λ y. omega arith)) s

    put_seen : (i v : ℕ) (m : List ℕ) → i < length m → 1 ≤ v → v ≤ 2 → Seen (i + 1) (set m i v) i
    put_seen i v m h lo up = by_itself (omega (arith, get_or-set_same m i v 0 h)) (omega (arith, get_or-set_same m i v 0 h))

    tells_sets : (b i : ℕ) (m : List ℕ) (a x d g c : Bool) → ltb i I ≡ x → eqb (get_or m i 0) 5 ≡ d → eqb (get_or m i 0) 6 ≡ g → Held (suc b) sets i false m
        → Only I b sets i m o.planes → Tells b sets a (tell_sets I (suc b) i m a d g) (look_sets b i m x d g c)
    tells_sets b i m a false d g c ex ed eg h r = tt
    tells_sets b i m true true true g c ex ed eg h r =
        only_to (λ j hj s. seen_to (omega arith) (λ lo up. kept_d b i m h (ltb-true i I ex) (eqb-true (get_or m i 0) 5 ed) j hj lo (omega arith)) (λ x l. before_desc I i m (ltb (4 * i) I) x l) s) r
    tells_sets b i m false true true g c ex ed eg h r =
        let e : get_or m i 0 ≡ 5 = eqb-true (get_or m i 0) 5 ed in
        let w : Desc_at D I h.1.0 i = is_desc_at sz h.1.0 m h.1.1.core i (ltb-true i I ex) e in
        let t : 4 * (i / 4) ≡ i = omega (arith, w.0) in
        only_each (desc N L (i / 4)) (omega arith) (λ j hj y. in_desc (i / 4) (ap (λ (x : ℕ). get_or m x 0) t ∙ e) (omega arith) (of_desc (i / 4) j y)) r
    tells_sets b i m true true false true c ex ed eg h r =
        only_to (λ j hj s. seen_to (omega arith) (λ lo up. kept_g b i m h (ltb-true i I ex) (eqb-true (get_or m i 0) 6 eg) j hj lo (omega arith)) (λ x l. before_grand I i m x l) s) r
    tells_sets b i m false true false true c ex ed eg h r =
        let e : get_or m i 0 ≡ 6 = eqb-true (get_or m i 0) 6 eg in
        let w : Grand_at D I h.1.0 i = is_grand_at sz h.1.0 m h.1.1.core i (ltb-true i I ex) e in
        only_each (grand N L (i / 16)) (omega arith) (λ j hj y. in_grand (i / 16) (ap (λ (x : ℕ). get_or m x 0) (sym w.0) ∙ e) (omega arith) (of_grand (i / 16) j y)) r
    tells_sets b i m true true false false true ex ed eg h r = r
    tells_sets b i m false true false false true ex ed eg h r =
        only_set i (λ hi. put_seen i 1 m (omega (arith, h.1.1.core.len)) (omega arith) (omega arith)) (λ j hj q s. seen_put i 1 m j q s) r
    tells_sets b i m a true false false false ex ed eg h r = tt

    tells_refining : (b i : ℕ) (m : List ℕ) (a x s n : Bool) → Only I b refining i m o.planes → Tells b refining a (scan.state_at (suc b) refining (i + 1) m) (look_refining b i m x s n)
    tells_refining b i m a false s n r = tt
    tells_refining b i m a true true n r = only_set i (λ hi e. omega arith) (λ j hj q s e. omega (arith, s e)) r
    tells_refining b i m a true false true r = tt
    tells_refining b i m a true false false r = tt

    tells_sign : (b : ℕ) (p : Pass) (i : ℕ) (m : List ℕ) → Held (suc b) p i true m → Only I b p i m o.planes → Only I b p (i + 1) (set m i 2) (set o.planes i b)
    tells_sign b pixels i m h r =
        only_set i (λ hi. let e : get_or (set m i 2) i 0 ≡ 2 = get_or-set_same m i 2 0 (omega (arith, h.1.1.core.len)) in (omega arith, omega arith, omega arith))
        (λ j hj q s. let e : get_or (set m i 2) j 0 ≡ get_or m j 0 = get_or-set_other m i j 2 0 q in (omega (arith, s.0), omega (arith, s.1), omega (arith, s.2))) r
    tells_sign b sets i m h r = only_set i (λ hi. put_seen i 2 m (omega (arith, h.1.1.core.len)) (omega arith) (omega arith)) (λ j hj q s. seen_put i 2 m j q s) r
    tells_sign b refining i m h r = absurd h

    tells_in : (b : ℕ) (p : Pass) (i : ℕ) (w : Bool) (m : List ℕ) (a : Bool) → Held (suc b) p i w m → Only I b p i m o.planes → Tells b p a (tell_at I (suc b) p i w m a) (look_at I (suc b) p i w m)
    tells_in b pixels i true m a h r = tells_sign b pixels i m h r
    tells_in b sets i true m a h r = tells_sign b sets i m h r
    tells_in b refining i true m a h r = absurd h
    tells_in b pixels i false m a h r = tells_pixels b i m a (ltb i I) (eqb (get_or m i 0) 1) refl r
    tells_in b sets i false m a h r = tells_sets b i m a (ltb i I) (eqb (get_or m i 0) 5) (eqb (get_or m i 0) 6) (eqb (get_or m i 0) 4) refl refl refl h r
    tells_in b refining i false m a h r = tells_refining b i m a (ltb i I) (eqb (get_or m i 0) 3) (eqb (get_or m i 0) 2) r

    pub only_tell : (l : ℕ) (p : Pass) (i : ℕ) (w : Bool) (m : List ℕ) (a : Bool) → Held l p i w m → OnlyAt l p i m o.planes → Tells (l - 1) p a (tell_at I l p i w m a) (look_at I l p i w m)
    only_tell zero p i w m a h r = tt
    only_tell (suc b) p i w m a h r = subst (λ (c : ℕ). Tells c p a (tell_at I (suc b) p i w m a) (look_at I (suc b) p i w m)) {x = b} {y = suc b - 1} (omega arith) (tells_in b p i w m a h r)
