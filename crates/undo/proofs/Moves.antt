-- The state and what is known of it, over the machine's own moves: each is undone by `prior`, and keeps what that rests on.
use mathlib.Core.Path.{◌≡◌, refl, sym, ap, subst, ◌∙◌}
use mathlib.Core.Bool.{Bool, true, false}
use mathlib.Core.List.{List}
use Prim.Native.Nat.{ℕ, zero, suc, ◌+◌, ◌/◌, ◌%◌, ◌^◌, ◌≤◌, ◌<◌}
use native.Mathlib.Omega.{arith}
use native.Mathlib.Nat.{pow-suc}
use native.Mathlib.Decide.{dec_lt, ℕ_discrete}
use lib.ListN.{length, get_or, set}
use lib.Seq.{get_or-set_same, get_or-set_other}
use lib.Dec.{ltb, leb, eqb, lit≤}
use borrow.Author.Tests.{ltb-true, ltb-false, eqb-true, eqb-false, lt-leb}
use Rattle.sizes.specs.Sizes.{most_n}
use Rattle.nls.specs.Marks.{skip, set_skip}
use Rattle.nls.specs.Scan.{State, Look, over, silent, asks, Question, bit_of, sign_of, in_desc, in_grand, Pass, pixels, sets, refining, state_at, look, look_at, look_pixels, look_sets, look_refining}
use Rattle.nls.proofs.Tiled.{Tiled}
use Rattle.nls.proofs.Arrays.{Bits}
use Rattle.nls.proofs.Machine.Table.{Cfg}
use Rattle.nls.proofs.Machine.Run.{skip_pos}
use Rattle.nls.proofs.Machine.Cover.{Core, Sets, Fine, Alone_at, is_alone, sets_even, sskip_small, sskip_big, skip_mod}
use Rattle.nls.proofs.Machine.Blocks.{after_block, after_four, at_0}
use Rattle.nls.proofs.Machine.Steps.{preds, Good, Good_at}
use Rattle.nls.proofs.Reading.Told.{fam, Known}
use Rattle.nls.proofs.Precision.Seen.{in_table}
use Rattle.nls.proofs.Visited.{Begun, past_marked}
use Rattle.undo.specs.Back.{quiet, prior}
use Rattle.undo.proofs.Blocks.{back_skip}
use Rattle.undo.proofs.Undo.{Calm, Midway, pixels_end, pixels_by, refining_end, refining_new, refining_by, sets_over, sets_four, sets_row, no_child}
use Rattle.undo.proofs.Keeps.{calm_on, calm_end}

-- Magnitudes against marks, in plane b: MNP was found in it, MSP before it, or stands before place t of the refinement pass.
pub record Mags (b t : ℕ) (m : List ℕ) (g : ℕ → ℕ) : Type 0 where
  pub two : (j : ℕ) → get_or m j 0 ≡ 2 → (2 ^ b ≤ g j) × (g j < 2 ^ suc b)
  pub three : (j : ℕ) → get_or m j 0 ≡ 3 → (2 ^ b ≤ g j) × (t ≤ j → 2 ^ suc b ≤ g j)

-- fewer such marks, further on
pub mags_to : (b t t' : ℕ) (m m' : List ℕ) (g g' : ℕ → ℕ) → t ≤ t' → ((j : ℕ) → 1 ≤ get_or m' j 0 → get_or m' j 0 ≤ 3 → get_or m j 0 ≡ get_or m' j 0) → ((j : ℕ) → g' j ≡ g j) → Mags b t m g → Mags b t' m' g'
mags_to b t t' m m' g g' h s e p = record {
  two = λ j z. let r = p.two j (s j (omega (arith, z)) (omega (arith, z)) ∙ z) in (omega (arith, r.0, e j), omega (arith, r.1, e j));
  three = λ j z. let r = p.three j (s j (omega (arith, z)) (omega (arith, z)) ∙ z) in (omega (arith, r.0, e j), λ q. omega (arith, r.1 (omega (arith, h, q)), e j));
}

-- a mark set at i, of which the magnitude may grow
pub mags_set : (b t : ℕ) (m : List ℕ) (i v : ℕ) (g g' : ℕ → ℕ) → i < length m → (v ≡ 2 → (2 ^ b ≤ g' i) × (g' i < 2 ^ suc b)) → (v ≡ 3 → ⊥) → ((j : ℕ) → (j ≡ i → ⊥) → g' j ≡ g j) → Mags b t m g → Mags b t (set m i v) g'
mags_set b t m i v g g' h f n e p = record { two = λ j z. two' j z (ℕ_discrete j i); three = λ j z. three' j z (ℕ_discrete j i) }
  where
    here : (j : ℕ) → j ≡ i → get_or (set m i v) j 0 ≡ v
    here j q = ap (λ (x : ℕ). get_or (set m i v) x 0) q ∙ get_or-set_same m i v 0 h

    two' : (j : ℕ) → get_or (set m i v) j 0 ≡ 2 → Dec (j ≡ i) → (2 ^ b ≤ g' j) × (g' j < 2 ^ suc b)
    two' j z (yes q) = subst (λ (x : ℕ). (2 ^ b ≤ g' x) × (g' x < 2 ^ suc b)) (sym q) (f (sym (here j q) ∙ z))
    two' j z (no q) = let r = p.two j (sym (get_or-set_other m i j v 0 q) ∙ z) in (omega (arith, r.0, e j q), omega (arith, r.1, e j q))

    three' : (j : ℕ) → get_or (set m i v) j 0 ≡ 3 → Dec (j ≡ i) → (2 ^ b ≤ g' j) × (t ≤ j → 2 ^ suc b ≤ g' j)
    three' j z (yes q) = absurd (n (sym (here j q) ∙ z))
    three' j z (no q) = let r = p.three j (sym (get_or-set_other m i j v 0 q) ∙ z) in (omega (arith, r.0, e j q), λ y. omega (arith, r.1 y, e j q))

-- what an answer does to the magnitudes
abbrev pub Grown : Pass → ℕ → Question → (ℕ → ℕ) → (ℕ → ℕ) → Type 0
Grown refining b (bit_of i c) g g' = (g i ≤ g' i) × ((j : ℕ) → (j ≡ i → ⊥) → g' j ≡ g j)
Grown pixels b (bit_of i c) g g' = (j : ℕ) → g' j ≡ g j
Grown sets b (bit_of i c) g g' = (j : ℕ) → g' j ≡ g j
Grown p b (sign_of i) g g' = (2 ^ b ≤ g' i) × (g' i < 2 ^ suc b) × ((j : ℕ) → (j ≡ i → ⊥) → g' j ≡ g j)
Grown p b (in_desc h c) g g' = (j : ℕ) → g' j ≡ g j
Grown p b (in_grand h c) g g' = (j : ℕ) → g' j ≡ g j

-- in a state that asks
abbrev pub GrownAt : Pass → ℕ → Look → (ℕ → ℕ) → (ℕ → ℕ) → Type 0
GrownAt p b over g g' = ⊥
GrownAt p b (silent t) g g' = ⊥
GrownAt p b (asks q) g g' = Grown p b q g g'

-- the magnitude at j has a bit of plane l or above
abbrev pub big_of : (ℕ → ℕ) → ℕ → ℕ → Bool
big_of g l j = leb (2 ^ l) (g j)

module _ (N : ℕ) (fits : N ≤ most_n) {D : ℕ} (P : ℕ) (sz : Tiled D (4 ^ N)) (A : Bits) (cap : (j e : ℕ) → A.has j e ≡ true → e < P) where
  abbrev I : ℕ
  I = 4 ^ N

  -- beside the invariant of the scan: the place is the start of a block, or the end
  abbrev pub Rest : (ℕ → ℕ) → ℕ → Pass → ℕ → Bool → List ℕ → Type 0
  Rest g zero p i w m = Unit {0}
  Rest g (suc b) pixels i w m = (suc b ≤ P) × (i ≤ I) × Begun sz P m i × Calm D I m 0 × Mags b 0 m g
  Rest g (suc b) sets i w m = (suc b ≤ P) × (i ≤ I) × Begun sz P m i × Midway D I m i × Mags b 0 m g
  Rest g (suc b) refining i w m = (suc b ≤ P) × (i ≤ I) × Begun sz P m i × Unit {0} × Mags b i m g

  abbrev pub RestOf : (ℕ → ℕ) → State → Type 0
  RestOf g s = Rest g s.left s.pass s.place s.pending s.marks

  -- a silent move leads to where `prior` leads back
  abbrev pub Moved : (ℕ → ℕ) → State → Look → Type 0
  Moved g s over = Unit {0}
  Moved g s (silent t) = (prior I D P (big_of g) t ≡ quiet s) × RestOf g t
  Moved g s (asks q) = Unit {0}

  module _ (k : Bits) (g : ℕ → ℕ) where
    moved_pixels : (b i : ℕ) (m : List ℕ) (x y : Bool) → ltb i I ≡ x → eqb (get_or m i 0) 1 ≡ y → Good_at sz P (fam N A k) (suc b) pixels i false m → Rest g (suc b) pixels i false m → Moved g (state_at (suc b) pixels i m) (look_pixels b i m x y)
    moved_pixels b i m false y ex ey h r = (
      pixels_end N fits P sz (big_of g) (preds (fam N A k) b) (Known A k b) b i h.1.0 m h.1.1 (ltb-false i I ex) r.1,
      (r.0, omega arith, at_0 sz h.1.0 m kk, record { calm = r.3; kids = λ z. absurd (no z); under = λ z. absurd (no z); root = λ z. absurd (no z) }, r.4),
    )
      where
        kk : Core sz h.1.0 m
        kk = h.1.1.core

        no : get_or m 0 0 ≡ 4 → ⊥
        no e =
            let i0 : 0 < I = omega (arith, sz.room, sz.least) in
            let a : Alone_at D I h.1.0 m 0 = is_alone sz h.1.0 m kk 0 i0 (omega (arith, e)) (omega (arith, e)) in
            h.1.1.no4 0 i0 a.0 (a.1 ∙ e)
    moved_pixels b i m true true ex ey h r = tt
    moved_pixels b i m true false ex ey h r =
        let hi : i < I = ltb-true i I ex in
        let kk : Core sz h.1.0 m = h.1.1.core in (
          pixels_by N fits P sz (big_of g) (preds (fam N A k) b) (Known A k b) b i h.1.0 m h.1.1 hi (r.2 hi) (eqb-false (get_or m i 0) 1 ey),
          (r.0, (back_skip N fits sz h.1.0 m kk i hi (r.2 hi)).1, after_block sz h.1.0 m kk i hi (r.2 hi), r.3, r.4),
        )

    -- past a block of the set pass
    pub gone : (b i j : ℕ) (m : List ℕ) (c : Cfg) → Sets sz (preds (fam N A k) b) (Known A k b) i c m → Midway D I m i → i < j → (j / 4 ≡ i / 4 → ⊥) → Midway D I m j
    gone b i j m c p w l n =
        let no : get_or m j 0 ≡ 4 → ⊥ = no_child N fits P sz (big_of g) (preds (fam N A k) b) (Known A k b) b i c m p w j n in
        record { calm = calm_on D I m i j (omega (arith, l)) w.calm; kids = λ z. absurd (no z); under = λ z. absurd (no z); root = λ z. absurd (no z) }

    moved_sets : (b i : ℕ) (m : List ℕ) (x d q c : Bool) → ltb i I ≡ x → eqb (get_or m i 0) 5 ≡ d → eqb (get_or m i 0) 6 ≡ q → eqb (get_or m i 0) 4 ≡ c
        → Good_at sz P (fam N A k) (suc b) sets i false m → Rest g (suc b) sets i false m → Moved g (state_at (suc b) sets i m) (look_sets b i m x d q c)
    moved_sets b i m false d q c ex ed eg ec h r = (
      sets_over N fits P sz (big_of g) (preds (fam N A k) b) (Known A k b) b i h.1.0 m (ltb-false i I ex) r.1,
      (r.0, omega arith, at_0 sz h.1.0 m h.1.1.core, tt, r.4),
    )
    moved_sets b i m true true q c ex ed eg ec h r = tt
    moved_sets b i m true false true c ex ed eg ec h r = tt
    moved_sets b i m true false false true ex ed eg ec h r = tt
    moved_sets b i m true false false false ex ed eg ec h r = go (dec_lt (get_or m i 0) 5)
      where
        hi : i < I
        hi = ltb-true i I ex

        p : Sets sz (preds (fam N A k) b) (Known A k b) i h.1.0 m
        p = h.1.1

        n4 : get_or m i 0 ≡ 4 → ⊥
        n4 = eqb-false (get_or m i 0) 4 ec

        e4 : i % 4 ≡ 0
        e4 = sets_even sz (preds (fam N A k) b) (Known A k b) i h.1.0 m p hi n4

        Goal : ℕ → Type 0
        Goal s = (prior I D P (big_of g) (state_at (suc b) sets (i + s) m) ≡ quiet (state_at (suc b) sets i m)) × Rest g (suc b) sets (i + s) false m

        go : Dec (get_or m i 0 < 5) → Goal (set_skip (get_or m i 0))
        go (yes z) =
            let lo : 1 ≤ get_or m i 0 = omega (arith, r.2 hi) in
            let up : get_or m i 0 ≤ 3 = omega (arith, z, n4) in
            subst Goal (sym (sskip_small (get_or m i 0) z)) (
              sets_four N fits P sz (big_of g) (preds (fam N A k) b) (Known A k b) b i h.1.0 m p r.3 hi lo up,
              (r.0, omega (arith, hi, e4, sz.sixteens), after_four sz h.1.0 m p.core i hi e4 (is_alone sz h.1.0 m p.core i hi lo z).0, gone b i (i + 4) m h.1.0 p r.3 (omega arith) (λ q. omega (arith, q, e4)), r.4),
            )
        go (no z) =
            let lo : 7 ≤ get_or m i 0 = omega (arith, z, eqb-false (get_or m i 0) 5 ed, eqb-false (get_or m i 0) 6 eg) in
            subst Goal (sym (sskip_big (get_or m i 0) (omega (arith, z)))) (
              sets_row N fits P sz (big_of g) (preds (fam N A k) b) (Known A k b) b i h.1.0 m p r.3 hi lo,
              (r.0, (back_skip N fits sz h.1.0 m p.core i hi (r.2 hi)).1, after_block sz h.1.0 m p.core i hi (r.2 hi), gone b i (i + skip (get_or m i 0)) m h.1.0 p r.3 (omega (arith, four lo)) (λ q. omega (arith, q, e4, four lo)), r.4),
            )
          where
            four : 7 ≤ get_or m i 0 → 4 ≤ skip (get_or m i 0)
            four l = omega (arith, skip_mod (get_or m i 0) (omega (arith, l)), skip_pos (get_or m i 0))

    moved_refining : (b i : ℕ) (m : List ℕ) (x s n : Bool) → ltb i I ≡ x → eqb (get_or m i 0) 3 ≡ s → eqb (get_or m i 0) 2 ≡ n
        → Good_at sz P (fam N A k) (suc b) refining i false m → Rest g (suc b) refining i false m → Moved g (state_at (suc b) refining i m) (look_refining b i m x s n)
    moved_refining b i m false s n ex es en h r =
        (refining_end N fits P sz (big_of g) (preds (fam N A k) b) (Known A k b) b i h.1.0 m r.0 (ltb-false i I ex) r.1, down b refl)
      where
        fine : Fine sz (preds (fam N A k) b) (Known A k b) i h.1.0 m
        fine = h.1.1

        down : (a : ℕ) → b ≡ a → Rest g a pixels 0 false m
        down zero e = tt
        down (suc a) e = (omega (arith, r.0, e), omega arith, at_0 sz h.1.0 m fine.core, calm_end N P sz A k cap b i h.1.0 m h.0 fine (ltb-false i I ex), mags)
          where
            gone_two : (j : ℕ) → get_or m j 0 ≡ 2 → ⊥
            gone_two j z =
                let hj : j < I = in_table sz h.1.0 m fine.core j (omega (arith, z)) in
                let al : Alone_at D I h.1.0 m j = is_alone sz h.1.0 m fine.core j hj (omega (arith, z)) (omega (arith, z)) in
                omega (arith, fine.two j hj al.0 (al.1 ∙ z), ltb-false i I ex, hj)

            mags : Mags a 0 m g
            mags = record {
              two = λ j z. absurd (gone_two j z);
              three = λ j z. let l : 2 ^ suc a ≤ g j = subst (λ (x : ℕ). 2 ^ x ≤ g j) e (r.4.three j z).0 in (omega (arith, l, pow-suc 2 a), λ q. l);
            }
    moved_refining b i m true true n ex es en h r = tt
    moved_refining b i m true false true ex es en h r =
        let hi : i < I = ltb-true i I ex in
        let e : get_or m i 0 ≡ 2 = eqb-true (get_or m i 0) 2 en in
        let hl : i < length m = omega (arith, hi, h.1.1.core.len) in (
          refining_new N fits P sz (big_of g) (preds (fam N A k) b) (Known A k b) b i h.1.0 m hl e (lt-leb (2 ^ suc b) (g i) (r.4.two i e).1),
          (r.0, omega (arith, hi), past_marked sz P h.1.0 m h.1.1.core i 3 hi (omega (arith, e)) (omega (arith, e)) (lit≤ tt) (lit≤ tt), tt, mags hl e),
        )
      where
        mags : i < length m → get_or m i 0 ≡ 2 → Mags b (i + 1) (set m i 3) g
        mags hl e = record { two = λ j z. two' j z (ℕ_discrete j i); three = λ j z. three' j z (ℕ_discrete j i) }
          where
            two' : (j : ℕ) → get_or (set m i 3) j 0 ≡ 2 → Dec (j ≡ i) → (2 ^ b ≤ g j) × (g j < 2 ^ suc b)
            two' j z (yes q) = absurd (omega (arith, z, ap (λ (x : ℕ). get_or (set m i 3) x 0) q, get_or-set_same m i 3 0 hl))
            two' j z (no q) = r.4.two j (sym (get_or-set_other m i j 3 0 q) ∙ z)

            three' : (j : ℕ) → get_or (set m i 3) j 0 ≡ 3 → Dec (j ≡ i) → (2 ^ b ≤ g j) × (i + 1 ≤ j → 2 ^ suc b ≤ g j)
            three' j z (yes q) = (subst (λ (x : ℕ). 2 ^ b ≤ g x) (sym q) (r.4.two i e).0, λ l. absurd (omega (arith, l, q)))
            three' j z (no q) = let y = r.4.three j (sym (get_or-set_other m i j 3 0 q) ∙ z) in (y.0, λ l. y.1 (omega (arith, l)))
    moved_refining b i m true false false ex es en h r =
        let hi : i < I = ltb-true i I ex in
        let kk : Core sz h.1.0 m = h.1.1.core in (
          refining_by N fits P sz (big_of g) (preds (fam N A k) b) (Known A k b) b i h.1.0 m kk hi (r.2 hi) (eqb-false (get_or m i 0) 3 es),
          (r.0, (back_skip N fits sz h.1.0 m kk i hi (r.2 hi)).1, after_block sz h.1.0 m kk i hi (r.2 hi), tt, mags_to b i (i + skip (get_or m i 0)) m m g g (omega arith) (λ j a c. refl) (λ j. refl) r.4),
        )

    moved_at : (l : ℕ) (p : Pass) (i : ℕ) (w : Bool) (m : List ℕ) → Good_at sz P (fam N A k) l p i w m → Rest g l p i w m → Moved g (record { left = l; pass = p; place = i; pending = w; marks = m }) (look_at I l p i w m)
    moved_at zero p i w m h r = tt
    moved_at (suc b) p i true m h r = tt
    moved_at (suc b) pixels i false m h r = moved_pixels b i m (ltb i I) (eqb (get_or m i 0) 1) refl refl h r
    moved_at (suc b) sets i false m h r = moved_sets b i m (ltb i I) (eqb (get_or m i 0) 5) (eqb (get_or m i 0) 6) (eqb (get_or m i 0) 4) refl refl refl refl h r
    moved_at (suc b) refining i false m h r = moved_refining b i m (ltb i I) (eqb (get_or m i 0) 3) (eqb (get_or m i 0) 2) refl refl refl h r

    -- a silent move is undone
    pub moved : (s : State) → Good sz P (fam N A k) s → RestOf g s → Moved g s (look I s)
    moved s h r = moved_at s.left s.pass s.place s.pending s.marks h r
