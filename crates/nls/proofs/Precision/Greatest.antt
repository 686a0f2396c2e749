-- The greatest array that a run of answers allows has every bit below its coefficient's noted plane: an answer 0 notes what it clears.
use mathlib.Core.Path.{◌≡◌, ap, subst, ◌∙◌}
use mathlib.Core.Bool.{Bool, true, false}
use mathlib.Core.Option.{Option, none, some}
use mathlib.Core.List.{List, [], ◌∷◌}
use Prim.Native.Nat.{ℕ, zero, suc, ◌-◌, ◌/◌, ◌≤◌, ◌<◌}
use native.Mathlib.Omega.{arith}
use lib.Dec.{ltb, eqb}
use lib.ListN.{length, get_or, set}
use lib.Seq.{get_or-set_same}
use borrow.Author.Tests.{lt-ltb}
use Rattle.sizes.specs.Sizes.{all_of, coarsest_of, Sized}
use Rattle.tree.specs.Tree.{desc, grand}
use Rattle.nls.specs.Scan.{State, Look, over, silent, asks, Question, bit_of, sign_of, in_desc, in_grand, Pass, pixels, sets, refining, look, look_at, look_pixels, look_sets, look_refining, ask, asked, next}
use Rattle.nls.specs.Stream.{begin}
use Rattle.nls.specs.Reading.{Known, nothing, learn, learn_at, learned, known}
use Rattle.nls.proofs.Tiled.{Tiled, tiled}
use Rattle.nls.proofs.Arrays.{Bits}
use Rattle.nls.proofs.Machine.Run.{Settled, start_settled, next_settled}
use Rattle.nls.proofs.Judging.Most.{most, after, after_o}
use Rattle.nls.proofs.Judging.Open.{one0, desc0, grand0, sgn_has}
use Rattle.nls.proofs.Kept.{Kept, Rooted, AllRooted, kept_next, asks_rooted}
use Rattle.nls.proofs.Lists.{begin_kept}
use Rattle.nls.proofs.Known.{Sound, sound_next, sound_begin}
use Rattle.nls.proofs.Precision.PlaneEnds.{in_desc_lem, in_grand_lem}
use Rattle.nls.proofs.Precision.Noted.{each_in, down}

-- every bit below plane P, and one sign
abbrev pub full : ℕ → Bool → Bits
full P v = record { has = λ i b. ltb b P; neg = λ i. v }

module _ (N L : ℕ) (size : Sized N L) (P : ℕ) where
  abbrev I : ℕ
  I = all_of N

  abbrev D : ℕ
  D = coarsest_of N L

  abbrev sz : Tiled D I
  sz = tiled N L size

  -- ---- one answer
  module _ (o : Known) (len : length o.planes ≡ I) (w : Bits) where
    -- the answer a in plane b, in pass p, leaves every bit below the plane that its coefficient is then noted in
    abbrev Leaves : ℕ → Pass → Bool → Question → Type 0
    Leaves b p a q = (i e : ℕ) → i < I → e < get_or (learn N L p b q a o).planes i 0 → w.has i e ≡ true → (after N q a w).has i e ≡ true

    abbrev LeavesL : ℕ → Pass → Bool → Look → Type 0
    LeavesL b p a over = Unit {0}
    LeavesL b p a (silent s) = Unit {0}
    LeavesL b p a (asks q) = Rooted D q → Leaves b p a q

    -- bit b of t was answered 0, and t is noted in plane b
    one_left : (b t i e : ℕ) → i < I → e < get_or (set o.planes t b) i 0 → w.has i e ≡ true → (after N (bit_of t b) false w).has i e ≡ true
    one_left b t i e hi l h =
        one0 N t b w i e (λ q z. omega (arith, ap (λ (x : ℕ). get_or (set o.planes t b) x 0) q, get_or-set_same o.planes t b 0 (omega arith))) h

    -- the same of a sign, which clears nothing, and of sets
    sign_left : (b : ℕ) (p : Pass) (a : Bool) (t : ℕ) → Leaves b p a (sign_of t)
    sign_left b p a t i e hi l h = sgn_has N t a w i e ∙ h

    desc_left : (b : ℕ) (a : Bool) (g : ℕ) → D / 4 ≤ g → Leaves b sets a (in_desc g b)
    desc_left b true g r i e hi l h = unfold after in h
    desc_left b false g r i e hi l h =
        desc0 N g b w i e (λ u z. omega (arith, each_in (desc N L g) b o.planes i (omega arith) (in_desc_lem N L size P g i (omega (arith, sz.fours)) hi u))) h

    grand_left : (b : ℕ) (a : Bool) (g : ℕ) → D / 4 ≤ g → Leaves b sets a (in_grand g b)
    grand_left b true g r i e hi l h = unfold after in h
    grand_left b false g r i e hi l h =
        grand0 N g b w i e (λ u z. omega (arith, each_in (grand N L g) b o.planes i (omega arith) (in_grand_lem N L size P g i (omega (arith, sz.fours)) hi u))) h

    -- by what is looked at
    leaves_pixels : (b t : ℕ) (m : List ℕ) (a x y : Bool) → LeavesL b pixels a (look_pixels b t m x y)
    leaves_pixels b t m a false y = tt
    leaves_pixels b t m a true false = tt
    leaves_pixels b t m true true true = λ r i e hi l h. unfold after in h
    leaves_pixels b t m false true true = λ r i e hi l h. one_left b t i e hi l h

    leaves_sets : (b t : ℕ) (m : List ℕ) (a x d g c : Bool) → LeavesL b sets a (look_sets b t m x d g c)
    leaves_sets b t m a false d g c = tt
    leaves_sets b t m a true true g c = λ r. desc_left b a (t / 4) r
    leaves_sets b t m a true false true c = λ r. grand_left b a (t / 16) r
    leaves_sets b t m true true false false true = λ r i e hi l h. unfold after in h
    leaves_sets b t m false true false false true = λ r i e hi l h. one_left b t i e hi l h
    leaves_sets b t m a true false false false = tt

    leaves_refining : (b t : ℕ) (m : List ℕ) (a x s n : Bool) → LeavesL b refining a (look_refining b t m x s n)
    leaves_refining b t m a false s n = tt
    leaves_refining b t m true true true n = λ r i e hi l h. unfold after in h
    leaves_refining b t m false true true n = λ r i e hi l h. one_left b t i e hi l h
    leaves_refining b t m a true false true = tt
    leaves_refining b t m a true false false = tt

    leaves_in : (b : ℕ) (p : Pass) (t : ℕ) (v : Bool) (m : List ℕ) (a : Bool) → LeavesL b p a (look_at I (suc b) p t v m)
    leaves_in b p t true m a = λ r. sign_left b p a t
    leaves_in b pixels t false m a = leaves_pixels b t m a (ltb t I) (eqb (get_or m t 0) 1)
    leaves_in b sets t false m a = leaves_sets b t m a (ltb t I) (eqb (get_or m t 0) 5) (eqb (get_or m t 0) 6) (eqb (get_or m t 0) 4)
    leaves_in b refining t false m a = leaves_refining b t m a (ltb t I) (eqb (get_or m t 0) 3) (eqb (get_or m t 0) 2)

    leaves : (l : ℕ) (p : Pass) (t : ℕ) (v : Bool) (m : List ℕ) (a : Bool) → LeavesL (l - 1) p a (look_at I l p t v m)
    leaves zero p t v m a = tt
    leaves (suc b) p t v m a = subst (λ (c : ℕ). LeavesL c p a (look_at I (suc b) p t v m)) {x = b} {y = suc b - 1} (omega arith) (leaves_in b p t v m a)

    leaves_next : (s : State) (a : Bool) → Kept D I s.marks → (i e : ℕ) → i < I → e < get_or (learn_at N L (ask I s) s a o).planes i 0
        → w.has i e ≡ true → (after_o N (ask I s) a w).has i e ≡ true
    unfolding ask
    leaves_next s a k = on (look I s) (leaves s.left s.pass s.place s.pending s.marks a) (unfold ask in asks_rooted D I s k)
      where
        on : (x : Look) → LeavesL (s.left - 1) s.pass a x → AllRooted D (asked I x) → (i e : ℕ) → i < I → e < get_or (learn_at N L (asked I x) s a o).planes i 0
            → w.has i e ≡ true → (after_o N (asked I x) a w).has i e ≡ true
        on over f r i e hi l h = h
        on (silent t) f r i e hi l h = h
        on (asks q) f r i e hi l h = f r i e hi l h

  -- ---- along a run
  -- noted planes only go down
  next_down : (s : State) (o : Known) (a : Bool) → Sound I P s o → (j : ℕ) → j < I → get_or (learn_at N L (ask I s) s a o).planes j 0 ≤ get_or o.planes j 0
  next_down s o a h j hj = on (ask I s)
    where
      on : (q : Option Question) → get_or (learn_at N L q s a o).planes j 0 ≤ get_or o.planes j 0
      on none = omega arith
      on (some q) = down N L s.pass (s.left - 1) q a o j (get_or o.planes j 0) (omega (arith, h.long_planes)) (omega (arith, h.least j hj)) (omega arith)

  run_down : (s : State) (o : Known) (u : List Bool) → Settled I s → Sound I P s o → (j : ℕ) → j < I → get_or (learned N L s o u).planes j 0 ≤ get_or o.planes j 0
  unfolding learned
  run_down s o [] n h j hj = omega arith
  run_down s o (a ∷ u) n h j hj =
      omega (
        arith,
        run_down (next I s a) (learn_at N L (ask I s) s a o) u (next_settled I s a) (sound_next I P N L s o a n h) j hj,
        next_down s o a h j hj,
      )

  -- and the bits below them stay
  run_leaves : (s : State) (o : Known) (w : Bits) (u : List Bool) → Settled I s → Sound I P s o → Kept D I s.marks → (i e : ℕ) → i < I
      → e < get_or (learned N L s o u).planes i 0 → w.has i e ≡ true → (most N s u w).has i e ≡ true
  unfolding learned
  run_leaves s o w [] n h k i e hi l x = x
  run_leaves s o w (a ∷ u) n h k i e hi l x =
      run_leaves (next I s a) (learn_at N L (ask I s) s a o) (after_o N (ask I s) a w) u (next_settled I s a) (sound_next I P N L s o a n h) (kept_next D I s a k) i e hi l
      (leaves_next o h.long_planes w s a k i e hi
      (omega (arith, run_down (next I s a) (learn_at N L (ask I s) s a o) u (next_settled I s a) (sound_next I P N L s o a n h) i hi)) x)

  -- from the start
  pub greatest_has : (u : List Bool) (v : Bool) (i e : ℕ) → i < I → e < P → e < get_or (known N L P u).planes i 0 → (most N (begin N L P) u (full P v)).has i e ≡ true
  greatest_has u v i e hi he l =
      run_leaves (begin N L P) (nothing N P) (full P v) u (start_settled I D P) (sound_begin N L P) (begin_kept N L size P) i e hi l (lt-ltb e P he)
