-- A plane's end changes no precision: after bits that some array's stream begins with, every coefficient was noted in the last finished
-- plane or in the plane in progress. The scan's invariant (Machine/Steps) with "it was noted down to plane e" for "bit e of it is settled".
use mathlib.Core.Path.{◌≡◌, refl, sym, subst, ◌∙◌}
use mathlib.Core.Bool.{Bool, true, false}
use mathlib.Core.Logic.{◌⊎◌, inl, inr, ⊎_elim}
use mathlib.Core.Option.{Option, none, some}
use mathlib.Core.List.{List, [], ◌∷◌}
use Prim.Native.Nat.{ℕ, zero, suc, ◌*◌, ◌-◌, ◌/◌, ◌%◌, ◌≤◌, ◌<◌}
use native.Mathlib.Omega.{arith}
use lib.Dec.{ltb, eqb}
use lib.IntN.{ℤ}
use lib.ListN.{length, get_or, set}
use lib.Seq.{get_or-set_same}
use borrow.Author.Tests.{ltb-true, eqb-true, eq-eqb}
use Rattle.sizes.specs.Sizes.{all_of, coarsest_of, Sized}
use Rattle.tree.specs.Tree.{desc, grand, any_in}
use Rattle.tree.proofs.Members.{desc_has, grand_has}
use Rattle.nls.specs.Scan.{State, Look, over, silent, asks, Question, bit_of, Pass, pixels, sets, refining, look, look_at, look_pixels, look_sets, look_refining, tell, ask, asked, next, reach}
use Rattle.nls.specs.Stream.{begin, after}
use Rattle.nls.specs.Reading.{Known, nothing, learn, learn_at, learned, known, last_plane, precision_at, precisions}
use Rattle.nls.specs.Judging.{Begins}
use Rattle.nls.proofs.Tiled.{Tiled, tiled}
use Rattle.nls.proofs.Arrays.{Bits, bits_of_arr, ◌⊑◌, told, Fit}
use Rattle.nls.proofs.Machine.Cover.{Under, is_desc_at, is_grand_at}
use Rattle.nls.proofs.Machine.Steps.{Fam, Good, Good_at, from_good, Learned, On_ask, good_tell, good_settle, good_mono}
use Rattle.nls.proofs.Machine.Start.{good_start}
use Rattle.nls.proofs.Machine.Start as first
use Rattle.nls.proofs.Reading.Know.{know, know_o, know_grows, know_one, least}
use Rattle.nls.proofs.Reading.Told.{under_below}
use Rattle.nls.proofs.Streams.{begins_iff}
use Rattle.nls.proofs.Lists.{arr_of}
use Rattle.nls.proofs.Machine.Run.{Settled, start_settled, next_settled}
use Rattle.nls.proofs.Precision.Noted.{each_in, down}
use Rattle.nls.proofs.Known.{Sound, sound_next, sound_begin, known_sound, planes_length}
use Rattle.nls.proofs.KnownBits.{under_is, answered_own}
use Rattle.sizes.proofs.Tables.{table_is}
use Rattle.nls.proofs.Counting.Sums.{order}

-- what every answer of A keeps, of the bits that are known, of what is noted and of the state, holds after any bits that A answers
module _ (N L P : ℕ) (A : Bits) (R : Bits → Known → State → Type 0)
    (step : (k : Bits) (o : Known) (s : State) (a : Bool) → Sound (all_of N) P s o → R k o s → told N A (ask (all_of N) s) a
    → R (know_o (ask (all_of N) s) a k) (learn_at N L (ask (all_of N) s) s a o) (next (all_of N) s a)) where
  along_from : (k : Bits) (o : Known) (s : State) (u : List Bool) → Settled (all_of N) s → Sound (all_of N) P s o → R k o s → Fit N A s u
      → R (least N s u k) (learned N L s o u) (reach (all_of N) s u)
  unfolding reach learned
  along_from k o s [] n h r f = r
  along_from k o s (a ∷ u) n h r f =
      along_from (know_o (ask (all_of N) s) a k) (learn_at N L (ask (all_of N) s) s a o) (next (all_of N) s a) u (next_settled (all_of N) s a) (sound_next (all_of N) P N L s o a n h) (step k o s a h r f.0) f.1

  pub along : R first.nothing (nothing N P) (begin N L P) → (u : List Bool) → Fit N A (begin N L P) u → R (least N (begin N L P) u first.nothing) (known N L P u) (after N L P u)
  along r u f = along_from first.nothing (nothing N P) (begin N L P) u (start_settled (all_of N) (coarsest_of N L) P) (sound_begin N L P) r f

module _ (N L : ℕ) (size : Sized N L) (P : ℕ) where
  abbrev I : ℕ
  I = all_of N

  abbrev D : ℕ
  D = coarsest_of N L

  abbrev sz : Tiled D I
  sz = tiled N L size

  -- j was noted down to plane e, or its bit e is 1 and was read (and perhaps its sign was not)
  abbrev pub Noted : Bits → Known → ℕ → ℕ → Type 0
  Noted k o e j = j < I → (get_or o.planes j 0 ≤ e) ⊎ (k.has j e ≡ true)

  abbrev pub notes : Bits → Known → Fam
  notes k o = record {
    X = Noted k o;
    Y = λ j. Unit {0};
    QD = λ b h. Unit {0};
    QG = λ b h. Unit {0};
    Z = λ j. ⊥;
    dn_d = λ b h r. tt;
    dn_g = λ b h r. tt;
  }

  -- members of a set
  pub in_desc_lem : (g j : ℕ) → D ≤ 4 * g → j < I → Under g j → any_in (λ i. eqb i j) (desc N L g) ≡ true
  in_desc_lem g j lo h u = desc_has N L size (λ i. eqb i j) g j (omega (arith, sz.fours)) h (sym (under_is N g j) ∙ under_below N g j (omega (arith, sz.least)) h u) (eq-eqb j j refl)

  pub in_grand_lem : (g j : ℕ) → D ≤ 4 * g → j < I → Under g (j / 4) → any_in (λ i. eqb i j) (grand N L g) ≡ true
  in_grand_lem g j lo h u = grand_has N L size (λ i. eqb i j) g j (omega (arith, sz.fours)) h (sym (under_is N g (j / 4)) ∙ under_below N g (j / 4) (omega (arith, sz.least)) (omega arith) u) (eq-eqb j j refl)

  module _ (k : Bits) (o : Known) (len : length o.planes ≡ I) where
    -- what is asked for in plane b is noted there by its answer
    abbrev Brings : ℕ → Pass → Bool → Look → Type 0
    Brings b p a over = Unit {0}
    Brings b p a (silent t) = Unit {0}
    Brings b p a (asks q) = Learned I (notes (know q a k) (learn N L p b q a o)) (λ j. ⊥) q a

    put : (i b : ℕ) (k' : Bits) → i < I → (get_or (set o.planes i b) i 0 ≤ b) ⊎ (k'.has i b ≡ true)
    put i b k' h = inl (omega (arith, get_or-set_same o.planes i b 0 (omega arith)))

    brings_pixels : (b i : ℕ) (m : List ℕ) (a x y : Bool) → Brings b pixels a (look_pixels b i m x y)
    brings_pixels b i m a false y = tt
    brings_pixels b i m true true true = ((λ h. inr (know_one i b k)), λ j z. absurd z)
    brings_pixels b i m false true true = ((λ h. put i b (know (bit_of i b) false k) h), λ j z. z)
    brings_pixels b i m a true false = tt

    brings_sets : (b i : ℕ) (m : List ℕ) (a x d g c : Bool) → eqb (get_or m i 0) 5 ≡ d → eqb (get_or m i 0) 6 ≡ g
        → (get_or m i 0 ≡ 5 → (i % 4 ≡ 0) × (D ≤ i)) → (get_or m i 0 ≡ 6 → (i ≡ 16 * (i / 16)) × (D ≤ 4 * (i / 16))) → Brings b sets a (look_sets b i m x d g c)
    brings_sets b i m a false d g c ed eg five six = tt
    brings_sets b i m true true true g c ed eg five six = (tt, λ j z. z)
    brings_sets b i m false true true g c ed eg five six =
        let r = five (eqb-true (get_or m i 0) 5 ed) in
        ((λ g1 j hj u _. inl (omega (arith, each_in (desc N L (i / 4)) b o.planes j (omega arith) (in_desc_lem (i / 4) j (omega (arith, r.0, r.1)) hj u)))), λ j z. z)
    brings_sets b i m true true false true c ed eg five six = (tt, λ j z. z)
    brings_sets b i m false true false true c ed eg five six =
        let r = six (eqb-true (get_or m i 0) 6 eg) in
        ((λ g1 j hj u _. inl (omega (arith, each_in (grand N L (i / 16)) b o.planes j (omega arith) (in_grand_lem (i / 16) j r.1 hj u)))), λ j z. z)
    brings_sets b i m true true false false true ed eg five six = ((λ h. inr (know_one i b k)), λ j z. absurd z)
    brings_sets b i m false true false false true ed eg five six = ((λ h. put i b (know (bit_of i b) false k) h), λ j z. z)
    brings_sets b i m a true false false false ed eg five six = tt

    brings_refining : (b i : ℕ) (m : List ℕ) (a x s n : Bool) → Brings b refining a (look_refining b i m x s n)
    brings_refining b i m a false s n = tt
    brings_refining b i m true true true n = ((λ h. inr (know_one i b k)), λ j z. absurd z)
    brings_refining b i m false true true n = ((λ h. put i b (know (bit_of i b) false k) h), λ j z. z)
    brings_refining b i m a true false true = tt
    brings_refining b i m a true false false = tt

    brings : (l : ℕ) (p : Pass) (i : ℕ) (w : Bool) (m : List ℕ) (a : Bool) → Good_at sz P (notes k o) l p i w m → Brings (l - 1) p a (look_at I l p i w m)
    brings zero p i w m a g = tt
    brings (suc b) p i true m a g = (tt, λ j z. z)
    brings (suc b) pixels i false m a g = subst (λ (c : ℕ). Brings c pixels a (look_at I (suc b) pixels i false m)) {x = b} {y = suc b - 1} (omega arith) (brings_pixels b i m a (ltb i I) (eqb (get_or m i 0) 1))
    brings (suc b) sets i false m a g =
        subst (λ (c : ℕ). Brings c sets a (look_at I (suc b) sets i false m)) {x = b} {y = suc b - 1} (omega arith)
        (on (ltb i I) refl)
      where
        on : (x : Bool) → ltb i I ≡ x → Brings b sets a (look_sets b i m x (eqb (get_or m i 0) 5) (eqb (get_or m i 0) 6) (eqb (get_or m i 0) 4))
        on false ex = tt
        on true ex =
            brings_sets b i m a true (eqb (get_or m i 0) 5) (eqb (get_or m i 0) 6) (eqb (get_or m i 0) 4) refl refl
            (λ e. let r = is_desc_at sz g.1.0 m g.1.1.core i (ltb-true i I ex) e in (r.0, r.3))
            (λ e. let r = is_grand_at sz g.1.0 m g.1.1.core i (ltb-true i I ex) e in (r.0, r.3))
    brings (suc b) refining i false m a g = subst (λ (c : ℕ). Brings c refining a (look_at I (suc b) refining i false m)) {x = b} {y = suc b - 1} (omega arith) (brings_refining b i m a (ltb i I) (eqb (get_or m i 0) 3) (eqb (get_or m i 0) 2))

  -- one bit of any array
  module _ (A : Bits) where
    pub ends_tell : (k : Bits) (o : Known) (s : State) (a : Bool) → Sound I P s o → Good sz P (notes k o) s → told N A (ask I s) a
        → Good sz P (notes (know_o (ask I s) a k) (learn_at N L (ask I s) s a o)) (tell I s a)
    unfolding ask ◌⊑◌
    ends_tell k o s a h g t =
        good_tell sz P (notes (know_o (asked I (look I s)) a k) (learn_at N L (asked I (look I s)) s a o)) (λ j. ⊥) s.left s.pass s.place s.pending s.marks a
        (good_mono sz P (notes k o) (notes (know_o (asked I (look I s)) a k) (learn_at N L (asked I (look I s)) s a o)) (more (asked I (look I s))) (λ j y. y) (λ b j y. y) (λ b j y. y) (λ j y. y) s g)
        (on (look I s) t (brings k o h.long_planes s.left s.pass s.place s.pending s.marks a g))
      where
        more : (q : Option Question) (e j : ℕ) → Noted k o e j → Noted (know_o q a k) (learn_at N L q s a o) e j
        more none e j n hj = n hj
        more (some q) e j n hj =
            ⊎_elim (λ y. inl (down N L s.pass (s.left - 1) q a o j e (omega (arith, h.long_planes)) (omega (arith, h.least j hj)) y)) (λ y. inr (know_grows q a k j e y)) (n hj)

        on : (x : Look) → told N A (asked I x) a → Brings k o h.long_planes (s.left - 1) s.pass a x → On_ask I (notes (know_o (asked I x) a k) (learn_at N L (asked I x) s a o)) (λ j. ⊥) a x
        on over t f = t
        on (silent r) t f = t
        on (asks q) t f = f

    ends_next : (k : Bits) (o : Known) (s : State) (a : Bool) → Sound I P s o → Good sz P (notes k o) s → told N A (ask I s) a
        → Good sz P (notes (know_o (ask I s) a k) (learn_at N L (ask I s) s a o)) (next I s a)
    unfolding next
    ends_next k o s a h g t = good_settle sz P (notes (know_o (ask I s) a k) (learn_at N L (ask I s) s a o)) (tell I s a) (ends_tell k o s a h g t)

    pub noted_all : (u : List Bool) → Fit N A (begin N L P) u → Good sz P (notes (least N (begin N L P) u first.nothing) (known N L P u)) (after N L P u)
    noted_all = along N L P A (λ k o s. Good sz P (notes k o) s) ends_next (good_start sz P (notes first.nothing (nothing N P)) (λ j z. z))

module _ (N L : ℕ) (size : Sized N L) (P : ℕ) (A : List ℤ) (u : List Bool) (begins : Begins N L P A u) where
  fits : Fit N (bits_of_arr (arr_of A)) (begin N L P) u
  fits = ((begins_iff N L size P A u).0 begins).2

  -- every coefficient is noted down to the last finished plane
  pub noted_left : (j : ℕ) → j < all_of N → get_or (known N L P u).planes j 0 ≤ last_plane N L P u
  noted_left j hj = on (order P (last_plane N L P u))
    where
      s : State
      s = after N L P u

      on : (P ≤ last_plane N L P u) ⊎ (last_plane N L P u < P) → get_or (known N L P u).planes j 0 ≤ last_plane N L P u
      on (inl h) = omega (arith, (known_sound N L P u).most j hj)
      on (inr h) =
          ⊎_elim (λ y. y) (λ y. answered_own N L size P A begins.planes.below u fits j (last_plane N L P u) hj y (λ w q e. omega arith))
          (from_good (sz N L size P) P (notes N L size P (least N (begin N L P) u first.nothing) (known N L P u)) s.left s.pass s.place s.pending s.marks
          (noted_all N L size P (bits_of_arr (arr_of A)) u fits) (last_plane N L P u) (omega arith) h j hj hj)

  -- so the precision is the plane that was noted last, whatever plane has ended since
  pub precision_noted : (j : ℕ) → j < all_of N → precision_at N L P u j ≡ get_or (known N L P u).planes j 0
  precision_noted j hj = omega (arith, noted_left j hj)

  pub precisions_noted : precisions N L P u ≡ (known N L P u).planes
  precisions_noted = sym (table_is (all_of N) _ 0 (known N L P u).planes (planes_length N L P u) (λ j hj. sym (precision_noted j hj)))
