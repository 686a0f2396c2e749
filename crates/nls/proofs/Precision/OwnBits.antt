-- A set's 0 changes precisions and no values: they are those of a map that notes a coefficient's own bits alone.
use mathlib.Core.Path.{◌≡◌, refl, sym, ap, subst, ◌∙◌}
use mathlib.Core.Bool.{Bool, true, false, true≢false}
use mathlib.Core.Logic.{◌⊎◌, inl, inr}
use mathlib.Core.Option.{Option, none, some}
use mathlib.Core.List.{List, [], ◌∷◌}
use Prim.Native.Nat.{ℕ, zero, suc, ◌+◌, ◌*◌, ◌-◌, ◌/◌, ◌^◌, ◌≤◌, ◌<◌, min}
use native.Mathlib.Omega.{arith}
use native.Mathlib.Decide.{ℕ_discrete}
use lib.Dec.{ltb, eqb}
use lib.IntN.{ℤ, pos}
use lib.ListN.{length, get_or, set, length-set, length-replicate, get_or-replicate}
use lib.Seq.{get_or-set_same, get_or-set_other, set_out}
use Rattle.nls.proofs.Counting.Sums.{order}
use borrow.Author.Tests.{ltb-true, eqb-true, eqb-false}
use Rattle.sizes.specs.Sizes.{all_of, coarsest_of, Sized}
use Rattle.sizes.specs.Tables.{table}
use Rattle.sizes.proofs.Tables.{table_ext}
use Rattle.bits.specs.Bits.{digit}
use Rattle.coef.specs.Coef.{at, mag_at, magnitude, negative, signed}
use Rattle.tree.specs.Tree.{desc, grand, any_in}
use Rattle.nls.specs.Scan as scan
use Rattle.nls.specs.Scan.{State, Look, over, silent, asks, Question, bit_of, sign_of, in_desc, in_grand, Pass, pixels, sets, refining, look, look_at, look_pixels, look_sets, look_refining, tell, tell_at, tell_sets, ask, asked, next, reach}
use Rattle.nls.specs.Stream.{begin, after}
use Rattle.nls.specs.Reading.{Known, nothing, noted, tested_zero, learn, learn_at, learned, known, last_plane, precision_at, value_by, values_by}
use Rattle.nls.specs.Judging.{Begins}
use Rattle.nls.proofs.Tiled.{Tiled, tiled}
use Rattle.nls.proofs.Arrays.{Bits, bits_of_arr, told, Fit}
use Rattle.nls.proofs.Lists.{arr_of}
use Rattle.nls.proofs.Streams.{begins_iff}
use Rattle.nls.proofs.Machine.Cover.{is_alone, is_desc_at, is_grand_at, Desc_at, Grand_at}
use Rattle.nls.proofs.Machine.Steps.{Good, Good_at, Good_look, good_look}
use Rattle.nls.proofs.Machine.Start as first
use Rattle.nls.proofs.Machine.Start.{good_start}
use Rattle.nls.proofs.Reading.Know.{know_o, least}
use Rattle.nls.proofs.Judging.Clash.{dead_d, dead_g}
use Rattle.nls.proofs.Kept.{AfterMove, settle_keeps}
use Rattle.nls.proofs.Machine.Run.{Settled, start_settled, next_settled}
use Rattle.nls.proofs.Known.{by_entry, Sound, sound_next, sound_begin}
use Rattle.nls.proofs.Precision.PlaneEnds.{notes, ends_tell}
use Rattle.nls.proofs.Precision.Noted.{each_length, each_out}
use Rattle.nls.proofs.Precision.Seen.{kept_d, kept_g, of_desc, of_grand}

-- what is noted without the sets' answers
module _ (N L : ℕ) where
  abbrev pub learn_own : Pass → ℕ → Question → Bool → Known → Known
  learn_own p b (bit_of i c) a k = learn N L p b (bit_of i c) a k
  learn_own p b (sign_of i) a k = learn N L p b (sign_of i) a k
  learn_own p b (in_desc g c) a k = k
  learn_own p b (in_grand g c) a k = k

  abbrev pub learn_own_at : Option Question → State → Bool → Known → Known
  learn_own_at none s a k = k
  learn_own_at (some q) s a k = learn_own s.pass (s.left - 1) q a k

  unfoldable pub learned_own : State → Known → List Bool → Known
  learned_own s k [] = k
  learned_own s k (a ∷ u) = learned_own (next (all_of N) s a) (learn_own_at (ask (all_of N) s) s a k) u

  abbrev pub known_own : ℕ → List Bool → Known
  known_own P u = learned_own (begin N L P) (nothing N P) u

-- with the marks m: both know the same bits, and what they know of a coefficient that was found
record Same (I : ℕ) (m : List ℕ) (o o' : Known) : Type 0 where
  bits : o.bits ≡ o'.bits
  long : (length o.bits ≡ I) × (length o.planes ≡ I) × (length o'.planes ≡ I)
  found : (j : ℕ) → j < I → 1 ≤ mag_at o.bits j → (2 ≤ get_or m j 0) × (get_or m j 0 ≤ 3)
  planes : (j : ℕ) → j < I → 1 ≤ mag_at o.bits j → get_or o.planes j 0 ≡ get_or o'.planes j 0

-- the marks change
same_marks : {I : ℕ} {m m' : List ℕ} {o o' : Known} → ((j : ℕ) → j < I → 2 ≤ get_or m j 0 → get_or m j 0 ≤ 3 → (2 ≤ get_or m' j 0) × (get_or m' j 0 ≤ 3)) → Same I m o o' → Same I m' o o'
same_marks f r = record { bits = r.bits; long = r.long; planes = r.planes; found = λ j hj e. let s = r.found j hj e in f j hj s.0 s.1 }

-- two lists in which b is put at i have one entry at j, where it is that one or they had
put_both : (l l' : List ℕ) (i b j : ℕ) → j < length l → j < length l' → ((j ≡ i → ⊥) → get_or l j 0 ≡ get_or l' j 0) → get_or (set l i b) j 0 ≡ get_or (set l' i b) j 0
put_both l l' i b j h h' f =
    by_entry l i b 0 j (λ e. omega (arith, e, h)) (λ n. n ≡ get_or (set l' i b) j 0) (λ e. by_entry l' i b 0 j (λ x. omega (arith, x, h')) (λ n. b ≡ n) (λ x. refl) (λ n. absurd (n e)))
    (λ n. f n ∙ sym (get_or-set_other l' i j b 0 n))

-- both note i in plane b, with the known bits z
same_noted : {I : ℕ} {m m' : List ℕ} {o o' : Known} (i b : ℕ) (z : ℤ) → (1 ≤ magnitude z → (2 ≤ get_or m' i 0) × (get_or m' i 0 ≤ 3)) → ((j : ℕ) → j < I → (j ≡ i → ⊥) → 2 ≤ get_or m j 0 → get_or m j 0 ≤ 3 → (2 ≤ get_or m' j 0) × (get_or m' j 0 ≤ 3))
    → Same I m o o' → Same I m' (noted i z b o) (noted i z b o')
same_noted {I} {m} {m'} {o} {o'} i b z f g r = record {
  bits = ap (λ (l : List ℤ). set l i z) r.bits;
  long = (length-set o.bits i z ∙ r.long.0, length-set o.planes i b ∙ r.long.1, length-set o'.planes i b ∙ r.long.2);
  found = λ j hj. by_entry o.bits i z (pos 0) j (λ e. omega (arith, e, hj, r.long.0)) (λ x. 1 ≤ magnitude x → (2 ≤ get_or m' j 0) × (get_or m' j 0 ≤ 3))
      (λ q e. subst (λ (x : ℕ). (2 ≤ get_or m' x 0) × (get_or m' x 0 ≤ 3)) (sym q) (f e)) (λ q e. let s = r.found j hj e in g j hj q s.0 s.1);
  planes = λ j hj e. put_both o.planes o'.planes i b j (omega (arith, hj, r.long.1)) (omega (arith, hj, r.long.2))
      (λ q. r.planes j hj (subst (λ (x : ℤ). 1 ≤ magnitude x) (get_or-set_other o.bits i j z (pos 0) q) e));
}

-- both note a 0 at i in plane b
same_zero : {I : ℕ} {m m' : List ℕ} {o o' : Known} (i b : ℕ) → ((j : ℕ) → j < I → 2 ≤ get_or m j 0 → get_or m j 0 ≤ 3 → (2 ≤ get_or m' j 0) × (get_or m' j 0 ≤ 3))
    → Same I m o o' → Same I m' (record { bits = o.bits; planes = set o.planes i b }) (record { bits = o'.bits; planes = set o'.planes i b })
same_zero {I} {m} {m'} {o} {o'} i b g r = record {
  bits = r.bits;
  long = (r.long.0, length-set o.planes i b ∙ r.long.1, length-set o'.planes i b ∙ r.long.2);
  found = λ j hj e. let s = r.found j hj e in g j hj s.0 s.1;
  planes = λ j hj e. put_both o.planes o'.planes i b j (omega (arith, hj, r.long.1)) (omega (arith, hj, r.long.2)) (λ q. r.planes j hj e);
}

-- a set of coefficients that were not found
same_each : {I : ℕ} {m : List ℕ} {o o' : Known} (l : List ℕ) (b : ℕ) → ((j : ℕ) → j < I → 2 ≤ get_or m j 0 → get_or m j 0 ≤ 3 → any_in (λ x. eqb x j) l ≡ false) → Same I m o o' → Same I m (tested_zero l b o) o'
same_each {I} {m} {o} {o'} l b f r = record {
  bits = r.bits;
  long = (r.long.0, each_length l b o.planes ∙ r.long.1, r.long.2);
  found = r.found;
  planes = λ j hj e. let s = r.found j hj e in each_out l b o.planes j (omega (arith, hj, r.long.1)) (f j hj s.0 s.1) ∙ r.planes j hj e;
}

no_member : (x : Bool) → (x ≡ true → ⊥) → x ≡ false
no_member true f = absurd (f refl)
no_member false f = refl

module _ (N L : ℕ) (size : Sized N L) (P : ℕ) where
  abbrev I : ℕ
  I = all_of N

  abbrev D : ℕ
  D = coarsest_of N L

  abbrev sz : Tiled D I
  sz = tiled N L size

  module _ (k : Bits) (o o' : Known) where
    abbrev Held : ℕ → Pass → ℕ → Bool → List ℕ → Type 0
    Held l p i w m = Good_at sz P (notes N L size P k o) l p i w m

    abbrev SameOf : State → Type 0
    SameOf t = Same I t.marks o o'

    same_look : (l : ℕ) (p : Pass) (i : ℕ) (w : Bool) (m : List ℕ) → Same I m o o' → AfterMove I SameOf (look_at I l p i w m)
    same_look zero p i w m r = tt
    same_look (suc b) p i true m r = tt
    same_look (suc b) pixels i false m r = on (ltb i I) (eqb (get_or m i 0) 1)
      where
        on : (x y : Bool) → AfterMove I SameOf (look_pixels b i m x y)
        on false y = r
        on true true = tt
        on true false = r
    same_look (suc b) sets i false m r = on (ltb i I) (eqb (get_or m i 0) 5) (eqb (get_or m i 0) 6) (eqb (get_or m i 0) 4)
      where
        on : (x d g c : Bool) → AfterMove I SameOf (look_sets b i m x d g c)
        on false d g c = r
        on true true g c = tt
        on true false true c = tt
        on true false false true = tt
        on true false false false = r
    same_look (suc b) refining i false m r = on (ltb i I) (eqb (get_or m i 0) 3) (eqb (get_or m i 0) 2) refl
      where
        on : (x s n : Bool) → eqb (get_or m i 0) 2 ≡ n → AfterMove I SameOf (look_refining b i m x s n)
        on false s n e = r
        on true true n e = tt
        on true false true e = same_marks (λ j hj lo up. put j lo up (ℕ_discrete j i)) r
          where
            put : (j : ℕ) → 2 ≤ get_or m j 0 → get_or m j 0 ≤ 3 → Dec (j ≡ i) → (2 ≤ get_or (set m i 3) j 0) × (get_or (set m i 3) j 0 ≤ 3)
            put j lo up (yes q) = on_i (order (length m) i)
              where
                on_i : (length m ≤ i) ⊎ (i < length m) → (2 ≤ get_or (set m i 3) j 0) × (get_or (set m i 3) j 0 ≤ 3)
                on_i (inl z) = let s : set m i 3 ≡ m = set_out m i 3 z in subst (λ (l : List ℕ). (2 ≤ get_or l j 0) × (get_or l j 0 ≤ 3)) (sym s) (lo, up)
                on_i (inr z) = let s : get_or (set m i 3) j 0 ≡ 3 = ap (λ (x : ℕ). get_or (set m i 3) x 0) q ∙ get_or-set_same m i 3 0 z in (omega arith, omega arith)
            put j lo up (no q) = let s : get_or (set m i 3) j 0 ≡ get_or m j 0 = get_or-set_other m i j 3 0 q in (omega arith, omega arith)
        on true false false e = r

    -- an answer a in plane b, in pass p; t is the state after it
    abbrev Tells : ℕ → Pass → Bool → State → Look → Type 0
    Tells b p a t over = Unit {0}
    Tells b p a t (silent r) = Unit {0}
    Tells b p a t (asks q) = Same I t.marks (learn N L p b q a o) (learn_own N L p b q a o')

    tells_pixels : (b i : ℕ) (m : List ℕ) (a x y : Bool) → Same I m o o' → Tells b pixels a (tell_at I (suc b) pixels i false m a) (look_pixels b i m x y)
    tells_pixels b i m a false y r = tt
    tells_pixels b i m true true true r = r
    tells_pixels b i m false true true r = same_zero i b (λ j hj lo up. (lo, up)) r
    tells_pixels b i m a true false r = tt

    -- one mark is put where there was none of a found coefficient
    other : (i v : ℕ) (m : List ℕ) → (get_or m i 0 ≡ 4) → (j : ℕ) → 2 ≤ get_or m j 0 → get_or m j 0 ≤ 3 → (2 ≤ get_or (set m i v) j 0) × (get_or (set m i v) j 0 ≤ 3)
    other i v m e j lo up =
        let s : get_or (set m i v) j 0 ≡ get_or m j 0 = get_or-set_other m i j v 0 (λ q. omega (arith, ap (λ (x : ℕ). get_or m x 0) q)) in (omega arith, omega arith)

    tells_sets : (b i : ℕ) (m : List ℕ) (a x d g c : Bool) → ltb i I ≡ x → eqb (get_or m i 0) 5 ≡ d → eqb (get_or m i 0) 6 ≡ g → eqb (get_or m i 0) 4 ≡ c → Held (suc b) sets i false m
        → Same I m o o' → Tells b sets a (tell_sets I (suc b) i m a d g) (look_sets b i m x d g c)
    tells_sets b i m a false d g c ex ed eg ec h r = tt
    tells_sets b i m true true true g c ex ed eg ec h r =
        same_marks (λ j hj lo up. let s = kept_d N L size P k o b i m h (ltb-true i I ex) (eqb-true (get_or m i 0) 5 ed) j hj (omega arith) (omega arith) in (omega (arith, s), omega (arith, s))) r
    tells_sets b i m false true true g c ex ed eg ec h r =
        let w : Desc_at D I h.1.0 i = is_desc_at sz h.1.0 m h.1.1.core i (ltb-true i I ex) (eqb-true (get_or m i 0) 5 ed) in
        same_each (desc N L (i / 4)) b
        (λ j hj lo up. no_member (any_in (λ x. eqb x j) (desc N L (i / 4)))
        (λ e. true≢false (sym (is_alone sz h.1.0 m h.1.1.core j hj (omega arith) (omega arith)).0 ∙ dead_d sz h.1.0 h.1.1.core.ok (i / 4) j (omega (arith, w.0, w.3)) w.2 (of_desc N L size P (i / 4) j e)))) r
    tells_sets b i m true true false true c ex ed eg ec h r =
        same_marks (λ j hj lo up. let s = kept_g N L size P k o b i m h (ltb-true i I ex) (eqb-true (get_or m i 0) 6 eg) j hj (omega arith) (omega arith) in (omega (arith, s), omega (arith, s))) r
    tells_sets b i m false true false true c ex ed eg ec h r =
        let w : Grand_at D I h.1.0 i = is_grand_at sz h.1.0 m h.1.1.core i (ltb-true i I ex) (eqb-true (get_or m i 0) 6 eg) in
        same_each (grand N L (i / 16)) b
        (λ j hj lo up. no_member (any_in (λ x. eqb x j) (grand N L (i / 16)))
        (λ e. true≢false (sym (is_alone sz h.1.0 m h.1.1.core j hj (omega arith) (omega arith)).0 ∙ dead_g sz h.1.0 h.1.1.core.ok (i / 16) j w.3 w.2 (of_grand N L size P (i / 16) j e)))) r
    tells_sets b i m true true false false true ex ed eg ec h r = r
    tells_sets b i m false true false false true ex ed eg ec h r = same_zero i b (λ j hj lo up. other i 1 m (eqb-true (get_or m i 0) 4 ec) j lo up) r
    tells_sets b i m a true false false false ex ed eg ec h r = tt

    tells_refining : (b i : ℕ) (m : List ℕ) (a x s n : Bool) → eqb (get_or m i 0) 3 ≡ s → Same I m o o' → Tells b refining a (scan.state_at (suc b) refining (i + 1) m) (look_refining b i m x s n)
    tells_refining b i m a false s n es r = tt
    tells_refining b i m a true true n es r =
        subst (λ (y : ℤ). Same I m (noted i (signed (negative (at o.bits i)) (mag_at o.bits i + digit a * 2 ^ b)) b o) (noted i (signed (negative y) (magnitude y + digit a * 2 ^ b)) b o')) (ap (λ (l : List ℤ). at l i) r.bits)
        (same_noted i b (signed (negative (at o.bits i)) (mag_at o.bits i + digit a * 2 ^ b)) (λ e. let v : get_or m i 0 ≡ 3 = eqb-true (get_or m i 0) 3 es in (omega arith, omega arith)) (λ j hj q lo up. (lo, up)) r)
    tells_refining b i m a true false true es r = tt
    tells_refining b i m a true false false es r = tt

    tells_sign : (b i : ℕ) (m : List ℕ) (a : Bool) → i < length m → Same I m o o' → Same I (set m i 2) (noted i (signed a (2 ^ b)) b o) (noted i (signed a (2 ^ b)) b o')
    tells_sign b i m a hl r =
        same_noted i b (signed a (2 ^ b)) (λ e. let v : get_or (set m i 2) i 0 ≡ 2 = get_or-set_same m i 2 0 hl in (omega arith, omega arith))
        (λ j hj q lo up. let s : get_or (set m i 2) j 0 ≡ get_or m j 0 = get_or-set_other m i j 2 0 q in (omega arith, omega arith)) r

    tells_in : (b : ℕ) (p : Pass) (i : ℕ) (w : Bool) (m : List ℕ) (a : Bool) → Held (suc b) p i w m → Same I m o o' → Tells b p a (tell_at I (suc b) p i w m a) (look_at I (suc b) p i w m)
    tells_in b pixels i true m a h r = tells_sign b i m a (omega (arith, h.2, h.1.1.core.len)) r
    tells_in b sets i true m a h r = tells_sign b i m a (omega (arith, h.2, h.1.1.core.len)) r
    tells_in b refining i true m a h r = absurd h
    tells_in b pixels i false m a h r = tells_pixels b i m a (ltb i I) (eqb (get_or m i 0) 1) r
    tells_in b sets i false m a h r = tells_sets b i m a (ltb i I) (eqb (get_or m i 0) 5) (eqb (get_or m i 0) 6) (eqb (get_or m i 0) 4) refl refl refl refl h r
    tells_in b refining i false m a h r = tells_refining b i m a (ltb i I) (eqb (get_or m i 0) 3) (eqb (get_or m i 0) 2) refl r

    same_tell : (l : ℕ) (p : Pass) (i : ℕ) (w : Bool) (m : List ℕ) (a : Bool) → Held l p i w m → Same I m o o' → Tells (l - 1) p a (tell_at I l p i w m a) (look_at I l p i w m)
    same_tell zero p i w m a h r = tt
    same_tell (suc b) p i w m a h r = subst (λ (c : ℕ). Tells c p a (tell_at I (suc b) p i w m a) (look_at I (suc b) p i w m)) {x = b} {y = suc b - 1} (omega arith) (tells_in b p i w m a h r)

  module _ (A : Bits) where
    abbrev Runs : Bits → Known → Known → State → Type 0
    Runs k o o' t = Good sz P (notes N L size P k o) t × Same I t.marks o o'

    moves : (k : Bits) (o o' : Known) (t : State) → Runs k o o' t → AfterMove I (Runs k o o') (look I t)
    moves k o o' t h = join (look I t) (good_look sz P (notes N L size P k o) t.left t.pass t.place t.pending t.marks h.0) (same_look k o o' t.left t.pass t.place t.pending t.marks h.1)
      where
        join : (x : Look) → Good_look sz P (notes N L size P k o) x → AfterMove I (SameOf k o o') x → AfterMove I (Runs k o o') x
        join over g r = tt
        join (silent s) g r = (g, r)
        join (asks q) g r = tt

    runs_next : (k : Bits) (o o' : Known) (s : State) (a : Bool) → Sound I P s o → Runs k o o' s → told N A (ask I s) a
        → Runs (know_o (ask I s) a k) (learn_at N L (ask I s) s a o) (learn_own_at N L (ask I s) s a o') (next I s a)
    unfolding next
    runs_next k o o' s a h r t =
        settle_keeps I (Runs (know_o (ask I s) a k) (learn_at N L (ask I s) s a o) (learn_own_at N L (ask I s) s a o')) (moves (know_o (ask I s) a k) (learn_at N L (ask I s) s a o) (learn_own_at N L (ask I s) s a o')) (tell I s a)
        (ends_tell N L size P A k o s a h r.0 t, (unfold ask in on (look I s) t (same_tell k o o' s.left s.pass s.place s.pending s.marks a r.0 r.1)))
      where
        on : (x : Look) → told N A (asked I x) a → Tells k o o' (s.left - 1) s.pass a (tell I s a) x → Same I (tell I s a).marks (learn_at N L (asked I x) s a o) (learn_own_at N L (asked I x) s a o')
        on over t f = absurd t
        on (silent r) t f = absurd t
        on (asks q) t f = f

    runs : (k : Bits) (o o' : Known) (s : State) (u : List Bool) → Settled I s → Sound I P s o → Runs k o o' s → Fit N A s u
        → Runs (least N s u k) (learned N L s o u) (learned_own N L s o' u) (reach I s u)
    unfolding reach learned learned_own
    runs k o o' s [] n h r f = r
    runs k o o' s (a ∷ u) n h r f =
        runs (know_o (ask I s) a k) (learn_at N L (ask I s) s a o) (learn_own_at N L (ask I s) s a o') (next I s a) u (next_settled I s a) (sound_next I P N L s o a n h) (runs_next k o o' s a h r f.0) f.1

    runs_begin : Runs first.nothing (nothing N P) (nothing N P) (begin N L P)
    runs_begin = (
      good_start sz P (notes N L size P first.nothing (nothing N P)) (λ j z. z),
      record {
        bits = refl;
        long = (length-replicate {A = ℤ} I (pos 0), length-replicate {A = ℕ} I P, length-replicate {A = ℕ} I P);
        found = λ j hj e. absurd (omega (arith, ap magnitude (get_or-replicate I j (pos 0) (pos 0) hj), e));
        planes = λ j hj e. refl;
      },
    )

module _ (N L : ℕ) (size : Sized N L) (P : ℕ) (A : List ℤ) (u : List Bool) (begins : Begins N L P A u) where
  same : Same (all_of N) (after N L P u).marks (known N L P u) (known_own N L P u)
  same = (runs N L size P (bits_of_arr (arr_of A)) first.nothing (nothing N P) (nothing N P) (begin N L P) u (start_settled (all_of N) (coarsest_of N L) P) (sound_begin N L P) (runs_begin N L size P (bits_of_arr (arr_of A))) ((begins_iff N L size P A u).0 begins).2).1

  -- a coefficient whose known bits are not 0 has MNP or MSP
  pub found_marked : (j : ℕ) → j < all_of N → 1 ≤ mag_at (known N L P u).bits j → (2 ≤ get_or (after N L P u).marks j 0) × (get_or (after N L P u).marks j 0 ≤ 3)
  found_marked = same.found

  -- the values of before: with each coefficient's own bits alone noted
  pub values_before : (rule : ℕ → ℕ → ℕ)
      → values_by N L P u rule ≡ table (all_of N) (λ i. value_by rule (min (get_or (known_own N L P u).planes i 0) (last_plane N L P u)) (at (known_own N L P u).bits i))
  unfolding value_by
  values_before rule = table_ext (all_of N) _ _ (λ i h. on i h (eqb (mag_at (known N L P u).bits i) 0) refl)
    where
      on : (i : ℕ) → i < all_of N → (x : Bool) → eqb (mag_at (known N L P u).bits i) 0 ≡ x
          → value_by rule (precision_at N L P u i) (at (known N L P u).bits i) ≡ value_by rule (min (get_or (known_own N L P u).planes i 0) (last_plane N L P u)) (at (known_own N L P u).bits i)
      on i h true e =
          let e' : eqb (mag_at (known_own N L P u).bits i) 0 ≡ true = ap (λ (l : List ℤ). eqb (mag_at l i) 0) (sym same.bits) ∙ e in
          rw (e, e') refl
      on i h false e =
          ap (λ (n : ℕ). value_by rule (min n (last_plane N L P u)) (at (known N L P u).bits i)) (same.planes i h (omega (arith, eqb-false (mag_at (known N L P u).bits i) 0 e)))
          ∙ ap (λ (l : List ℤ). value_by rule (min (get_or (known_own N L P u).planes i 0) (last_plane N L P u)) (at l i)) same.bits
