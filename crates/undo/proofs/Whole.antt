-- One bit back: from the state after the bits u and one more, `back` gives the state after u, for all bits that some array's stream begins with.
use mathlib.Core.Path.{◌≡◌, refl, sym, ap, ap₂, ◌∙◌}
use mathlib.Core.Bool.{Bool, true, false, false≢true, true≢false}
use mathlib.Core.List.{List, [], ◌∷◌, ◌++◌}
use Prim.Native.Nat.{ℕ, zero, suc, ◌+◌, ◌*◌, ◌-◌, ◌^◌, ◌≤◌, ◌<◌}
use native.Mathlib.Omega.{arith}
use native.Mathlib.Nat.{pow-suc, one-le-pow}
use native.Mathlib.Decide.{dec_lt}
use lib.IntN.{ℤ, pos}
use lib.ListN.{length, get_or, set}
use lib.Seq.{get_or-set_same, get_or-set_other}
use lib.Dec.{ltb, eqb, lit<, lit≤}
use borrow.Author.Tests.{ltb-true}
use Rattle.sizes.specs.Sizes.{most_n, all_of, coarsest_of, Sized}
use Rattle.bits.specs.Bits.{bit, digit}
use Rattle.bits.proofs.Laws.{bit_high}
use Rattle.coef.specs.Coef.{at, mag_at, magnitude, negative, signed}
use Rattle.coef.proofs.Laws.{magnitude_signed}
use Rattle.nls.specs.Marks.{start_marks}
use Rattle.nls.specs.Scan.{State, Look, over, silent, asks, Question, bit_of, sign_of, in_desc, in_grand, Pass, pixels, sets, refining, state_at, look, look_at, look_pixels, look_sets, look_refining, tell, tell_at, tell_sets, settle, moves_left, ask, asked, next, reach, start}
use Rattle.nls.specs.Stream.{begin, after}
use Rattle.nls.specs.Reading.{Known, nothing, learn, learn_at, learned, known}
use Rattle.nls.specs.Judging.{Begins}
use Rattle.nls.proofs.Tiled.{Tiled, tiled}
use Rattle.nls.proofs.Arrays.{Bits, bits_of_arr, Fit, told}
use Rattle.nls.proofs.Lists.{arr_of}
use Rattle.nls.proofs.Streams.{begins_iff}
use Rattle.nls.proofs.Verdicts.{last_told}
use Rattle.nls.proofs.Reading.Know.{know_o, least}
use Rattle.nls.proofs.Machine.Cover.{Core, is_alone}
use Rattle.nls.proofs.Machine.Run.{Falls, falls, reach_append, fit_prefix}
use Rattle.nls.proofs.Kept.{AfterMove, settle_keeps}
use Rattle.nls.proofs.Known.{Sound, known_sound, learned_append}
use Rattle.nls.proofs.Precision.Seen.{in_table}
use Rattle.nls.proofs.Precision.PlaneEnds.{along}
use Rattle.nls.proofs.Machine.Blocks.{at_0}
use Rattle.nls.proofs.Machine.Start as first
use Rattle.nls.proofs.Machine.Steps.{preds, Good, Good_at, Good_look, good_look}
use Rattle.nls.proofs.Reading.Told.{fam, one_tell}
use Rattle.undo.specs.Back.{answered, prior, back_from, back}
use Rattle.undo.proofs.Keeps.{calm_start}
use Rattle.undo.proofs.Moves.{Grown, GrownAt, big_of, Rest, RestOf, Moved, moved}
use Rattle.undo.proofs.Answers.{told_at_lem}

-- the magnitudes of the known bits
abbrev pub mags_of : Known → ℕ → ℕ
mags_of o j = mag_at o.bits j

module _ (N L : ℕ) (fits : N ≤ most_n) {D : ℕ} (P : ℕ) (sz : Tiled D (4 ^ N)) (A : Bits) (cap : (j e : ℕ) → A.has j e ≡ true → e < P) where
  abbrev I : ℕ
  I = 4 ^ N

  abbrev K : ℕ
  K = (P * 3 + 2) * (I + 2) + (I + 1)

  -- an answer leads on, or stays: no more moves lie ahead
  near_tell : (l : ℕ) (p : Pass) (i : ℕ) (w : Bool) (m : List ℕ) (a : Bool) → moves_left I (tell_at I l p i w m a) ≤ moves_left I (record { left = l; pass = p; place = i; pending = w; marks = m })
  near_tell l p i true m a = omega arith
  near_tell l pixels i false m true = omega arith
  near_tell l pixels i false m false = omega arith
  near_tell l refining i false m a = omega arith
  near_tell l sets i false m a = go a (eqb (get_or m i 0) 5) (eqb (get_or m i 0) 6)
    where
      go : (a d q : Bool) → moves_left I (tell_sets I l i m a d q) ≤ moves_left I (state_at l sets i m)
      go true true q = omega arith
      go false true q = omega arith
      go true false true = omega arith
      go false false true = omega arith
      go true false false = omega arith
      go false false false = omega arith

  -- what is kept: the invariant of the scan, what the way back rests on, and how many moves lie ahead
  record Ready (k : Bits) (g : ℕ → ℕ) (s : State) : Type 0 where
    good : Good sz P (fam N A k) s
    rest : RestOf N fits P sz A cap g s
    near : moves_left I s ≤ K

  -- and from t, `back` leads to s
  record Trail (k : Bits) (g : ℕ → ℕ) (s t : State) : Type 0 where
    ready : Ready k g t
    leads : (f : ℕ) → K ≤ f + moves_left I t → back_from I D P (big_of g) (suc f) t ≡ s

  -- a silent move keeps both
  ready_moves : (k : Bits) (g : ℕ → ℕ) (t : State) → Ready k g t → AfterMove I (λ r. Ready k g r) (look I t)
  ready_moves k g t p =
      on (look I t) (good_look sz P (fam N A k) t.left t.pass t.place t.pending t.marks p.good) (moved N fits P sz A cap k g t p.good p.rest) (falls I t)
    where
      on : (x : Look) → Good_look sz P (fam N A k) x → Moved N fits P sz A cap g t x → Falls I (moves_left I t) x → AfterMove I (λ r. Ready k g r) x
      on over a b c = tt
      on (silent r) a b c = record { good = a; rest = b.1; near = omega (arith, p.near, c) }
      on (asks q) a b c = tt

  trail_moves : (k : Bits) (g : ℕ → ℕ) (s t : State) → Trail k g s t → AfterMove I (λ r. Trail k g s r) (look I t)
  unfolding back_from
  trail_moves k g s t p = on (look I t) (ready_moves k g t p.ready) (moved N fits P sz A cap k g t p.ready.good p.ready.rest) (falls I t)
    where
      on : (x : Look) → AfterMove I (λ r. Ready k g r) x → Moved N fits P sz A cap g t x → Falls I (moves_left I t) x → AfterMove I (λ r. Trail k g s r) x
      on over a b c = tt
      on (silent r) a b c = record { ready = a; leads = λ f h. go f h }
        where
          go : (f : ℕ) → K ≤ f + moves_left I r → back_from I D P (big_of g) (suc f) r ≡ s
          go zero h = absurd (omega (arith, h, c, p.ready.near))
          go (suc f) h = rw (b.0, back_from) (p.leads f (omega (arith, h, c)))
      on (asks q) a b c = tt

  put_here : (o : List ℤ) (i : ℕ) (z : ℤ) → i < length o → mag_at (set o i z) i ≡ magnitude z
  put_here o i z h = ap magnitude (get_or-set_same o i z (pos 0) h)

  put_there : (o : List ℤ) (i : ℕ) (z : ℤ) (j : ℕ) → (j ≡ i → ⊥) → mag_at (set o i z) j ≡ mag_at o j
  put_there o i z j n = ap magnitude (get_or-set_other o i j z (pos 0) n)

  -- what is asked is asked of a place in the table
  abbrev Inside : Question → Type 0
  Inside (bit_of i c) = i < I
  Inside (sign_of i) = i < I
  Inside (in_desc h c) = Unit {0}
  Inside (in_grand h c) = Unit {0}

  sign_grown : (b i : ℕ) (a : Bool) (o : List ℤ) → i < length o → (2 ^ b ≤ mag_at (set o i (signed a (2 ^ b))) i) × (mag_at (set o i (signed a (2 ^ b))) i < 2 ^ suc b) × ((j : ℕ) → (j ≡ i → ⊥) → mag_at (set o i (signed a (2 ^ b))) j ≡ mag_at o j)
  sign_grown b i a o h =
      let e : mag_at (set o i (signed a (2 ^ b))) i ≡ 2 ^ b = put_here o i (signed a (2 ^ b)) h ∙ magnitude_signed a (2 ^ b) in
      (omega (arith, e), omega (arith, e, pow-suc 2 b, one-le-pow b 2 (lit< tt)), put_there o i (signed a (2 ^ b)))

  -- what is learned makes the magnitudes grow as they should
  grown : (p : Pass) (b : ℕ) (q : Question) (a : Bool) (o : Known) → length o.bits ≡ I → Inside q → Grown p b q (mags_of o) (mags_of (learn N L p b q a o))
  grown refining b (bit_of i c) a o e h = (
    omega (arith, put_here o.bits i (signed (negative (at o.bits i)) (magnitude (at o.bits i) + digit a * 2 ^ b)) (omega (arith, e, h)) ∙ magnitude_signed (negative (at o.bits i)) (magnitude (at o.bits i) + digit a * 2 ^ b)),
    put_there o.bits i (signed (negative (at o.bits i)) (magnitude (at o.bits i) + digit a * 2 ^ b)),
  )
  grown pixels b (bit_of i c) true o e h = λ j. refl
  grown pixels b (bit_of i c) false o e h = λ j. refl
  grown sets b (bit_of i c) true o e h = λ j. refl
  grown sets b (bit_of i c) false o e h = λ j. refl
  grown refining b (sign_of i) a o e h = sign_grown b i a o.bits (omega (arith, e, h))
  grown pixels b (sign_of i) a o e h = sign_grown b i a o.bits (omega (arith, e, h))
  grown sets b (sign_of i) a o e h = sign_grown b i a o.bits (omega (arith, e, h))
  grown refining b (in_desc g c) true o e h = λ j. refl
  grown refining b (in_desc g c) false o e h = λ j. refl
  grown pixels b (in_desc g c) true o e h = λ j. refl
  grown pixels b (in_desc g c) false o e h = λ j. refl
  grown sets b (in_desc g c) true o e h = λ j. refl
  grown sets b (in_desc g c) false o e h = λ j. refl
  grown refining b (in_grand g c) true o e h = λ j. refl
  grown refining b (in_grand g c) false o e h = λ j. refl
  grown pixels b (in_grand g c) true o e h = λ j. refl
  grown pixels b (in_grand g c) false o e h = λ j. refl
  grown sets b (in_grand g c) true o e h = λ j. refl
  grown sets b (in_grand g c) false o e h = λ j. refl

  abbrev InsideAt : Look → Type 0
  InsideAt over = Unit {0}
  InsideAt (silent t) = Unit {0}
  InsideAt (asks q) = Inside q

  inside_at : (k : Bits) (l : ℕ) (p : Pass) (i : ℕ) (w : Bool) (m : List ℕ) → Good_at sz P (fam N A k) l p i w m → InsideAt (look_at I l p i w m)
  inside_at k zero p i w m h = tt
  inside_at k (suc b) pixels i true m h = h.2
  inside_at k (suc b) sets i true m h = h.2
  inside_at k (suc b) refining i true m h = absurd h
  inside_at k (suc b) pixels i false m h = go (ltb i I) refl (eqb (get_or m i 0) 1)
    where
      go : (x : Bool) → ltb i I ≡ x → (y : Bool) → InsideAt (look_pixels b i m x y)
      go false e y = tt
      go true e true = ltb-true i I e
      go true e false = tt
  inside_at k (suc b) sets i false m h = go (ltb i I) refl (eqb (get_or m i 0) 5) (eqb (get_or m i 0) 6) (eqb (get_or m i 0) 4)
    where
      go : (x : Bool) → ltb i I ≡ x → (d q c : Bool) → InsideAt (look_sets b i m x d q c)
      go false e d q c = tt
      go true e true q c = tt
      go true e false true c = tt
      go true e false false true = ltb-true i I e
      go true e false false false = tt
  inside_at k (suc b) refining i false m h = go (ltb i I) refl (eqb (get_or m i 0) 3) (eqb (get_or m i 0) 2)
    where
      go : (x : Bool) → ltb i I ≡ x → (s n : Bool) → InsideAt (look_refining b i m x s n)
      go false e s n = tt
      go true e true n = ltb-true i I e
      go true e false true = tt
      go true e false false = tt

  -- One bit, and back.
  one_back : (k : Bits) (o : Known) (s : State) (a : Bool) → Sound I P s o → Ready k (mags_of o) s → told N A (ask I s) a
      → Ready (know_o (ask I s) a k) (mags_of (learn_at N L (ask I s) s a o)) (next I s a) × (back I D P (big_of (mags_of (learn_at N L (ask I s) s a o))) (next I s a) ≡ s)
  unfolding ask next back back_from
  one_back k o s a known p t = (tr.ready, tr.leads (K - moves_left I (settle I (tell I s a))) (omega (arith, tr.ready.near)))
    where
      g : ℕ → ℕ
      g = mags_of (learn_at N L (asked I (look I s)) s a o)

      grew : (x : Look) → told N A (asked I x) a → InsideAt x → GrownAt s.pass (s.left - 1) x (mags_of o) (mags_of (learn_at N L (asked I x) s a o))
      grew over t i = t
      grew (silent r) t i = t
      grew (asks q) t i = grown s.pass (s.left - 1) q a o known.long_bits i

      td : (prior I D P (big_of g) (tell I s a) ≡ answered s) × RestOf N fits P sz A cap g (tell I s a)
      td = told_at_lem N fits P sz A cap k (mags_of o) g s.left s.pass s.place s.pending s.marks a p.good p.rest
          (grew (look I s) t (inside_at k s.left s.pass s.place s.pending s.marks p.good))

      tr : Trail (know_o (asked I (look I s)) a k) g s (settle I (tell I s a))
      tr = settle_keeps I (λ r. Trail (know_o (asked I (look I s)) a k) g s r) (λ r q. trail_moves (know_o (asked I (look I s)) a k) g s r q) (tell I s a) (record {
        ready = record {
          good = one_tell N P sz A k s a p.good t;
          rest = td.1;
          near = omega (arith, p.near, near_tell s.left s.pass s.place s.pending s.marks a);
        };
        leads = λ f h. rw (td.0, back_from) refl;
      })

  -- before the first bit
  ready_start : Ready first.nothing (mags_of (nothing N P)) (start I D P)
  unfolding start start_marks
  ready_start =
      settle_keeps I (λ r. Ready first.nothing (mags_of (nothing N P)) r) (λ r q. ready_moves first.nothing (mags_of (nothing N P)) r q) (state_at P pixels 0 (first.first sz)) (record {
        good = first.good_first sz P (fam N A first.nothing) (λ j z. false≢true z.1);
        rest = rest P (omega arith);
        near = omega arith;
      })
    where
      core : Core sz first.c0 (first.first sz)
      core = (first.pix_0 sz (preds (fam N A first.nothing) 0) ((fam N A first.nothing).X 0) (λ j z. false≢true z.1)).core

      one : (j v : ℕ) → 2 ≤ v → v ≤ 3 → get_or (first.first sz) j 0 ≡ v → ⊥
      one j v lo hi e =
          let h : j < I = in_table sz first.c0 (first.first sz) core j (omega (arith, e, lo)) in
          omega (arith, e, lo, (is_alone sz first.c0 (first.first sz) core j h (omega (arith, e, lo)) (omega (arith, e, hi))).1)

      rest : (l : ℕ) → l ≤ P → Rest N fits P sz A cap (mags_of (nothing N P)) l pixels 0 false (first.first sz)
      rest zero h = tt
      rest (suc b) h = (
        h,
        omega arith,
        at_0 sz first.c0 (first.first sz) core,
        calm_start sz (first.first sz) core,
        record {
          two = λ j e. absurd (one j 2 (lit≤ tt) (lit≤ tt) e);
          three = λ j e. absurd (one j 3 (lit≤ tt) (lit≤ tt) e);
        },
      )

-- In the words of crate nls: after the bits u and one more, which some array's stream begins with, one bit back is the state after u.
pub back_after : (N L : ℕ) → Sized N L → N ≤ most_n → (P : ℕ) (A : List ℤ) (u : List Bool) (a : Bool) → Begins N L P A (u ++ (a ∷ []))
    → back (all_of N) (coarsest_of N L) P (big_of (mags_of (known N L P (u ++ (a ∷ []))))) (after N L P (u ++ (a ∷ []))) ≡ after N L P u
unfolding learned reach
back_after N L z fits P A u a b =
    ap₂ (λ (o : Known) (s : State). back (all_of N) (coarsest_of N L) P (big_of (mags_of o)) s) (learned_append N L (begin N L P) (nothing N P) u (a ∷ [])) (reach_append N (begin N L P) u (a ∷ []))
    ∙ (one_back N L fits P sz B cap (least N (begin N L P) u first.nothing) (known N L P u) (after N L P u) a (known_sound N L P u) ready (last_told N B (begin N L P) u a fit)).1
  where
    B : Bits
    B = bits_of_arr (arr_of A)

    sz : Tiled (coarsest_of N L) (all_of N)
    sz = tiled N L z

    cap : (j e : ℕ) → bit (mag_at A j) e ≡ true → e < P
    cap j e h = on (dec_lt e P)
      where
        on : Dec (e < P) → e < P
        on (yes y) = y
        on (no y) = absurd (true≢false (sym h ∙ bit_high P (mag_at A j) e (b.planes.below j) (omega (arith, y))))

    fit : Fit N (bits_of_arr (arr_of A)) (begin N L P) (u ++ (a ∷ []))
    fit = ((begins_iff N L z P A (u ++ (a ∷ []))).0 b).2

    ready : Ready N L fits P sz B cap (least N (begin N L P) u first.nothing) (mags_of (known N L P u)) (after N L P u)
    ready = along N L P B (λ k o s. Ready N L fits P sz B cap k (mags_of o) s) (λ k o s a h r t. (one_back N L fits P sz B cap k o s a h r t).0) (ready_start N L fits P sz B cap) u (fit_prefix N B (begin N L P) u (a ∷ []) fit)
