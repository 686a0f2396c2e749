-- The verdict on one bit more: what the stepped decoder's test of the next bit says of all bits up to it.
use Prim.Native.Nat.{ℕ, zero, suc, ◌+◌, ◌*◌, ◌-◌, ◌/◌, ◌≤◌, ◌<◌}
use mathlib.Core.Path.{◌≡◌, refl, sym, ap, subst, ◌∙◌}
use mathlib.Core.Bool.{Bool, true, false, not, ◌&&◌, and-false}
use mathlib.Core.Option.{Option, none, some, IsSome}
use mathlib.Core.List.{List, [], ◌∷◌, ◌++◌}
use native.Mathlib.Omega.{arith}
use borrow.Author.Tests.{ltb-true, eqb-true}
use lib.Dec.{ltb, eqb}
use lib.ListN.{length, get_or}
use Rattle.sizes.specs.Sizes.{most_n, most_planes, all_of, coarsest_of, Sized}
use Rattle.sizes.proofs.Laws.{all_most}
use Rattle.bits.specs.Bits.{bit_at, bits_of}
use Rattle.bits.proofs.Laws.{bits_of_length}
use Rattle.nls.specs.Scan.{Question, Pass, pixels, sets, refining, State, look_at, look_pixels, look_sets, look_refining, asked, ask, next, reach}
use Rattle.nls.specs.Stream.{begin, after}
use Rattle.nls.specs.Judging.{Fits, Verdict, taken, contradiction, beyond, Judged}
use Rattle.nls.proofs.Known.{left_most}
use Rattle.nls.proofs.Streams.{left_asks_none, asks_none_left}
use Rattle.nls.proofs.Judging.Decide.{clash_by}
use Rattle.nls.proofs.Judging.ByCount.{clash_count, count_st}
use Rattle.nls.proofs.Tiled.{Tiled, tiled}
use Rattle.nls.proofs.Verdicts.{verdict, verdict_from, verdict_judged, refused_exactly}
use Rattle.reading.specs.Reading.{bars_at, bars_fit, bars_zero}
use Rattle.reading.proofs.ReadLaws.{at_1, at_2, at_3, at_4, fit_true}
use Rattle.reading.proofs.Received.{child_is, grand_is, desc_is, verdict_go, verdict_no, verdict_over, verdict_end, bits_more}

-- ---- where something is asked the test by the mark is the verdict's

module _ (I D P b used i : ℕ) (m : List ℕ) (near : I ≤ all_of most_n) (wide : 4 ≤ D) (room : 4 * D ≤ I) (tops : P ≤ most_planes) (most : suc b ≤ P) where
  abbrev zero_bars : Bool
  zero_bars = bars_zero I D P (suc b) used i m

  abbrev clashes : Bool
  clashes = clash_by I D P b i m (eqb used (D + 3 * D / 4 - 1))

  plane : bars_at I D P (suc b - 1) used i m ≡ bars_at I D P b used i m
  plane = ap (λ (c : ℕ). bars_at I D P c used i m) {x = suc b - 1} {y = b} (omega arith)

  -- a mark of a coefficient by itself bars nothing
  alone : get_or m i 0 < 4 → zero_bars ≡ false
  alone h =
      let e : bars_at I D P (suc b - 1) used i m ≡ false =
      sym (at_4 I D P (suc b - 1) used i m (λ z. omega (arith, z, h)) (λ z. omega (arith, z, h)) (λ z. omega (arith, z, h))) in
      ap (λ (x : Bool). bars_fit I D P (suc b) i && x) e ∙ and-false (bars_fit I D P (suc b) i)

  inside : i < I → bars_at I D P b used i m ≡ clashes → zero_bars ≡ clashes
  inside h e =
      ap (λ (x : Bool). x && bars_at I D P (suc b - 1) used i m) (fit_true I D P (suc b) i near wide room tops (omega arith) (omega (arith, most, tops)) h) ∙ plane ∙ e

  in_pixels : (x y : Bool) → eqb (get_or m i 0) 1 ≡ y → IsSome (asked I (look_pixels b i m x y)) → zero_bars ≡ false
  in_pixels false y e a = absurd a
  in_pixels true true e a = alone (omega (arith, eqb-true (get_or m i 0) 1 e))
  in_pixels true false e a = absurd a

  in_refining : (x y w : Bool) → eqb (get_or m i 0) 3 ≡ y → IsSome (asked I (look_refining b i m x y w)) → zero_bars ≡ false
  in_refining false y w e a = absurd a
  in_refining true true w e a = alone (omega (arith, eqb-true (get_or m i 0) 3 e))
  in_refining true false true e a = absurd a
  in_refining true false false e a = absurd a

  in_sets : (x d g c : Bool) → ltb i I ≡ x → eqb (get_or m i 0) 5 ≡ d → eqb (get_or m i 0) 6 ≡ g → eqb (get_or m i 0) 4 ≡ c → IsSome (asked I (look_sets b i m x d g c)) → zero_bars ≡ clashes
  in_sets false d g c ex ed eg ec a = absurd a
  in_sets true true g c ex ed eg ec a =
      let e : get_or m i 0 ≡ 5 = eqb-true (get_or m i 0) 5 ed in
      inside (ltb-true i I ex) (sym (at_2 I D P b used i m (λ z. omega (arith, z, e)) _ e refl) ∙ desc_is I D P b i used m e)
  in_sets true false true c ex ed eg ec a =
      let e : get_or m i 0 ≡ 6 = eqb-true (get_or m i 0) 6 eg in
      inside (ltb-true i I ex) (sym (at_3 I D P b used i m (λ z. omega (arith, z, e)) (λ z. omega (arith, z, e)) _ e refl) ∙ grand_is I D P b i used m e)
  in_sets true false false true ex ed eg ec a =
      let e : get_or m i 0 ≡ 4 = eqb-true (get_or m i 0) 4 ec in
      inside (ltb-true i I ex) (sym (at_1 I D P b used i m _ e refl) ∙ child_is I D P b i used m e)
  in_sets true false false false ex ed eg ec a = absurd a

module _ (I D P used : ℕ) (near : I ≤ all_of most_n) (wide : 4 ≤ D) (room : 4 * D ≤ I) (tops : P ≤ most_planes) where
  bars_st : (l : ℕ) (p : Pass) (i : ℕ) (w : Bool) (m : List ℕ) → l ≤ P → IsSome (asked I (look_at I l p i w m)) → (not w && bars_zero I D P l used i m) ≡ count_st I D P used l p i w m
  bars_st zero p i w m h a = absurd a
  bars_st (suc b) pixels i true m h a = refl
  bars_st (suc b) sets i true m h a = refl
  bars_st (suc b) refining i true m h a = refl
  bars_st (suc b) pixels i false m h a = in_pixels I D P b used i m near wide room tops h (ltb i I) (eqb (get_or m i 0) 1) refl a
  bars_st (suc b) sets i false m h a = in_sets I D P b used i m near wide room tops h (ltb i I) (eqb (get_or m i 0) 5) (eqb (get_or m i 0) 6) (eqb (get_or m i 0) 4) refl refl refl refl a
  bars_st (suc b) refining i false m h a = in_refining I D P b used i m near wide room tops h (ltb i I) (eqb (get_or m i 0) 3) (eqb (get_or m i 0) 2) refl a

  bars_count : (s : State) → s.left ≤ P → (q : Question) → ask I s ≡ some q → (not s.pending && bars_zero I D P s.left used s.place s.marks) ≡ clash_count I D P used s
  unfolding ask clash_count
  bars_count s h q e = bars_st s.left s.pass s.place s.pending s.marks h (subst (λ (o : Option Question). IsSome o) (sym e) tt)

-- ---- the verdict on bits that are taken, and more

module _ (N L P : ℕ) where
  verdict_append : (u v : List Bool) (k : ℕ) (s : State) → verdict_from N L P k s u ≡ taken → verdict_from N L P k s (u ++ v) ≡ verdict_from N L P (k + length u) (reach (all_of N) s u) v
  unfolding reach
  verdict_append [] v k s h = ap (λ (x : ℕ). verdict_from N L P x s v) {x = k} {y = k + 0} (omega arith)
  verdict_append (a ∷ u) v k s h = on (ask (all_of N) s) refl (not a && clash_count (all_of N) (coarsest_of N L) P k s) refl (verdict_append u v (k + 1) (next (all_of N) s a))
    where
      on : (o : Option Question) → ask (all_of N) s ≡ o → (t : Bool) → (not a && clash_count (all_of N) (coarsest_of N L) P k s) ≡ t
          → (verdict_from N L P (k + 1) (next (all_of N) s a) u ≡ taken → verdict_from N L P (k + 1) (next (all_of N) s a) (u ++ v) ≡ verdict_from N L P (k + 1 + length u) (reach (all_of N) (next (all_of N) s a) u) v)
          → verdict_from N L P k s (a ∷ (u ++ v)) ≡ verdict_from N L P (k + suc (length u)) (reach (all_of N) (next (all_of N) s a) u) v
      on none e t f more =
          let y : beyond k ≡ taken = sym (verdict_over N L P k s a u e) ∙ h in
          let z : ◌≡◌ {A = ℕ} 0 1 = cc in
          absurd (omega (arith, z))
      on (some q) e true f more =
          let y : contradiction k ≡ taken = sym (verdict_no N L P k s a u q e f) ∙ h in
          let z : ◌≡◌ {A = ℕ} 0 1 = cc in
          absurd (omega (arith, z))
      on (some q) e false f more =
          verdict_go N L P k s a (u ++ v) q e f
          ∙ more (sym (verdict_go N L P k s a u q e f) ∙ h)
          ∙ ap (λ (x : ℕ). verdict_from N L P x (reach (all_of N) (next (all_of N) s a) u) v) {x = k + 1 + length u} {y = k + suc (length u)} (omega arith)

-- ---- one bit more, after bits that fit some array

-- the test of the next bit: a 0 that fits no array
abbrev pub bars_next : ℕ → ℕ → ℕ → List ℕ → ℕ → Bool
bars_next N L P body n =
    not (bit_at body n)
    && (not (after N L P (bits_of n body)).pending
    && bars_zero (all_of N) (coarsest_of N L) P (after N L P (bits_of n body)).left n (after N L P (bits_of n body)).place (after N L P (bits_of n body)).marks)

module _ (N L : ℕ) (z : Sized N L) (P : ℕ) (body : List ℕ) (n : ℕ) (w : Fits N L P (bits_of n body)) where
  abbrev u : List Bool
  u = bits_of n body

  abbrev s : State
  s = after N L P (bits_of n body)

  abbrev a : Bool
  a = bit_at body n

  next_judged : (v : Verdict) → verdict_from N L P n s (a ∷ []) ≡ v → Judged N L P (bits_of (n + 1) body) v
  next_judged v e =
      let c : verdict N L P (bits_of (n + 1) body) ≡ v =
      ap (λ (x : List Bool). verdict N L P x) (bits_more n body)
      ∙ verdict_append N L P u (a ∷ []) 0 (begin N L P) ((refused_exactly N L z P u).1 w)
      ∙ ap (λ (x : ℕ). verdict_from N L P x s (a ∷ [])) {x = 0 + length u} {y = n} (omega (arith, bits_of_length n body))
      ∙ e in
      subst (λ (x : Verdict). Judged N L P (bits_of (n + 1) body) x) c (verdict_judged N L z P (bits_of (n + 1) body))

  -- no plane is left
  pub next_beyond : (after N L P (bits_of n body)).left ≡ 0 → Judged N L P (bits_of (n + 1) body) (beyond n)
  next_beyond e = next_judged (beyond n) (verdict_over N L P n s a [] (left_asks_none N L P u e))

  module _ (most : N ≤ most_n) (planes : P ≤ most_planes) (h : 0 < (after N L P (bits_of n body)).left) where
    asked_some : (o : Option Question) → ask (all_of N) s ≡ o → (q : Question) × (ask (all_of N) s ≡ some q)
    asked_some none e = absurd (omega (arith, h, asks_none_left N L P u e))
    asked_some (some q) e = (q, e)

    question : (q : Question) × (ask (all_of N) s ≡ some q)
    question = asked_some (ask (all_of N) s) refl

    same_test : (t : Bool) → bars_next N L P body n ≡ t → (not a && clash_count (all_of N) (coarsest_of N L) P n s) ≡ t
    same_test t e =
        let f : Tiled (coarsest_of N L) (all_of N) = tiled N L z in
        ap (λ (x : Bool). not a && x) (sym (bars_count (all_of N) (coarsest_of N L) P n (all_most N most) f.least f.room planes s (left_most N L P u) question.0 question.1)) ∙ e

    pub next_taken : bars_next N L P body n ≡ false → Judged N L P (bits_of (n + 1) body) taken
    next_taken e = next_judged taken (verdict_go N L P n s a [] question.0 question.1 (same_test false e) ∙ verdict_end N L P (n + 1) (next (all_of N) s a))

    pub next_barred : bars_next N L P body n ≡ true → Judged N L P (bits_of (n + 1) body) (contradiction n)
    next_barred e = next_judged (contradiction n) (verdict_no N L P n s a [] question.0 question.1 (same_test true e))
