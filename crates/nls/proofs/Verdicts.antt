-- Refusals 12 and 13 as a computation: the verdict on usable bits, and that it is the one that document 01 means.
use Prim.Native.Nat.{ℕ, zero, suc, ◌+◌, ◌≤◌, ◌<◌}
use mathlib.Core.Path.{◌≡◌, refl, sym, ap, subst, ◌∙◌}
use mathlib.Core.Bool.{Bool, true, false, not, ◌&&◌}
use mathlib.Core.Logic.{◌⊎◌, inl, inr}
use mathlib.Core.Option.{Option, none, some, IsSome}
use mathlib.Core.List.{List, [], ◌∷◌, ◌++◌}
use native.Mathlib.Omega.{arith}
use lib.IntN.{ℤ, pos}
use lib.ListN.{length, get_or, take, replicate, length-take, length-append, length-replicate, get_or-replicate, get_or-eq_default}
use lib.Seq.{take_all, take-take, take-suc, take_at}
use Rattle.sizes.specs.Sizes.{all_of, coarsest_of, Sized}
use Rattle.coef.specs.Coef.{mag_at, magnitude, IsPlanes}
use Rattle.nls.specs.Marks.{skip, set_skip, push_from, push_roots, start_marks}
use Rattle.nls.specs.Scan.{Question, State, silently, settle, ask, next, reach, start}
use Rattle.nls.specs.Stream.{begin, after, stream}
use Rattle.nls.specs.Judging.{Fits, Verdict, taken, contradiction, beyond, Contradicts, IsBeyond, Judged}
use Rattle.nls.proofs.Machine.Run.{none_asked}
use Rattle.nls.proofs.Tiled.{tiled}
use Rattle.nls.proofs.Arrays.{Bits, bits_of_arr, told, Fit}
use Rattle.nls.proofs.Counting.Sums.{order}
use Rattle.nls.proofs.Judging.Decide.{clash_by, cb_child, cb_grand, cb_desc, cb_root}
use Rattle.nls.proofs.Judging.Decoder.{decode, Means, decode_means}
use Rattle.nls.proofs.Judging.ByCount.{clash_count, right_count}
use Rattle.nls.proofs.Lists.{arr_of}
use Rattle.nls.proofs.Streams.{Answered, left_asks_none, asks_none_left, begins_iff}
use Rattle.nls.proofs.Signs.{lists_fit, bits_fit}

-- The verdict on the bits u from a settled state on, after `used` bits: 13 where nothing is asked, 12 at a 0 that leaves no array.
unfoldable pub verdict_from : ℕ → ℕ → ℕ → ℕ → State → List Bool → Verdict
verdict_from N L P used s [] = taken
verdict_from N L P used s (a ∷ u) = elim (ask (all_of N) s) [
  | none ↦ beyond used
  | some q ↦ elim (not a && clash_count (all_of N) (coarsest_of N L) P used s) [
    | true ↦ contradiction used
    | false ↦ verdict_from N L P (used + 1) (next (all_of N) s a) u
  ]
]

abbrev pub verdict : ℕ → ℕ → ℕ → List Bool → Verdict
verdict N L P u = verdict_from N L P 0 (begin N L P) u

-- it is the decoder's
abbrev decoded : ℕ → ℕ → ℕ → ℕ → State → List Bool → Verdict
decoded N L P used s u = decode (all_of N) (λ used s. clash_count (all_of N) (coarsest_of N L) P used s) used s u

verdict_decoded : (N L P used : ℕ) (s : State) (u : List Bool) → verdict_from N L P used s u ≡ decoded N L P used s u
unfolding verdict_from decode
verdict_decoded N L P used s [] = refl
verdict_decoded N L P used s (a ∷ u) =
    on (ask (all_of N) s) (not a && clash_count (all_of N) (coarsest_of N L) P used s) (verdict_decoded N L P (used + 1) (next (all_of N) s a) u)
  where
    on : (o : Option Question) (t : Bool) → verdict_from N L P (used + 1) (next (all_of N) s a) u ≡ decoded N L P (used + 1) (next (all_of N) s a) u
        → ◌≡◌ {A = Verdict} (elim o as (λ _. Verdict) [ none ↦ beyond used | some q ↦ elim t as (λ _. Verdict) [ true ↦ contradiction used | false ↦ verdict_from N L P (used + 1) (next (all_of N) s a) u ] ])
        (elim o as (λ _. Verdict) [ none ↦ beyond used | some q ↦ elim t as (λ _. Verdict) [ true ↦ contradiction used | false ↦ decoded N L P (used + 1) (next (all_of N) s a) u ] ])
    on none t ih = refl
    on (some q) true ih = refl
    on (some q) false ih = ih

-- a list cut inside it
cut_there : (u : List Bool) (a : Bool) (r : List Bool) → length u < length (u ++ (a ∷ r))
cut_there u a r = omega (arith, length-append u (a ∷ r))

cut_before : (u : List Bool) (a : Bool) (r : List Bool) → take (length u) (u ++ (a ∷ r)) ≡ u
cut_before u a r = take_at u (a ∷ r) (length u) refl

cut_with : (u : List Bool) (a : Bool) (r : List Bool) → take (suc (length u)) (u ++ (a ∷ r)) ≡ u ++ (a ∷ [])
cut_with [] a r = refl
cut_with (x ∷ u) a r = ap (λ (v : List Bool). x ∷ v) (cut_with u a r)

-- the last bit of what fits is told
pub last_told : (N : ℕ) (B : Bits) (s : State) (u : List Bool) (a : Bool) → Fit N B s (u ++ (a ∷ [])) → told N B (ask (all_of N) (reach (all_of N) s u)) a
unfolding reach
last_told N B s [] a f = f.0
last_told N B s (x ∷ u) a f = last_told N B (next (all_of N) s x) u a f.1

-- the array of zeros, of 0 planes
zero_planes : (n : ℕ) → IsPlanes (replicate n (pos 0)) 0
zero_planes n = record { below = λ i. omega (arith, none i (order n i)); least = λ R h. omega arith }
  where
    none : (i : ℕ) → (n ≤ i) ⊎ (i < n) → mag_at (replicate n (pos 0)) i ≡ 0
    none i (inl h) = ap (λ (x : ℤ). magnitude x) (get_or-eq_default (replicate n (pos 0)) (pos 0) {n = i} (omega (arith, h, length-replicate {A = ℤ} n (pos 0))))
    none i (inr h) = ap (λ (x : ℤ). magnitude x) (get_or-replicate n i (pos 0) (pos 0) h)

module _ (N L : ℕ) (z : Sized N L) where
  nothing_fits : Fits N L 0 []
  nothing_fits = (replicate (all_of N) (pos 0), record { size = length-replicate {A = ℤ} (all_of N) (pos 0); planes = zero_planes (all_of N); same = refl })

  module _ (P : ℕ) where
    -- what fits some bits fits fewer
    pub fits_fewer : (k : ℕ) (u : List Bool) → Fits N L P u → Fits N L P (take k u)
    fits_fewer k u w = (w.0, record { size = w.1.size; planes = w.1.planes; same = cut })
      where
        T : List Bool
        T = stream N L P w.0

        both : take k (take (length u) T) ≡ take k u
        both = ap (λ (v : List Bool). take k v) w.1.same

        shorter : (k ≤ length u) ⊎ (length u < k) → take (length (take k u)) T ≡ take k u
        shorter (inl h) = ap (λ (n : ℕ). take n T) {x = length (take k u)} {y = k} (omega (arith, length-take k u, h)) ∙ sym (take-take k (length u) T h) ∙ both
        shorter (inr h) = ap (λ (v : List Bool). take (length v) T) (take_all k u (omega (arith, h))) ∙ w.1.same ∙ sym (take_all k u (omega (arith, h)))

        cut : take (length (take k u)) T ≡ take k u
        cut = shorter (order k (length u))

    -- where no plane is left no further bit fits
    past_end : (u : List Bool) (n : ℕ) → n < length u → (after N L P (take n u)).left ≡ 0 → Fits N L P (take (suc n) u) → ⊥
    past_end u n h e w =
        let f : Answered N L P w.0 (take n u ++ (get_or u n false ∷ [])) =
        subst (λ (v : List Bool). Answered N L P w.0 v) (take-suc u n false h) ((begins_iff N L z P w.0 (take (suc n) u)).0 w.1).2 in
        subst (λ (o : Option Question). told N (bits_of_arr (arr_of w.0)) o (get_or u n false)) (left_asks_none N L P (take n u) e)
        (last_told N (bits_of_arr (arr_of w.0)) (begin N L P) (take n u) (get_or u n false) f)

    -- while something is asked a plane is left
    asked_left : (u : List Bool) (q : Question) → ask (all_of N) (after N L P u) ≡ some q → 0 < (after N L P u).left
    asked_left u q e = go (after N L P u).left refl
      where
        go : (l : ℕ) → (after N L P u).left ≡ l → 0 < l
        go zero h = absurd (subst (λ (o : Option Question). IsSome o) (sym e ∙ left_asks_none N L P u h) tt)
        go (suc l) h = omega arith

    -- what the decoder's answer means, over lists of numbers
    meant_judged : 1 ≤ P → (v : List Bool) (o : Verdict) → Means N P (tiled N L z) v o → Judged N L P v o
    meant_judged h v taken m = lists_fit N L z P v m
    meant_judged h v (contradiction n) m =
        subst (λ (x : List Bool). Contradicts N L P x n) (sym m.3)
        (subst (λ (k : ℕ). Contradicts N L P (m.0 ++ (m.1 ∷ m.2)) k) (sym m.4)
        (record {
          there = cut_there m.0 m.1 m.2;
          before = subst (λ (x : List Bool). Fits N L P x) (sym (cut_before m.0 m.1 m.2)) (lists_fit N L z P m.0 m.5);
          none = λ f. m.6 (bits_fit N L z P h (m.0 ++ (m.1 ∷ [])) (subst (λ (x : List Bool). Fits N L P x) (cut_with m.0 m.1 m.2) f));
          in_plane = subst (λ (x : List Bool). 0 < (after N L P x).left) (sym (cut_before m.0 m.1 m.2)) (asked_left m.0 m.7.0 m.7.1);
        }))
    meant_judged h v (beyond n) m =
        subst (λ (x : List Bool). IsBeyond N L P x n) (sym m.3)
        (subst (λ (k : ℕ). IsBeyond N L P (m.0 ++ (m.1 ∷ m.2)) k) (sym m.4)
        (record {
          there = cut_there m.0 m.1 m.2;
          before = subst (λ (x : List Bool). Fits N L P x) (sym (cut_before m.0 m.1 m.2)) (lists_fit N L z P m.0 m.5);
          ended = ap (λ (x : List Bool). (after N L P x).left) (cut_before m.0 m.1 m.2) ∙ asks_none_left N L P m.0 m.6;
        }))

    judged_some : 1 ≤ P → (u : List Bool) → Judged N L P u (verdict N L P u)
    judged_some h u =
        subst (λ (v : Verdict). Judged N L P u v) (sym (verdict_decoded N L P 0 (begin N L P) u))
        (meant_judged h u (decoded N L P 0 (begin N L P) u) (decode_means N P (tiled N L z) (λ used s. clash_count (all_of N) (coarsest_of N L) P used s) (right_count N P (tiled N L z)) h u))

  judged_none : (u : List Bool) → Judged N L 0 u (verdict N L 0 u)
  unfolding verdict_from
  judged_none [] = nothing_fits
  judged_none (a ∷ u) =
      rw (none_asked (all_of N) (coarsest_of N L), verdict_from)
      (record { there = omega arith; before = nothing_fits; ended = asks_none_left N L 0 [] (unfold reach in none_asked (all_of N) (coarsest_of N L)) })

  -- the verdict is right, for every number of planes
  pub verdict_judged : (P : ℕ) (u : List Bool) → Judged N L P u (verdict N L P u)
  verdict_judged zero u = judged_none u
  verdict_judged (suc P) u = judged_some (suc P) (omega arith) u

  -- and the only one
  module _ (P : ℕ) (u : List Bool) where
    -- nothing fits past the bit of a refusal
    past_12 : (n k : ℕ) → Contradicts N L P u n → n < k → Fits N L P (take k u) → ⊥
    past_12 n k c h w = c.none (subst (λ (v : List Bool). Fits N L P v) (take-take (suc n) k u h) (fits_fewer P (suc n) (take k u) w))

    past_13 : (n k : ℕ) → IsBeyond N L P u n → n < k → Fits N L P (take k u) → ⊥
    past_13 n k c h w = past_end P u n c.there c.ended (subst (λ (v : List Bool). Fits N L P v) (take-take (suc n) k u h) (fits_fewer P (suc n) (take k u) w))

    all_fits : Fits N L P u → Fits N L P (take (length u) u)
    all_fits w = fits_fewer P (length u) u w

    same_place : (n k : ℕ) → (n < k → ⊥) → (k < n → ⊥) → n ≡ k
    same_place n k p q = omega (arith, p, q)

    apart : (n k : ℕ) → Contradicts N L P u n → IsBeyond N L P u k → ⊥
    apart n k c d =
        let e : n ≡ k = same_place n k (λ h. past_12 n k c h d.before) (λ h. past_13 k n d h c.before) in
        omega (arith, c.in_plane, ap (λ (x : ℕ). (after N L P (take x u)).left) e, d.ended)

    pub judged_only : (v w : Verdict) → Judged N L P u v → Judged N L P u w → v ≡ w
    judged_only taken taken p q = refl
    judged_only taken (contradiction n) p q = absurd (past_12 n (length u) q q.there (all_fits p))
    judged_only taken (beyond n) p q = absurd (past_13 n (length u) q q.there (all_fits p))
    judged_only (contradiction n) taken p q = absurd (past_12 n (length u) p p.there (all_fits q))
    judged_only (contradiction n) (contradiction k) p q =
        ap {B = Verdict} (λ (x : ℕ). contradiction x) (same_place n k (λ h. past_12 n k p h q.before) (λ h. past_12 k n q h p.before))
    judged_only (contradiction n) (beyond k) p q = absurd (apart n k p q)
    judged_only (beyond n) taken p q = absurd (past_13 n (length u) p p.there (all_fits q))
    judged_only (beyond n) (contradiction k) p q = absurd (apart k n q p)
    judged_only (beyond n) (beyond k) p q =
        ap {B = Verdict} (λ (x : ℕ). beyond x) (same_place n k (λ h. past_13 n k p h q.before) (λ h. past_13 k n q h p.before))

    -- the bits are taken if and only if some array's stream begins with them
    pub refused_exactly : (verdict N L P u ≡ taken → Fits N L P u) × (Fits N L P u → verdict N L P u ≡ taken)
    refused_exactly = ((λ e. subst (λ (v : Verdict). Judged N L P u v) e (verdict_judged P u)), λ w. judged_only (verdict N L P u) taken (verdict_judged P u) w)

-- The samples of document 01 on 12 and 13.
pub no_one_found : verdict 2 1 1 (replicate 7 false) ≡ contradiction 6
unfolding verdict_from start start_marks push_roots push_from settle silently skip set_skip ask next clash_count clash_by cb_child cb_grand cb_desc cb_root
no_one_found = refl

pub no_child_found : verdict 2 1 1 (replicate 4 false ++ (true ∷ replicate 4 false)) ≡ contradiction 8
unfolding verdict_from start start_marks push_roots push_from settle silently skip set_skip ask next clash_count clash_by cb_child cb_grand cb_desc cb_root
no_child_found = refl

pub no_plane : (a : Bool) → verdict 2 1 0 (a ∷ []) ≡ beyond 0
unfolding verdict_from start start_marks push_roots push_from settle silently skip set_skip ask next clash_count clash_by cb_child cb_grand cb_desc cb_root
no_plane a = refl
