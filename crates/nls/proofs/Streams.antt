-- The stream of an array of numbers: it ends, a budget cuts it, and which bits begin it.
use Prim.Native.Nat.{ℕ, ◌+◌, ◌-◌, ◌*◌, ◌^◌, min, ◌≤◌, ◌<◌}
use mathlib.Core.Path.{◌≡◌, sym, ap, subst, ◌∙◌}
use mathlib.Core.Bool.{Bool}
use mathlib.Core.Logic.{⊎_elim}
use mathlib.Core.Option.{none}
use mathlib.Core.List.{List, ◌++◌}
use native.Mathlib.Nat.{le_refl, pow-le-pow_right}
use native.Mathlib.Omega.{arith}
use lib.IntN.{ℤ}
use lib.ListN.{length, get_or, take, drop, length-take, take-append-drop, get_or-eq_default}
use lib.Seq.{take_all}
use Rattle.sizes.specs.Sizes.{all_of, coarsest_of, Sized}
use Rattle.sizes.proofs.Laws.{coarsest_least}
use Rattle.coef.specs.Coef.{mag_at, IsPlanes}
use Rattle.nls.specs.Scan.{State, pixels, state_at, ask}
use Rattle.nls.specs.Stream.{answers, begin, after, stream}
use Rattle.nls.specs.Judging.{Begins}
use Rattle.nls.proofs.Arrays.{bits_of_arr, answers_of, Fit}
use Rattle.nls.proofs.Counting.Sums.{order}
use Rattle.nls.proofs.Machine.Run.{Settled, start_settled, reach_settled, left_none, none_left, fit_prefix, stream_fits, fits_stream}
use Rattle.nls.proofs.Joined.Whole as Whole
use Rattle.nls.proofs.Kept.{kept_reach}
use Rattle.nls.proofs.Lists.{arr_of, begin_kept, answers_same, stream_same}

-- each bit of u is what A answers where it is asked
abbrev pub Answered : ℕ → ℕ → ℕ → List ℤ → List Bool → Type 0
Answered N L P A u = Fit N (bits_of_arr (arr_of A)) (begin N L P) u

-- after any bits nothing more moves silently, and nothing is asked exactly where no plane is left
module _ (N L P : ℕ) (u : List Bool) where
  pub settles : Settled (all_of N) (after N L P u)
  settles = reach_settled (all_of N) (begin N L P) u (start_settled (all_of N) (coarsest_of N L) P)

  pub left_asks_none : (after N L P u).left ≡ 0 → ask (all_of N) (after N L P u) ≡ none
  left_asks_none e = left_none (all_of N) (after N L P u) e

  pub asks_none_left : ask (all_of N) (after N L P u) ≡ none → (after N L P u).left ≡ 0
  asks_none_left e = none_left (all_of N) (after N L P u) settles e

module _ (N L : ℕ) (z : Sized N L) (P : ℕ) where
  -- the table of marks keeps its length, on any bits
  pub marks_length : (u : List Bool) → length (after N L P u).marks ≡ all_of N
  marks_length u =
      (kept_reach (coarsest_of N L) (all_of N) u (begin N L P) (begin_kept N L z P)).long

  -- and holds no mark above MN(N-1): the codes of a table of 4^N marks
  pub codes_fit : (u : List Bool) (i : ℕ) → get_or (after N L P u).marks i 0 ≤ N + 4
  codes_fit u i = ⊎_elim (λ h. omega (arith, h, z.least, z.most)) far (order (get_or (after N L P u).marks i 0) 6)
    where
      m : List ℕ
      m = (after N L P u).marks

      -- a place with MNk is at least 4^k, and below 4^N
      high : 6 < get_or m i 0 → 4 ^ (get_or m i 0 - 5) ≤ i
      high h =
          (kept_reach (coarsest_of N L) (all_of N) u (begin N L P) (begin_kept N L z P)).codes (coarsest_least N L z) i (omega (arith, h))

      there : 6 < get_or m i 0 → i < 4 ^ N
      there h = ⊎_elim (λ s. absurd (omega (arith, h, get_or-eq_default m 0 {n = i} s))) (λ s. omega (arith, s, marks_length u)) (order (length m) i)

      far : 6 < get_or m i 0 → get_or m i 0 ≤ N + 4
      far h =
          ⊎_elim (λ k. k)
          (λ k. let up : 4 ^ N ≤ 4 ^ (get_or m i 0 - 5) = pow-le-pow_right {n = 4} (omega arith) {i = N} {j = get_or m i 0 - 5} (omega (arith, k)) in
          absurd (omega (arith, up, high h, there h)))
          (order (get_or m i 0) (N + 4))

  module _ (A : List ℤ) where
    -- what A answers fits it, for however many planes
    pub stream_answered : Answered N L P A (stream N L P A)
    unfolding Whole.whole
    stream_answered =
        subst (Answered N L P A) (sym (stream_same N L z A P)) (stream_fits N (bits_of_arr (arr_of A)) (4 * 4 ^ N * P) (begin N L P))

    module _ (below : (i : ℕ) → mag_at A i < 2 ^ P) where
      whole_end : (m : List ℕ) × (after N L P (stream N L P A) ≡ state_at 0 pixels 0 m)
      whole_end =
          let w = Whole.whole_ends N L z.least z.most P (arr_of A) (λ i h. below i) in
          (w.0, ap (λ (u : List Bool). after N L P u) (stream_same N L z A P) ∙ w.1)

      -- the stream ends: after it no plane is left
      pub ends_left : (after N L P (stream N L P A)).left ≡ 0
      ends_left = ap (λ (s : State). s.left) whole_end.1

      -- under a budget of n bits: the first n of the stream, the smaller of n and all
      pub budget_bits : (n : ℕ) → answers N L A n (begin N L P) ≡ take n (stream N L P A)
      budget_bits n =
          answers_same N L z A P n ∙ Whole.budget_bits N L z.least z.most P (arr_of A) (λ i h. below i) n
          ∙ ap (λ (u : List Bool). take n u) (sym (stream_same N L z A P))

      pub budget_length : (n : ℕ) → length (answers N L A n (begin N L P)) ≡ min n (length (stream N L P A))
      budget_length n = ap (λ (u : List Bool). length u) (budget_bits n) ∙ length-take n (stream N L P A)

      -- the bits that A answers one by one are those that begin its stream
      pub answered_begins : (u : List Bool) → Answered N L P A u → take (length u) (stream N L P A) ≡ u
      answered_begins u f =
          sym (budget_bits (length u)) ∙ answers_same N L z A P (length u)
          ∙ sym (take_all (length u) (answers_of N (bits_of_arr (arr_of A)) (length u) (begin N L P)) (omega (arith, long)))
          ∙ fits_stream N (bits_of_arr (arr_of A)) (begin N L P) u (length u) f (le_refl (length u))
        where
          long : length (answers_of N (bits_of_arr (arr_of A)) (length u) (begin N L P)) ≡ min (length u) (length (stream N L P A))
          long = ap (λ (v : List Bool). length v) (sym (answers_same N L z A P (length u))) ∙ budget_length (length u)

    begins_answered : (u : List Bool) → take (length u) (stream N L P A) ≡ u → Answered N L P A u
    begins_answered u e =
        fit_prefix N (bits_of_arr (arr_of A)) (begin N L P) u (drop (length u) (stream N L P A))
        (subst (Answered N L P A)
        (sym (take-append-drop (length u) (stream N L P A)) ∙ ap (λ (v : List Bool). v ++ drop (length u) (stream N L P A)) e)
        stream_answered)

    -- the two ways to say that A's stream begins with u
    pub begins_iff : (u : List Bool)
        → (Begins N L P A u → (length A ≡ all_of N) × IsPlanes A P × Answered N L P A u)
        × ((length A ≡ all_of N) × IsPlanes A P × Answered N L P A u → Begins N L P A u)
    begins_iff u = (
      (λ b. (b.size, b.planes, begins_answered u b.same)),
      λ w. record { size = w.0; planes = w.1; same = answered_begins w.1.below u w.2 },
    )

    -- and then with any fewer
    pub begins_less : (u v : List Bool) → Begins N L P A (u ++ v) → Begins N L P A u
    begins_less u v b = let w = (begins_iff (u ++ v)).0 b in (begins_iff u).1 (w.0, w.1, fit_prefix N (bits_of_arr (arr_of A)) (begin N L P) u v w.2)
