-- Arrays that are lists of numbers give the same answers, and the same stream, as arrays that are bits by place and plane.
use Prim.Native.Nat.{ℕ, zero, suc, ◌*◌, ◌/◌, ◌≤◌}
use mathlib.Core.Path.{◌≡◌, refl, sym, ap, subst, ◌∙◌}
use mathlib.Core.Bool.{Bool, ◌&&◌, ◌||◌}
use mathlib.Core.Option.{Option, none, some}
use mathlib.Core.List.{List, [], ◌∷◌}
use native.Mathlib.Omega.{arith}
use borrow.Author.Tests.{lt-ltb}
use lib.Dec.{ltb, eqb}
use lib.IntN.{ℤ}
use Rattle.sizes.specs.Sizes.{all_of, coarsest_of, Sized}
use Rattle.sizes.proofs.Laws.{coarsest_all, both_left, both_right, both}
use Rattle.bits.specs.Bits.{bit}
use Rattle.coef.specs.Coef.{at, mag_at, negative}
use Rattle.tree.specs.Tree.{desc, grand, any_in}
use Rattle.tree.proofs.Members.{under, desc_find, grand_find, desc_has, grand_has}
use Rattle.tree.proofs.Ors.{desc_bit, grand_bit}
use Rattle.nls.specs.Scan.{Question, bit_of, sign_of, in_desc, in_grand, State, ask, next}
use Rattle.nls.specs.Stream.{answer, answers, begin, after, stream}
use Rattle.nls.proofs.Booleans.{same_bool}
use Rattle.nls.proofs.Arrays.{Arr, bits_of_arr, below, any, inside, ans, answers_of, any_some, any_find}
use Rattle.nls.proofs.Joined.Whole.{whole}
use Rattle.nls.proofs.Kept.{Kept, Rooted, AllRooted, kept_next, kept_reach, kept_start, asks_rooted}

-- a list as magnitudes and signs by place; past its end it is 0
abbrev pub arr_of : List ℤ → Arr
arr_of A = record { mag = λ i. mag_at A i; neg = λ i. negative (at A i) }

under_below : (n i j : ℕ) → under n i j ≡ below n i j
unfolding under below
under_below zero i j = refl
under_below (suc n) i j = ap (λ (t : Bool). eqb (j / 4) i || t) (under_below n i (j / 4))

module _ (N L : ℕ) (z : Sized N L) where
  abbrev D : ℕ
  D = coarsest_of N L

  abbrev I : ℕ
  I = all_of N

  -- a set that is asked about has members, after any bits
  pub begin_kept : (P : ℕ) → Kept D I (begin N L P).marks
  begin_kept P = kept_start D I P (omega (arith, coarsest_all N L z))

  pub asked_rooted : (P : ℕ) (u : List Bool) (q : Question) → ask I (after N L P u) ≡ some q → Rooted D q
  asked_rooted P u q e =
      subst (λ (o : Option Question). AllRooted D o) e (asks_rooted D I (after N L P u) (kept_reach D I u (begin N L P) (begin_kept P)))

  module _ (A : List ℤ) where
    -- a set's summary has bit b exactly if a place of the set has
    in_desc_lem : (g b : ℕ) → D / 4 ≤ g → any_in (λ j. bit (mag_at A j) b) (desc N L g) ≡ ans N (bits_of_arr (arr_of A)) (in_desc g b)
    unfolding ans inside
    in_desc_lem g b h =
        same_bool (any_in (λ j. bit (mag_at A j) b) (desc N L g)) (any I (λ j. (ltb j I && below N g j) && bit (mag_at A j) b))
        (λ e.
        let r = desc_find N L z (λ j. bit (mag_at A j) b) g e in
        any_some I (λ j. (ltb j I && below N g j) && bit (mag_at A j) b) r.0 r.1.1
        (both
        (both (lt-ltb r.0 I r.1.1) (sym (under_below N g r.0) ∙ r.1.2)) r.2))
        (λ e.
        let r = any_find I (λ j. (ltb j I && below N g j) && bit (mag_at A j) b) e in
        let k = both_left (ltb r.0 I && below N g r.0) (bit (mag_at A r.0) b) r.2 in
        desc_has N L z (λ j. bit (mag_at A j) b) g r.0 h r.1 (under_below N g r.0 ∙ both_right (ltb r.0 I) (below N g r.0) k)
        (both_right (ltb r.0 I && below N g r.0) (bit (mag_at A r.0) b) r.2))

    in_grand_lem : (g b : ℕ) → D / 4 ≤ g → any_in (λ j. bit (mag_at A j) b) (grand N L g) ≡ ans N (bits_of_arr (arr_of A)) (in_grand g b)
    unfolding ans inside
    in_grand_lem g b h =
        same_bool (any_in (λ j. bit (mag_at A j) b) (grand N L g)) (any I (λ j. (ltb j I && below N g (j / 4)) && bit (mag_at A j) b))
        (λ e.
        let r = grand_find N L z (λ j. bit (mag_at A j) b) g e in
        any_some I (λ j. (ltb j I && below N g (j / 4)) && bit (mag_at A j) b) r.0 r.1.1
        (both
        (both (lt-ltb r.0 I r.1.1) (sym (under_below N g (r.0 / 4)) ∙ r.1.2)) r.2))
        (λ e.
        let r = any_find I (λ j. (ltb j I && below N g (j / 4)) && bit (mag_at A j) b) e in
        let k = both_left (ltb r.0 I && below N g (r.0 / 4)) (bit (mag_at A r.0) b) r.2 in
        grand_has N L z (λ j. bit (mag_at A j) b) g r.0 h r.1 (under_below N g (r.0 / 4) ∙ both_right (ltb r.0 I) (below N g (r.0 / 4)) k)
        (both_right (ltb r.0 I && below N g (r.0 / 4)) (bit (mag_at A r.0) b) r.2))

    pub answer_same : (q : Question) → Rooted D q → answer N L A q ≡ ans N (bits_of_arr (arr_of A)) q
    unfolding answer
    answer_same (bit_of i b) r = unfold ans in refl
    answer_same (sign_of i) r = unfold ans in refl
    answer_same (in_desc g b) r = desc_bit N L A g b ∙ in_desc_lem g b r
    answer_same (in_grand g b) r = grand_bit N L A g b ∙ in_grand_lem g b r

    -- from any state whose marks are kept
    answers_from : (n : ℕ) (s : State) → Kept D I s.marks → answers N L A n s ≡ answers_of N (bits_of_arr (arr_of A)) n s
    unfolding answers answers_of
    answers_from zero s k = refl
    answers_from (suc n) s k = on (ask I s) (asks_rooted D I s k) (λ a. answers_from n (next I s a) (kept_next D I s a k))
      where
        on : (o : Option Question) → AllRooted D o
            → ((a : Bool) → answers N L A n (next I s a) ≡ answers_of N (bits_of_arr (arr_of A)) n (next I s a))
            → ◌≡◌ {A = List Bool}
            (elim o as (λ _. List Bool) [ none ↦ [] | some q ↦ answer N L A q ∷ answers N L A n (next I s (answer N L A q)) ])
            (elim o as (λ _. List Bool) [ none ↦ [] | some q ↦ ans N (bits_of_arr (arr_of A)) q ∷ answers_of N (bits_of_arr (arr_of A)) n (next I s (ans N (bits_of_arr (arr_of A)) q)) ])
        on none r ih = refl
        on (some q) r ih =
            rw (answer_same q r) (ap (λ (l : List Bool). ans N (bits_of_arr (arr_of A)) q ∷ l) (ih (ans N (bits_of_arr (arr_of A)) q)))

    pub answers_same : (P n : ℕ) → answers N L A n (begin N L P) ≡ answers_of N (bits_of_arr (arr_of A)) n (begin N L P)
    answers_same P n = answers_from n (begin N L P) (begin_kept P)

    pub stream_same : (P : ℕ) → stream N L P A ≡ whole N L P (arr_of A)
    unfolding stream whole
    stream_same P = answers_same P (4 * all_of N * P)
