-- A sign is asked only of a coefficient that is not 0. So an array of bits that fits some bits is a list of numbers, in which 0 has no sign.
use Prim.Native.Nat.{ℕ, zero, suc, ◌-◌, ◌^◌, ◌≤◌, ◌<◌}
use mathlib.Core.Path.{◌≡◌, refl, sym, ap, subst, ◌∙◌}
use mathlib.Core.Bool.{Bool, true, false, true≢false, false≢true}
use mathlib.Core.Logic.{◌⊎◌, inl, inr, ⊎_elim}
use mathlib.Core.List.{List, [], ◌∷◌}
use native.Mathlib.Nat.{one-le-pow}
use native.Mathlib.Omega.{arith}
use lib.Dec.{ltb, eqb}
use lib.IntN.{ℤ, pos}
use lib.ListN.{length, get_or, get_or-eq_default}
use lib.Pow.{pow_mono}
use Rattle.sizes.specs.Sizes.{all_of, coarsest_of, Sized}
use Rattle.sizes.specs.Tables.{table}
use Rattle.sizes.proofs.Tables.{table_length, table_at}
use Rattle.bits.specs.Bits.{bit}
use Rattle.bits.proofs.Laws.{bit_none}
use Rattle.coef.specs.Coef.{at, mag_at, magnitude, negative, signed, IsPlanes}
use Rattle.coef.proofs.Laws.{magnitude_signed}
use Rattle.nls.specs.Scan.{Question, bit_of, sign_of, in_desc, in_grand, State, Look, over, silent, asks, Pass, pixels, sets, refining, look, look_at, look_pixels, look_sets, look_refining, tell, tell_at, tell_sets, settle, ask, asked, next, start}
use Rattle.nls.specs.Scan as Scan
use Rattle.nls.specs.Marks.{start_marks}
use Rattle.nls.specs.Stream.{begin}
use Rattle.nls.specs.Judging as J
use Rattle.nls.proofs.Arrays.{Arr, Bits, bits_of_arr, ans, told, Fit}
use Rattle.nls.proofs.Counting.Sums.{order}
use Rattle.nls.proofs.Judging.Clash.{Valid}
use Rattle.nls.proofs.Judging.Numbers.{Planes, ans_ext, valid_of}
use Rattle.nls.proofs.Judging.Only.{to_list}
use Rattle.nls.proofs.Kept.{AfterMove, settle_keeps}
use Rattle.nls.proofs.Lists.{arr_of}
use Rattle.nls.proofs.Streams.{begins_iff}

module _ (N : ℕ) (B : Bits) where
  abbrev I : ℕ
  I = all_of N

  -- a coefficient whose sign is waited for, or asked, has a bit in B
  abbrev NotZero : ℕ → Type 0
  NotZero i = (b : ℕ) × (B.has i b ≡ true)

  abbrev pub Waits : State → Type 0
  Waits s = s.pending ≡ true → NotZero s.place

  abbrev Signs : Look → Type 0
  Signs over = Unit {0}
  Signs (silent t) = Unit {0}
  Signs (asks (bit_of i b)) = Unit {0}
  Signs (asks (sign_of i)) = NotZero i
  Signs (asks (in_desc g b)) = Unit {0}
  Signs (asks (in_grand g b)) = Unit {0}

  -- after a silent move none is waited for
  moves_pixels : (b i : ℕ) (m : List ℕ) (x y : Bool) → AfterMove I Waits (look_pixels b i m x y) × Signs (look_pixels b i m x y)
  moves_pixels b i m false y = ((λ e. absurd (false≢true e)), tt)
  moves_pixels b i m true true = (tt, tt)
  moves_pixels b i m true false = ((λ e. absurd (false≢true e)), tt)

  moves_sets : (b i : ℕ) (m : List ℕ) (x d g c : Bool) → AfterMove I Waits (look_sets b i m x d g c) × Signs (look_sets b i m x d g c)
  moves_sets b i m false d g c = ((λ e. absurd (false≢true e)), tt)
  moves_sets b i m true true g c = (tt, tt)
  moves_sets b i m true false true c = (tt, tt)
  moves_sets b i m true false false true = (tt, tt)
  moves_sets b i m true false false false = ((λ e. absurd (false≢true e)), tt)

  moves_refining : (b i : ℕ) (m : List ℕ) (x s n : Bool) → AfterMove I Waits (look_refining b i m x s n) × Signs (look_refining b i m x s n)
  moves_refining b i m false s n = ((λ e. absurd (false≢true e)), tt)
  moves_refining b i m true true n = (tt, tt)
  moves_refining b i m true false true = ((λ e. absurd (false≢true e)), tt)
  moves_refining b i m true false false = ((λ e. absurd (false≢true e)), tt)

  moves_at : (l : ℕ) (p : Pass) (i : ℕ) (w : Bool) (m : List ℕ) → (w ≡ true → NotZero i) → AfterMove I Waits (look_at I l p i w m) × Signs (look_at I l p i w m)
  moves_at zero p i w m h = (tt, tt)
  moves_at (suc b) p i true m h = (tt, h refl)
  moves_at (suc b) pixels i false m h = moves_pixels b i m (ltb i I) (eqb (get_or m i 0) 1)
  moves_at (suc b) sets i false m h = moves_sets b i m (ltb i I) (eqb (get_or m i 0) 5) (eqb (get_or m i 0) 6) (eqb (get_or m i 0) 4)
  moves_at (suc b) refining i false m h = moves_refining b i m (ltb i I) (eqb (get_or m i 0) 3) (eqb (get_or m i 0) 2)

  moves : (s : State) → Waits s → AfterMove I Waits (look I s) × Signs (look I s)
  moves s h = moves_at s.left s.pass s.place s.pending s.marks h

  waits_settle : (s : State) → Waits s → Waits (settle I s)
  waits_settle s h = settle_keeps I Waits (λ t k. (moves t k).0) s h

  pub waits_start : (D P : ℕ) → Waits (start I D P)
  unfolding start
  waits_start D P = waits_settle (Scan.state_at P pixels 0 (start_marks I D)) (λ e. absurd (false≢true e))

  -- a sign is waited for after a bit that B answered 1
  waits_tell : (l : ℕ) (p : Pass) (i : ℕ) (w : Bool) (m : List ℕ) (a : Bool) → told N B (asked I (look_at I l p i w m)) a → Waits (tell_at I l p i w m a)
  unfolding ans
  waits_tell zero p i w m a t = absurd t
  waits_tell (suc b) p i true m a t = λ e. absurd (false≢true e)
  waits_tell (suc b) refining i false m a t = λ e. absurd (false≢true e)
  waits_tell (suc b) pixels i false m a t = on (ltb i I) (eqb (get_or m i 0) 1) a t
    where
      on : (x y a : Bool) → told N B (asked I (look_pixels b i m x y)) a → Waits (tell_at I (suc b) pixels i false m a)
      on false y a t = absurd t
      on true false a t = absurd t
      on true true true t = λ e. (b, t)
      on true true false t = λ e. absurd (false≢true e)
  waits_tell (suc b) sets i false m a t = on (ltb i I) (eqb (get_or m i 0) 5) (eqb (get_or m i 0) 6) (eqb (get_or m i 0) 4) a t
    where
      on : (x d g c a : Bool) → told N B (asked I (look_sets b i m x d g c)) a → Waits (tell_sets I (suc b) i m a d g)
      on false d g c a t = absurd t
      on true true g c true t = λ e. absurd (false≢true e)
      on true true g c false t = λ e. absurd (false≢true e)
      on true false true c true t = λ e. absurd (false≢true e)
      on true false true c false t = λ e. absurd (false≢true e)
      on true false false true true t = λ e. (b, t)
      on true false false true false t = λ e. absurd (false≢true e)
      on true false false false a t = absurd t

  waits_next : (s : State) (a : Bool) → told N B (ask I s) a → Waits (next I s a)
  unfolding ask next
  waits_next s a t = waits_settle (tell I s a) (waits_tell s.left s.pass s.place s.pending s.marks a t)

  -- an array with the same bits, and the same signs where there is a bit, fits the same
  module _ (C : Bits) (bits : (i b : ℕ) → B.has i b ≡ C.has i b) (signs : (i b : ℕ) → B.has i b ≡ true → B.neg i ≡ C.neg i) where
    abbrev E : Bits
    E = record { has = C.has; neg = B.neg }

    same_answer : (q : Question) → Signs (asks q) → ans N B q ≡ ans N C q
    unfolding ans
    same_answer (bit_of i b) h = bits i b
    same_answer (sign_of i) h = signs i h.0 h.1
    same_answer (in_desc g b) h = ans_ext N B E bits (λ i. refl) (in_desc g b)
    same_answer (in_grand g b) h = ans_ext N B E bits (λ i. refl) (in_grand g b)

    same_told : (l : Look) (a : Bool) → Signs l → told N B (asked I l) a → told N C (asked I l) a
    same_told over a h t = t
    same_told (silent s) a h t = t
    same_told (asks q) a h t = sym (same_answer q h) ∙ t

    pub same_fit : (s : State) (u : List Bool) → Waits s → Fit N B s u → Fit N C s u
    unfolding ask
    same_fit s [] h f = tt
    same_fit s (a ∷ u) h f = (same_told (look I s) a (moves s h).1 f.0, same_fit (next I s a) u (waits_next s a f.0) f.1)

-- the list of an array that is 0 from n on
abbrev pub list_of : ℕ → Arr → List ℤ
list_of n A = table n (λ j. signed (A.neg j) (A.mag j))

signed_neg : (s : Bool) (x : ℕ) → (x ≡ 0 → ⊥) → negative (signed s x) ≡ s
signed_neg false x h = refl
signed_neg true zero h = absurd (h refl)
signed_neg true (suc x) h = refl

bit_some : (x b : ℕ) → bit x b ≡ true → x ≡ 0 → ⊥
bit_some x b h e = true≢false (sym h ∙ ap (λ (y : ℕ). bit y b) e ∙ bit_none b)

module _ (n : ℕ) (A : Arr) (rest : (j : ℕ) → n ≤ j → A.mag j ≡ 0) where
  pub list_mag : (j : ℕ) → mag_at (list_of n A) j ≡ A.mag j
  list_mag j = on (order n j)
    where
      on : (n ≤ j) ⊎ (j < n) → mag_at (list_of n A) j ≡ A.mag j
      on (inl h) =
          ap (λ (z : ℤ). magnitude z) (get_or-eq_default (list_of n A) (pos 0) {n = j} (omega (arith, h, table_length n (λ j. signed (A.neg j) (A.mag j)))))
          ∙ sym (rest j h)
      on (inr h) = ap (λ (z : ℤ). magnitude z) (table_at n (λ j. signed (A.neg j) (A.mag j)) j (pos 0) h) ∙ magnitude_signed (A.neg j) (A.mag j)

  pub list_neg : (j b : ℕ) → bit (A.mag j) b ≡ true → A.neg j ≡ negative (at (list_of n A) j)
  list_neg j b h = on (order n j)
    where
      on : (n ≤ j) ⊎ (j < n) → A.neg j ≡ negative (at (list_of n A) j)
      on (inl k) = absurd (bit_some (A.mag j) b h (rest j k))
      on (inr k) =
          sym (signed_neg (A.neg j) (A.mag j) (bit_some (A.mag j) b h))
          ∙ ap (λ (z : ℤ). negative z) (sym (table_at n (λ j. signed (A.neg j) (A.mag j)) j (pos 0) k))

-- the first n places all hold less than k, or one does not
find : (f : ℕ → ℕ) (k n : ℕ) → ((i : ℕ) → i < n → f i < k) ⊎ ((i : ℕ) × (i < n) × (k ≤ f i))
find f k zero = inl (λ i h. absurd (omega (arith, h)))
find f k (suc n) = on (order k (f n)) (find f k n)
  where
    on : (k ≤ f n) ⊎ (f n < k) → ((i : ℕ) → i < n → f i < k) ⊎ ((i : ℕ) × (i < n) × (k ≤ f i))
        → ((i : ℕ) → i < suc n → f i < k) ⊎ ((i : ℕ) × (i < suc n) × (k ≤ f i))
    on (inl h) r = inr (n, omega arith, h)
    on (inr h) (inr r) = inr (r.0, omega (arith, r.1), r.2)
    on (inr h) (inl r) = inl (λ i k. last i k (order n i))
      where
        last : (i : ℕ) → i < suc n → (n ≤ i) ⊎ (i < n) → f i < k
        last i p (inl q) = subst (λ (x : ℕ). f x < k) {x = n} {y = i} (omega (arith, p, q)) h
        last i p (inr q) = r i q

-- bits of P planes that fit u
abbrev pub BitsFit : ℕ → ℕ → ℕ → List Bool → Type 0
BitsFit N L P u = (B : Bits) × Valid (all_of N) P B × Fit N B (begin N L P) u

module _ (N L : ℕ) (z : Sized N L) (P : ℕ) where
  -- an array of numbers of exactly P planes has a magnitude of at least 2^(P-1)
  planes_top : 1 ≤ P → (A : List ℤ) → length A ≡ all_of N → IsPlanes A P → Planes (all_of N) P (arr_of A)
  planes_top h A long p = record { under = p.below; least = on (find (λ i. mag_at A i) (2 ^ (P - 1)) (all_of N)) }
    where
      all : ((i : ℕ) → i < all_of N → mag_at A i < 2 ^ (P - 1)) → (i : ℕ) → (all_of N ≤ i) ⊎ (i < all_of N) → mag_at A i < 2 ^ (P - 1)
      all f i (inl k) =
          let none : mag_at A i ≡ 0 = ap (λ (x : ℤ). magnitude x) (get_or-eq_default A (pos 0) {n = i} (omega (arith, long, k))) in
          omega (arith, none, one-le-pow (P - 1) 2 (omega arith))
      all f i (inr k) = f i k

      on : ((i : ℕ) → i < all_of N → mag_at A i < 2 ^ (P - 1)) ⊎ ((i : ℕ) × (i < all_of N) × (2 ^ (P - 1) ≤ mag_at A i))
          → (j : ℕ) × (b : ℕ) × (j < all_of N) × (suc b ≡ P) × (2 ^ b ≤ mag_at A j)
      on (inl f) = absurd (omega (arith, p.least (P - 1) (λ i. all f i (order (all_of N) i))))
      on (inr r) = (r.0, P - 1, r.1, omega arith, r.2)

  pub top_planes : (A : Arr) (rest : (j : ℕ) → all_of N ≤ j → A.mag j ≡ 0) → Planes (all_of N) P A → IsPlanes (list_of (all_of N) A) P
  top_planes A rest p =
      record {
        below = λ i. omega (arith, list_mag (all_of N) A rest i, p.under i);
        least = λ R h. ⊎_elim (λ k. k)
            (λ k. absurd (omega (arith, h p.least.0, list_mag (all_of N) A rest p.least.0, p.least.4, pow_mono {i = R} {j = p.least.1} (omega (arith, k, p.least.3)))))
            (order P R);
      }

  -- some bits fit exactly if some list of numbers does
  unfoldable pub lists_fit : (u : List Bool) → BitsFit N L P u → J.Fits N L P u
  lists_fit u w =
      let r = to_list N (coarsest_of N L) P u w in
      let A : Arr = r.0 in
      let rest : (j : ℕ) → all_of N ≤ j → A.mag j ≡ 0 = r.3 in (
        list_of (all_of N) A,
        (begins_iff N L z P (list_of (all_of N) A) u).1 (
          table_length (all_of N) (λ j. signed (A.neg j) (A.mag j)),
          top_planes A rest r.1,
          same_fit N (bits_of_arr A) (bits_of_arr (arr_of (list_of (all_of N) A))) (λ i b. ap (λ (x : ℕ). bit x b) (sym (list_mag (all_of N) A rest i)))
              (λ i b h. list_neg (all_of N) A rest i b h) (begin N L P) u (waits_start N (bits_of_arr A) (coarsest_of N L) P) r.2,
        ),
      )

  pub bits_fit : 1 ≤ P → (u : List Bool) → J.Fits N L P u → BitsFit N L P u
  bits_fit h u w =
      let A : List ℤ = w.0 in
      let r = (begins_iff N L z P A u).0 w.1 in
      (bits_of_arr (arr_of A), valid_of (all_of N) P (arr_of A) (planes_top h A r.0 r.1), r.2)
