-- The values of a cut stream: what they are of an array whose stream begins so, how far they are from it, and that a whole stream gives it back.
use mathlib.Core.Path.{◌≡◌, refl, sym, ap, subst, ◌∙◌}
use mathlib.Core.Bool.{Bool, true, false, cond}
use mathlib.Core.List.{List}
use Prim.Native.Nat.{ℕ, zero, suc, ◌+◌, ◌*◌, ◌-◌, ◌/◌, ◌%◌, ◌^◌, ◌≤◌, ◌<◌}
use native.Mathlib.Omega.{arith}
use native.Mathlib.Nat.{pow-succ', mod-lt, one-le-pow, min-le_left}
use lib.Dec.{ltb, eqb}
use lib.IntN.{ℤ, pos, negsuc, nat_abs, sub_ℕ, ◌-ℤ◌}
use lib.ListN.{length, get_or, replicate, length-replicate, get_or-replicate}
use lib.Pow.{pow_mono, split}
use lib.Seq.{take-length}
use borrow.Author.Tests.{ltb-true, ltb-false, eqb-true, eqb-false, ne_eqb}
use Rattle.sizes.specs.Sizes.{all_of, Sized}
use Rattle.sizes.specs.Tables.{table}
use Rattle.sizes.proofs.Tables.{table_at, table_ext, table_is}
use Rattle.coef.specs.Coef.{at, mag_at, magnitude, negative, signed, IsPlanes}
use Rattle.coef.proofs.Laws.{magnitude_signed, signed_back}
use Rattle.nls.specs.Stream.{after, stream}
use Rattle.nls.specs.Reading.{known, lower, midpoint, value_by, Between, high_bits, last_plane, precision_at, values_by, precisions, planes_finished, worst_error}
use Rattle.nls.specs.Judging.{Begins}
use Rattle.nls.proofs.Streams.{ends_left}
use Rattle.nls.proofs.HighBits.{signed_zero, high_all, high_magnitude, high_negative}
use Rattle.nls.proofs.Known.{Sound, known_sound, precision_left, lower_round, room}
use Rattle.nls.proofs.KnownBits.{known_bits}

-- both rules stay within what the known bits leave open
pub lower_between : Between lower
lower_between = record { low = λ k m h. omega arith; high = λ k m h. omega arith }

halves : (k : ℕ) → 1 ≤ k → 2 ^ k ≡ 2 * 2 ^ (k - 1)
halves k h = ap (λ (n : ℕ). 2 ^ n) {x = k} {y = suc (k - 1)} (omega (arith, h)) ∙ pow-succ' 2 (k - 1)

pub midpoint_between : Between midpoint
midpoint_between = record { low = low; high = high }
  where
    low : (k m : ℕ) → 1 ≤ m → m ≤ midpoint k m
    low k m h = on (eqb k 0)
      where
        on : (t : Bool) → m ≤ cond t m (m + 2 ^ (k - 1))
        on true = omega arith
        on false = omega arith

    high : (k m : ℕ) → 1 ≤ m → midpoint k m ≤ m + (2 ^ k - 1)
    high k m h = on (eqb k 0) refl
      where
        on : (t : Bool) → eqb k 0 ≡ t → cond t m (m + 2 ^ (k - 1)) ≤ m + (2 ^ k - 1)
        on true e = omega arith
        on false e = omega (arith, halves k (omega (arith, eqb-false k 0 e)), one-le-pow (k - 1) 2 (omega arith))

-- how far two numbers of one sign are apart
apart : (a b d : ℕ) → a < b + d → b < a + d → nat_abs (sub_ℕ a b) < d
apart a b d h k = on (ltb a b) refl
  where
    on : (t : Bool) → ltb a b ≡ t → nat_abs (cond t (negsuc (b - suc a)) (pos (a - b))) < d
    on true e = omega (arith, ltb-true a b e)
    on false e = omega (arith, ltb-false a b e)

signed_apart : (n : Bool) (a b d : ℕ) → a < b + d → b < a + d → nat_abs (signed n a -ℤ signed n b) < d
signed_apart false a zero d h k = omega arith
signed_apart false a (suc b) d h k = apart a (suc b) d h k
signed_apart true zero zero d h k = omega arith
signed_apart true zero (suc b) d h k = omega arith
signed_apart true (suc a) zero d h k = apart 0 (suc a) d (omega arith) (omega arith)
signed_apart true (suc a) (suc b) d h k = apart (suc b) (suc a) d k h

-- the value of a number's known bits has its sign
value_signed : (rule : ℕ → ℕ → ℕ) (k : ℕ) (z : ℤ)
    → value_by rule k (high_bits k z) ≡ signed (negative z) (cond (eqb (magnitude (high_bits k z)) 0) 0 (rule k (magnitude (high_bits k z))))
unfolding value_by
value_signed rule k z = on (eqb (magnitude (high_bits k z)) 0) refl
  where
    on : (t : Bool) → eqb (magnitude (high_bits k z)) 0 ≡ t
        → cond t (pos 0) (signed (negative (high_bits k z)) (rule k (magnitude (high_bits k z)))) ≡ signed (negative z) (cond t 0 (rule k (magnitude (high_bits k z))))
    on true e = sym (signed_zero (negative z))
    on false e = ap (λ (n : Bool). signed n (rule k (magnitude (high_bits k z)))) (high_negative k z (omega (arith, eqb-false (magnitude (high_bits k z)) 0 e)))

-- how far that is from the number itself, whose known bits leave less than 2^k open
module _ (k : ℕ) (z : ℤ) where
  rest : magnitude z ≡ magnitude (high_bits k z) + magnitude z % 2 ^ k
  rest = omega (arith, split (magnitude z) k, high_magnitude k z)

  small : magnitude z % 2 ^ k < 2 ^ k
  small = mod-lt (magnitude z) {m = 2 ^ k} (one-le-pow k 2 (omega arith))

  off_by : (rule : ℕ → ℕ → ℕ) (d : ℕ)
      → nat_abs (signed (negative z) (cond (eqb (magnitude (high_bits k z)) 0) 0 (rule k (magnitude (high_bits k z)))) -ℤ signed (negative z) (magnitude z)) < d
      → nat_abs (value_by rule k (high_bits k z) -ℤ z) < d
  off_by rule d h =
      subst (λ (y : ℤ). nat_abs (value_by rule k (high_bits k z) -ℤ y) < d) (signed_back z)
      (subst (λ (y : ℤ). nat_abs (y -ℤ signed (negative z) (magnitude z)) < d) (sym (value_signed rule k z)) h)

  -- by any rule that stays within what they leave open, less than 2^k
  value_near : (rule : ℕ → ℕ → ℕ) → Between rule → nat_abs (value_by rule k (high_bits k z) -ℤ z) < 2 ^ k
  value_near rule fair = off_by rule (2 ^ k) (on (eqb (magnitude (high_bits k z)) 0) refl)
    where
      on : (t : Bool) → eqb (magnitude (high_bits k z)) 0 ≡ t → nat_abs (signed (negative z) (cond t 0 (rule k (magnitude (high_bits k z)))) -ℤ signed (negative z) (magnitude z)) < 2 ^ k
      on true e = signed_apart (negative z) 0 (magnitude z) (2 ^ k) (omega (arith, small)) (omega (arith, rest, small, eqb-true (magnitude (high_bits k z)) 0 e))
      on false e =
          let some : 1 ≤ magnitude (high_bits k z) = omega (arith, eqb-false (magnitude (high_bits k z)) 0 e) in
          signed_apart (negative z) (rule k (magnitude (high_bits k z))) (magnitude z) (2 ^ k) (omega (arith, rest, small, fair.high k (magnitude (high_bits k z)) some)) (omega (arith, rest, small, fair.low k (magnitude (high_bits k z)) some))

  -- by the midpoint, where they are not 0, at most half of it
  value_half : 1 ≤ k → (value_by midpoint k (high_bits k z) ≡ pos 0 → ⊥) → nat_abs (value_by midpoint k (high_bits k z) -ℤ z) ≤ 2 ^ (k - 1)
  value_half h found = omega (arith, off_by midpoint (2 ^ (k - 1) + 1) (on (eqb m 0) refl))
    where
      m : ℕ
      m = magnitude (high_bits k z)

      middle : midpoint k m ≡ m + 2 ^ (k - 1)
      middle = ap (λ (t : Bool). cond t m (m + 2 ^ (k - 1))) (ne_eqb k 0 (λ e. omega (arith, e, h)))

      on : (t : Bool) → eqb m 0 ≡ t → nat_abs (signed (negative z) (cond t 0 (midpoint k m)) -ℤ signed (negative z) (magnitude z)) < 2 ^ (k - 1) + 1
      on true e = absurd (found (value_signed midpoint k z ∙ ap (λ (t : Bool). signed (negative z) (cond t 0 (midpoint k m))) e ∙ signed_zero (negative z)))
      on false e = signed_apart (negative z) (midpoint k m) (magnitude z) (2 ^ (k - 1) + 1) (omega (arith, rest, middle)) (omega (arith, rest, small, middle, halves k h))

-- where a rule gives known bits themselves, they are their own value
value_same : (rule : ℕ → ℕ → ℕ) (k : ℕ) (z : ℤ) → (1 ≤ magnitude z → rule k (magnitude z) ≡ magnitude z) → value_by rule k z ≡ z
unfolding value_by
value_same rule k z same = on (eqb (magnitude z) 0) refl
  where
    on : (t : Bool) → eqb (magnitude z) 0 ≡ t → cond t (pos 0) (signed (negative z) (rule k (magnitude z))) ≡ z
    on true e = sym (ap (λ (x : ℕ). signed (negative z) x) (eqb-true (magnitude z) 0 e) ∙ signed_zero (negative z)) ∙ signed_back z
    on false e = ap (λ (x : ℕ). signed (negative z) x) (same (omega (arith, eqb-false (magnitude z) 0 e))) ∙ signed_back z

-- known to the last bit, by any rule
value_exact : (rule : ℕ → ℕ → ℕ) → Between rule → (z : ℤ) → value_by rule 0 z ≡ z
value_exact rule fair z = value_same rule 0 z (λ h. omega (arith, fair.low 0 (magnitude z) h, fair.high 0 (magnitude z) h))

-- and by `lower` always
pub value_lower : (k : ℕ) (z : ℤ) → value_by lower k z ≡ z
value_lower k z = value_same lower k z (λ h. refl)

-- on any bits a value has no more planes than the header says
pub value_range : (N L P : ℕ) (u : List Bool) (rule : ℕ → ℕ → ℕ) → Between rule → (i : ℕ) → i < all_of N → magnitude (value_by rule (precision_at N L P u i) (at (known N L P u).bits i)) < 2 ^ P
unfolding value_by
value_range N L P u rule fair i h = on (eqb m 0) refl
  where
    m : ℕ
    m = mag_at (known N L P u).bits i

    k : ℕ
    k = precision_at N L P u i

    k_own : k ≤ get_or (known N L P u).planes i 0
    k_own = min-le_left (get_or (known N L P u).planes i 0) (last_plane N L P u)

    s : Sound (all_of N) P (after N L P u) (known N L P u)
    s = known_sound N L P u

    more : m + 2 ^ k ≤ 2 ^ P
    more = room k P m (omega (arith, k_own, s.most i h)) (lower_round k (get_or (known N L P u).planes i 0) m k_own (s.round i h)) (s.range i h)

    on : (t : Bool) → eqb m 0 ≡ t → magnitude (cond t (pos 0) (signed (negative (at (known N L P u).bits i)) (rule k m))) < 2 ^ P
    on true e = one-le-pow P 2 (omega arith)
    on false e = rw magnitude_signed (omega (arith, fair.high k m (omega (arith, eqb-false m 0 e)), more, one-le-pow k 2 (omega arith)))

-- the values are the rule's at the known bits and precisions of any array whose stream begins so
pub cut : (N L : ℕ) → Sized N L → (P : ℕ) (A : List ℤ) (u : List Bool) → Begins N L P A u → (rule : ℕ → ℕ → ℕ)
    → values_by N L P u rule ≡ table (all_of N) (λ i. value_by rule (precision_at N L P u i) (high_bits (precision_at N L P u i) (at A i)))
cut N L z P A u b rule = table_ext (all_of N) _ _ (λ i h. ap (λ (y : ℤ). value_by rule (precision_at N L P u i) y) (known_bits N L z P A u b i h))

module _ (N L : ℕ) (z : Sized N L) (P : ℕ) (B : List ℤ) (u : List Bool) (b : Begins N L P B u) where
  -- one of them
  cut_at : (rule : ℕ → ℕ → ℕ) (i : ℕ) → i < all_of N → at (values_by N L P u rule) i ≡ value_by rule (precision_at N L P u i) (high_bits (precision_at N L P u i) (at B i))
  cut_at rule i h = ap (λ (l : List ℤ). at l i) (cut N L z P B u b rule) ∙ table_at (all_of N) _ i (pos 0) h

  module _ (rule : ℕ → ℕ → ℕ) (fair : Between rule) where
    -- each coefficient is wrong by less than 2^k of its own precision k
    pub near_own : (i : ℕ) → i < all_of N → nat_abs (at (values_by N L P u rule) i -ℤ at B i) < 2 ^ precision_at N L P u i
    near_own i h = rw (cut_at rule i h) (value_near (precision_at N L P u i) (at B i) rule fair)

    -- "Every array whose stream begins so differs nowhere by more than the worst error."
    pub near : (i : ℕ) → i < all_of N → nat_abs (at (values_by N L P u rule) i -ℤ at B i) ≤ worst_error N L P u
    near i h = omega (arith, near_own i h, pow_mono {i = precision_at N L P u i} {j = last_plane N L P u} (precision_left N L P u i))

  -- by `lower` none is larger in magnitude than the true one
  pub lower_under : (i : ℕ) → i < all_of N → magnitude (at (values_by N L P u lower) i) ≤ magnitude (at B i)
  lower_under i h =
      let k : ℕ = precision_at N L P u i in
      let same : magnitude (at (values_by N L P u lower) i) ≡ magnitude (at B i) / 2 ^ k * 2 ^ k =
      ap magnitude (cut_at lower i h ∙ value_lower k (high_bits k (at B i))) ∙ high_magnitude k (at B i) in
      omega (arith, same, split (magnitude (at B i)) k)

  -- by `midpoint` one that is found, at a precision k > 0, is wrong by at most 2^(k-1)
  pub midpoint_half : (i : ℕ) → i < all_of N → 1 ≤ precision_at N L P u i → (at (values_by N L P u midpoint) i ≡ pos 0 → ⊥)
      → nat_abs (at (values_by N L P u midpoint) i -ℤ at B i) ≤ 2 ^ (precision_at N L P u i - 1)
  midpoint_half i h some found = rw (cut_at midpoint i h) (value_half (precision_at N L P u i) (at B i) some (λ e. found (cut_at midpoint i h ∙ e)))

-- ---- a whole stream
module _ (N L : ℕ) (z : Sized N L) (P : ℕ) (A : List ℤ) (size : length A ≡ all_of N) (planes : IsPlanes A P) where
  done : last_plane N L P (stream N L P A) ≡ 0
  done = ends_left N L z P A planes.below

  begins_all : Begins N L P A (stream N L P A)
  begins_all = record { size = size; planes = planes; same = take-length (stream N L P A) }

  exact : (i : ℕ) → precision_at N L P (stream N L P A) i ≡ 0
  exact i = omega (arith, precision_left N L P (stream N L P A) i, done)

  pub whole_precisions : precisions N L P (stream N L P A) ≡ replicate (all_of N) 0
  whole_precisions = sym (table_is (all_of N) _ 0 (replicate (all_of N) 0) (length-replicate (all_of N) 0) (λ i h. get_or-replicate (all_of N) i 0 0 h ∙ sym (exact i)))

  pub whole_finished : planes_finished N L P (stream N L P A) ≡ P
  whole_finished = omega (arith, done)

  pub whole_error : worst_error N L P (stream N L P A) ≡ 0
  whole_error = ap (λ (k : ℕ). 2 ^ k - 1) done

  pub whole : (rule : ℕ → ℕ → ℕ) → Between rule → values_by N L P (stream N L P A) rule ≡ A
  whole rule fair =
      cut N L z P A (stream N L P A) begins_all rule
      ∙ sym (table_is (all_of N) _ (pos 0) A size (λ i h. sym (ap (λ (k : ℕ). value_by rule k (high_bits k (at A i))) (exact i) ∙ ap (λ (y : ℤ). value_by rule 0 y) (high_all (at A i)) ∙ value_exact rule fair (at A i))))
