-- Laws of coefficients: sign and magnitude, the first place over the limit, planes, the float.
use mathlib.Core.Path.{◌≡◌, refl, sym, ap, ◌∙◌}
use mathlib.Core.Bool.{Bool, true, false, true≢false, cond}
use mathlib.Core.List.{List, [], ◌∷◌, map}
use mathlib.Core.Logic.{◌⊎◌, inl, inr, ⊎_elim}
use Prim.Native.Nat.{ℕ, zero, suc, ◌-◌, ◌/◌, ◌≤◌, ◌<◌, ◌^◌}
use native.Mathlib.Nat.{pow-suc, le_antisymm}
use native.Mathlib.Decide.{dec_lt}
use native.Mathlib.Omega.{arith}
use borrow.Author.Tests.{leb-true, le-leb, ltb-false}
use lib.Bits.{bit_or, or_zero_r}
use lib.Count.{count_leading_zeros, count_trailing_zeros}
use lib.Dec.{lit<, leb, ltb}
use lib.Ieee.{fin, binary32, of_int, round, size, units, odd, span, climb}
use lib.Ieee.Back.{round_whole}
use lib.Ieee.Exact.{HasValue}
use lib.IntN.{ℤ, pos, negsuc}
use lib.ListN.{length, get_or, get_or-eq_default, get_or-map}
use lib.Pow.{pow_pos, pow_mono}
use Rattle.std.specs.List.{fold}
use Rattle.std.specs.Prelude.{Some, None, unwrap_or}
use Rattle.sizes.specs.Sizes.{limit, most_planes}
use Rattle.bits.specs.Bits.{or_all}
use Rattle.bits.proofs.Laws.{or_assoc, or_below, zeros_below}
use Rattle.coef.specs.Coef.{negative, magnitude, signed, within, at, mag_at, parted_of, joined_of, first_over, over_by, IsPlanes, largest, digits, planes_of}
use Rattle.coef.specs.declared.Signed.{Signed}

-- ---- sign and magnitude

pub signed_back : (z : ℤ) → signed (negative z) (magnitude z) ≡ z
signed_back (pos n) = refl
signed_back (negsuc n) = refl

pub magnitude_signed : (s : Bool) (n : ℕ) → magnitude (signed s n) ≡ n
magnitude_signed true zero = refl
magnitude_signed true (suc n) = refl
magnitude_signed false n = refl

pub negative_signed : (n : ℕ) → 0 < n → negative (signed true n) ≡ true
negative_signed zero h = absurd (omega arith)
negative_signed (suc n) h = refl

pub zero_magnitude : (z : ℤ) → magnitude z ≡ 0 → z ≡ pos 0
zero_magnitude (pos n) e = ap pos e
zero_magnitude (negsuc n) e = absurd (omega arith)

pub within_le : (z : ℤ) → within z ≡ true → magnitude z ≤ limit
within_le z e = leb-true (magnitude z) limit e

-- a coefficient within the limit, taken apart and joined again
abbrev pub signed_of : ℤ → Signed
signed_of z = record { negative = negative z; magnitude = magnitude z }

pub parted_is : (z : ℤ) → within z ≡ true → parted_of z ≡ Some (signed_of z)
parted_is z e = rw e

pub joined_is : (z : ℤ) → within z ≡ true → joined_of (signed_of z) ≡ Some z
joined_is z e = rw e (ap Some (signed_back z))

-- ---- the first place over the limit

pub first_le : (A : List ℤ) → first_over A ≤ length A
unfolding first_over
first_le [] = omega arith
first_le (z ∷ A) = tell (within z) (first_le A)
  where
    tell : (t : Bool) → first_over A ≤ length A → cond t (suc (first_over A)) 0 ≤ suc (length A)
    tell true ih = omega arith
    tell false ih = omega arith

pub first_before : (A : List ℤ) (i : ℕ) → i < first_over A → within (at A i) ≡ true
unfolding first_over
first_before [] i h = absurd (omega arith)
first_before (z ∷ A) i h = tell i (within z) refl h (λ k l. first_before A k l)
  where
    tell : (i : ℕ) (t : Bool) → within z ≡ t → i < cond t (suc (first_over A)) 0 → ((k : ℕ) → k < first_over A → within (at A k) ≡ true) → within (at (z ∷ A) i) ≡ true
    tell i false e l ih = absurd (omega arith)
    tell zero true e l ih = e
    tell (suc i) true e l ih = ih i (omega arith)

pub first_is : (A : List ℤ) → first_over A < length A → within (at A (first_over A)) ≡ false
unfolding first_over
first_is [] h = absurd (omega arith)
first_is (z ∷ A) h = tell (within z) refl h (λ l. first_is A l)
  where
    tell : (t : Bool) → within z ≡ t → cond t (suc (first_over A)) 0 < suc (length A) → (first_over A < length A → within (at A (first_over A)) ≡ false) → within (at (z ∷ A) (cond t (suc (first_over A)) 0)) ≡ false
    tell true e l ih = ih (omega arith)
    tell false e l ih = e

-- past the end there is nothing over the limit
past_within : (A : List ℤ) (i : ℕ) → length A ≤ i → within (at A i) ≡ true
past_within A i h = ap within (get_or-eq_default A (pos 0) h)

-- no coefficient is over the limit exactly if the first such place is the length
pub first_none : (A : List ℤ) → ((i : ℕ) → within (at A i) ≡ true) → first_over A ≡ length A
first_none A h = tell (dec_lt (first_over A) (length A))
  where
    tell : Dec (first_over A < length A) → first_over A ≡ length A
    tell (yes l) = absurd (true≢false (sym (h (first_over A)) ∙ first_is A l))
    tell (no l) = omega (arith, first_le A)

pub first_all : (A : List ℤ) → first_over A ≡ length A → (i : ℕ) → within (at A i) ≡ true
first_all A e i = tell (dec_lt i (length A))
  where
    tell : Dec (i < length A) → within (at A i) ≡ true
    tell (yes l) = first_before A i (omega arith)
    tell (no l) = past_within A i (omega arith)

-- a place, or the length where there is none: what `position` and `unwrap_or` give together
pub place_or_length : (p n : ℕ) → p ≤ n → unwrap_or (cond (ltb p n) (Some p) None) n ≡ p
place_or_length p n h = tell (ltb p n) refl
  where
    tell : (t : Bool) → ltb p n ≡ t → unwrap_or (cond t (Some p) None) n ≡ p
    tell true e = refl
    tell false e = omega (arith, ltb-false p n e)

-- ---- planes

-- a fold by OR over what g makes of each number
pub or_folded : {X : Type 0} (g : X → ℕ) (A : List X) (n : ℕ) → fold (λ m x. bit_or m (g x)) n A ≡ bit_or n (or_all (map g A))
unfolding or_all
or_folded g [] n = sym (or_zero_r n)
or_folded g (x ∷ A) n = or_folded g A (bit_or n (g x)) ∙ or_assoc n (g x) (or_all (map g A))

module _ {A : List ℤ} {P : ℕ} (p : IsPlanes A P) where
  pub planes_one : {Q : ℕ} → IsPlanes A Q → P ≡ Q
  planes_one {Q} q = le_antisymm (p.least Q q.below) (q.least P p.below)

  -- none exactly if every coefficient is 0
  pub planes_none : ((i : ℕ) → at A i ≡ pos 0) → P ≡ 0
  planes_none h = omega (arith, p.least 0 (λ i. rw (h i) (lit< tt)))

  pub planes_zero : P ≡ 0 → (i : ℕ) → at A i ≡ pos 0
  planes_zero e i = zero_magnitude (at A i) (omega (arith, rw e at (p.below i)))

  -- within the limit
  pub planes_most : ((i : ℕ) → within (at A i) ≡ true) → P ≤ most_planes
  planes_most h = p.least most_planes (λ i. omega (arith, within_le (at A i) (h i)))

-- the first place over the limit, where the planes are known
pub over_by_le : (p : ℕ) (A : List ℤ) → over_by p A ≤ length A
unfolding over_by
over_by_le p A = tell (leb p most_planes)
  where
    tell : (t : Bool) → cond t (length A) (first_over A) ≤ length A
    tell true = omega arith
    tell false = first_le A

pub over_by_lem : (A : List ℤ) (p : ℕ) → IsPlanes A p → over_by p A ≡ first_over A
unfolding over_by
over_by_lem A p planes = tell (leb p most_planes) refl
  where
    tell : (t : Bool) → leb p most_planes ≡ t → cond t (length A) (first_over A) ≡ first_over A
    tell true e = sym (first_none A (λ i. le-leb (mag_at A i) limit (omega (arith, planes.below i, pow_mono {i = p} {j = most_planes} (leb-true p most_planes e)))))
    tell false e = refl

-- every magnitude is below m, or some place has one that is not
below_or_not : (A : List ℤ) (m : ℕ) → 0 < m → ((i : ℕ) → mag_at A i < m) ⊎ ((i : ℕ) × (i < length A) × (m ≤ mag_at A i))
below_or_not [] m h = inl (λ i. h)
below_or_not (z ∷ A) m h = tell (dec_lt (magnitude z) m) (below_or_not A m h)
  where
    tell : Dec (magnitude z < m) → ((i : ℕ) → mag_at A i < m) ⊎ ((i : ℕ) × (i < length A) × (m ≤ mag_at A i)) → ((i : ℕ) → mag_at (z ∷ A) i < m) ⊎ ((i : ℕ) × (i < suc (length A)) × (m ≤ mag_at (z ∷ A) i))
    tell (no l) r = inr (0, omega arith, omega arith)
    tell (yes l) (inr s) = inr (suc s.0, omega (arith, s.1), s.2)
    tell (yes l) (inl f) = inl (λ i. all i)
      where
        all : (i : ℕ) → mag_at (z ∷ A) i < m
        all zero = l
        all (suc i) = f i

-- the highest plane has a coefficient
pub planes_top : {A : List ℤ} (b : ℕ) → IsPlanes A (suc b) → (i : ℕ) × (i < length A) × (2 ^ b ≤ mag_at A i)
planes_top {A} b p = ⊎_elim (λ f. absurd (omega (arith, p.least b f))) (λ s. s) (below_or_not A (2 ^ b) (pow_pos b))

-- the largest magnitude
pub largest_above : (A : List ℤ) (i : ℕ) → mag_at A i ≤ largest A
unfolding largest
largest_above [] i = omega arith
largest_above (z ∷ A) zero = omega arith
largest_above (z ∷ A) (suc i) = omega (arith, largest_above A i)

pub largest_least : (A : List ℤ) (m : ℕ) → ((i : ℕ) → mag_at A i ≤ m) → largest A ≤ m
unfolding largest
largest_least [] m h = omega arith
largest_least (z ∷ A) m h = omega (arith, h 0, largest_least A m (λ i. h (suc i)))

-- the binary digits of a number
digits_above : (f x : ℕ) → x ≤ f → x < 2 ^ digits f x
unfolding digits
digits_above zero x h = omega arith
digits_above (suc f) zero h = lit< tt
digits_above (suc f) (suc x) h = omega (arith, digits_above f (suc x / 2) (omega arith), pow-suc 2 (digits f (suc x / 2)))

digits_least : (f x k : ℕ) → x < 2 ^ k → digits f x ≤ k
unfolding digits
digits_least zero x k h = omega arith
digits_least (suc f) zero k h = omega arith
digits_least (suc f) (suc x) zero h = absurd (omega (arith, h))
digits_least (suc f) (suc x) (suc k) h = omega (arith, digits_least f (suc x / 2) k (omega (arith, pow-suc 2 k)))

-- the least P with the largest magnitude below 2^P is the array's planes
planes_by : (A : List ℤ) (m P : ℕ) → ((i : ℕ) → mag_at A i ≤ m) → ((n : ℕ) → ((i : ℕ) → mag_at A i ≤ n) → m ≤ n) → m < 2 ^ P → ((k : ℕ) → m < 2 ^ k → P ≤ k) → IsPlanes A P
planes_by A m P above least high low =
    record { below = λ i. omega (arith, above i); least = λ R h. low R (omega (arith, least (2 ^ R - 1) (λ i. omega (arith, h i)), pow_pos R)) }

-- and so is what the leading zeros of the OR of all magnitudes leave of w digits, if it has no more than w
pub planes_or : (A : List ℤ) (w x : ℕ) → x ≡ or_all (map (λ z. magnitude z) A) → x < 2 ^ w → IsPlanes A (w - count_leading_zeros w x)
planes_or A w x e h =
    let sizes = map (λ z. magnitude z) A in
    let P = w - count_leading_zeros w x in
    let own : (i : ℕ) → get_or sizes i 0 ≡ mag_at A i = λ i. get_or-map (λ z. magnitude z) A i (pos 0) in
    record {
      below = λ i. omega (arith, own i, (or_below P sizes).0 (omega (arith, e, (zeros_below w x P h).1 (omega arith))) i);
      least = λ R f. (zeros_below w x R h).0 (omega (arith, e, (or_below R sizes).1 (λ i. omega (arith, own i, f i))));
    }

-- every array has planes
pub planes_of_lem : (A : List ℤ) → IsPlanes A (planes_of A)
unfolding planes_of
planes_of_lem A =
    planes_by A (largest A) (digits (largest A) (largest A)) (largest_above A) (largest_least A) (digits_above (largest A) (largest A) (omega arith)) (digits_least (largest A) (largest A))

-- ---- the float

-- nothing is lost
pub exact : (z : ℤ) → magnitude z ≤ limit → HasValue (of_int binary32 z) (negative z) (magnitude z) 1
unfolding of_int
exact (pos n) h = round_whole binary32 false n (omega arith)
exact (negsuc n) h = round_whole binary32 true (suc n) (omega arith)

-- zero gives plus zero
pub plus_zero : of_int binary32 (pos 0) ≡ fin false 0 (pos 0)
unfolding of_int round size units odd span climb count_trailing_zeros
plus_zero = refl
