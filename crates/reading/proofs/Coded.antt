-- What is known, as the scan keeps it: each value as a code, twice its magnitude and 1 more where it is below 0.
use Prim.Native.Nat.{ℕ, zero, suc, ◌+◌, ◌*◌, ◌/◌, ◌%◌, ◌^◌, ◌≤◌, ◌<◌}
use mathlib.Core.Path.{◌≡◌, refl, sym, ap, subst, ◌∙◌}
use mathlib.Core.Bool.{Bool, true, false}
use mathlib.Core.List.{List, [], ◌∷◌}
use native.Mathlib.Nat.{pow-suc}
use native.Mathlib.Omega.{arith}
use borrow.Author.Tests.{eqb-true}
use lib.Bits.{bit_or, or_zero_r, or_block, or_shifted_r}
use lib.Dec.{ltb, eqb}
use lib.IntN.{ℤ, pos, negsuc}
use lib.ListN.{get_or, set, replicate}
use lib.Pow.{pow_pos, pow_mono, split}
use mir.Facts.{to_z_pos}
use mir.Syntax.{w32}
use mir.Val.{to_z}
use Rattle.bits.specs.Bits.{digit}
use Rattle.bits.proofs.Laws.{digit_le}
use Rattle.coef.specs.Coef.{magnitude, negative, signed}
use Rattle.coef.specs.Coef as coef
use Rattle.coef.proofs.Laws.{magnitude_signed, negative_signed}
use Rattle.nls.specs.Scan.{Question, bit_of, sign_of, in_desc, in_grand, Pass, pixels, sets, refining, asks, look, look_refining}
use Rattle.nls.specs.Reading.{Known, learn}
use Rattle.nls.proofs.Known.{Sound}
use Rattle.reading.specs.Reading.{coded, codes, new_code, more_code, keep}
use Rattle.walk.proofs.Good.{state}

pub codes_at : (l : List ℤ) (i : ℕ) → coef.at (codes l) i ≡ coded (coef.at l i)
unfolding codes
codes_at [] i = refl
codes_at (z ∷ l) zero = refl
codes_at (z ∷ l) (suc i) = codes_at l i

codes_set : (l : List ℤ) (i : ℕ) (z : ℤ) → set (codes l) i (coded z) ≡ codes (set l i z)
unfolding codes
codes_set [] i z = refl
codes_set (y ∷ l) zero z = refl
codes_set (y ∷ l) (suc i) z = ap (λ (r : List ℤ). coded y ∷ r) (codes_set l i z)

pub codes_none : (n : ℕ) → replicate n (pos 0) ≡ codes (replicate n (pos 0))
unfolding codes
codes_none zero = refl
codes_none (suc n) = ap (λ (r : List ℤ). pos 0 ∷ r) (codes_none n)

-- the code of a coefficient that is found
code_found : (a : Bool) (b : ℕ) → new_code a b ≡ coded (signed a (2 ^ b))
code_found true b = rw (magnitude_signed true (2 ^ b), negative_signed (2 ^ b) (pow_pos b))
code_found false b = refl

-- one more bit of a magnitude that has no bit there nor below: in the code it is one bit higher, and the OR is a sum
code_sum : (z : ℤ) (d : ℕ) → coded (signed (negative z) (magnitude z + d)) ≡ pos (2 * (magnitude z + d) + digit (negative z))
code_sum (pos n) d = refl
code_sum (negsuc n) d = rw (magnitude_signed true (suc n + d), negative_signed (suc n + d) (omega arith))

or_bit : (m s b : ℕ) → m % 2 ^ (b + 1) ≡ 0 → s ≤ 1 → bit_or (2 * m + s) (1 * 2 ^ (b + 1)) ≡ 2 * (m + 1 * 2 ^ b) + s
or_bit m s b e h =
    let q : ℕ = m / 2 ^ (b + 1) in
    let two : 2 ^ (b + 1) ≡ 2 * 2 ^ b = omega (arith, ap (λ (n : ℕ). 2 ^ n) {x = b + 1} {y = suc b} (omega arith), pow-suc 2 b) in
    let four : 2 ^ suc (b + 1) ≡ 2 * 2 ^ (b + 1) = omega (arith, pow-suc 2 (b + 1)) in
    let one : 1 ≤ 2 ^ b = pow_pos b in
    let whole : q * 2 ^ (b + 1) ≡ m = omega (arith, split m (b + 1), e) in
    let twice : q * 2 ^ suc (b + 1) ≡ 2 * m = ap (λ (n : ℕ). q * n) four ∙ omega (arith, whole) in
    let left : 2 * m + s ≡ q * 2 ^ suc (b + 1) + s = omega (arith, twice) in
    let right : 1 * 2 ^ (b + 1) ≡ 0 * 2 ^ suc (b + 1) + 1 * 2 ^ (b + 1) = omega arith in
    ap (λ (n : ℕ). bit_or n (1 * 2 ^ (b + 1))) left
    ∙ ap (λ (n : ℕ). bit_or (q * 2 ^ suc (b + 1) + s) n) right
    ∙ or_block (suc (b + 1)) q 0 s (1 * 2 ^ (b + 1)) (omega (arith, four, two, one, h)) (omega (arith, four, two, one))
    ∙ ap (λ (n : ℕ). n * 2 ^ suc (b + 1) + bit_or s (1 * 2 ^ (b + 1))) (or_zero_r q)
    ∙ ap (λ (n : ℕ). q * 2 ^ suc (b + 1) + n) (or_shifted_r 1 (b + 1) s (omega (arith, two, one, h)))
    ∙ omega (arith, twice, two)

code_more : (z : ℤ) (x : Bool) (b : ℕ) → magnitude z % 2 ^ (b + 1) ≡ 0 → magnitude z < 2 ^ 24 → b < 24
    → more_code x b (coded z) ≡ coded (signed (negative z) (magnitude z + digit x * 2 ^ b))
unfolding more_code
code_more z x b e h l = go x ∙ sym (code_sum z (digit x * 2 ^ b))
  where
    s : ℕ
    s = digit (negative z)

    small : 2 ^ b ≤ 2 ^ 24
    small = pow_mono {i = b} {j = 24} (omega arith)

    go : (x : Bool) → to_z w32 (bit_or (2 * magnitude z + digit (negative z)) (digit x * 2 ^ (b + 1))) ≡ pos (2 * (magnitude z + digit x * 2 ^ b) + digit (negative z))
    go true =
        ap (λ (n : ℕ). to_z w32 n) (or_bit (magnitude z) s b e (digit_le (negative z)))
        ∙ to_z_pos w32 (omega (arith, h, small, digit_le (negative z)))
    go false =
        let n : 0 * 2 ^ (b + 1) ≡ 0 = omega arith in
        let w : 2 * magnitude z + s ≡ 2 * (magnitude z + 0 * 2 ^ b) + s = omega arith in
        ap (λ (k : ℕ). to_z w32 (bit_or (2 * magnitude z + s) k)) n
        ∙ ap (λ (k : ℕ). to_z w32 k) (or_zero_r (2 * magnitude z + s) ∙ w)
        ∙ to_z_pos w32 (omega (arith, h, digit_le (negative z)))

-- what is kept of an answer is the code of what is learned
module _ (I P : ℕ) (b i : ℕ) (m : List ℕ) (k : Known) (h : i < I) where
  refined_there : (x s w : Bool) (j c : ℕ) → look_refining b i m x s w ≡ asks (bit_of j c) → eqb (get_or m i 0) 3 ≡ s → (i ≡ j) × (get_or m i 0 ≡ 3)
  refined_there false s w j c e es = let z : ◌≡◌ {A = ℕ} 0 1 = cc in absurd (omega (arith, z))
  refined_there true true w j c e es = let z : i ≡ j = cc in (z, eqb-true (get_or m i 0) 3 es)
  refined_there true false true j c e es = let z : ◌≡◌ {A = ℕ} 0 1 = cc in absurd (omega (arith, z))
  refined_there true false false j c e es = let z : ◌≡◌ {A = ℕ} 0 1 = cc in absurd (omega (arith, z))

  refined_code : (e a : Bool) → Sound I P (state (suc b) refining i e m) k → P ≤ 24 → get_or m i 0 ≡ 3
      → more_code a b (coef.at (codes k.bits) i) ≡ coded (signed (negative (coef.at k.bits i)) (magnitude (coef.at k.bits i) + digit a * 2 ^ b))
  refined_code e a f t three =
      let s : suc b ≡ b + 1 = omega arith in
      let own : magnitude (coef.at k.bits i) % 2 ^ (b + 1) ≡ 0 = subst (λ (x : ℕ). magnitude (coef.at k.bits i) % 2 ^ x ≡ 0) s (f.fresh i h three (omega arith)) in
      let small : magnitude (coef.at k.bits i) < 2 ^ 24 = omega (arith, f.range i h, pow_mono {i = P} {j = 24} t) in
      ap (λ (z : ℤ). more_code a b z) (codes_at k.bits i) ∙ code_more (coef.at k.bits i) a b own small (omega (arith, f.left, t))

  set_codes : (j : ℕ) (w z : ℤ) → w ≡ coded z → set (codes k.bits) j w ≡ codes (set k.bits j z)
  set_codes j w z e = ap (λ (y : ℤ). set (codes k.bits) j y) e ∙ codes_set k.bits j z

  pub learn_is : (N L : ℕ) (p : Pass) (e : Bool) (a : Bool) (q : Question) → look I (state (suc b) p i e m) ≡ asks q → Sound I P (state (suc b) p i e m) k → P ≤ 24
      → keep p b q a (codes k.bits) ≡ codes (learn N L p b q a k).bits
  learn_is N L pixels false false (bit_of j c) l f t = refl
  learn_is N L pixels false true (bit_of j c) l f t = refl
  learn_is N L sets false false (bit_of j c) l f t = refl
  learn_is N L sets false true (bit_of j c) l f t = refl
  learn_is N L refining false a (bit_of j c) l f t =
      let y : (i ≡ j) × (get_or m i 0 ≡ 3) = refined_there (ltb i I) (eqb (get_or m i 0) 3) (eqb (get_or m i 0) 2) j c l refl in
      subst (λ (x : ℕ). keep refining b (bit_of x c) a (codes k.bits) ≡ codes (learn N L refining b (bit_of x c) a k).bits) y.0
      (set_codes i _ (signed (negative (coef.at k.bits i)) (magnitude (coef.at k.bits i) + digit a * 2 ^ b)) (refined_code false a f t y.1))
  learn_is N L refining true a (bit_of j c) l f t = let z : ◌≡◌ {A = ℕ} 0 1 = cc in absurd (omega (arith, z))
  learn_is N L pixels true a (bit_of j c) l f t = let z : ◌≡◌ {A = ℕ} 0 1 = cc in absurd (omega (arith, z))
  learn_is N L sets true a (bit_of j c) l f t = let z : ◌≡◌ {A = ℕ} 0 1 = cc in absurd (omega (arith, z))
  learn_is N L pixels e a (sign_of j) l f t = set_codes j (new_code a b) (signed a (2 ^ b)) (code_found a b)
  learn_is N L sets e a (sign_of j) l f t = set_codes j (new_code a b) (signed a (2 ^ b)) (code_found a b)
  learn_is N L refining e a (sign_of j) l f t = set_codes j (new_code a b) (signed a (2 ^ b)) (code_found a b)
  learn_is N L pixels e false (in_desc g c) l f t = refl
  learn_is N L pixels e true (in_desc g c) l f t = refl
  learn_is N L pixels e false (in_grand g c) l f t = refl
  learn_is N L pixels e true (in_grand g c) l f t = refl
  learn_is N L sets e false (in_desc g c) l f t = refl
  learn_is N L sets e true (in_desc g c) l f t = refl
  learn_is N L sets e false (in_grand g c) l f t = refl
  learn_is N L sets e true (in_grand g c) l f t = refl
  learn_is N L refining e false (in_desc g c) l f t = refl
  learn_is N L refining e true (in_desc g c) l f t = refl
  learn_is N L refining e false (in_grand g c) l f t = refl
  learn_is N L refining e true (in_grand g c) l f t = refl
