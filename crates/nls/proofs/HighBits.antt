-- The bits k and above of a number, by its bits; the same with a sign.
use mathlib.Core.Path.{◌≡◌, refl, sym, ap, subst, ◌∙◌}
use mathlib.Core.Bool.{Bool, true, false}
use mathlib.Core.Logic.{◌⊎◌, inl, inr}
use Prim.Native.Nat.{ℕ, zero, suc, ◌+◌, ◌*◌, ◌-◌, ◌/◌, ◌%◌, ◌^◌, ◌≤◌, ◌<◌}
use native.Mathlib.Omega.{arith}
use native.Mathlib.Nat.{pow-succ', mul_assoc, add-mul, div-eq_of_lt, div-one, mod-eq_of_lt, one-le-pow, add-mul-mod_self_right}
use lib.Dec.{eqb}
use lib.IntN.{ℤ, pos}
use lib.Pow.{shr-shr, pow-lt}
use borrow.Author.Tests.{eqb-true, eqb-false}
use Rattle.bits.specs.Bits.{bit, digit}
use Rattle.coef.specs.Coef.{magnitude, negative, signed}
use Rattle.coef.proofs.Laws.{magnitude_signed, signed_back}
use Rattle.nls.specs.Reading.{high_bits}

pub neg_signed : (n : Bool) (x : ℕ) → 1 ≤ x → negative (signed n x) ≡ n
neg_signed true zero h = absurd (omega (arith, h))
neg_signed true (suc x) h = refl
neg_signed false x h = refl

pub signed_zero : (n : Bool) → signed n 0 ≡ pos 0
signed_zero true = refl
signed_zero false = refl

-- Numbers: plane b adds bit b.
digit_bit : (x b : ℕ) → digit (bit x b) ≡ x / 2 ^ b % 2
unfolding bit
digit_bit x b = on (eqb (x / 2 ^ b % 2) 1) refl
  where
    on : (t : Bool) → eqb (x / 2 ^ b % 2) 1 ≡ t → digit t ≡ x / 2 ^ b % 2
    on true e = sym (eqb-true (x / 2 ^ b % 2) 1 e)
    on false e = omega (arith, eqb-false (x / 2 ^ b % 2) 1 e)

pub plane_adds : (b x : ℕ) → x / 2 ^ b * 2 ^ b ≡ x / 2 ^ suc b * 2 ^ suc b + digit (bit x b) * 2 ^ b
plane_adds b x =
    let half : x / 2 ^ suc b ≡ x / 2 ^ b / 2 = ap (λ (e : ℕ). x / 2 ^ e) {x = suc b} {y = b + 1} (omega arith) ∙ sym (shr-shr x b 1) in
    let both : x / 2 ^ b ≡ x / 2 ^ b / 2 * 2 + x / 2 ^ b % 2 = omega arith in
    ap (λ (y : ℕ). y * 2 ^ b) both
    ∙ add-mul (x / 2 ^ b / 2 * 2) (x / 2 ^ b % 2) (2 ^ b)
    ∙ ap (λ (y : ℕ). y + x / 2 ^ b % 2 * 2 ^ b) (mul_assoc (x / 2 ^ b / 2) 2 (2 ^ b) ∙ ap (λ (y : ℕ). x / 2 ^ b / 2 * y) (sym (pow-succ' 2 b)))
    ∙ ap (λ (y : ℕ). y * 2 ^ suc b + x / 2 ^ b % 2 * 2 ^ b) (sym half)
    ∙ ap (λ (y : ℕ). x / 2 ^ suc b * 2 ^ suc b + y * 2 ^ b) (sym (digit_bit x b))

-- planes of 0s add nothing: n of them, from b on
pub planes_add : (n b x : ℕ) → ((e : ℕ) → b ≤ e → e < n + b → bit x e ≡ false) → x / 2 ^ (n + b) * 2 ^ (n + b) ≡ x / 2 ^ b * 2 ^ b
planes_add zero b x f = ap (λ (k : ℕ). x / 2 ^ k * 2 ^ k) {x = zero + b} {y = b} (omega arith)
planes_add (suc n) b x f =
    let none : digit (bit x (n + b)) * 2 ^ (n + b) ≡ 0 = ap (λ (a : Bool). digit a * 2 ^ (n + b)) (f (n + b) (omega arith) (omega arith)) ∙ omega arith in
    let up : x / 2 ^ suc (n + b) * 2 ^ suc (n + b) ≡ x / 2 ^ (n + b) * 2 ^ (n + b) = omega (arith, plane_adds (n + b) x, none) in
    ap (λ (k : ℕ). x / 2 ^ k * 2 ^ k) {x = suc n + b} {y = suc (n + b)} (omega arith) ∙ up ∙ planes_add n b x (λ e l h. f e l (omega arith))

pub same_above : (b k x : ℕ) → b ≤ k → ((e : ℕ) → b ≤ e → e < k → bit x e ≡ false) → x / 2 ^ k * 2 ^ k ≡ x / 2 ^ b * 2 ^ b
same_above b k x h f =
    ap (λ (k : ℕ). x / 2 ^ k * 2 ^ k) {x = k} {y = k - b + b} (omega arith) ∙ planes_add (k - b) b x (λ e l u. f e l (omega arith))

pub none_above : (P x : ℕ) → x < 2 ^ P → x / 2 ^ P * 2 ^ P ≡ 0
none_above P x h = ap (λ (y : ℕ). y * 2 ^ P) (div-eq_of_lt h) ∙ omega arith

-- The same with a sign.
pub high_same : (b k : ℕ) (z : ℤ) → b ≤ k → ((e : ℕ) → b ≤ e → e < k → bit (magnitude z) e ≡ false) → high_bits k z ≡ high_bits b z
unfolding high_bits
high_same b k z h f = ap (λ (x : ℕ). signed (negative z) x) (same_above b k (magnitude z) h f)

pub high_none : (P : ℕ) (z : ℤ) → magnitude z < 2 ^ P → high_bits P z ≡ pos 0
unfolding high_bits
high_none P z h = ap (λ (x : ℕ). signed (negative z) x) (none_above P (magnitude z) h) ∙ signed_zero (negative z)

pub high_all : (z : ℤ) → high_bits 0 z ≡ z
unfolding high_bits
high_all z = ap (λ (x : ℕ). signed (negative z) x) whole ∙ signed_back z
  where
    whole : magnitude z / 2 ^ 0 * 2 ^ 0 ≡ magnitude z
    whole = ap (λ (x : ℕ). x * 1) (div-one (magnitude z)) ∙ omega arith

pub high_magnitude : (k : ℕ) (z : ℤ) → magnitude (high_bits k z) ≡ magnitude z / 2 ^ k * 2 ^ k
unfolding high_bits
high_magnitude k z = magnitude_signed (negative z) (magnitude z / 2 ^ k * 2 ^ k)

pub high_negative : (k : ℕ) (z : ℤ) → 1 ≤ magnitude (high_bits k z) → negative (high_bits k z) ≡ negative z
unfolding high_bits
high_negative k z h = neg_signed (negative z) (magnitude z / 2 ^ k * 2 ^ k) (subst (λ (x : ℕ). 1 ≤ x) (magnitude_signed (negative z) (magnitude z / 2 ^ k * 2 ^ k)) h)

-- a refinement bit
pub high_refined : (b : ℕ) (z : ℤ) → 1 ≤ magnitude (high_bits (suc b) z)
    → signed (negative (high_bits (suc b) z)) (magnitude (high_bits (suc b) z) + digit (bit (magnitude z) b) * 2 ^ b) ≡ high_bits b z
high_refined b z h =
    ap (λ (n : Bool). signed n (magnitude (high_bits (suc b) z) + digit (bit (magnitude z) b) * 2 ^ b)) (high_negative (suc b) z h)
    ∙ ap (λ (x : ℕ). signed (negative z) (x + digit (bit (magnitude z) b) * 2 ^ b)) (high_magnitude (suc b) z)
    ∙ (unfold high_bits in ap (λ (x : ℕ). signed (negative z) x) (sym (plane_adds b (magnitude z))))

-- bits from plane b on that are round to plane b + 1
pub high_round : (b : ℕ) (z y : ℤ) → (y ≡ high_bits (suc b) z) ⊎ (y ≡ high_bits b z) → magnitude y % 2 ^ suc b ≡ 0 → y ≡ high_bits (suc b) z
high_round b z y (inl e) h = e
high_round b z y (inr e) h = on (bit (magnitude z) b) refl
  where
    size : magnitude y ≡ magnitude z / 2 ^ suc b * 2 ^ suc b + digit (bit (magnitude z) b) * 2 ^ b
    size = ap magnitude e ∙ high_magnitude b z ∙ plane_adds b (magnitude z)

    on : (t : Bool) → bit (magnitude z) b ≡ t → y ≡ high_bits (suc b) z
    on false q = e ∙ sym (high_same b (suc b) z (omega arith) (λ x l u. ap (λ (n : ℕ). bit (magnitude z) n) {x = x} {y = b} (omega arith) ∙ q))
    on true q =
        let one : magnitude y ≡ 2 ^ b + magnitude z / 2 ^ suc b * 2 ^ suc b = size ∙ ap (λ (t : Bool). magnitude z / 2 ^ suc b * 2 ^ suc b + digit t * 2 ^ b) q ∙ omega arith in
        let rest : magnitude y % 2 ^ suc b ≡ 2 ^ b = ap (λ (n : ℕ). n % 2 ^ suc b) one ∙ add-mul-mod_self_right (2 ^ b) (magnitude z / 2 ^ suc b) (2 ^ suc b) ∙ mod-eq_of_lt (pow-lt {i = b} {j = suc b} (omega arith)) in
        absurd (omega (arith, rest, h, one-le-pow b 2 (omega arith)))

-- the highest bit, with the sign
pub high_first : (b P : ℕ) (z : ℤ) → magnitude z < 2 ^ P → suc b ≤ P → bit (magnitude z) b ≡ true → ((e : ℕ) → suc b ≤ e → e < P → bit (magnitude z) e ≡ false)
    → high_bits b z ≡ signed (negative z) (2 ^ b)
unfolding high_bits
high_first b P z h k t f = ap (λ (x : ℕ). signed (negative z) x) (plane_adds b (magnitude z) ∙ one)
  where
    above : magnitude z / 2 ^ suc b * 2 ^ suc b ≡ 0
    above = sym (same_above (suc b) P (magnitude z) k f) ∙ none_above P (magnitude z) h

    one : magnitude z / 2 ^ suc b * 2 ^ suc b + digit (bit (magnitude z) b) * 2 ^ b ≡ 2 ^ b
    one = ap (λ (x : ℕ). x + digit (bit (magnitude z) b) * 2 ^ b) above ∙ ap (λ (a : Bool). 0 + digit a * 2 ^ b) t ∙ omega arith
