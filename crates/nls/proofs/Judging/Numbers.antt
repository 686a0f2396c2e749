-- Magnitudes as numbers: arrays of numbers below 2^P and arrays of bits are the same, so what is proved of bits holds of numbers.
use mathlib.Core.Path.{◌≡◌, sym, subst, ◌∙◌}
use mathlib.Core.Bool.{Bool, true, true≢false}
use mathlib.Core.Option.{Option, none, some}
use mathlib.Core.List.{List, [], ◌∷◌}
use Prim.Native.Nat.{ℕ, suc, ◌^◌, ◌≤◌, ◌<◌, ◌-◌}
use native.Mathlib.Omega.{arith}
use native.Mathlib.Decide.{dec_lt}
use Rattle.bits.specs.Bits.{bit, number}
use Rattle.bits.proofs.Laws.{bit_high, bit_top, number_lt, number_bit}
use Rattle.nls.specs.Scan.{Question, bit_of, sign_of, in_desc, in_grand, ask, next, State}
use Rattle.nls.proofs.Booleans.{not_true_false, same_bool}
use Rattle.nls.proofs.Arrays.{Arr, Bits, bits_of_arr, ans, inside, told, any_mono, Fit}
use Rattle.nls.proofs.Judging.Clash.{Valid}

-- the number whose bits below n are f
abbrev pub num : ℕ → (ℕ → Bool) → ℕ
num n f = number n (λ k. f (n - 1 - k))

num_lt : (n : ℕ) (f : ℕ → Bool) → num n f < 2 ^ n
num_lt n f = number_lt n (λ k. f (n - 1 - k))

pub num_bit : (n : ℕ) (f : ℕ → Bool) (b : ℕ) → b < n → bit (num n f) b ≡ f b
num_bit n f b h =
    subst (λ (x : ℕ). bit (num n f) x ≡ f x) {x = n - 1 - (n - 1 - b)} {y = b} (omega arith) (number_bit n (λ k. f (n - 1 - k)) (n - 1 - b) (omega arith))

-- An array of numbers with P planes: P is the least with every magnitude below 2^P
pub record Planes (I P : ℕ) (A : Arr) : Type 0 where
  pub under : (j : ℕ) → A.mag j < 2 ^ P
  pub least : (j : ℕ) × (b : ℕ) × (j < I) × (suc b ≡ P) × (2 ^ b ≤ A.mag j)

pub valid_of : (I P : ℕ) (A : Arr) → Planes I P A → Valid I P (bits_of_arr A)
valid_of I P A p = record { cap = λ j e h. cap' j e h (dec_lt e P); top = (p.least.0, p.least.1, p.least.2, p.least.3, bit_top (A.mag p.least.0) p.least.1 p.least.4 (subst (λ (x : ℕ). A.mag p.least.0 < 2 ^ x) (sym p.least.3) (p.under p.least.0))) }
  where
    cap' : (j e : ℕ) → bit (A.mag j) e ≡ true → Dec (e < P) → e < P
    cap' j e h (yes z) = z
    cap' j e h (no z) = absurd (true≢false (sym h ∙ bit_high P (A.mag j) e (p.under j) (omega arith)))

-- the array of numbers with the bits of B
abbrev pub arr_of : ℕ → Bits → Arr
arr_of P B = record { mag = λ j. num P (B.has j); neg = B.neg }

pub arr_has : (I P : ℕ) (B : Bits) → Valid I P B → (j e : ℕ) → bit (num P (B.has j)) e ≡ B.has j e
arr_has I P B v j e = go (dec_lt e P)
  where
    go : Dec (e < P) → bit (num P (B.has j)) e ≡ B.has j e
    go (yes z) = num_bit P (B.has j) e z
    go (no z) = bit_high P (num P (B.has j)) e (num_lt P (B.has j)) (omega arith) ∙ sym (not_true_false (B.has j e) (λ h. z (v.cap j e h)))

pub planes_of_lem : (I P : ℕ) (B : Bits) → Valid I P B → Planes I P (arr_of P B)
planes_of_lem I P B v = record { under = λ j. num_lt P (B.has j); least = (v.top.0, v.top.1, v.top.2, v.top.3, big (dec_lt (num P (B.has v.top.0)) (2 ^ v.top.1))) }
  where
    big : Dec (num P (B.has v.top.0) < 2 ^ v.top.1) → 2 ^ v.top.1 ≤ num P (B.has v.top.0)
    big (yes z) = absurd (true≢false (sym v.top.4 ∙ sym (arr_has I P B v v.top.0 v.top.1) ∙ bit_high v.top.1 (num P (B.has v.top.0)) v.top.1 z (omega arith)))
    big (no z) = omega (arith, z)

module _ (N : ℕ) where
  pub ans_ext : (A B : Bits) → ((i b : ℕ) → A.has i b ≡ B.has i b) → ((i : ℕ) → A.neg i ≡ B.neg i) → (q : Question) → ans N A q ≡ ans N B q
  unfolding ans
  ans_ext A B f g (bit_of i b) = f i b
  ans_ext A B f g (sign_of i) = g i
  ans_ext A B f g (in_desc h b) = same_bool _ _ (any_mono (4 ^ N) (λ j. inside N (in_desc h b) j) (λ j. A.has j b) (λ j. B.has j b) (λ j e. sym (f j b) ∙ e)) (any_mono (4 ^ N) (λ j. inside N (in_desc h b) j) (λ j. B.has j b) (λ j. A.has j b) (λ j e. f j b ∙ e))
  ans_ext A B f g (in_grand h b) = same_bool _ _ (any_mono (4 ^ N) (λ j. inside N (in_grand h b) j) (λ j. A.has j b) (λ j. B.has j b) (λ j e. sym (f j b) ∙ e)) (any_mono (4 ^ N) (λ j. inside N (in_grand h b) j) (λ j. B.has j b) (λ j. A.has j b) (λ j e. f j b ∙ e))

  pub fits_ext : (A B : Bits) → ((i b : ℕ) → A.has i b ≡ B.has i b) → ((i : ℕ) → A.neg i ≡ B.neg i) → (s : State) (u : List Bool) → Fit N A s u → Fit N B s u
  fits_ext A B f g s [] h = tt
  fits_ext A B f g s (a ∷ u) h = (go (ask (4 ^ N) s) h.0, fits_ext A B f g (next (4 ^ N) s a) u h.1)
    where
      go : (o : Option Question) → told N A o a → told N B o a
      go none t = t
      go (some q) t = sym (ans_ext A B f g q) ∙ t
