-- The digits of a number: step by step, read back, how many, and which.
use mathlib.Core.Path.{◌≡◌, refl, sym, ap, ◌∙◌}
use mathlib.Core.Bool.{true, false, true≢false, false≢true}
use mathlib.Core.List.{List, [], ◌∷◌, ◌++◌}
use Prim.Native.Nat.{ℕ, zero, suc, ◌+◌, ◌*◌, ◌-◌, ◌/◌, ◌%◌, ◌^◌, ◌≤◌, ◌<◌}
use native.Mathlib.Nat.{pow-succ'}
use native.Mathlib.Decide.{dec_lt}
use native.Mathlib.Omega.{arith}
use borrow.Author.Tests.{lt-ltb, le-ltb}
use lib.IntN.{ℤ, pos, negsuc}
use lib.ListN.{length, set, get_or, length-append, get_or-append}
use lib.Seq.{sets, get_or-append_seam}
use Rattle.coef.specs.Coef.{negative, magnitude}
use Rattle.decimal.specs.Decimal.{figure, minus, digits_up_to, decimal, signed_decimal, read_on, read_decimal}
use Rattle.decimal.proofs.Sets.{sets_last}

-- a digit is the whole of a number below 10, and else the last of it
up_to_small : (n x : ℕ) → x < 10 → digits_up_to (suc n) x ≡ figure x ∷ []
unfolding digits_up_to
up_to_small n x h = rw (lt-ltb x 10 h)

up_to_large : (n x : ℕ) → 10 ≤ x → digits_up_to (suc n) x ≡ digits_up_to n (x / 10) ++ (figure (x % 10) ∷ [])
unfolding digits_up_to
up_to_large n x h = rw (le-ltb x 10 h)

-- a higher bound changes nothing
enough : (n m x : ℕ) → x < n → x < m → digits_up_to n x ≡ digits_up_to m x
enough zero m x h g = absurd (omega arith)
enough (suc n) zero x h g = absurd (omega arith)
enough (suc n) (suc m) x h g = tell (dec_lt x 10) (λ (l : 10 ≤ x). enough n m (x / 10) (omega arith) (omega arith))
  where
    tell : Dec (x < 10) → (10 ≤ x → digits_up_to n (x / 10) ≡ digits_up_to m (x / 10)) → digits_up_to (suc n) x ≡ digits_up_to (suc m) x
    tell (yes l) more = up_to_small n x l ∙ sym (up_to_small m x l)
    tell (no l) more =
        let far : 10 ≤ x = omega arith in
        up_to_large n x far ∙ ap (λ (s : List ℕ). s ++ (figure (x % 10) ∷ [])) (more far) ∙ sym (up_to_large m x far)

pub decimal_small : (x : ℕ) → x < 10 → decimal x ≡ figure x ∷ []
unfolding decimal
decimal_small x h = up_to_small x x h

pub decimal_large : (x : ℕ) → 10 ≤ x → decimal x ≡ decimal (x / 10) ++ (figure (x % 10) ∷ [])
unfolding decimal
decimal_large x h =
    up_to_large x x h ∙ ap (λ (s : List ℕ). s ++ (figure (x % 10) ∷ [])) (enough x (suc (x / 10)) (x / 10) (omega arith) (omega arith))

-- a number below n, by its last digit: what holds of one digit, and of a number where it holds of its tenth, holds of every number
module _ (P : ℕ → Type 0) (small : (x : ℕ) → x < 10 → P x) (large : (x : ℕ) → 10 ≤ x → P (x / 10) → P x) where
  below : (n x : ℕ) → x < n → P x
  below zero x h = absurd (omega arith)
  below (suc n) x h = tell (dec_lt x 10) (λ (l : 10 ≤ x). below n (x / 10) (omega arith))
    where
      tell : Dec (x < 10) → (10 ≤ x → P (x / 10)) → P x
      tell (yes l) more = small x l
      tell (no l) more = let far : 10 ≤ x = omega arith in large x far (more far)

  by_digits : (x : ℕ) → P x
  by_digits x = below (suc x) x (omega arith)

-- ---- how many

pub length_small : (x : ℕ) → x < 10 → length (decimal x) ≡ 1
length_small x h = ap length (decimal_small x h)

pub length_large : (x : ℕ) → 10 ≤ x → length (decimal x) ≡ length (decimal (x / 10)) + 1
length_large x h = ap length (decimal_large x h) ∙ length-append (decimal (x / 10)) (figure (x % 10) ∷ [])

pub decimal_least : (x : ℕ) → 1 ≤ length (decimal x)
decimal_least x = tell (dec_lt x 10)
  where
    tell : Dec (x < 10) → 1 ≤ length (decimal x)
    tell (yes l) = omega (arith, length_small x l)
    tell (no l) = omega (arith, length_large x (omega arith))

-- a number below 10^(k+1) has at most k + 1 digits; one of 32 bits at most 10
decimal_below : (k x : ℕ) → x < 10 ^ suc k → length (decimal x) ≤ suc k
decimal_below zero x h = omega (arith, length_small x h)
decimal_below (suc k) x h = tell (dec_lt x 10) (λ (l : 10 ≤ x). decimal_below k (x / 10) (omega (arith, pow-succ' 10 (suc k))))
  where
    tell : Dec (x < 10) → (10 ≤ x → length (decimal (x / 10)) ≤ suc k) → length (decimal x) ≤ suc (suc k)
    tell (yes l) more = omega (arith, length_small x l)
    tell (no l) more = let far : 10 ≤ x = omega arith in omega (arith, length_large x far, more far)

pub decimal_most : (x : ℕ) → x < 4294967296 → length (decimal x) ≤ 10
decimal_most x h = decimal_below 9 x (omega arith)

-- ---- read back

read_append : (v : ℕ) (s t : List ℕ) → read_on v (s ++ t) ≡ read_on (read_on v s) t
unfolding read_on
read_append v [] t = refl
read_append v (c ∷ s) t = read_append (v * 10 + (c - 0x30)) s t

read_one : (v d : ℕ) → read_on v (figure d ∷ []) ≡ v * 10 + d
unfolding read_on
read_one v d = omega arith

pub decimal_back : (x : ℕ) → read_decimal (decimal x) ≡ x
unfolding read_decimal
decimal_back =
    by_digits (λ x. read_on 0 (decimal x) ≡ x)
    (λ x h. ap (read_on 0) (decimal_small x h) ∙ read_one 0 x ∙ omega arith)
    (λ x h e. ap (read_on 0) (decimal_large x h) ∙ read_append 0 (decimal (x / 10)) (figure (x % 10) ∷ []) ∙ ap (λ v. read_on v (figure (x % 10) ∷ [])) e ∙ read_one (x / 10) (x % 10) ∙ omega arith)

-- ---- which

-- a character of a digit, at every place of a list
abbrev Figures : List ℕ → Type 0
Figures s = (i : ℕ) → i < length s → (0x30 ≤ get_or s i 0) × (get_or s i 0 ≤ 0x39)

one_figure : (d : ℕ) → d < 10 → Figures (figure d ∷ [])
one_figure d h zero l = (omega arith, omega arith)
one_figure d h (suc i) l = absurd (omega arith)

figures_then : (s : List ℕ) (d : ℕ) → d < 10 → Figures s → Figures (s ++ (figure d ∷ []))
figures_then s d h all i l = tell (dec_lt i (length s))
  where
    tell : Dec (i < length s) → (0x30 ≤ get_or (s ++ (figure d ∷ [])) i 0) × (get_or (s ++ (figure d ∷ [])) i 0 ≤ 0x39)
    tell (yes g) = rw (get_or-append s (figure d ∷ []) 0 i g) (all i g)
    tell (no g) =
        let e : i ≡ length s = omega (arith, length-append s (figure d ∷ [])) in
        rw (e, get_or-append_seam s (figure d) [] 0) (omega arith, omega arith)

-- every character is one of 0x30 to 0x39
pub decimal_figures : (x i : ℕ) → i < length (decimal x) → (0x30 ≤ get_or (decimal x) i 0) × (get_or (decimal x) i 0 ≤ 0x39)
decimal_figures =
    by_digits (λ x. Figures (decimal x))
    (λ x h. rw (decimal_small x h) (one_figure x h))
    (λ x h all. rw (decimal_large x h) (figures_then (decimal (x / 10)) (x % 10) (omega arith) all))

-- no leading zero: the first is not 0x30 but in a number below 10
pub decimal_first : (x : ℕ) → 10 ≤ x → 0x30 < get_or (decimal x) 0 0
decimal_first =
    by_digits (λ x. 10 ≤ x → 0x30 < get_or (decimal x) 0 0)
    (λ x h far. absurd (omega arith))
    (λ x h more far. rw (decimal_large x far, get_or-append (decimal (x / 10)) (figure (x % 10) ∷ []) 0 0 (decimal_least (x / 10))) (first (x / 10) (omega arith) more (dec_lt (x / 10) 10)))
  where
    first : (y : ℕ) → 1 ≤ y → (10 ≤ y → 0x30 < get_or (decimal y) 0 0) → Dec (y < 10) → 0x30 < get_or (decimal y) 0 0
    first y h more (yes l) = rw (decimal_small y l) (omega arith)
    first y h more (no l) = more (omega arith)

-- ---- put into a buffer

-- a character d put at a place of l: where it is the last digit at its place, the others are left; where it is the only one, it is all
module _ (l m : List ℕ) (at x place d : ℕ) (e : m ≡ set l place d) where
  pub last_put : 10 ≤ x → place ≡ at + length (decimal (x / 10)) → d ≡ figure (x % 10) → sets m at (decimal (x / 10)) ≡ sets l at (decimal x)
  last_put h p f =
      let here : m ≡ set l (at + length (decimal (x / 10))) (figure (x % 10)) = e ∙ rw (p, f) in
      ap (λ (s : List ℕ). sets s at (decimal (x / 10))) here ∙ sym (ap (λ (s : List ℕ). sets l at s) (decimal_large x h) ∙ sets_last l at (decimal (x / 10)) (figure (x % 10)))

  pub only_put : x < 10 → place ≡ at → d ≡ figure x → m ≡ sets l at (decimal x)
  only_put h p f = e ∙ rw (p, f) (sym (ap (λ (s : List ℕ). sets l at s) (decimal_small x h)))

-- ---- with a sign

pub signed_below : (z : ℤ) → negative z ≡ true → signed_decimal z ≡ minus ∷ decimal (magnitude z)
signed_below (pos n) e = absurd (false≢true e)
signed_below (negsuc n) e = refl

pub signed_above : (z : ℤ) → negative z ≡ false → signed_decimal z ≡ decimal (magnitude z)
signed_above (pos n) e = refl
signed_above (negsuc n) e = absurd (true≢false e)

-- a 32-bit number has at most 11 characters
pub signed_most : (z : ℤ) → magnitude z < 4294967296 → length (signed_decimal z) ≤ 11
signed_most (pos n) h = omega (arith, decimal_most n h)
signed_most (negsuc n) h = omega (arith, decimal_most (suc n) h)

-- the sign put at its place, and the digits behind it
pub sign_put : (l m o : List ℕ) (at place behind : ℕ) (z : ℤ) → m ≡ set l place minus → o ≡ sets m behind (decimal (magnitude z)) → place ≡ at → behind ≡ suc at → negative z ≡ true → o ≡ sets l at (signed_decimal z)
sign_put l m o at place behind z e f p q below = f ∙ rw (e, p, q, signed_below z below)
