-- Two tests joined, and what follows from sizes in range.
use mathlib.Core.Path.{◌≡◌, refl, ap, ◌∙◌}
use mathlib.Core.Bool.{Bool, true, false, ◌&&◌, false≢true}
use Prim.Native.Nat.{ℕ, zero, suc, ◌+◌, ◌*◌, ◌-◌, ◌%◌, ◌^◌, ◌≤◌}
use native.Mathlib.Nat.{pow-succ', pow-le-pow_right, one-le-pow}
use native.Mathlib.Omega.{arith}
use borrow.Author.Tests.{leb-true, ltb-true, le-leb}
use lib.Dec.{leb, ltb}
use Rattle.sizes.specs.Sizes.{least_n, most_n, all_of, coarsest_of, side_fits, levels_fit, Sized}

-- Two tests joined.
pub both_left : (a b : Bool) → (a && b) ≡ true → a ≡ true
both_left true b e = refl
both_left false b e = e

pub both_right : (a b : Bool) → (a && b) ≡ true → b ≡ true
both_right true b e = e
both_right false b e = absurd (false≢true e)

pub both : {a b : Bool} → a ≡ true → b ≡ true → (a && b) ≡ true
both e f = rw (e, f)

-- N in range.
pub side_least : (N : ℕ) → side_fits N ≡ true → least_n ≤ N
unfolding side_fits
side_least N e = leb-true least_n N (both_left (leb least_n N) (leb N most_n) e)

pub side_most : (N : ℕ) → side_fits N ≡ true → N ≤ most_n
unfolding side_fits
side_most N e = leb-true N most_n (both_right (leb least_n N) (leb N most_n) e)

-- N in range where the largest N is `most`; any two limits that admit N say the same.
unfoldable pub side_fits_to : ℕ → ℕ → Bool
side_fits_to most N = leb least_n N && leb N most

pub side_same : (a b N : ℕ) → N ≤ a → N ≤ b → side_fits_to a N ≡ side_fits_to b N
unfolding side_fits_to
side_same a b N h k = rw (le-leb N a h, le-leb N b k)

-- L in range.
pub sized : (N L : ℕ) → levels_fit N L ≡ true → Sized N L
unfolding levels_fit
sized N L e = record { least = leb-true 1 L (both_left (leb 1 L) (ltb L N) e); most = ltb-true L N (both_right (leb 1 L) (ltb L N) e) }

-- I for the largest N bounds every I.
pub all_most : (N : ℕ) → N ≤ most_n → all_of N ≤ all_of most_n
all_most N h = pow-le-pow_right {n = 4} (omega arith) h

pub four : (k : ℕ) → 2 ^ (k + k) ≡ 4 ^ k
four zero = refl
four (suc k) = omega (arith, four k, pow-succ' 4 k, pow-succ' 2 (suc k + k), pow-succ' 2 (k + k), ap (λ (x : ℕ). 2 ^ x) {x = suc k + suc k} {y = suc (suc k + k)} (omega arith), ap (λ (x : ℕ). 2 ^ x) {x = suc k + k} {y = suc (k + k)} (omega arith))

-- The sizes as multiples: D of 4, I of 16 and of 4D.
pub four_up : (a : ℕ) → 1 ≤ a → 4 ^ a ≡ 4 * 4 ^ (a - 1)
four_up a h = ap (λ (x : ℕ). 4 ^ x) {x = a} {y = suc (a - 1)} (omega arith) ∙ pow-succ' 4 (a - 1)

module _ (N L : ℕ) (z : Sized N L) where
  pub coarsest_least : 4 ≤ coarsest_of N L
  coarsest_least = omega (arith, four_up (N - L) (omega arith), one-le-pow (N - L - 1) 4 (omega arith))

  pub coarsest_four : coarsest_of N L % 4 ≡ 0
  coarsest_four = omega (arith, four_up (N - L) (omega arith))

  pub all_sixteen : all_of N % 16 ≡ 0
  all_sixteen = omega (arith, four_up N (omega arith), four_up (N - 1) (omega arith))

  pub coarsest_all : 4 * coarsest_of N L ≤ all_of N
  coarsest_all = omega (arith, pow-succ' 4 (N - L), pow-le-pow_right {n = 4} (omega arith) {i = suc (N - L)} {j = N} (omega arith))
