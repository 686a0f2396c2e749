-- Sums over the places below n.
use mathlib.Core.Path.{◌≡◌, refl}
use mathlib.Core.Bool.{Bool, true, false}
use Prim.Native.Nat.{ℕ, zero, suc, ◌+◌, ◌≤◌}
use native.Mathlib.Omega.{arith}
use borrow.Author.Tests.{leb-true, leb-false}
use lib.Dec.{leb}
use Rattle.bits.proofs.Laws.{digit_le}
use Rattle.nls.specs.Parts.{sum_to, count_to}

pub sum_none : (f : ℕ → ℕ) → sum_to 0 f ≡ 0
unfolding sum_to
sum_none f = refl

pub sum_suc : (n : ℕ) (f : ℕ → ℕ) → sum_to (suc n) f ≡ sum_to n f + f n
unfolding sum_to
sum_suc n f = refl

pub sum_same : (n : ℕ) (f g : ℕ → ℕ) → ((i : ℕ) → f i ≡ g i) → sum_to n f ≡ sum_to n g
unfolding sum_to
sum_same zero f g h = refl
sum_same (suc n) f g h = omega (arith, sum_same n f g h, h n)

pub sum_add : (n : ℕ) (f g : ℕ → ℕ) → sum_to n (λ i. f i + g i) ≡ sum_to n f + sum_to n g
unfolding sum_to
sum_add zero f g = refl
sum_add (suc n) f g = omega (arith, sum_add n f g)

-- where there is nothing from m on
pub sum_short : (n m : ℕ) (f : ℕ → ℕ) → m ≤ n → ((i : ℕ) → m ≤ i → f i ≡ 0) → sum_to n f ≡ sum_to m f
unfolding sum_to
sum_short zero m f h none = let e : m ≡ 0 = omega arith in rw e
sum_short (suc n) m f h none = tell (leb m n) refl (λ k. sum_short n m f k none)
  where
    tell : (t : Bool) → leb m n ≡ t → (m ≤ n → sum_to n f ≡ sum_to m f) → sum_to n f + f n ≡ sum_to m f
    tell true e ih = omega (arith, ih (leb-true m n e), none n (leb-true m n e))
    tell false e ih = let k : m ≡ suc n = omega (arith, leb-false m n e) in rw k

pub count_most : (n : ℕ) (p : ℕ → Bool) → count_to n p ≤ n
unfolding sum_to
count_most zero p = omega arith
count_most (suc n) p = omega (arith, count_most n p, digit_le (p n))
