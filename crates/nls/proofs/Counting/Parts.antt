-- What is split, what stands, and the whole stream, from the magnitudes and signs alone (document 01, "Parts that stand").
use Prim.Native.Nat.{ℕ, zero, suc, ◌+◌, ◌*◌, ◌-◌, ◌^◌, ◌/◌, ◌%◌}
use mathlib.Core.Bool.{Bool, true, false, not, ◌&&◌, ◌||◌, cond}
use mathlib.Core.List.{List, [], ◌∷◌, ◌++◌}
use lib.Dec.{ltb, leb, eqb}
use Rattle.bits.specs.Bits.{bit}
use mathlib.Core.Path.{◌≡◌, refl}
use native.Mathlib.Nat.{pow-succ', div-eq_of_lt, div-eq_of_lt-le}
use native.Mathlib.Omega.{arith}
use borrow.Author.Tests.{leb-true, leb-false}
use Rattle.nls.proofs.Counting.Sums.{sum, each}
use Rattle.nls.proofs.Counting.Tree.{Size, D, Q, I, desc, grand}

-- 1 for true
abbrev pub ι : Bool → ℕ
ι true = 1
ι false = 0

-- The places that have children, D / 4 to I / 4 - 1, and those that have grandchildren, D / 4 to I / 16 - 1.
abbrev pub over_desc : Size → (ℕ → ℕ) → ℕ
over_desc z f = sum z.e (Q z - z.e) f

abbrev pub over_grand : Size → (ℕ → ℕ) → ℕ
over_grand z f = sum z.e (z.j - z.e) f

abbrev pub over_all : Size → (ℕ → ℕ) → ℕ
over_all z f = sum 0 (I z) f

-- below 2 ^ (b + 1), bit b of a number says whether it is at least 2 ^ b
pub top_bit : (b x : ℕ) → leb (2 ^ suc b) x ≡ false → bit x b ≡ leb (2 ^ b) x
unfolding bit
top_bit b x h = tell (leb (2 ^ b) x) refl
  where
    tell : (s : Bool) → leb (2 ^ b) x ≡ s → eqb (x / 2 ^ b % 2) 1 ≡ leb (2 ^ b) x
    tell true e =
        let one : x / 2 ^ b ≡ 1 = div-eq_of_lt-le (2 ^ b) (omega (arith, leb-true (2 ^ b) x e)) (omega (arith, leb-false (2 ^ suc b) x h, pow-succ' 2 b)) in
        rw (e, one)
    tell false e = let none : x / 2 ^ b ≡ 0 = div-eq_of_lt (leb-false (2 ^ b) x e) in rw (e, none)

-- bit b of a magnitude, and after a 1 the sign
unfoldable pub coded : (ℕ → ℕ) → (ℕ → Bool) → ℕ → ℕ → List Bool
coded mag neg b i = bit (mag i) b ∷ cond (bit (mag i) b) (neg i ∷ []) []

-- the coefficient at i is at least 2 ^ b
unfoldable pub big : (ℕ → ℕ) → ℕ → ℕ → Bool
big mag b i = leb (2 ^ b) (mag i)

-- refinement pass, at i: found before plane b
unfoldable pub refine : (ℕ → ℕ) → ℕ → ℕ → List Bool
refine mag b i = cond (big mag (suc b) i) (bit (mag i) b ∷ []) []

module _ (z : Size) (mag : ℕ → ℕ) where
  -- DESC(i), GRAND(i) has a member of at least 2 ^ b
  unfoldable pub split_desc : ℕ → ℕ → Bool
  split_desc b i = ltb 0 (desc z (λ c. ι (big mag b c)) i)

  unfoldable pub split_grand : ℕ → ℕ → Bool
  split_grand b i = ltb 0 (grand z (λ c. ι (big mag b c)) i)

  -- after plane b
  unfoldable pub alone : ℕ → ℕ → Bool
  alone b i = ltb i (D z) || split_desc b (i / 4)

  unfoldable pub stands_desc : ℕ → ℕ → Bool
  stands_desc b i = not (split_desc b i) && (ltb i (D z) || split_grand b (i / 4))

  unfoldable pub stands_grand : ℕ → ℕ → Bool
  stands_grand b i = split_desc b i && not (split_grand b i)

  -- the number of parts that stand after plane b, and the sum of their sizes
  unfoldable pub parts : ℕ → ℕ
  parts b =
      over_all z (λ i. ι (alone b i)) + over_desc z (λ i. ι (stands_desc b i)) + over_grand z (λ i. ι (stands_grand b i))

  unfoldable pub sizes : ℕ → ℕ
  sizes b =
      over_all z (λ i. ι (alone b i))
      + over_desc z (λ i. cond (stands_desc b i) (desc z (λ _. 1) i) 0)
      + over_grand z (λ i. cond (stands_grand b i) (grand z (λ _. 1) i) 0)

  -- the sets that are split after plane b, and the coefficients of at least 2 ^ b
  unfoldable pub splits : ℕ → ℕ
  splits b = over_desc z (λ i. ι (split_desc b i)) + over_grand z (λ i. ι (split_grand b i))

  unfoldable pub bigs : ℕ → ℕ
  bigs b = over_all z (λ i. ι (big mag b i))

  -- set pass: a test of GRAND(q) that stands before or in plane b, and one of DESC(p)
  unfoldable pub test_grand : ℕ → ℕ → List Bool
  test_grand b q = cond (split_desc b q && not (split_grand (suc b) q)) (split_grand b q ∷ []) []

  unfoldable pub test_desc : ℕ → ℕ → List Bool
  test_desc b p = cond ((ltb p (D z) || split_grand b (p / 4)) && not (split_desc (suc b) p)) (split_desc b p ∷ []) []

  -- The stream. `neg i` is the sign, 1 for negative.
  module _ (neg : ℕ → Bool) where
    -- pixel pass, at i: it stood alone before plane b, and was not found
    unfoldable pub pixel : ℕ → ℕ → List Bool
    pixel b i = cond (alone (suc b) i && not (big mag (suc b) i)) (coded mag neg b i) []

    -- set pass, at place 4 p: the tests of GRAND(p / 4), if its place is this, and of DESC(p), then the children
    unfoldable pub children : ℕ → ℕ → List Bool
    children b p = cond (split_desc b p && not (split_desc (suc b) p)) (each (4 * p) 4 (λ c. coded mag neg b c)) []

    unfoldable pub group : ℕ → ℕ → List Bool
    group b p = cond (leb (D z) p && eqb (p % 4) 0) (test_grand b (p / 4)) [] ++ (test_desc b p ++ children b p)

    unfoldable pub plane : ℕ → List Bool
    plane b = each 0 (I z) (λ i. pixel b i) ++ (each z.e (Q z - z.e) (λ p. group b p) ++ each 0 (I z) (λ i. refine mag b i))

    -- planes n - 1 down to 0
    unfoldable pub body : ℕ → List Bool
    body zero = []
    body (suc b) = plane b ++ body b
