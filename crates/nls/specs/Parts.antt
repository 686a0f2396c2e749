-- Parts that stand (document 01), after plane b, from the magnitudes of A alone.
use Rattle.std.specs.Prelude.{ℕ, zero, suc, ◌+◌, ◌-◌, ◌/◌, ◌^◌}
use mathlib.Core.{Bool.Bool, Bool.not, Bool.◌&&◌, Bool.◌||◌, Bool.cond, List.List}
use lib.{Dec.ltb, Dec.leb, IntN.ℤ, ListN.length}
use Rattle.sizes.specs.Sizes.{all_of, coarsest_of}
use Rattle.bits.specs.Bits.{digit}
use Rattle.coef.specs.Coef.{mag_at}
use Rattle.tree.specs.Tree.{desc, grand, any_in}

-- the sum of f over the places below n, and how many of them have p
unfoldable pub sum_to : ℕ → (ℕ → ℕ) → ℕ
sum_to zero f = 0
sum_to (suc n) f = sum_to n f + f n

abbrev pub count_to : ℕ → (ℕ → Bool) → ℕ
count_to n p = sum_to n (λ i. digit (p i))

-- "not empty"
abbrev pub not_empty : List ℕ → Bool
not_empty l = ltb 0 (length l)

module _ (N L : ℕ) (A : List ℤ) where
  -- the coefficient at i is found: it is at least 2^b
  unfoldable pub found : ℕ → ℕ → Bool
  found b i = leb (2 ^ b) (mag_at A i)

  -- "DESC(i) is split if it has a member of at least 2^b; GRAND(i) likewise."
  unfoldable pub desc_split : ℕ → ℕ → Bool
  desc_split b i = any_in (λ j. found b j) (desc N L i)

  unfoldable pub grand_split : ℕ → ℕ → Bool
  grand_split b i = any_in (λ j. found b j) (grand N L i)

  -- "A coefficient stands alone if it is below D or its parent's DESC is split."
  unfoldable pub stands_alone : ℕ → ℕ → Bool
  stands_alone b i = ltb i (coarsest_of N L) || desc_split b (i / 4)

  -- "DESC(i) stands if it is not empty, is unsplit and either i is below D or the GRAND of i's parent is split."
  unfoldable pub desc_stands : ℕ → ℕ → Bool
  desc_stands b i = not_empty (desc N L i) && (not (desc_split b i) && (ltb i (coarsest_of N L) || grand_split b (i / 4)))

  -- "GRAND(i) stands if it is not empty, DESC(i) is split and it isn't."
  unfoldable pub grand_stands : ℕ → ℕ → Bool
  grand_stands b i = not_empty (grand N L i) && (desc_split b i && not (grand_split b i))

  -- the number of parts that stand after plane b, and the sum of their sizes
  unfoldable pub parts : ℕ → ℕ
  parts b =
      count_to (all_of N) (λ i. stands_alone b i) + count_to (all_of N) (λ i. desc_stands b i) + count_to (all_of N) (λ i. grand_stands b i)

  unfoldable pub part_sizes : ℕ → ℕ
  part_sizes b =
      count_to (all_of N) (λ i. stands_alone b i)
      + sum_to (all_of N) (λ i. cond (desc_stands b i) (length (desc N L i)) 0)
      + sum_to (all_of N) (λ i. cond (grand_stands b i) (length (grand N L i)) 0)

  -- the sets that are split after plane b: "counted once, over DESC and GRAND, when the last plane has ended" is splits 0
  unfoldable pub splits : ℕ → ℕ
  splits b = count_to (all_of N) (λ i. desc_split b i) + count_to (all_of N) (λ i. grand_split b i)

  -- the coefficients that are found after plane b, and those that are not zero
  unfoldable pub founds : ℕ → ℕ
  founds b = count_to (all_of N) (λ i. found b i)

  unfoldable pub nonzeros : ℕ
  nonzeros = count_to (all_of N) (λ i. ltb 0 (mag_at A i))

  -- what plane b itself splits and finds
  abbrev pub splits_in : ℕ → ℕ
  splits_in b = splits b - splits (suc b)

  abbrev pub found_in : ℕ → ℕ
  found_in b = founds b - founds (suc b)
