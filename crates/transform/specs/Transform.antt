-- The reversible integer S transform (document 02, T-05), in the request's words. A square is a function of row and column.
use Rattle.std.specs.Prelude.{ℕ, zero, suc, ◌+◌, ◌*◌, ◌-◌, ◌/◌, ◌%◌, ◌^◌}
use mathlib.Core.{Bool.cond, List.List}
use lib.{Dec.ltb, Dec.eqb, IntN.ℤ, IntN.pos, IntN.negsuc, IntN.◌+ℤ◌, IntN.◌-ℤ◌}
use Rattle.sizes.specs.{Sizes.all_of, Tables.table}
use Rattle.places.specs.Order.{row_of, col_of, interleaved}
use Rattle.coef.specs.Coef.{at}

-- the floor of z/2: that of -(n + 1) is -(n/2 + 1)
abbrev pub halved : ℤ → ℤ
halved (pos n) = pos (n / 2)
halved (negsuc n) = negsuc (n / 2)

-- "For a pair a, b: low is the floor of (a+b)/2, high is a-b."
unfoldable pub low : ℤ → ℤ → ℤ
low a b = halved (a +ℤ b)

unfoldable pub high : ℤ → ℤ → ℤ
high a b = a -ℤ b

-- "Inverse: a is low plus the floor of (high+1)/2, b is a-high."
unfoldable pub first : ℤ → ℤ → ℤ
first l h = l +ℤ halved (h +ℤ pos 1)

unfoldable pub second : ℤ → ℤ → ℤ
second l h = first l h -ℤ h

-- a row or a column whose first 2h places are h pairs: "lows fill the first half of a row or column"
unfoldable pub line : ℕ → (ℕ → ℤ) → ℕ → ℤ
line h x i =
    cond (ltb i h) (low (x (2 * i)) (x (2 * i + 1)))
    (cond (ltb i (2 * h)) (high (x (2 * (i - h))) (x (2 * (i - h) + 1))) (x i))

-- and the pairs again: place i is the first or the second of pair i/2
unfoldable pub unline : ℕ → (ℕ → ℤ) → ℕ → ℤ
unline h y i =
    cond (ltb i (2 * h))
    (cond (eqb (i % 2) 0) (first (y (i / 2)) (y (h + i / 2))) (second (y (i / 2)) (y (h + i / 2))))
    (y i)

-- a square: the number at a row and a column
abbrev pub Square : Type 0
Square = ℕ → ℕ → ℤ

-- each row, and each column, of the square of side 2h at the upper left; `change` is `line` or `unline`
unfoldable pub rows : (ℕ → (ℕ → ℤ) → ℕ → ℤ) → ℕ → Square → Square
rows change h S r c = cond (ltb r (2 * h)) (change h (λ (i : ℕ). S r i) c) (S r c)

unfoldable pub columns : (ℕ → (ℕ → ℤ) → ℕ → ℤ) → ℕ → Square → Square
columns change h S r c = cond (ltb c (2 * h)) (change h (λ (i : ℕ). S i c) r) (S r c)

-- one level of the square of side 2h: "rows then columns"; undone: "columns then rows"
abbrev pub level : ℕ → Square → Square
level h S = columns line h (rows line h S)

abbrev pub unlevel : ℕ → Square → Square
unlevel h S = rows unline h (columns unline h S)

-- level j, from 0 on, is of the square of side 2^(N-j): half of that
abbrev pub half_of : ℕ → ℕ → ℕ
half_of N j = 2 ^ (N - suc j)

-- "L levels": each after those that are finer
unfoldable pub transformed : ℕ → ℕ → Square → Square
transformed N zero S = S
transformed N (suc j) S = level (half_of N j) (transformed N j S)

-- "The inverse undoes the coarsest level first"
unfoldable pub restored : ℕ → ℕ → Square → Square
restored N zero S = S
restored N (suc j) S = restored N j (unlevel (half_of N j) S)

-- "Samples are in raster order, coefficients in linear": the square of each
unfoldable pub of_samples : ℕ → List ℤ → Square
of_samples N A r c = at A (r * 2 ^ N + c)

unfoldable pub of_coefficients : ℕ → List ℤ → Square
of_coefficients N C r c = at C (interleaved N r c)

-- the coefficients of the samples A with L levels, and the samples of the coefficients C
unfoldable pub coefficients_of : ℕ → ℕ → List ℤ → List ℤ
coefficients_of N L A = table (all_of N) (λ q. transformed N L (of_samples N A) (row_of N q) (col_of N q))

unfoldable pub samples_of : ℕ → ℕ → List ℤ → List ℤ
samples_of N L C = table (all_of N) (λ p. restored N L (of_coefficients N C) (p / 2 ^ N) (p % 2 ^ N))
