-- Linear order (document 01: "Row and column bits are interleaved, row bit above column bit at each place").
use Rattle.std.specs.Prelude.{ℕ, zero, suc, ◌+◌, ◌*◌, ◌/◌, ◌%◌, ◌^◌, List}
use lib.{IntN.ℤ, IntN.pos, ListN.get_or}
use Rattle.sizes.specs.{Sizes.all_of, Tables.table}

-- the linear place of a row and a column of n bits each
unfoldable pub interleaved : ℕ → ℕ → ℕ → ℕ
interleaved zero row col = 0
interleaved (suc n) row col = interleaved n (row / 2) (col / 2) * 4 + (row % 2 * 2 + col % 2)

-- the row and the column of a linear place of n digits to base 4
unfoldable pub row_of : ℕ → ℕ → ℕ
row_of zero q = 0
row_of (suc n) q = row_of n (q / 4) * 2 + q % 4 / 2

unfoldable pub col_of : ℕ → ℕ → ℕ
col_of zero q = 0
col_of (suc n) q = col_of n (q / 4) * 2 + q % 2

-- a raster place is row * side + column
unfoldable pub to_linear : ℕ → ℕ → ℕ
to_linear N p = interleaved N (p / 2 ^ N) (p % 2 ^ N)

unfoldable pub to_raster : ℕ → ℕ → ℕ
to_raster N q = row_of N q * 2 ^ N + col_of N q

-- an array of 4^N entries in the other order
unfoldable pub linearly : ℕ → List ℤ → List ℤ
linearly N A = table (all_of N) (λ q. get_or A (to_raster N q) (pos 0))

unfoldable pub rasterly : ℕ → List ℤ → List ℤ
rasterly N A = table (all_of N) (λ p. get_or A (to_linear N p) (pos 0))
