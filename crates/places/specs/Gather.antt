-- A word of inner contracts, which no promise to a caller uses: the table for the way back from a linear place.
use Rattle.std.specs.Prelude.{ℕ, ◌+◌, ◌*◌, List}
use Rattle.sizes.specs.Tables.{table}
use Rattle.places.specs.Order.{row_of, col_of}

-- the row and the column of each byte of a linear place
unfoldable pub gatherer : List ℕ
gatherer = table 256 (λ x. row_of 4 x * 16 + col_of 4 x)
