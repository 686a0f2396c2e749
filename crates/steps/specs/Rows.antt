-- Words of inner contracts, which no promise to a caller uses: the members of a DESC or a GRAND, a row at a time.
use Rattle.std.specs.Prelude.{ℕ, zero, suc, ◌+◌, ◌*◌, ◌/◌, ◌^◌, ◌≤◌}
use mathlib.Core.{Path.◌≡◌, Bool.Bool, Bool.false, Bool.cond, Bool.◌&&◌, Bool.◌||◌, List.List}
use lib.{Dec.leb, Dec.ltb, ListN.length, ListN.get_or}
use Rattle.sizes.specs.{Sizes.most_n, Tables.table}

-- a row in a table of I entries, I a power of 4 in range: as long as a power of 4, at a multiple of its length, and not the first of these
pub record Row (I first size : ℕ) : Type 0 where
  pub side : ℕ
  pub all : I ≡ 4 ^ side
  pub most : side ≤ most_n
  pub power : ℕ
  pub times : ℕ
  pub long : size ≡ 4 ^ power
  pub far : first ≡ times * 4 ^ power
  pub some : 1 ≤ first

-- place i is in a row, or in one that is below it, by at most n generations
unfoldable pub in_rows : ℕ → ℕ → ℕ → ℕ → Bool
in_rows zero first size i = false
in_rows (suc n) first size i = (leb first i && ltb i (first + size)) || in_rows n first size (i / 4)

-- the entries of those rows become b
unfoldable pub rows_filled : ℕ → ℕ → ℕ → ℕ → List ℕ → List ℕ
rows_filled n first size b k = table (length k) (λ i. cond (in_rows n first size i) b (get_or k i 0))
