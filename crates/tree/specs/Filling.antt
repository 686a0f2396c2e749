-- Only for the contracts of inner functions: what the parts of the fill ask and leave. No public contract and no other definition cites this file.
use Rattle.std.specs.Prelude.{ℕ, ◌/◌, ◌≤◌, ◌≡◌, true, List, ◌++◌, map, ℤ, length, get_or, take, drop}
use Rattle.sizes.specs.Sizes.{all_of, side_fits, levels_fit}
use Rattle.sizes.specs.Tables.{table}
use Rattle.bits.specs.Bits.{or_all}
use Rattle.coef.specs.Coef.{mag_at}
use Rattle.tree.specs.Tree.{fours}

-- the OR of the magnitudes of the children of place i, and of a table's entries at them
abbrev pub children_or : List ℤ → ℕ → ℕ
children_or A i = or_all (map (λ j. mag_at A j) (fours i))

abbrev pub entries_or : List ℕ → ℕ → ℕ
entries_or held i = or_all (map (λ j. get_or held j 0) (fours i))

-- what DESC is at places whose children have none
abbrev pub children_table : List ℤ → List ℕ
children_table A = table (length A / 4) (λ i. children_or A i)

-- a lent table that holds `own` from entry i on, and the rest as it was
abbrev pub filled_from : ℕ → List ℕ → List ℕ → List ℕ
filled_from i own held = take i held ++ drop i (own ++ drop (length own) held)

-- sizes in range, a coefficient for each place, and room in both tables
pub record Ready (N L : ℕ) (A : List ℤ) (descs grands : ℕ) : Type 0 where
  pub side : side_fits N ≡ true
  pub levels : levels_fit N L ≡ true
  pub whole : length A ≡ all_of N
  pub desc_room : all_of N / 4 ≤ descs
  pub grand_room : all_of N / 16 ≤ grands
