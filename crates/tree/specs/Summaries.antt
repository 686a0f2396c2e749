-- The summaries (document 01: "the bitwise OR of magnitudes over DESC(i) and GRAND(i): I/4 and I/16 numbers"),
-- and the checks of the call that fills them ("Summaries: 1 to 5").
use Rattle.std.specs.Prelude.{ℕ, ◌/◌}
use mathlib.Core.{Bool.◌&&◌, List.List, List.[], List.◌∷◌, List.◌++◌, List.map}
use lib.{Dec.leb, IntN.ℤ, ListN.length}
use Rattle.refusals.specs.{declared.Refusal.TheVariants.Lent, Checks.Check, Checks.need}
use Rattle.sizes.specs.{Sizes.all_of, Checks.size_checks, Tables.table}
use Rattle.bits.specs.Bits.{or_all}
use Rattle.coef.specs.Coef.{mag_at, first_over, over_by, over_check}
use Rattle.tree.specs.Tree.{desc, grand}

-- the summary of the magnitudes of A at place i
unfoldable pub desc_or : ℕ → ℕ → List ℤ → ℕ → ℕ
desc_or N L A i = or_all (map (λ j. mag_at A j) (desc N L i))

unfoldable pub grand_or : ℕ → ℕ → List ℤ → ℕ → ℕ
grand_or N L A i = or_all (map (λ j. mag_at A j) (grand N L i))

-- the two tables; places below D/4 have no descendants, so their entries are 0
abbrev pub desc_table : ℕ → ℕ → List ℤ → List ℕ
desc_table N L A = table (all_of N / 4) (λ i. desc_or N L A i)

abbrev pub grand_table : ℕ → ℕ → List ℤ → List ℕ
grand_table N L A = table (all_of N / 16) (λ i. grand_or N L A i)

-- number 5: the lengths of the two lent tables, for `all` coefficients
abbrev pub lent_checks : ℕ → ℕ → ℕ → List Check
lent_checks all descs grands = need (leb (all / 4) descs && leb (all / 16) grands) Lent ∷ []

-- the coefficients, `count` of them and `over` the first place of one over the limit, and the lengths of the two lent tables
abbrev pub checks_over : ℕ → ℕ → ℕ → ℕ → ℕ → ℕ → List Check
checks_over over N L count descs grands = size_checks N L count ++ (over_check over count ∷ lent_checks (all_of N) descs grands)

abbrev pub summary_checks : ℕ → ℕ → List ℤ → ℕ → ℕ → List Check
summary_checks N L A descs grands = checks_over (first_over A) N L (length A) descs grands

-- the same of an array whose planes are known
abbrev pub summary_checks_by : ℕ → ℕ → ℕ → List ℤ → ℕ → ℕ → List Check
summary_checks_by planes N L A descs grands = checks_over (over_by planes A) N L (length A) descs grands

-- those that ask nothing of a coefficient: the tables can be filled whatever the magnitudes
abbrev pub fill_checks : ℕ → ℕ → ℕ → ℕ → ℕ → List Check
fill_checks N L count descs grands = size_checks N L count ++ lent_checks (all_of N) descs grands
