-- The order of the checks in numbers (document 01, "Numbers for no").
use mathlib.Core.Path.{◌≡◌, refl}
use mathlib.Core.List.{List, [], ◌∷◌}
use Prim.Native.Nat.{ℕ}
use lib.IntN.{ℤ}
use Rattle.refusals.proofs.Laws.{numbers_of}
use Rattle.tree.specs.Summaries.{summary_checks, fill_checks}

-- "Summaries: 1 to 5."
pub summary_order : (N L : ℕ) (A : List ℤ) (descs grands : ℕ) → numbers_of (summary_checks N L A descs grands) ≡ 1 ∷ 2 ∷ 3 ∷ 4 ∷ 5 ∷ []
summary_order N L A descs grands = refl

-- to fill, those but 4
pub fill_order : (N L count descs grands : ℕ) → numbers_of (fill_checks N L count descs grands) ≡ 1 ∷ 2 ∷ 3 ∷ 5 ∷ []
fill_order N L count descs grands = refl
