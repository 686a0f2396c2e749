-- The order of the checks in numbers (document 01, "Numbers for no").
use mathlib.Core.Path.{◌≡◌, refl}
use mathlib.Core.List.{List, [], ◌∷◌}
use Prim.Native.Nat.{ℕ}
use lib.IntN.{ℤ}
use Rattle.refusals.proofs.Laws.{numbers_of}
use Rattle.figures.specs.Figures.{figures_checks}

-- those of the summaries, then the plane's
pub figures_order : (N L : ℕ) (A : List ℤ) (descs grands b : ℕ) → numbers_of (figures_checks N L A descs grands b) ≡ 1 ∷ 2 ∷ 3 ∷ 4 ∷ 5 ∷ 9 ∷ []
figures_order N L A descs grands b = refl
