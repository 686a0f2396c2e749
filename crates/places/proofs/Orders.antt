-- The order of the checks in numbers (document 01, "Numbers for no").
use mathlib.Core.Path.{◌≡◌, refl}
use mathlib.Core.List.{[], ◌∷◌}
use Prim.Native.Nat.{ℕ}
use Rattle.refusals.proofs.Laws.{numbers_of}
use Rattle.places.specs.Answers.{place_checks, reorder_checks}

-- "One place: 1, 3."
pub place_order : (N place : ℕ) → numbers_of (place_checks N place) ≡ 1 ∷ 3 ∷ []
place_order N place = refl

-- "Reordering: 1, 3, 5."
pub reorder_order : (N input output : ℕ) → numbers_of (reorder_checks N input output) ≡ 1 ∷ 3 ∷ 5 ∷ []
reorder_order N input output = refl
