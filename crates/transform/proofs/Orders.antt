-- The order of the checks in numbers (document 02, T-05: "both after 1, 2, 3 and 5, and on the inverse 4 stands between 3 and 5").
use mathlib.Core.Path.{◌≡◌, refl}
use mathlib.Core.List.{List, [], ◌∷◌}
use Prim.Native.Nat.{ℕ}
use lib.IntN.{ℤ}
use Rattle.refusals.proofs.Laws.{numbers_of}
use Rattle.transform.specs.Answers.{transform_checks, entry_checks, restore_checks}

pub transform_order : (N L : ℕ) (A : List ℤ) (out work : ℕ) → numbers_of (transform_checks N L A out work) ≡ 1 ∷ 2 ∷ 3 ∷ 5 ∷ 17 ∷ []
transform_order N L A out work = refl

pub entry_order : (N L : ℕ) (C : List ℤ) (out work : ℕ) → numbers_of (entry_checks N L C out work) ≡ 1 ∷ 2 ∷ 3 ∷ 4 ∷ 5 ∷ []
entry_order N L C out work = refl

pub restore_order : (N L : ℕ) (C : List ℤ) (out work : ℕ) → numbers_of (restore_checks N L C out work) ≡ 1 ∷ 2 ∷ 3 ∷ 4 ∷ 5 ∷ 18 ∷ []
restore_order N L C out work = refl
