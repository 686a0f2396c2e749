-- The order of the checks in numbers (document 01, "Numbers for no").
use mathlib.Core.Path.{◌≡◌, refl}
use mathlib.Core.List.{List, [], ◌∷◌, ◌++◌}
use Prim.Native.Nat.{ℕ}
use lib.IntN.{ℤ}
use Rattle.refusals.proofs.Laws.{numbers_of}
use Rattle.room.specs.Room.{worst_checks, room_checks, write_checks, read_checks}

-- the worst body: sizes, then planes
pub worst_order : (N L P : ℕ) → numbers_of (worst_checks N L P) ≡ 1 ∷ 2 ∷ 9 ∷ []
worst_order N L P = refl

-- "Encoding checks 1 to 6 in that order.": 5 is the summaries' room, then the marks'
pub write_order : (N L : ℕ) (A : List ℤ) (descs grands marks out offset budget : ℕ)
    → numbers_of (write_checks N L A descs grands marks out offset budget) ≡ 1 ∷ 2 ∷ 3 ∷ 4 ∷ 5 ∷ 5 ∷ 6 ∷ []
write_order N L A descs grands marks out offset budget = refl

-- of that order those of a body, the planes being given
pub room_order : (N L P marks out offset budget : ℕ) → numbers_of (worst_checks N L P ++ room_checks N L P marks out offset budget) ≡ 1 ∷ 2 ∷ 9 ∷ 5 ∷ 6 ∷ []
room_order N L P marks out offset budget = refl

-- of decoding's order, "7, 8, 1, 2, 9, 10, 11, 5", those of a body
pub read_order : (N L P values precisions marks : ℕ) → numbers_of (read_checks N L P values precisions marks) ≡ 1 ∷ 2 ∷ 9 ∷ 5 ∷ []
read_order N L P values precisions marks = refl
