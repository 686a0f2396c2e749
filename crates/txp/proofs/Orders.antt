-- The order of the checks in numbers (document 01, "Numbers for no").
use mathlib.Core.Path.{◌≡◌, refl}
use mathlib.Core.List.{List, [], ◌∷◌}
use Prim.Native.Nat.{ℕ}
use Rattle.refusals.proofs.Laws.{numbers_of}
use Rattle.txp.specs.Calls.{header_checks, decode_checks}

-- "Decoding: 7, 8, 1, 2, 9, 10, 11, 5, then 12 or 13, whichever bit comes first."
pub decode_order : (file : List ℕ) (values precisions marks : ℕ)
    → numbers_of (decode_checks file values precisions marks) ≡ 7 ∷ 8 ∷ 1 ∷ 2 ∷ 9 ∷ 10 ∷ 11 ∷ 5 ∷ []
decode_order file values precisions marks = refl

-- and those that the header by itself decides
pub header_order : (file : List ℕ) → numbers_of (header_checks file) ≡ 7 ∷ 8 ∷ 1 ∷ 2 ∷ 9 ∷ []
header_order file = refl
