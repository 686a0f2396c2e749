-- Children and descendants of a place (document 01, "Linear order").
use Rattle.std.specs.Prelude.{ℕ, zero, suc, ◌+◌, ◌*◌, ◌/◌, leb, ltb}
use mathlib.Core.{Bool.Bool, Bool.false, Bool.◌&&◌, Bool.◌||◌, Bool.cond, List.List, List.[], List.◌∷◌, List.◌++◌, List.flat_map}
use Rattle.sizes.specs.Sizes.{all_of, coarsest_of}

-- 4i to 4i+3
abbrev pub fours : ℕ → List ℕ
fours i = (4 * i) ∷ (4 * i + 1) ∷ (4 * i + 2) ∷ (4 * i + 3) ∷ []

-- "Children of place i are 4i to 4i+3, for i from D/4 to I/4-1. Places 0 to D/4-1 have none."
unfoldable pub children : ℕ → ℕ → ℕ → List ℕ
children N L i = cond (leb (coarsest_of N L / 4) i && ltb i (all_of N / 4)) (fours i) []

-- the descendants of place i, at most n generations down
unfoldable pub descendants : ℕ → ℕ → ℕ → ℕ → List ℕ
descendants N L zero i = []
descendants N L (suc n) i = children N L i ++ flat_map (λ c. descendants N L n c) (children N L i)

-- "DESC(i) is all descendants of i": N generations are more than there are
unfoldable pub desc : ℕ → ℕ → ℕ → List ℕ
desc N L i = descendants N L N i

-- "GRAND(i) is DESC(i) without the children": what descends from them
unfoldable pub grand : ℕ → ℕ → ℕ → List ℕ
grand N L i = flat_map (λ c. desc N L c) (children N L i)

-- some member of a list has p
unfoldable pub any_in : (ℕ → Bool) → List ℕ → Bool
any_in p [] = false
any_in p (j ∷ rest) = p j || any_in p rest
