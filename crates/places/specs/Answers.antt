-- The checks of the calls on places (document 01: "Reordering: 1, 3, 5. One place: 1, 3"), and what they answer.
use Rattle.std.specs.Prelude.{ℕ, List, [], ◌∷◌, ltb, leb, eqb, Result, Ok, Err}
use Rattle.refusals.specs.{declared.Refusal.Refusal, declared.Refusal.TheVariants.Side, declared.Refusal.TheVariants.Length, declared.Refusal.TheVariants.Lent, Checks.Check, Checks.need, Checks.Outcome}
use Rattle.sizes.specs.Sizes.{all_of, side_fits}
use Rattle.places.specs.declared.{Raster.Raster, Linear.Linear}

-- one place
abbrev pub place_checks : ℕ → ℕ → List Check
place_checks N place = need (side_fits N) Side ∷ need (ltb place (all_of N)) Length ∷ []

-- whole arrays: the lengths of the input and of the output
abbrev pub reorder_checks : ℕ → ℕ → ℕ → List Check
reorder_checks N input output =
    need (side_fits N) Side ∷ need (eqb input (all_of N)) Length ∷ need (leb (all_of N) output) Lent ∷ []

-- a place, or the refusal
abbrev pub RasterAnswer : Type 0
RasterAnswer = Result Raster Refusal

abbrev pub LinearAnswer : Type 0
LinearAnswer = Result Linear Refusal

-- the place p, where the checks are passed
abbrev pub raster_if : Outcome → ℕ → RasterAnswer
raster_if (Ok tt) p = Ok (record { 0 = p })
raster_if (Err why) p = Err why

abbrev pub linear_if : Outcome → ℕ → LinearAnswer
linear_if (Ok tt) q = Ok (record { 0 = q })
linear_if (Err why) q = Err why
