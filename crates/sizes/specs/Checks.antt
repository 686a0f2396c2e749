-- Numbers 1 to 3 of document 01's "Numbers for no", in their order, for whichever call has an array as its input.
use Rattle.std.specs.Prelude.{ℕ, List, [], ◌∷◌, eqb}
use Rattle.refusals.specs.{Checks.Check, Checks.need, declared.Refusal.TheVariants.Side, declared.Refusal.TheVariants.Levels, declared.Refusal.TheVariants.Length}
use Rattle.sizes.specs.Sizes.{all_of, side_fits, levels_fit}

-- sizes in range, and an entry for each place
abbrev pub size_checks : ℕ → ℕ → ℕ → List Check
size_checks N L count = need (side_fits N) Side ∷ need (levels_fit N L) Levels ∷ need (eqb count (all_of N)) Length ∷ []
