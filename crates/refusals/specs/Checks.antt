-- The order of checks ("Encoding checks 1 to 6 in that order ..."), and what a lent table holds afterwards
-- ("Numbers 1 to 11 touch no lent byte", "Past a table's own entries .. nothing is touched in any call").
use mathlib.Core.{Bool.Bool, Bool.cond, List.List, List.[], List.◌∷◌, List.◌++◌}
use Rattle.std.specs.Prelude.{length, drop, Result, Ok, Err}
use Rattle.refusals.specs.declared.Refusal.{Refusal}

-- one check: what must hold, and the refusal where it does not
pub record Check : Type 0 where
  pub holds : Bool
  pub otherwise : Refusal

abbrev pub need : Bool → Refusal → Check
need holds otherwise = record { holds = holds; otherwise = otherwise }

-- what the checks come to: nothing to say, or a refusal
abbrev pub Outcome : Type 0
Outcome = Result (Unit {0}) Refusal

-- the first check that fails decides
unfoldable pub first_failing : List Check → Outcome
first_failing [] = Ok tt
first_failing (check ∷ rest) = cond check.holds (first_failing rest) (Err check.otherwise)

-- a lent table after a call: where it is done, `own` in the table's own entries and the rest as it was; else as it was
abbrev pub lent_after : {A : Type 0} → Outcome → List A → List A → List A
lent_after (Ok tt) own held = own ++ drop (length own) held
lent_after (Err why) own held = held
