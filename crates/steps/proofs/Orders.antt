-- The order of the checks in numbers (document 02, T-01: "16 first, then 5").
use mathlib.Core.Path.{◌≡◌, refl}
use mathlib.Core.List.{[], ◌∷◌}
use Prim.Native.Nat.{ℕ}
use Rattle.refusals.proofs.Laws.{numbers_of}
use Rattle.steps.specs.Steps.{record_checks, forward_checks, back_checks}
use Rattle.steps.specs.declared.Record.{Record}

module _ (r : Record) (most values precisions marks : ℕ) where
  -- turning, before its first step
  pub turn_order : numbers_of (record_checks r most values precisions marks) ≡ 16 ∷ 5 ∷ []
  turn_order = refl

  -- "15, forward with no usable bit left"; 12 or 13 come after these
  pub forward_order : numbers_of (forward_checks r most values precisions marks) ≡ 16 ∷ 5 ∷ 15 ∷ []
  forward_order = refl

  -- "14, back at bit 0"
  pub back_order : numbers_of (back_checks r most values precisions marks) ≡ 16 ∷ 5 ∷ 14 ∷ []
  back_order = refl
