-- The answers of numbers 1 to 3, for each check that may fail first and for none; and what they say where they are passed.
use mathlib.Core.Path.{◌≡◌, sym, ◌∙◌}
use mathlib.Core.Bool.{true, false}
use Prim.Native.Nat.{ℕ}
use borrow.Author.Tests.{eqb-true, eq-eqb, ne_eqb}
use Rattle.std.specs.Prelude.{Ok, Err}
use Rattle.refusals.specs.Checks.{first_failing, Outcome}
use Rattle.refusals.specs.declared.Refusal.TheVariants.{Side, Levels, Length}
use Rattle.refusals.proofs.Laws.{AllHold, passed}
use Rattle.sizes.specs.Sizes.{all_of, side_fits, levels_fit}
use Rattle.sizes.specs.Checks.{size_checks}

module _ (N L count : ℕ) where
  pub no_side : side_fits N ≡ false → Err Side ≡ first_failing (size_checks N L count)
  unfolding first_failing
  no_side s = rw s

  module _ (s : side_fits N ≡ true) where
    pub no_levels : levels_fit N L ≡ false → Err Levels ≡ first_failing (size_checks N L count)
    unfolding first_failing
    no_levels l = rw (s, l)

    module _ (l : levels_fit N L ≡ true) where
      pub no_length : (count ≡ all_of N → ⊥) → Err Length ≡ first_failing (size_checks N L count)
      unfolding first_failing
      no_length w = rw (s, l, ne_eqb count (all_of N) w)

      pub sizes_well : count ≡ all_of N → (Ok tt) ≡ first_failing (size_checks N L count)
      unfolding first_failing
      sizes_well w = rw (s, l, eq-eqb count (all_of N) w)

  pub sizes_met : {r : Outcome} → r ≡ first_failing (size_checks N L count) → r ≡ Ok tt → (side_fits N ≡ true) × (levels_fit N L ≡ true) × (count ≡ all_of N)
  unfolding AllHold
  sizes_met is e = let all = passed (size_checks N L count) (sym is ∙ e) in (all.0, all.1.0, eqb-true count (all_of N) all.1.1.0)
