-- What the checks of the calls on places tell where they are passed.
use mathlib.Core.Path.{◌≡◌}
use Prim.Native.Nat.{ℕ, ◌≤◌, ◌<◌}
use borrow.Author.Tests.{ltb-true, leb-true, eqb-true}
use Rattle.std.specs.Prelude.{Ok}
use Rattle.refusals.specs.Checks.{first_failing}
use Rattle.refusals.proofs.Laws.{AllHold, passed}
use Rattle.sizes.specs.Sizes.{least_n, most_n, all_of}
use Rattle.sizes.proofs.Laws.{side_least, side_most}
use Rattle.places.specs.Answers.{place_checks, reorder_checks}

pub place_passed : (N place : ℕ) → first_failing (place_checks N place) ≡ Ok tt → (N ≤ most_n) × (place < all_of N)
unfolding AllHold
place_passed N place e =
    let all = passed (place_checks N place) e in (side_most N all.0, ltb-true place (all_of N) all.1.0)

pub arrays_passed : (N input output : ℕ) → first_failing (reorder_checks N input output) ≡ Ok tt → (least_n ≤ N) × (N ≤ most_n) × (input ≡ all_of N) × (all_of N ≤ output)
unfolding AllHold
arrays_passed N input output e =
    let all = passed (reorder_checks N input output) e in
    (side_least N all.0, side_most N all.0, eqb-true input (all_of N) all.1.0, leb-true (all_of N) output all.1.1.0)
