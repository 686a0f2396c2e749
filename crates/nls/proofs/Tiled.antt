-- The sizes of a scan, as far as its marks rest on them: the coarsest band D and all places I.
use Prim.Native.Nat.{ℕ, ◌*◌, ◌%◌, ◌≤◌}
use mathlib.Core.Path.{◌≡◌}
use Rattle.sizes.specs.Sizes.{all_of, coarsest_of, Sized}
use Rattle.sizes.proofs.Laws.{coarsest_least, coarsest_four, all_sixteen, coarsest_all}

pub record Tiled (D I : ℕ) : Type 0 where
  pub least : 4 ≤ D
  pub fours : D % 4 ≡ 0
  pub sixteens : I % 16 ≡ 0
  pub room : 4 * D ≤ I

-- so they are for side 2^N and L levels
pub tiled : (N L : ℕ) → Sized N L → Tiled (coarsest_of N L) (all_of N)
tiled N L z = record {
  least = coarsest_least N L z;
  fours = coarsest_four N L z;
  sixteens = all_sixteen N L z;
  room = coarsest_all N L z;
}
