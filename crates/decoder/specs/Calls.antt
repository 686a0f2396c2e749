-- A word of inner contracts, which no promise to a caller uses: what holds where every check of decoding does.
use Rattle.std.specs.Prelude.{ℕ, ◌≤◌, ◌≡◌, true}
use Rattle.sizes.specs.Sizes.{all_of, side_fits, levels_fit, most_planes}

-- sizes in range, no more planes than there may be, and tables of I entries
pub record ReadReady (N L P values precisions marks : ℕ) : Type 0 where
  pub side : side_fits N ≡ true
  pub levels : levels_fit N L ≡ true
  pub planes : P ≤ most_planes
  pub values_size : values ≡ all_of N
  pub precisions_size : precisions ≡ all_of N
  pub marks_size : marks ≡ all_of N
