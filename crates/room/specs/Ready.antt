-- A word of inner contracts, which no promise to a caller uses: what holds where every check of encoding does.
use Rattle.std.specs.Prelude.{ℕ, ◌/◌, ◌≤◌, min, ◌≡◌, true, List, ℤ, length}
use Rattle.sizes.specs.Sizes.{all_of, side_fits, levels_fit}
use Rattle.bits.specs.Bits.{bytes_for}
use Rattle.coef.specs.Coef.{first_over, planes_of}
use Rattle.nls.specs.Stream.{worst_body}

-- sizes in range, a coefficient within the limit for each place, and room for the summaries and for the body
pub record EncodeReady (N L : ℕ) (A : List ℤ) (descs grands out budget : ℕ) : Type 0 where
  pub side : side_fits N ≡ true
  pub levels : levels_fit N L ≡ true
  pub whole : length A ≡ all_of N
  pub limited : first_over A ≡ length A
  pub desc_room : all_of N / 4 ≤ descs
  pub grand_room : all_of N / 16 ≤ grands
  pub out_room : bytes_for (min budget (worst_body N L (planes_of A))) ≤ out
