-- The figures of a plane are those that the count of its bits speaks of.
use mathlib.Core.Path.{◌≡◌}
use mathlib.Core.Bool.{Bool}
use mathlib.Core.List.{List}
use Prim.Native.Nat.{ℕ, ◌≤◌, ◌<◌}
use lib.IntN.{ℤ}
use lib.ListN.{length}
use Rattle.sizes.specs.Sizes.{Sized}
use Rattle.coef.specs.Coef.{IsPlanes}
use Rattle.nls.specs.Stream.{begin, stream, during}
use Rattle.nls.specs.Reading.{Between, last_plane, values_by}
use Rattle.nls.specs.Judging.{Begins, taken, Judged}
use Rattle.nls.proofs.Counts.{plane_count}
use Rattle.nls.proofs.Finished.{parts_shown, splits_shown, found_shown, bits_shown}
use Rattle.figures.specs.Figures.{figures_of}

-- the stream of an array takes in plane b as many bits as the figures say
pub bits_taken : (N L P : ℕ) → Sized N L → (A : List ℤ) → IsPlanes A P → (b : ℕ) → b < P
    → length (during N b (begin N L P) (stream N L P A)) ≡ (figures_of N L A b).bits
bits_taken N L P s A planes b h = plane_count N L P s A planes b h

-- of a stream that may be cut, and a finished plane b: the values, by any rule that stays within what known bits leave open, have the
-- figures of every array whose stream begins so
pub figures_same : (N L P : ℕ) → Sized N L → (A : List ℤ) (u : List Bool) → Begins N L P A u → (b : ℕ) → last_plane N L P u ≤ b
    → (rule : ℕ → ℕ → ℕ) → Between rule → figures_of N L (values_by N L P u rule) b ≡ figures_of N L A b
figures_same N L P s A u begins b ended rule fair =
    rw (
      parts_shown N L s P A u begins b ended rule fair,
      splits_shown N L s P A u begins b ended rule fair,
      found_shown N L s P A u begins b ended rule fair,
    )

-- "bits read in it": of bits that are taken, as many as the values' figures say
pub bits_read : (N L P : ℕ) → Sized N L → (u : List Bool) → Judged N L P u taken → (b : ℕ) → last_plane N L P u ≤ b → b < P
    → (rule : ℕ → ℕ → ℕ) → Between rule → length (during N b (begin N L P) u) ≡ (figures_of N L (values_by N L P u rule) b).bits
bits_read N L P s u fits b ended h rule fair = bits_shown N L s P fits.0 u fits.1 b ended rule fair h
