-- Document 01, "Sample values", line "linear", by computation.
use mathlib.Core.Path.{◌≡◌, refl}
use mathlib.Core.List.{List, [], ◌∷◌}
use lib.IntN.{ℤ, pos, negsuc}
use Rattle.sizes.specs.Tables.{table}
use Rattle.places.specs.Order.{interleaved, row_of, col_of, to_linear, to_raster, linearly, rasterly}

-- N = 2; "raster rows 5 -3 0 0 / 0 1 2 0 / 0 0 0 -1 / 0 0 0 0"
abbrev pub sample_raster : List ℤ
sample_raster =
    pos 5 ∷ negsuc 2 ∷ pos 0 ∷ pos 0
    ∷ pos 0 ∷ pos 1 ∷ pos 2 ∷ pos 0
    ∷ pos 0 ∷ pos 0 ∷ pos 0 ∷ negsuc 0
    ∷ pos 0 ∷ pos 0 ∷ pos 0 ∷ pos 0 ∷ []

-- "linear: 5 -3 0 1, 0 0 2 0, 0 0 0 0, 0 -1 0 0"
abbrev pub sample_linear : List ℤ
sample_linear =
    pos 5 ∷ negsuc 2 ∷ pos 0 ∷ pos 1
    ∷ pos 0 ∷ pos 0 ∷ pos 2 ∷ pos 0
    ∷ pos 0 ∷ pos 0 ∷ pos 0 ∷ pos 0
    ∷ pos 0 ∷ negsuc 0 ∷ pos 0 ∷ pos 0 ∷ []

pub sample_linear_lem : linearly 2 sample_raster ≡ sample_linear
unfolding table row_of col_of to_raster linearly
sample_linear_lem = refl

pub sample_raster_lem : rasterly 2 sample_linear ≡ sample_raster
unfolding table interleaved to_linear rasterly
sample_raster_lem = refl
