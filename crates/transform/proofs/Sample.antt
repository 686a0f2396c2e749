-- A square of 4 by 4 with one level, by computation: floors of negative numbers, and a coefficient of 131,070, the largest.
use mathlib.Core.Path.{◌≡◌, refl}
use mathlib.Core.List.{List, [], ◌∷◌}
use lib.IntN.{ℤ, pos, negsuc}
use Rattle.sizes.specs.Tables.{table}
use Rattle.places.specs.Order.{interleaved, row_of, col_of}
use Rattle.transform.specs.Transform.{low, high, first, second, line, unline, rows, columns, transformed, restored, of_samples, of_coefficients, coefficients_of, samples_of}

abbrev pub sample_square : List ℤ
sample_square =
    pos 3 ∷ negsuc 1 ∷ pos 32767 ∷ negsuc 32767
    ∷ negsuc 6 ∷ pos 5 ∷ negsuc 32767 ∷ pos 32767
    ∷ pos 1 ∷ negsuc 0 ∷ pos 0 ∷ pos 8
    ∷ negsuc 3 ∷ negsuc 3 ∷ pos 9 ∷ negsuc 9 ∷ []

abbrev pub sample_coefficients : List ℤ
sample_coefficients =
    negsuc 0 ∷ negsuc 0 ∷ negsuc 1 ∷ pos 1
    ∷ negsuc 3 ∷ pos 0 ∷ pos 1 ∷ pos 5
    ∷ pos 1 ∷ pos 0 ∷ pos 4 ∷ pos 5
    ∷ pos 17 ∷ pos 131070 ∷ pos 2 ∷ negsuc 26 ∷ []

pub sample_forward : coefficients_of 2 1 sample_square ≡ sample_coefficients
unfolding table row_of col_of low high line rows columns transformed of_samples coefficients_of
sample_forward = refl

pub sample_inverse : samples_of 2 1 sample_coefficients ≡ sample_square
unfolding table interleaved first second unline rows columns restored of_coefficients samples_of
sample_inverse = refl
