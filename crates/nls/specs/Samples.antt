-- The starred samples of document 01, then a larger picture, as one list: each is what the definitions give beside what the document
-- says, or what the second coder says. That all hold is `all_samples` of proofs/Samples.antt.
use mathlib.Core.{Path.◌≡◌, Bool.Bool, Bool.true, Bool.false, List.List, List.[], List.◌∷◌, List.◌++◌, List.map}
use Rattle.std.specs.Prelude.{ℕ}
use lib.{IntN.ℤ, IntN.pos, IntN.negsuc, ListN.length, ListN.take, ListN.replicate}
use Rattle.bits.specs.Bits.{packed}
use Rattle.places.specs.Order.{linearly}
use Rattle.coef.specs.Coef.{planes_of}
use Rattle.nls.specs.{Stream.begin, Stream.worst_body, Stream.stream, Stream.during, Parts.sum_to, Parts.parts, Parts.splits, Parts.splits_in, Parts.nonzeros, Reading.lower, Reading.midpoint, Reading.values_by, Reading.precisions, Reading.worst_error, Judging.Verdict, Judging.contradiction, Judging.Judged}

-- "N=2, L=1, raster rows 5 -3 0 0 / 0 1 2 0 / 0 0 0 -1 / 0 0 0 0."
unfoldable pub raster : List ℤ
raster =
    pos 5 ∷ negsuc 2 ∷ pos 0 ∷ pos 0 ∷ pos 0 ∷ pos 1 ∷ pos 2 ∷ pos 0
    ∷ pos 0 ∷ pos 0 ∷ pos 0 ∷ negsuc 0 ∷ pos 0 ∷ pos 0 ∷ pos 0 ∷ pos 0 ∷ []

-- "linear: 5 -3 0 1, 0 0 2 0, 0 0 0 0, 0 -1 0 0; P = 3"
unfoldable pub linear : List ℤ
linear =
    pos 5 ∷ negsuc 2 ∷ pos 0 ∷ pos 1 ∷ pos 0 ∷ pos 0 ∷ pos 2 ∷ pos 0
    ∷ pos 0 ∷ pos 0 ∷ pos 0 ∷ pos 0 ∷ pos 0 ∷ negsuc 0 ∷ pos 0 ∷ pos 0 ∷ []

unfoldable pub whole : List Bool
whole = stream 2 1 3 linear

-- the values by a rule and the worst error after the first n bits
unfoldable pub values_at : (ℕ → ℕ → ℕ) → ℕ → List ℤ
values_at rule n = values_by 2 1 3 (take n whole) rule

unfoldable pub error_at : ℕ → ℕ
error_at n = worst_error 2 1 3 (take n whole)

-- the precisions after the first n bits; what is said of them is the second coder's
unfoldable pub precisions_at : ℕ → List ℕ
precisions_at n = precisions 2 1 3 (take n whole)

-- A picture of N=3, L=2, so that GRAND, MG and MN2 come in: that of Shapiro's paper on embedded zerotrees (1993), in linear order.
-- The numbers said of it are the second coder's (tests/second.py).
unfoldable pub pictured : List ℤ
pictured =
    pos 63 ∷ negsuc 33 ∷ negsuc 30 ∷ pos 23 ∷ pos 49 ∷ pos 10 ∷ pos 14 ∷ negsuc 12
    ∷ pos 15 ∷ pos 14 ∷ negsuc 8 ∷ negsuc 6 ∷ pos 3 ∷ negsuc 11 ∷ negsuc 13 ∷ pos 8
    ∷ pos 7 ∷ pos 13 ∷ pos 3 ∷ pos 4 ∷ negsuc 11 ∷ pos 7 ∷ pos 6 ∷ negsuc 0
    ∷ pos 5 ∷ negsuc 6 ∷ pos 4 ∷ negsuc 1 ∷ pos 3 ∷ pos 9 ∷ pos 3 ∷ pos 2
    ∷ negsuc 4 ∷ pos 9 ∷ pos 3 ∷ pos 0 ∷ negsuc 0 ∷ pos 47 ∷ negsuc 2 ∷ pos 2
    ∷ pos 2 ∷ negsuc 2 ∷ pos 5 ∷ pos 11 ∷ pos 6 ∷ negsuc 3 ∷ pos 5 ∷ pos 6
    ∷ pos 4 ∷ pos 6 ∷ pos 3 ∷ negsuc 1 ∷ negsuc 1 ∷ pos 2 ∷ pos 0 ∷ pos 4
    ∷ pos 3 ∷ pos 6 ∷ pos 0 ∷ pos 3 ∷ pos 3 ∷ pos 6 ∷ negsuc 3 ∷ pos 4 ∷ []

unfoldable pub whole_picture : List Bool
whole_picture = stream 3 2 6 pictured

-- a sample: what the definitions give, and what the document or the second coder says
pub data Sample : Type 0 where
  coefficients : List ℤ → List ℤ → Sample
  numbers : List ℕ → List ℕ → Sample
  judged : ℕ → List Bool → Verdict → Sample

abbrev pub Holds : Sample → Type 0
Holds (coefficients given said) = given ≡ said
Holds (numbers given said) = given ≡ said
Holds (judged P bits verdict) = Judged 2 1 P bits verdict

abbrev pub Each : List Sample → Type 0
Each [] = Unit {0}
Each (s ∷ rest) = Holds s × Each rest

unfoldable pub scan_samples : List Sample
scan_samples =
    coefficients (linearly 2 raster) linear
    ∷ numbers (planes_of linear ∷ []) (3 ∷ [])
    -- "planes take 8, 13, 16 bits; 7, 10, 13 parts stand; 0, 1, 1 sets are split; 37 = 30 + 2 + 5"
    ∷ numbers (map (λ b. length (during 2 b (begin 2 1 3) whole)) (2 ∷ 1 ∷ 0 ∷ [])) (8 ∷ 13 ∷ 16 ∷ [])
    ∷ numbers (map (λ b. parts 2 1 linear b) (2 ∷ 1 ∷ 0 ∷ [])) (7 ∷ 10 ∷ 13 ∷ [])
    ∷ numbers (map (λ b. splits_in 2 1 linear b) (2 ∷ 1 ∷ 0 ∷ [])) (0 ∷ 1 ∷ 1 ∷ [])
    ∷ numbers (length whole ∷ sum_to 3 (λ b. parts 2 1 linear b) ∷ splits 2 1 linear 0 ∷ nonzeros 2 1 linear ∷ []) (37 ∷ 30 ∷ 2 ∷ 5 ∷ [])
    -- "body 80 C9 02 0B 30"
    ∷ numbers (packed whole) (0x80 ∷ 0xC9 ∷ 0x02 ∷ 0x0B ∷ 0x30 ∷ [])
    -- by the midpoint: "1 bit: all 0. 2 bits: place 0 is 6"
    ∷ coefficients (values_at midpoint 1) (replicate 16 (pos 0))
    ∷ coefficients (values_at midpoint 2) (pos 6 ∷ replicate 15 (pos 0))
    -- "8 bits: place 0 is 6, worst error 3. 9 bits: the same values"
    ∷ coefficients (values_at midpoint 8) (pos 6 ∷ replicate 15 (pos 0))
    ∷ numbers (error_at 8 ∷ []) (3 ∷ [])
    ∷ coefficients (values_at midpoint 9) (pos 6 ∷ replicate 15 (pos 0))
    -- "21 bits: 5, -3, place 6 is 3, others 0; worst error 1"
    ∷ coefficients (values_at midpoint 21) (pos 5 ∷ negsuc 2 ∷ pos 0 ∷ pos 0 ∷ pos 0 ∷ pos 0 ∷ pos 3 ∷ replicate 9 (pos 0))
    ∷ numbers (error_at 21 ∷ []) (1 ∷ [])
    -- the same by `lower`: of 5, -3 and 2 the bits from plane 2 on, and from plane 1 on
    ∷ coefficients (values_at lower 8) (pos 4 ∷ replicate 15 (pos 0))
    ∷ coefficients (values_at lower 21) (pos 4 ∷ negsuc 1 ∷ pos 0 ∷ pos 0 ∷ pos 0 ∷ pos 0 ∷ pos 2 ∷ replicate 9 (pos 0))
    -- after 7 bits two of the three sets of plane 2 were tested 0; after 20 all of plane 1 is known but the refinement of place 0
    ∷ numbers (precisions_at 7) (2 ∷ 2 ∷ 2 ∷ 2 ∷ 2 ∷ 2 ∷ 2 ∷ 2 ∷ 2 ∷ 2 ∷ 2 ∷ 2 ∷ 3 ∷ 3 ∷ 3 ∷ 3 ∷ [])
    ∷ numbers (precisions_at 20) (2 ∷ replicate 15 1)
    -- "P=1, body 0000000: refusal 12 at bit 6", "P=1, body 000010000: refusal 12 at bit 8"
    ∷ judged 1 (replicate 7 false) (contradiction 6)
    ∷ judged 1 (replicate 4 false ++ (true ∷ replicate 4 false)) (contradiction 8)
    -- "worst body for N=2, L=1, P=3 is 67"
    ∷ numbers (worst_body 2 1 3 ∷ []) (67 ∷ [])
    -- the picture: P, then bits, parts and sets split of each plane; its bytes are among those of txp/Samples
    ∷ numbers (planes_of pictured ∷ []) (6 ∷ [])
    ∷ numbers (map (λ b. length (during 3 b (begin 3 2 6) whole_picture)) (5 ∷ 4 ∷ 3 ∷ 2 ∷ 1 ∷ 0 ∷ [])) (29 ∷ 23 ∷ 64 ∷ 92 ∷ 82 ∷ 66 ∷ [])
    ∷ numbers (map (λ b. parts 3 2 pictured b) (5 ∷ 4 ∷ 3 ∷ 2 ∷ 1 ∷ 0 ∷ [])) (21 ∷ 21 ∷ 43 ∷ 64 ∷ 64 ∷ 64 ∷ [])
    ∷ numbers (map (λ b. splits_in 3 2 pictured b) (5 ∷ 4 ∷ 3 ∷ 2 ∷ 1 ∷ 0 ∷ [])) (4 ∷ 0 ∷ 7 ∷ 7 ∷ 0 ∷ 0 ∷ [])
    ∷ []
