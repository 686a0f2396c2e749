-- Document 01, "Sizes". Every limit of the table is stated here and nowhere else.
use Rattle.std.specs.Prelude.{Bool, ◌&&◌, ℕ, ◌-◌, ◌^◌, ◌≤◌, ◌<◌, leb, ltb}

-- "side: 2^N, N from 2 to 8"; document 02, T-02: "N may now be up to 10"
abbrev pub least_n : ℕ
least_n = 2

abbrev pub most_n : ℕ
most_n = 10

-- "I, all coefficients: 4^N"
abbrev pub all_of : ℕ → ℕ
all_of N = 4 ^ N

-- "D, coarsest band: 4^(N-L)"
abbrev pub coarsest_of : ℕ → ℕ → ℕ
coarsest_of N L = 4 ^ (N - L)

-- "coefficient: -16,777,215 to 16,777,215"
abbrev pub limit : ℕ
limit = 16777215

-- "planes P: 0 to 24"
abbrev pub most_planes : ℕ
most_planes = 24

-- N is in range, and "levels L: 1 to N-1": the conditions of refusals 1 and 2
unfoldable pub side_fits : ℕ → Bool
side_fits N = leb least_n N && leb N most_n

unfoldable pub levels_fit : ℕ → ℕ → Bool
levels_fit N L = leb 1 L && ltb L N

-- the same of L as a statement: what the theorems on the scan ask of N and L, for however large an N
pub record Sized (N L : ℕ) : Type 0 where
  pub least : 1 ≤ L
  pub most : L < N
