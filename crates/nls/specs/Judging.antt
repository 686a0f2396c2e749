-- Which bodies are refused as 12 or 13 (document 01, "Numbers for no").
use Rattle.std.specs.Prelude.{ℕ, suc, ◌<◌}
use mathlib.Core.{Path.◌≡◌, Bool.Bool, List.List}
use lib.{IntN.ℤ, ListN.length, ListN.take}
use Rattle.sizes.specs.Sizes.{all_of}
use Rattle.coef.specs.Coef.{IsPlanes}
use Rattle.nls.specs.Stream.{stream, after}

-- A is an array of this N and exactly P planes whose stream begins with the bits u
pub record Begins (N L P : ℕ) (A : List ℤ) (u : List Bool) : Type 0 where
  pub size : length A ≡ all_of N
  pub planes : IsPlanes A P
  pub same : take (length u) (stream N L P A) ≡ u

-- some array fits the bits u
abbrev pub Fits : ℕ → ℕ → ℕ → List Bool → Type 0
Fits N L P u = (A : List ℤ) × Begins N L P A u

-- the three ends of reading usable bits
pub data Verdict : Type 0 where
  taken : Verdict
  contradiction : ℕ → Verdict
  beyond : ℕ → Verdict

-- "12: contradiction while a plane is still in progress: number of the first bit at which no array fits";
-- a plane is in progress where one is left
pub record Contradicts (N L P : ℕ) (u : List Bool) (n : ℕ) : Type 0 where
  pub there : n < length u
  pub before : Fits N L P (take n u)
  pub none : Fits N L P (take (suc n) u) → ⊥
  pub in_plane : 0 < (after N L P (take n u)).left

-- "13: plane 0 ended (or P is 0), usable bits left: number of the first such bit"; no plane is left
pub record IsBeyond (N L P : ℕ) (u : List Bool) (n : ℕ) : Type 0 where
  pub there : n < length u
  pub before : Fits N L P (take n u)
  pub ended : (after N L P (take n u)).left ≡ 0

abbrev pub Judged : ℕ → ℕ → ℕ → List Bool → Verdict → Type 0
Judged N L P u taken = Fits N L P u
Judged N L P u (contradiction n) = Contradicts N L P u n
Judged N L P u (beyond n) = IsBeyond N L P u n
