-- Words of the decoder's inner contracts, which no promise to a caller uses: what the final pass is given, and the values that it makes of it.
use Rattle.std.specs.Prelude.{ℕ, ◌/◌, ◌%◌, ◌≤◌, ◌≡◌, Bool, false, List, eqb, ℤ}
use Rattle.sizes.specs.Sizes.{limit, most_n, most_planes, all_of, Sized}
use Rattle.coef.specs.Coef.{magnitude, negative, signed}
use Rattle.nls.specs.Stream.{after}
use Rattle.nls.specs.Reading.{known, value_by, last_plane}
use Rattle.nls.specs.Turns.{standing}
use Rattle.nls.specs.Judging.{Fits}
use Rattle.reading.specs.Reading.{codes}

-- the value of a code
abbrev pub uncoded : ℕ → ℤ
uncoded n = signed (eqb (n % 2) 1) (n / 2)

abbrev pub plain_of : ℤ → ℤ
plain_of z = uncoded (magnitude z)

-- What the final pass is given: the marks, the planes left and where the scan stands are those after some bits that fit an array,
pub record Stood (m : List ℕ) (left now : ℕ) : Type 0 where
  pub N : ℕ
  pub L : ℕ
  pub P : ℕ
  pub sized : Sized N L
  pub most : N ≤ most_n
  pub planes : P ≤ most_planes
  pub bits : List Bool
  pub fits : Fits N L P bits
  pub marked : m ≡ (after N L P bits).marks
  pub lefts : left ≡ last_plane N L P bits
  pub stands : now ≡ standing (all_of N) (after N L P bits).pass (after N L P bits).place
  pub ended : left ≡ 0 → now ≡ 0

-- and v has the codes of what is known after these
abbrev pub Codes : {m : List ℕ} {left now : ℕ} → Stood m left now → List ℤ → Type 0
Codes s v = v ≡ codes (known s.N s.L s.P s.bits).bits

-- a code can be undone at precision k, by a rule
abbrev pub Uncodes : (ℕ → ℕ → ℕ) → ℤ → ℕ → Type 0
Uncodes rule z k = (negative z ≡ false) × (k ≤ most_planes) × (magnitude (value_by rule k (plain_of z)) ≤ limit)
