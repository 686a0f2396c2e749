-- Coefficients (document 01, "Sizes").
use mathlib.Core.{Bool.Bool, Bool.true, Bool.false, Bool.cond, List.List, List.[], List.◌∷◌}
use lib.{Dec.leb, Dec.eqb, ListN.length, ListN.get_or, IntN.ℤ, IntN.pos, IntN.negsuc, IntN.nat_abs, IntN.neg_ℤ, Ieee.binary32, Ieee.of_int, Ieee.Float, Ieee.Exact.HasValue}
use Rattle.std.specs.Prelude.{ℕ, zero, suc, max, ◌/◌, ◌≤◌, ◌<◌, ◌^◌, Option, Some, None, Result, Ok, Err}
use Rattle.refusals.specs.{Checks.Check, Checks.need, declared.Refusal.Refusal, declared.Refusal.TheVariants.Coefficient}
use Rattle.sizes.specs.Sizes.{limit, most_planes}
use Rattle.coef.specs.declared.Signed.{Signed}

-- sign and magnitude of a number, and back
abbrev pub negative : ℤ → Bool
negative (pos n) = false
negative (negsuc n) = true

abbrev pub magnitude : ℤ → ℕ
magnitude z = nat_abs z

abbrev pub signed : Bool → ℕ → ℤ
signed true n = neg_ℤ (pos n)
signed false n = pos n

-- "coefficient: -16,777,215 to 16,777,215"
abbrev pub within : ℤ → Bool
within z = leb (magnitude z) limit

-- the coefficient at place i of an array, and its magnitude
abbrev pub at : List ℤ → ℕ → ℤ
at A i = get_or A i (pos 0)

abbrev pub mag_at : List ℤ → ℕ → ℕ
mag_at A i = magnitude (at A i)

-- sign and magnitude of a coefficient, or the coefficient of these: none where it is over the limit
abbrev pub Parted : Type 0
Parted = Option Signed

abbrev pub Joined : Type 0
Joined = Option ℤ

-- "The least 32-bit signed number has no negative in its type and is refused as too large"
abbrev pub parted_of : ℤ → Parted
parted_of z = cond (within z) (Some (record { negative = negative z; magnitude = magnitude z })) None

abbrev pub joined_of : Signed → Joined
joined_of s = cond (leb s.magnitude limit) (Some (signed s.negative s.magnitude)) None

-- the first place of a coefficient over the limit, or the length where there is none; and refusal 4
unfoldable pub first_over : List ℤ → ℕ
first_over [] = 0
first_over (z ∷ rest) = cond (within z) (suc (first_over rest)) 0

abbrev pub over_check : ℕ → ℕ → Check
over_check over count = need (eqb over count) (Coefficient over)

abbrev pub coefficient_check : List ℤ → Check
coefficient_check A = over_check (first_over A) (length A)

-- the first coefficient over the limit of an array of p planes: none where p is at most that of the limit
unfoldable pub over_by : ℕ → List ℤ → ℕ
over_by p A = cond (leb p most_planes) (length A) (first_over A)

-- "planes P: the least P with every magnitude below 2^P"
pub record IsPlanes (A : List ℤ) (P : ℕ) : Type 0 where
  pub below : (i : ℕ) → mag_at A i < 2 ^ P
  pub least : (R : ℕ) → ((i : ℕ) → mag_at A i < 2 ^ R) → P ≤ R

-- the same number, computed: how many binary digits the largest magnitude has
unfoldable pub largest : List ℤ → ℕ
largest [] = 0
largest (z ∷ rest) = max (magnitude z) (largest rest)

-- the binary digits of x, counted up to n
unfoldable pub digits : ℕ → ℕ → ℕ
digits zero x = 0
digits (suc n) zero = 0
digits (suc n) (suc x) = suc (digits n (suc x / 2))

unfoldable pub planes_of : List ℤ → ℕ
planes_of A = digits (largest A) (largest A)

-- a float, or the refusal of a coefficient over the limit
abbrev pub Floated : Type 0
Floated = Result Float Refusal

-- "Each coefficient handed to the audio engine as a 32-bit float equals its whole number exactly .. zero gives plus zero"
abbrev pub float_of : ℤ → Floated
float_of z = cond (within z) (Ok (of_int binary32 z)) (Err (Coefficient 0))

abbrev pub Exactly : ℤ → Floated → Type 0
Exactly z (Ok v) = HasValue v (negative z) (magnitude z) 1
Exactly z (Err why) = Unit {0}
