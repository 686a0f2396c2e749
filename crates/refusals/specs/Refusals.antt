-- The numbers for no, and the places reported (document 01, "Numbers for no"; 14 to 16 document 02, T-01; 17 and 18 T-05).
use Rattle.std.specs.Prelude.{ℕ}
use Rattle.refusals.specs.{declared.Refusal.Refusal, declared.Refusal.TheVariants.Side, declared.Refusal.TheVariants.Levels, declared.Refusal.TheVariants.Length, declared.Refusal.TheVariants.Coefficient, declared.Refusal.TheVariants.Lent, declared.Refusal.TheVariants.Output, declared.Refusal.TheVariants.Letters, declared.Refusal.TheVariants.Version, declared.Refusal.TheVariants.Planes, declared.Refusal.TheVariants.Surplus, declared.Refusal.TheVariants.Padding, declared.Refusal.TheVariants.Contradiction, declared.Refusal.TheVariants.Beyond, declared.Refusal.TheVariants.First, declared.Refusal.TheVariants.Spent, declared.Refusal.TheVariants.Record, declared.Refusal.TheVariants.Sample, declared.Refusal.TheVariants.Restored}

-- column "no."
abbrev pub number_of : Refusal → ℕ
number_of Side = 1
number_of Levels = 2
number_of Length = 3
number_of (Coefficient place) = 4
number_of Lent = 5
number_of Output = 6
number_of Letters = 7
number_of Version = 8
number_of Planes = 9
number_of Surplus = 10
number_of Padding = 11
number_of (Contradiction bit) = 12
number_of (Beyond bit) = 13
number_of First = 14
number_of Spent = 15
number_of Record = 16
number_of (Sample place) = 17
number_of Restored = 18

-- column "place reported"
abbrev pub place_of : Refusal → ℕ
place_of Side = 0
place_of Levels = 0
place_of Length = 0
place_of (Coefficient place) = place
place_of Lent = 0
place_of Output = 0
place_of Letters = 0
place_of Version = 0
place_of Planes = 0
place_of Surplus = 0
place_of Padding = 0
place_of (Contradiction bit) = bit
place_of (Beyond bit) = bit
place_of First = 0
place_of Spent = 0
place_of Record = 0
place_of (Sample place) = place
place_of Restored = 0
