-- Whole numbers as text: their characters to base 10.
use Rattle.std.specs.Prelude.{ℕ, zero, suc, ◌+◌, ◌*◌, ◌-◌, ◌/◌, ◌%◌, cond, List, [], ◌∷◌, ◌++◌, ltb, ℤ, pos, negsuc}

-- the characters 0 to 9 stand one after another from 0x30 on; and the minus sign
abbrev pub figure : ℕ → ℕ
figure d = 0x30 + d

abbrev pub minus : ℕ
minus = 0x2D

-- the digits of x, the highest first: those of x / 10, and then the last one; x below 10 is one digit. At most n of them
unfoldable pub digits_up_to : ℕ → ℕ → List ℕ
digits_up_to zero x = []
digits_up_to (suc n) x = cond (ltb x 10) (figure x ∷ []) (digits_up_to n (x / 10) ++ (figure (x % 10) ∷ []))

-- a number has no more digits than x + 1, so these are all
unfoldable pub decimal : ℕ → List ℕ
decimal x = digits_up_to (suc x) x

-- with a minus sign before it where it is below 0
abbrev pub signed_decimal : ℤ → List ℕ
signed_decimal (pos n) = decimal n
signed_decimal (negsuc n) = minus ∷ decimal (suc n)

-- the number that digits say, read from the left; v is what was read before
unfoldable pub read_on : ℕ → List ℕ → ℕ
read_on v [] = v
read_on v (c ∷ rest) = read_on (v * 10 + (c - 0x30)) rest

unfoldable pub read_decimal : List ℕ → ℕ
read_decimal s = read_on 0 s
