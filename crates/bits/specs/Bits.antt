-- Bits of a number, and of a body (document 01, "File TXP": "Body bits fill each byte from its highest bit; the last byte is padded with 0").
use mathlib.Core.{Bool.Bool, Bool.true, Bool.false, Bool.cond, List.List, List.[], List.◌∷◌}
use lib.{Bits.bit_or, Dec.ltb, Dec.eqb, ListN.length, ListN.get_or, ListN.set}
use Rattle.std.specs.Prelude.{ℕ, zero, suc, ◌+◌, ◌*◌, ◌-◌, ◌/◌, ◌%◌, ◌^◌, Result, Ok, Err}
use Rattle.sizes.specs.Tables.{table}
use Rattle.bits.specs.{declared.Why.Why, declared.Why.TheVariants.Short}

-- bit b of x
unfoldable pub bit : ℕ → ℕ → Bool
bit x b = eqb (x / 2 ^ b % 2) 1

-- a bit as a digit
abbrev pub digit : Bool → ℕ
digit true = 1
digit false = 0

-- the bitwise OR of a list of numbers ("the bitwise OR of magnitudes"; document 02, T-03: "OR the magnitudes together")
unfoldable pub or_all : List ℕ → ℕ
or_all [] = 0
or_all (x ∷ rest) = bit_or x (or_all rest)

-- bit number k of a body, and its first n bits
unfoldable pub bit_at : List ℕ → ℕ → Bool
bit_at body k = bit (get_or body (k / 8) 0) (7 - k % 8)

abbrev pub bits_of : ℕ → List ℕ → List Bool
bits_of n body = table n (λ k. bit_at body k)

-- the bytes that n bits fill
abbrev pub bytes_for : ℕ → ℕ
bytes_for n = (n + 7) / 8

-- the number with the n binary digits f 0, f 1, .., the highest first
unfoldable pub number : ℕ → (ℕ → Bool) → ℕ
number zero f = 0
number (suc n) f = number n f * 2 + digit (f n)

-- a list of bits as bytes
unfoldable pub packed : List Bool → List ℕ
packed u = table (bytes_for (length u)) (λ j. number 8 (λ k. get_or u (8 * j + k) false))

-- a bit, or why there are no more
abbrev pub Next : Type 0
Next = Result Bool Why

-- what a fetch answers: the bit, or that the body has no more (document 02, T-06: ".. or file short")
abbrev pub fetched : List ℕ → ℕ → Next
fetched body k = cond (ltb (k / 8) (length body)) (Ok (bit_at body k)) (Err Short)

-- a byte with x put at its bit k, counted from the highest: what lies above it stays, what lies below is 0
unfoldable pub byte_with : ℕ → ℕ → Bool → ℕ
byte_with v k x = v / 2 ^ (8 - k) % 2 ^ k * 2 ^ (8 - k) + digit x * 2 ^ (7 - k)

-- a body with x put at bit k; past the end nothing is put
unfoldable pub with_bit : List ℕ → ℕ → Bool → List ℕ
with_bit body k x = set body (k / 8) (byte_with (get_or body (k / 8) 0) (k % 8) x)
