-- The header of a TXP file (document 01, "File TXP, version 1").
use Rattle.std.specs.Prelude.{ℕ, ◌+◌, ◌*◌, ◌/◌, ◌%◌}
use mathlib.Core.{Bool.Bool, Bool.◌&&◌, List.List, List.[], List.◌∷◌, List.◌++◌}
use lib.{Dec.leb, Dec.eqb, ListN.length, ListN.get_or, ListN.drop}
use Rattle.txp.specs.declared.Header.{Header}

-- "Numbers have the high byte first": 16 and 32 bits at a place, and as bytes
abbrev pub two_at : List ℕ → ℕ → ℕ
two_at s i = get_or s i 0 * 256 + get_or s (i + 1) 0

abbrev pub four_at : List ℕ → ℕ → ℕ
four_at s i = two_at s i * 65536 + two_at s (i + 2)

abbrev pub two_bytes : ℕ → List ℕ
two_bytes x = (x / 256 % 256) ∷ (x % 256) ∷ []

abbrev pub four_bytes : ℕ → List ℕ
four_bytes x = two_bytes (x / 65536) ++ two_bytes (x % 65536)

-- the version that is written
abbrev pub version : ℕ
version = 1

-- the bytes before the body
abbrev pub header_size : ℕ
header_size = 12

-- "Letters T X P; version as 16 bits; N, L, P as a byte each; declared bits as 32 bits; then the body."
unfoldable pub header_bytes : Header → List ℕ
header_bytes h =
    0x54 ∷ 0x58 ∷ 0x50 ∷ (two_bytes version ++ (h.n ∷ h.l ∷ h.p ∷ four_bytes h.declared))

-- the conditions of refusals 7 and 8
unfoldable pub letters_fit : List ℕ → Bool
letters_fit file = leb header_size (length file) && (eqb (get_or file 0 0) 0x54 && (eqb (get_or file 1 0) 0x58 && eqb (get_or file 2 0) 0x50))

unfoldable pub version_fits : List ℕ → Bool
version_fits file = eqb (two_at file 3) version

-- what a header says, and the body behind it
unfoldable pub header_of : List ℕ → Header
header_of file = record { n = get_or file 5 0; l = get_or file 6 0; p = get_or file 7 0; declared = four_at file 8 }

abbrev pub body_of : List ℕ → List ℕ
body_of file = drop header_size file
