-- What encoding writes, and the bits that decoding reads (document 01, "File TXP, version 1").
use Rattle.std.specs.Prelude.{ℕ}
use mathlib.Core.{Bool.Bool, List.List, List.◌++◌}
use lib.{IntN.ℤ, ListN.length}
use Rattle.bits.specs.Bits.{packed}
use Rattle.coef.specs.Coef.{planes_of}
use Rattle.room.specs.Room as room
use Rattle.encoder.specs.Body.{sent_bits}
use Rattle.decoder.specs.{Ending.ending, declared.ending.Ending.Ending}
use Rattle.txp.specs.{declared.Header.Header, Header.header_bytes, Header.header_of, Header.body_of}

-- the header of an array's file
abbrev pub header_for : ℕ → ℕ → List ℤ → ℕ → Header
header_for N L A budget = record { n = N; l = L; p = planes_of A; declared = length (sent_bits N L A budget) }

-- the file: the header, then the bits that are written, packed
abbrev pub file_of : ℕ → ℕ → List ℤ → ℕ → List ℕ
file_of N L A budget = header_bytes (header_for N L A budget) ++ packed (sent_bits N L A budget)

-- the usable bits of a file: of its declared bits those that are present
abbrev pub usable_bits : List ℕ → List Bool
usable_bits file = room.body_bits (header_of file).declared (body_of file)

-- why a file's bits ended, by the bits used and the planes left
abbrev pub ending_of : List ℕ → ℕ → ℕ → Ending
ending_of file = ending (header_of file).declared (body_of file)
