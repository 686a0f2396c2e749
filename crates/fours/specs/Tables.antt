-- Words of inner contracts, which no promise to a caller uses: the tables for four coefficients by themselves.
-- An index is one number of four bits after another. Where it has four places, the first is the lowest bit; where it has bits of a body, the
-- first is the highest.
use Rattle.std.specs.Prelude.{ℕ, ◌+◌, ◌*◌, ◌-◌, ◌/◌, ◌%◌, Bool, true, false, cond, ◌&&◌, List, [], ◌∷◌, ◌++◌, length}
use Rattle.sizes.specs.Tables.{table}
use Rattle.bits.specs.Bits.{bit, digit}
use Rattle.fours.specs.Words.{nibble_of}

-- the number whose binary digits these are, the highest first, after a
unfoldable pub value_of : ℕ → List Bool → ℕ
value_of a [] = a
value_of a (x ∷ u) = value_of (a * 2 + digit x) u

-- bits as an entry: 256 times their number, and they
abbrev pub entry_of : List Bool → ℕ
entry_of u = 256 * length u + value_of 0 u

-- a list for each of four places, one after the other
abbrev pub four : (ℕ → List Bool) → List Bool
four f = f 0 ++ (f 1 ++ (f 2 ++ f 3))

-- what is sent of a coefficient: nothing where k is false, else its bit x, and after a 1 its sign
abbrev pub own_bits : Bool → Bool → Bool → List Bool
own_bits k x minus = cond k (cond x (true ∷ minus ∷ []) (false ∷ [])) []

-- the same by two bits: 10 and 11 found, with this sign, 01 not found, 00 nothing
abbrev pub code_bits : Bool → Bool → List Bool
code_bits x y = cond x (true ∷ y ∷ []) (cond y (false ∷ []) [])

unfoldable pub sent_table : List ℕ
sent_table = table 256 (λ e. entry_of (four (λ j. code_bits (bit (e / 16) j) (bit (e % 16) j))))

-- the bits of the second number where the first one has a 1
abbrev pub pick_bits : Bool → Bool → List Bool
pick_bits k x = cond k (x ∷ []) []

unfoldable pub picked_table : List ℕ
picked_table = table 256 (λ e. entry_of (four (λ j. pick_bits (bit (e / 16) j) (bit (e % 16) j))))

-- how many bits a coefficient takes of a body: none where k is false, else one, and one more after a 1
abbrev pub takes : Bool → Bool → ℕ
takes k x = cond k (cond x 2 1) 0

-- bit p of a byte, the first the highest; where the first, the second, .. of four coefficients of which those of k take bits have taken theirs
abbrev pub in_byte : ℕ → ℕ → Bool
in_byte y p = bit y (7 - p)

abbrev pub end1 : (ℕ → Bool) → (ℕ → Bool) → ℕ
end1 k u = takes (k 0) (u 0)

abbrev pub end2 : (ℕ → Bool) → (ℕ → Bool) → ℕ
end2 k u = end1 k u + takes (k 1) (u (end1 k u))

abbrev pub end3 : (ℕ → Bool) → (ℕ → Bool) → ℕ
end3 k u = end2 k u + takes (k 2) (u (end2 k u))

abbrev pub end4 : (ℕ → Bool) → (ℕ → Bool) → ℕ
end4 k u = end3 k u + takes (k 3) (u (end3 k u))

-- which of them are found, and which of those have a minus
abbrev pub found_of : (ℕ → Bool) → (ℕ → Bool) → ℕ
found_of k u = nibble_of (k 0 && u 0) (k 1 && u (end1 k u)) (k 2 && u (end2 k u)) (k 3 && u (end3 k u))

abbrev pub minus_of : (ℕ → Bool) → (ℕ → Bool) → ℕ
minus_of k u = nibble_of (k 0 && (u 0 && u 1)) (k 1 && (u (end1 k u) && u (end1 k u + 1))) (k 2 && (u (end2 k u) && u (end2 k u + 1))) (k 3 && (u (end3 k u) && u (end3 k u + 1)))

-- four codes in eight bits, one after the other: 16, 256, 4096 and 65536 times where they end, 2^20 times which are found, and 2^24 times which have a
-- minus, here the first the highest
abbrev pub all_four : ℕ → Bool
all_four j = true

abbrev pub turned : ℕ → ℕ
turned a = nibble_of (bit a 3) (bit a 2) (bit a 1) (bit a 0)

abbrev pub parsed_entry : (ℕ → Bool) → ℕ
parsed_entry u = 16 * end1 all_four u + 256 * end2 all_four u + 4096 * end3 all_four u + 65536 * end4 all_four u + 1048576 * turned (found_of all_four u) + 16777216 * turned (minus_of all_four u)

unfoldable pub parsed_table : List ℕ
parsed_table = table 256 (λ y. parsed_entry (in_byte y))

-- the first bits of the second number, one for each 1 of the first
abbrev pub in_nibble : ℕ → ℕ → Bool
in_nibble y p = bit y (3 - p)

abbrev pub placed_of : (ℕ → Bool) → (ℕ → Bool) → ℕ
placed_of k u = nibble_of (k 0 && u 0) (k 1 && u (digit (k 0))) (k 2 && u (digit (k 0) + digit (k 1))) (k 3 && u (digit (k 0) + digit (k 1) + digit (k 2)))

unfoldable pub placed_table : List ℕ
placed_table = table 256 (λ e. placed_of (bit (e / 16)) (in_nibble (e % 16)))

-- all bits of a number of 32 where the first number has a 1, four entries for each
unfoldable pub row_table : List ℕ
row_table = table 64 (λ e. cond (bit (e / 4) (e % 4)) 4294967295 0)
