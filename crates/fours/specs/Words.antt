-- Words of inner contracts, which no promise to a caller uses: four marks as one number, and four choices as a number of four bits.
-- The first place is the lowest byte, and the lowest bit.
use Rattle.std.specs.Prelude.{ℕ, ◌+◌, ◌*◌, ◌/◌, ◌%◌, ◌<◌, Bool, cond, ◌&&◌, List, ltb, leb, eqb, length, get_or}
use Rattle.std.specs.Int.Bits.{bit_and, bit_or, bit_xor}
use Rattle.bits.specs.Bits.{digit}
use Rattle.marking.specs.Marking.{put_four}

abbrev pub word_of : ℕ → ℕ → ℕ → ℕ → ℕ
word_of a b c d = a + 256 * b + 65536 * c + 16777216 * d

abbrev pub nibble_of : Bool → Bool → Bool → Bool → ℕ
nibble_of x y z t = digit x + 2 * digit y + 4 * digit z + 8 * digit t

-- the word of the marks from i on, or 0 where the table has no four
unfoldable pub word_at : List ℕ → ℕ → ℕ
word_at m i = cond (leb (i + 4) (length m)) (word_of (get_or m i 0) (get_or m (i + 1) 0) (get_or m (i + 2) 0) (get_or m (i + 3) 0)) 0

-- the four marks from i on become those of a word; a table that has no four stays as it is
unfoldable pub with_word : List ℕ → ℕ → ℕ → List ℕ
with_word m i w = cond (leb (i + 4) (length m)) (put_four m i (w % 256) (w / 256 % 256) (w / 65536 % 256) (w / 16777216)) m

-- every mark is below MCP
unfoldable pub low_word : ℕ → Bool
low_word w = ltb (w % 256) 4 && (ltb (w / 256 % 256) 4 && (ltb (w / 65536 % 256) 4 && ltb (w / 16777216) 4))

-- the four marks from i on are bytes, and all of them are below MCP
pub record FourBytes (m : List ℕ) (i : ℕ) : Type 0 where
  pub first : get_or m i 0 < 256
  pub second : get_or m (i + 1) 0 < 256
  pub third : get_or m (i + 2) 0 < 256
  pub fourth : get_or m (i + 3) 0 < 256

pub record FourLow (m : List ℕ) (i : ℕ) : Type 0 where
  pub first : get_or m i 0 < 4
  pub second : get_or m (i + 1) 0 < 4
  pub third : get_or m (i + 2) 0 < 4
  pub fourth : get_or m (i + 3) 0 < 4

-- which of the four marks are v, by their two low bits, which are all of a mark below MCP
abbrev pub which_are : ℕ → ℕ → ℕ
which_are v w = nibble_of (eqb (w % 4) v) (eqb (w / 256 % 4) v) (eqb (w / 65536 % 4) v) (eqb (w / 16777216 % 4) v)

-- each MNP becomes MSP: one more
abbrev pub refined_word : ℕ → ℕ
refined_word w = w + word_of (digit (eqb (w % 4) 2)) (digit (eqb (w / 256 % 4) 2)) (digit (eqb (w / 65536 % 4) 2)) (digit (eqb (w / 16777216 % 4) 2))

-- four bits as four bytes of 0 or 1, and how many of them are 1
abbrev pub spread_of : ℕ → ℕ
spread_of a = word_of (a % 2) (a / 2 % 2) (a / 4 % 2) (a / 8 % 2)

abbrev pub count_of : ℕ → ℕ
count_of k = k % 2 + k / 2 % 2 + k / 4 % 2 + k / 8 % 2

-- where the table of what is sent has the bits of the coefficients of k, by their bits x and their signs s
abbrev pub key : ℕ → ℕ → ℕ → ℕ
key k x s = 16 * bit_and k x + bit_or (bit_xor k (bit_and k x)) (bit_and (bit_and k x) s)
