-- What is shown of a file (document 01, "The program `txpshow`").
use Rattle.std.specs.Prelude.{ℕ, zero, suc, ◌-◌, ◌^◌, ◌≡◌, Bool, true, false, ◌&&◌, ◌||◌, List, [], ◌∷◌, ◌++◌, map, leb, ltb, ℤ, pos, length, take, drop, Ok, Err}
use Rattle.std.proofs.lemmas.List.Edits.{sets}
use Rattle.refusals.specs.declared.Refusal.{Refusal}
use Rattle.refusals.specs.Refusals.{number_of, place_of}
use Rattle.sizes.specs.Sizes.{all_of, most_n}
use Rattle.places.specs.Order.{rasterly}
use Rattle.decimal.specs.Decimal.{signed_decimal}
use Rattle.nls.specs.Reading.{midpoint}
use Rattle.figures.specs.declared.Figures.{Figures}
use Rattle.figures.specs.Figures.{figures_of}
use Rattle.decoder.specs.Body.{Tables, zeros}
use Rattle.decoder.specs.declared.ending.Ending.{Ending}
use Rattle.decoder.specs.declared.ending.Ending.TheVariants.{Whole, Budget, Cut, GoesOn}
use Rattle.txp.specs.declared.Decoded.{Decoded}
use Rattle.txp.specs.Header.{version, letters_fit, version_fits, header_of}
use Rattle.txp.specs.Calls.{Decodes, DecodeAnswer}

-- ---- lines of words

-- a word of a line: letters, or a number
pub data Word : Type 0 where
  letters : List ℕ → Word
  number : ℤ → Word

abbrev pub count : ℕ → Word
count n = number (pos n)

abbrev pub characters : Word → List ℕ
characters (letters s) = s
characters (number z) = signed_decimal z

abbrev pub space : ℕ
space = 0x20

abbrev pub newline : ℕ
newline = 0x0A

-- one space between words, and a newline after each line; `words_after` has the words behind the first
unfoldable pub words_after : List Word → List ℕ
words_after [] = newline ∷ []
words_after (w ∷ rest) = space ∷ (characters w ++ words_after rest)

unfoldable pub line_text : List Word → List ℕ
line_text [] = newline ∷ []
line_text (w ∷ rest) = characters w ++ words_after rest

-- lines after each other
unfoldable pub text_of : List (List Word) → List ℕ
text_of [] = []
text_of (line ∷ rest) = line_text line ++ text_of rest

-- ---- the lines of an answer

-- "A refusal prints only `refused`, number, place."
unfoldable pub refused_line : Refusal → List Word
refused_line why =
    letters (0x72 ∷ 0x65 ∷ 0x66 ∷ 0x75 ∷ 0x73 ∷ 0x65 ∷ 0x64 ∷ []) ∷ count (number_of why) ∷ count (place_of why) ∷ []

-- why the bits ended, in letters; decoding never answers that bits go on (`one_of_three` of txp/proofs/Demands.antt)
abbrev pub ending_letters : Ending → List ℕ
ending_letters Whole = 0x77 ∷ 0x68 ∷ 0x6F ∷ 0x6C ∷ 0x65 ∷ []
ending_letters Budget = 0x62 ∷ 0x75 ∷ 0x64 ∷ 0x67 ∷ 0x65 ∷ 0x74 ∷ []
ending_letters Cut = 0x63 ∷ 0x75 ∷ 0x74 ∷ []
ending_letters GoesOn = []

-- "First line: letters, version, N, L, P, declared bits, used bits."; document 02, T-06: "the first line gains a last word, `whole`, `budget`
-- or `cut`"
unfoldable pub first_line : Decoded → List Word
first_line d =
    letters (0x54 ∷ 0x58 ∷ 0x50 ∷ []) ∷ count version ∷ count d.n ∷ count d.l ∷ count d.p ∷ count d.declared ∷ count d.used
    ∷ letters (ending_letters d.ending) ∷ []

-- "A line for each finished plane: plane, bits read in it, parts standing, sets split in it."
unfoldable pub plane_line : ℕ → Figures → List Word
plane_line b f =
    letters (0x70 ∷ 0x6C ∷ 0x61 ∷ 0x6E ∷ 0x65 ∷ []) ∷ count b ∷ count f.bits ∷ count f.parts ∷ count f.splits ∷ []

-- by N, L and the values: of the planes below b the highest, as many as asked
unfoldable pub plane_lines : ℕ → ℕ → List ℤ → ℕ → ℕ → List (List Word)
plane_lines N L A b zero = []
plane_lines N L A b (suc more) = plane_line (b - 1) (figures_of N L A (b - 1)) ∷ plane_lines N L A (b - 1) more

-- "Then the raster": as many rows as asked, of `side` numbers each
unfoldable pub row_lines : ℕ → ℕ → List ℤ → List (List Word)
row_lines side zero A = []
row_lines side (suc more) A = map number (take side A) ∷ row_lines side more (drop side A)

-- by what decoding answers, and the values that it gives
unfoldable pub picture_lines : Decoded → List ℤ → List (List Word)
picture_lines d A =
    first_line d
    ∷ (plane_lines d.n d.l A d.p d.finished
    ++ row_lines (2 ^ d.n) (2 ^ d.n) (rasterly d.n A))

abbrev pub answer_lines : DecodeAnswer → List ℤ → List (List Word)
answer_lines (Ok d) values = picture_lines d (take (all_of d.n) values)
answer_lines (Err why) values = refused_line why ∷ []

-- ---- what is shown

-- "A file over 16,384 bytes, or one of at least 12 bytes with right letters and version and N of 7 or 8": the largest N shown is 6;
-- document 02, T-02: "`txpshow` prints `too large` for N from 7 to 10", the largest N
abbrev pub most_shown : ℕ
most_shown = 16384

abbrev pub most_shown_n : ℕ
most_shown_n = 6

unfoldable pub too_large : List ℕ → Bool
too_large file =
    ltb most_shown (length file)
    || (letters_fit file && (version_fits file && (ltb most_shown_n (header_of file).n && leb (header_of file).n most_n)))

-- ".. prints only `too large`"
unfoldable pub too_large_line : List Word
too_large_line = letters (0x74 ∷ 0x6F ∷ 0x6F ∷ []) ∷ letters (0x6C ∷ 0x61 ∷ 0x72 ∷ 0x67 ∷ 0x65 ∷ []) ∷ []

-- some answer on the file is one that decoding allows, with tables of zeros that have room for every N shown; and the text is that of this answer and its
-- values, which are by the midpoint: "`txpshow` must ask for the midpoint" (document 02, T-07)
pub record DecodedText (file text : List ℕ) : Type 0 where
  pub said : DecodeAnswer
  pub left : Tables
  pub decodes : Decodes midpoint file (zeros (all_of most_shown_n)) said left
  pub shows : text ≡ text_of (answer_lines said left.values)

-- by whether it is too large
abbrev pub ShownIf : Bool → List ℕ → List ℕ → Type 0
ShownIf true file text = text ≡ text_of (too_large_line ∷ [])
ShownIf false file text = DecodedText file text

-- the text of a file: too large, then refused, then the picture
abbrev pub Shown : List ℕ → List ℕ → Type 0
Shown file text = ShownIf (too_large file) file text

-- no text is longer than this
abbrev pub most_text : ℕ
most_text = 65536

-- what a call leaves in a lent buffer and answers: the text from entry 0 on, as far as there is room, and its whole length
pub record Rendered (file before after : List ℕ) (r : ℕ) : Type 0 where
  pub text : List ℕ
  pub shown : Shown file text
  pub whole : r ≡ length text
  pub stored : after ≡ sets before 0 text
