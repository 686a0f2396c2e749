-- The answers of the base's calls, read as numbers (document 01, "Numbers for no"): a refusal is its number and its place, and "all other figures of a refusal are 0".
-- A number that an answer does not speak of is 0.
use mathlib.Core.{Path.◌≡◌, List.List, List.[], List.◌∷◌}
use Rattle.std.specs.Prelude.{ℕ, get_or, set, replicate, Ok, Err, Some, None}
use Rattle.refusals.specs.{Refusals.number_of, Refusals.place_of, declared.Refusal.Refusal, declared.Refusal.TheVariants.Coefficient, Checks.Outcome}
use Rattle.bits.specs.{Bits.digit, Bits.Next}
use Rattle.places.specs.Answers.{LinearAnswer, RasterAnswer}
use Rattle.coef.specs.Coef.{Floated, Joined, Parted}
use Rattle.figures.specs.Figures.{FiguresAnswer}
use Rattle.room.specs.Room.{WorstAnswer}
use Rattle.encoder.specs.Body.{WriteAnswer}
use Rattle.decoder.specs.{Ending.word_of, declared.ending.Ending.Ending, Body.ReadAnswer}
use Rattle.decoder.specs.declared.ending.Ending.TheVariants as endings
use Rattle.txp.specs.Calls.{DecodeAnswer, EncodeAnswer, HeaderAnswer}

-- the numbers of a lent answer, in the order of the header's `txp_answer`
pub data Entry : Type 0 where
  refusal place n l planes declared bits bytes finished error parts splits found negative value ending : Entry

abbrev pub entry_of : Entry → ℕ
entry_of e = elim e [ refusal ↦ 0 | place ↦ 1 | n ↦ 2 | l ↦ 3 | planes ↦ 4 | declared ↦ 5 | bits ↦ 6 | bytes ↦ 7 | finished ↦ 8 | error ↦ 9 | parts ↦ 10 | splits ↦ 11 | found ↦ 12 | negative ↦ 13 | value ↦ 14 | ending ↦ 15 ]

-- an answer that says some of them; the others are 0
abbrev pub says : List (Entry × ℕ) → List ℕ
says [] = replicate 16 0
says (e ∷ rest) = set (says rest) (entry_of e.0) e.1

-- why the bits ended: the numbers of the header's `txp_ending`
abbrev pub ending_number : Ending → ℕ
ending_number endings.GoesOn = 0
ending_number endings.Whole = 1
ending_number endings.Budget = 2
ending_number endings.Cut = 3

-- done, with nothing to say; a refusal; one number; a number of planes
abbrev pub blank : List ℕ
blank = says []

abbrev pub of_refusal : Refusal → List ℕ
of_refusal why = says ((refusal, number_of why) ∷ (place, place_of why) ∷ [])

abbrev pub of_value : ℕ → List ℕ
of_value x = says ((value, x) ∷ [])

abbrev pub of_planes : ℕ → List ℕ
of_planes p = says ((planes, p) ∷ [])

abbrev pub of_outcome : Outcome → List ℕ
of_outcome (Ok tt) = blank
of_outcome (Err why) = of_refusal why

-- the file's coders
abbrev pub of_encoded : EncodeAnswer → List ℕ
of_encoded (Ok w) = says ((planes, w.planes) ∷ (bits, w.bits) ∷ (bytes, w.bytes) ∷ [])
of_encoded (Err why) = of_refusal why

abbrev pub of_decoded : DecodeAnswer → List ℕ
of_decoded (Ok d) =
    says ((n, d.n) ∷ (l, d.l) ∷ (planes, d.p) ∷ (declared, d.declared) ∷ (bits, d.used) ∷ (finished, d.finished) ∷ (error, d.error) ∷ (ending, ending_number d.ending) ∷ [])
of_decoded (Err why) = of_refusal why

-- the header of a file by itself
abbrev pub of_header : HeaderAnswer → List ℕ
of_header (Ok h) = says ((n, h.n) ∷ (l, h.l) ∷ (planes, h.p) ∷ (declared, h.declared) ∷ [])
of_header (Err why) = of_refusal why

-- the body's
abbrev pub of_worst : WorstAnswer → List ℕ
of_worst (Ok b) = says ((bits, b) ∷ [])
of_worst (Err why) = of_refusal why

abbrev pub of_written : WriteAnswer → List ℕ
of_written (Ok w) = says ((planes, w.planes) ∷ (bits, w.bits) ∷ [])
of_written (Err why) = of_refusal why

abbrev pub of_read : ReadAnswer → List ℕ
of_read (Ok d) = says ((bits, d.used) ∷ (finished, d.finished) ∷ (error, d.error) ∷ (ending, ending_number d.ending) ∷ [])
of_read (Err why) = of_refusal why

-- the figures of a plane
abbrev pub of_figures : FiguresAnswer → List ℕ
of_figures (Ok f) = says ((parts, f.parts) ∷ (splits, f.splits) ∷ (bits, f.bits) ∷ (found, f.found) ∷ [])
of_figures (Err why) = of_refusal why

-- a place, by its number
abbrev pub of_linear : LinearAnswer → List ℕ
of_linear (Ok q) = of_value q.0
of_linear (Err why) = of_refusal why

abbrev pub of_raster : RasterAnswer → List ℕ
of_raster (Ok p) = of_value p.0
of_raster (Err why) = of_refusal why

-- sign and magnitude; what is too large is refusal 4 at place 0, as the float's is
abbrev pub of_parted : Parted → List ℕ
of_parted (Some s) = says ((negative, digit s.negative) ∷ (value, s.magnitude) ∷ [])
of_parted None = of_refusal (Coefficient 0)

-- a coefficient and a float are lent by themselves: the answer says only whether there is one
abbrev pub of_joined : Joined → List ℕ
of_joined (Some x) = blank
of_joined None = of_refusal (Coefficient 0)

abbrev pub of_float : Floated → List ℕ
of_float (Ok x) = blank
of_float (Err why) = of_refusal why

-- a bit that was read, or why there is none
abbrev pub of_next : Next → List ℕ
of_next (Ok b) = says ((bits, 1) ∷ (value, digit b) ∷ [])
of_next (Err why) = says ((ending, ending_number (word_of (Err why))) ∷ [])

-- a call's result and the lent answer after it: the result is the refusal's number
abbrev pub Answers : ℕ → List ℕ → List ℕ → Type 0
Answers r held a = (r ≡ get_or a 0 0) × (held ≡ a)
