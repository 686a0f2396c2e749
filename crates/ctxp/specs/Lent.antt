-- What else a call from C is lent: numbers that stand for a truth, a coefficient, a float, the coders' tables, the numbers of a scan record, and the transform's arrays.
use mathlib.Core.{Path.◌≡◌, Bool.Bool, Bool.not, List.List, List.[], List.◌∷◌}
use lib.{Dec.eqb, IntN.ℤ, ListN.get_or}
use Rattle.std.specs.Prelude.{ℕ, Ok, Err, Some, None}
use Rattle.std.specs.Float.Ieee as ieee
use Rattle.refusals.specs.Checks.{Outcome}
use Rattle.coef.specs.declared.Signed.{Signed}
use Rattle.coef.specs.Coef.{Floated, Joined}
use Rattle.transform.specs.Answers.{Transforms, Restores}
use Rattle.encoder.specs.{Body.Loan, Body.Writes, Body.WriteAnswer}
use Rattle.decoder.specs.{Body.Tables, Body.Reads, Body.ReadAnswer}
use Rattle.steps.specs.{Steps.Starts, Steps.Forwards, Steps.Backs, Steps.Turns, declared.Record.Record}
use Rattle.txp.specs.{Calls.Encodes, Calls.Decodes, Calls.DecodeAnswer, Calls.EncodeAnswer}
use Rattle.ctxp.specs.Answers.{of_outcome, of_encoded, of_decoded, of_written, of_read, Answers}

-- any number but 0 is a truth
abbrev pub as_bool : ℕ → Bool
as_bool x = not (eqb x 0)

abbrev pub signed_of : ℕ → ℕ → Signed
signed_of negative magnitude = record { negative = as_bool negative; magnitude = magnitude }

-- a lent coefficient and a lent float after a call: as they were where there is none
abbrev pub joined_in : Joined → ℤ → ℤ
joined_in (Some x) held = x
joined_in None held = held

abbrev pub float_in : Floated → ieee.Float → ieee.Float
float_in (Ok x) held = x
float_in (Err why) held = held

-- a file: some answer of the base is the one that its contract allows, and the numbers are those of that answer
pub record FileEncoded (N L : ℕ) (A : List ℤ) (budget : ℕ) (held : Loan) (r : ℕ) (answer : List ℕ) (left : Loan) : Type 0 where
  pub said : EncodeAnswer
  pub encodes : Encodes N L A budget held said left
  pub answers : Answers r answer (of_encoded said)

-- decoding is by the rule that the call names
pub record FileDecoded (rule : ℕ → ℕ → ℕ) (file : List ℕ) (held : Tables) (r : ℕ) (answer : List ℕ) (left : Tables) : Type 0 where
  pub said : DecodeAnswer
  pub decodes : Decodes rule file held said left
  pub answers : Answers r answer (of_decoded said)

-- the same of a body
pub record BodyEncoded (N L : ℕ) (A : List ℤ) (offset budget : ℕ) (held : Loan) (r : ℕ) (answer : List ℕ) (left : Loan) : Type 0 where
  pub said : WriteAnswer
  pub encodes : Writes N L A offset budget held said left
  pub answers : Answers r answer (of_written said)

pub record BodyDecoded (rule : ℕ → ℕ → ℕ) (N L P declared : ℕ) (bytes : List ℕ) (held : Tables) (r : ℕ) (answer : List ℕ) (left : Tables) : Type 0 where
  pub said : ReadAnswer
  pub decodes : Reads rule N L P declared bytes held said left
  pub answers : Answers r answer (of_read said)

-- the scan record that eight numbers are, in the order of the header's `txp_record`; the numbers of a record
abbrev pub dial_of : List ℕ → Record
dial_of dial =
    record { n = get_or dial 0 0; l = get_or dial 1 0; p = get_or dial 2 0; plane = get_or dial 3 0; pass = get_or dial 4 0; place = get_or dial 5 0; used = get_or dial 6 0; pending = get_or dial 7 0 }

abbrev pub numbers_of : Record → List ℕ
numbers_of r = r.n ∷ r.l ∷ r.p ∷ r.plane ∷ r.pass ∷ r.place ∷ r.used ∷ r.pending ∷ []

-- a stepped decoding begins: some answer and some record are those that the contract of `steps` allows, and the numbers are theirs; dial and dial' are the lent numbers before and after
pub record Started (N L P : ℕ) (dial : List ℕ) (held : Tables) (r : ℕ) (answer dial' : List ℕ) (left : Tables) : Type 0 where
  pub said : ReadAnswer
  pub moved : Record
  pub starts : Starts N L P (dial_of dial) held said moved left
  pub recorded : dial' ≡ numbers_of moved
  pub answers : Answers r answer (of_read said)

-- the same of one bit forward
pub record Forwarded (declared : ℕ) (body dial : List ℕ) (held : Tables) (r : ℕ) (answer dial' : List ℕ) (left : Tables) : Type 0 where
  pub said : ReadAnswer
  pub moved : Record
  pub forwards : Forwards declared body (dial_of dial) held said moved left
  pub recorded : dial' ≡ numbers_of moved
  pub answers : Answers r answer (of_read said)

-- of one bit back
pub record Backed (declared : ℕ) (body dial : List ℕ) (held : Tables) (r : ℕ) (answer dial' : List ℕ) (left : Tables) : Type 0 where
  pub said : ReadAnswer
  pub moved : Record
  pub backs : Backs declared body (dial_of dial) held said moved left
  pub recorded : dial' ≡ numbers_of moved
  pub answers : Answers r answer (of_read said)

-- and of a turn to a number of bits used
pub record Turned (declared to : ℕ) (body dial : List ℕ) (held : Tables) (r : ℕ) (answer dial' : List ℕ) (left : Tables) : Type 0 where
  pub said : ReadAnswer
  pub moved : Record
  pub turns : Turns declared to body (dial_of dial) held said moved left
  pub recorded : dial' ≡ numbers_of moved
  pub answers : Answers r answer (of_read said)

-- the transform: some outcome is the one that its contract allows, and the numbers are those of that outcome; out and out', work and work' are the lent arrays before and after
pub record Transformed (N L : ℕ) (A out work : List ℤ) (r : ℕ) (answer : List ℕ) (out' work' : List ℤ) : Type 0 where
  pub said : Outcome
  pub transforms : Transforms N L A out work said out' work'
  pub answers : Answers r answer (of_outcome said)

-- the same of its inverse
pub record Restored (N L : ℕ) (C out work : List ℤ) (r : ℕ) (answer : List ℕ) (out' work' : List ℤ) : Type 0 where
  pub said : Outcome
  pub restores : Restores N L C out work said out' work'
  pub answers : Answers r answer (of_outcome said)
