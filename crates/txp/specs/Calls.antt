-- The calls on a file: what they check, what they answer, and what is lent to them holds afterwards (document 01, "Numbers for no").
use mathlib.Core.{Path.◌≡◌, Bool.Bool, Bool.true, Bool.cond, List.List, List.◌∷◌, List.◌++◌}
use lib.{Dec.leb, Dec.eqb, IntN.ℤ, ListN.length, ListN.get_or}
use Rattle.std.specs.Prelude.{ℕ, ◌+◌, ◌-◌, ◌/◌, ◌%◌, ◌^◌, Result, Ok, Err}
use Rattle.refusals.specs.declared.Refusal.TheVariants as refusal
use Rattle.refusals.specs.{declared.Refusal.Refusal, Checks.Outcome, Checks.Check, Checks.need, Checks.first_failing}
use Rattle.sizes.specs.Sizes.{all_of}
use Rattle.bits.specs.Bits.{bytes_for}
use Rattle.coef.specs.Coef.{planes_of}
use Rattle.nls.specs.{Reading.last_plane, Reading.planes_finished, Reading.worst_error, Judging.Verdict, Judging.taken, Judging.contradiction, Judging.beyond, Judging.Judged}
use Rattle.room.specs.Room.{worst_checks, table_checks}
use Rattle.encoder.specs.Body.{sent_bits, Loan, write_outcome, lent_to}
use Rattle.decoder.specs.{Body.Tables, Body.own_tables, Body.over, declared.ending.Ending.Ending}
use Rattle.txp.specs.{declared.Header.Header, declared.Encoded.Encoded, declared.Decoded.Decoded, Header.header_size, Header.letters_fit, Header.version_fits, Header.header_of, Header.body_of, File.file_of, File.usable_bits, File.ending_of}

-- what the calls answer: what is said, or the refusal
abbrev pub HeaderAnswer : Type 0
HeaderAnswer = Result Header Refusal

abbrev pub EncodeAnswer : Type 0
EncodeAnswer = Result Encoded Refusal

abbrev pub DecodeAnswer : Type 0
DecodeAnswer = Result Decoded Refusal

-- ---- encoding

abbrev pub encode_answer : ℕ → ℕ → List ℤ → ℕ → Outcome → EncodeAnswer
encode_answer N L A budget (Ok tt) =
    Ok (record { planes = planes_of A; bits = length (sent_bits N L A budget); bytes = header_size + bytes_for (length (sent_bits N L A budget)) })
encode_answer N L A budget (Err why) = Err why

-- "Encoding checks 1 to 6 in that order": those of its body, which begins behind the header
abbrev pub encode_outcome : ℕ → ℕ → List ℤ → ℕ → Loan → Outcome
encode_outcome N L A budget held = write_outcome N L A header_size budget held

-- a call that writes a file: the first check that fails decides its answer and what it leaves
pub record Encodes (N L : ℕ) (A : List ℤ) (budget : ℕ) (held : Loan) (answer : EncodeAnswer) (left : Loan) : Type 0 where
  pub answered : answer ≡ encode_answer N L A budget (encode_outcome N L A budget held)
  pub filled : left ≡ lent_to (encode_outcome N L A budget held) N L A budget 0 (file_of N L A budget) held

-- ---- decoding: "7, 8, 1, 2, 9, 10, 11, 5, then 12 or 13, whichever bit comes first"

-- "11: all body bytes present, padding not 0": the bits of the last byte below the last declared one
unfoldable pub padding_fits : ℕ → List ℕ → Bool
padding_fits declared body =
    cond (eqb (length body) (bytes_for declared)) (eqb (get_or body (declared / 8) 0 % 2 ^ (8 - declared % 8)) 0) true

-- those that the header decides: 7, 8, 1, 2, 9
abbrev pub header_checks : List ℕ → List Check
header_checks file =
    need (letters_fit file) refusal.Letters ∷ need (version_fits file) refusal.Version
    ∷ worst_checks (header_of file).n (header_of file).l (header_of file).p

-- by the header, the body, and the lengths of the lent values, precisions and marks: 10, 11, 5
abbrev pub body_checks : Header → List ℕ → ℕ → ℕ → ℕ → List Check
body_checks h body values precisions marks =
    need (leb (length body) (bytes_for h.declared)) refusal.Surplus
    ∷ need (padding_fits h.declared body) refusal.Padding
    ∷ table_checks (all_of h.n) values precisions marks

abbrev pub decode_checks : List ℕ → ℕ → ℕ → ℕ → List Check
decode_checks file values precisions marks = header_checks file ++ body_checks (header_of file) (body_of file) values precisions marks

-- what a call on the header alone answers
abbrev pub header_answer : Outcome → Header → HeaderAnswer
header_answer (Ok tt) h = Ok h
header_answer (Err why) h = Err why

-- by the header, the usable bits and the verdict on them; `word` has why the bits ended, by the bits used and the planes left
abbrev pub decode_answer : (ℕ → ℕ → Ending) → Header → List Bool → Verdict → DecodeAnswer
decode_answer word h u taken =
    Ok
    (record {
      n = h.n;
      l = h.l;
      p = h.p;
      declared = h.declared;
      used = length u;
      finished = planes_finished h.n h.l h.p u;
      error = worst_error h.n h.l h.p u;
      ending = word (length u) (last_plane h.n h.l h.p u);
    })
decode_answer word h u (contradiction bit) = Err (refusal.Contradiction bit)
decode_answer word h u (beyond bit) = Err (refusal.Beyond bit)

-- a call whose checks all hold: the verdict on the usable bits decides the answer and the tables, whose values are by the rule named
pub record DecodedFile (rule : ℕ → ℕ → ℕ) (word : ℕ → ℕ → Ending) (h : Header) (u : List Bool) (held : Tables) (answer : DecodeAnswer) (left : Tables) : Type 0 where
  pub verdict : Verdict
  pub judged : Judged h.n h.l h.p u verdict
  pub answered : answer ≡ decode_answer word h u verdict
  pub filled : left ≡ over (all_of h.n) (own_tables rule h.n h.l h.p u verdict) held

-- any call, by the outcome of the checks; "Numbers 1 to 11 touch no lent byte"
abbrev pub DecodesTo : Outcome → (ℕ → ℕ → ℕ) → (ℕ → ℕ → Ending) → Header → List Bool → Tables → DecodeAnswer → Tables → Type 0
DecodesTo (Ok tt) rule word h u held answer left = DecodedFile rule word h u held answer left
DecodesTo (Err why) rule word h u held answer left = (answer ≡ Err why) × (left ≡ held)

abbrev pub Decodes : (ℕ → ℕ → ℕ) → List ℕ → Tables → DecodeAnswer → Tables → Type 0
Decodes rule file held answer left =
    DecodesTo (first_failing (decode_checks file (length held.values) (length held.precisions) (length held.marks))) rule (ending_of file) (header_of file) (usable_bits file) held answer left
