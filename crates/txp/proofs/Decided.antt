-- The contract of each public function decides its outcome: the answer and what is lent to be written.
use mathlib.Core.Path.{◌≡◌, refl, sym, ap, ◌∙◌}
use mathlib.Core.Bool.{Bool}
use mathlib.Core.List.{List}
use Prim.Native.Nat.{ℕ}
use lib.ListN.{length}
use Rattle.std.specs.Prelude.{Ok, Err}
use Rattle.refusals.specs.Checks.{first_failing, Outcome}
use Rattle.refusals.proofs.Decided.{OneAnswer, OneOutcome}
use Rattle.sizes.specs.Sizes.{Sized}
use Rattle.nls.specs.Reading.{lower, midpoint}
use Rattle.nls.specs.Judging.{Verdict}
use Rattle.nls.proofs.Verdicts.{judged_only}
use Rattle.encoder.specs.Body.{Loan, loan}
use Rattle.decoder.specs.Body.{Tables, tables}
use Rattle.decoder.specs.declared.ending.Ending.{Ending}
use Rattle.txp.specs.declared.Header.{Header}
use Rattle.txp.specs.Header.{header_of}
use Rattle.txp.specs.File.{usable_bits, ending_of}
use Rattle.txp.specs.Calls.{decode_checks, decode_answer, DecodedFile, DecodesTo, Decodes, DecodeAnswer}
use Rattle.txp.proofs.CallLaws.{in_range}
use Rattle.txp.proofs.letters_fit.Reads as letters_fit
use Rattle.txp.proofs.version_fits.Reads as version_fits
use Rattle.txp.proofs.header_of.Reads as header_of_fn
use Rattle.txp.proofs.encode.Reads as encode
use Rattle.txp.proofs.read_header.Reads as read_header
use Rattle.txp.proofs.decode.Reads as decode
use Rattle.txp.proofs.decode_midpoint.Reads as decode_midpoint

pub letters_fit_decided : OneAnswer letters_fit.Learnt
letters_fit_decided k args r r' s s' p q = p ∙ sym q

pub version_fits_decided : OneAnswer version_fits.Learnt
version_fits_decided k args r r' s s' p q = p ∙ sym q

pub header_of_decided : OneAnswer header_of_fn.Learnt
header_of_decided k args r r' s s' p q = p ∙ sym q

-- DESC, GRAND, the marks and the output are the fourth to the seventh parameter
pub encode_decided : OneOutcome {Lent = Loan} encode.Learnt (λ k s. loan s.1.1.1.0.now s.1.1.1.1.0.now s.1.1.1.1.1.0.now s.1.1.1.1.1.1.0.now)
encode_decided k args r r' s s' p q = (p.answered ∙ sym q.answered, p.filled ∙ sym q.filled)

pub read_header_decided : OneAnswer read_header.Learnt
read_header_decided k args r r' s s' p q = p ∙ sym q

-- a file's header and usable bits decide the rest, where its sizes are in range: there is one verdict on the bits
module _ (rule : ℕ → ℕ → ℕ) (word : ℕ → ℕ → Ending) (h : Header) (u : List Bool) (held : Tables) (r r' : DecodeAnswer) (left left' : Tables) where
  one_verdict : Sized h.n h.l → DecodedFile rule word h u held r left → DecodedFile rule word h u held r' left' → (r ≡ r') × (left ≡ left')
  one_verdict z p q =
      let v : p.verdict ≡ q.verdict = judged_only h.n h.l z h.p u p.verdict q.verdict p.judged q.judged in
      (p.answered ∙ ap (λ (x : Verdict). decode_answer word h u x) v ∙ sym q.answered, p.filled ∙ rw v (sym q.filled))

  one_outcome : (o : Outcome) → (o ≡ Ok tt → Sized h.n h.l) → DecodesTo o rule word h u held r left → DecodesTo o rule word h u held r' left' → (r ≡ r') × (left ≡ left')
  one_outcome (Ok tt) z p q = one_verdict (z refl) p q
  one_outcome (Err why) z p q = (p.0 ∙ sym q.0, p.1 ∙ sym q.1)

-- so two outcomes of reading one file are equal
pub decodes_one : (rule : ℕ → ℕ → ℕ) (file : List ℕ) (held : Tables) (r r' : DecodeAnswer) (left left' : Tables) → Decodes rule file held r left → Decodes rule file held r' left' → (r ≡ r') × (left ≡ left')
decodes_one rule file held r r' left left' p q =
    one_outcome rule (ending_of file) (header_of file) (usable_bits file) held r r' left left'
    (first_failing (decode_checks file (length held.values) (length held.precisions) (length held.marks)))
    (in_range file (length held.values) (length held.precisions) (length held.marks)) p q

-- values, precisions and marks are the second to the fourth parameter
pub decode_decided : OneOutcome {Lent = Tables} decode.Learnt (λ k s. tables s.1.0.now s.1.1.0.now s.1.1.1.0.now)
decode_decided k args r r' s s' p q =
    decodes_one lower args.0.now (tables args.1.0.now args.1.1.0.now args.1.1.1.0.now) r r'
    (tables s.1.0.now s.1.1.0.now s.1.1.1.0.now) (tables s'.1.0.now s'.1.1.0.now s'.1.1.1.0.now) p q

pub decode_midpoint_decided : OneOutcome {Lent = Tables} decode_midpoint.Learnt (λ k s. tables s.1.0.now s.1.1.0.now s.1.1.1.0.now)
decode_midpoint_decided k args r r' s s' p q =
    decodes_one midpoint args.0.now (tables args.1.0.now args.1.1.0.now args.1.1.1.0.now) r r'
    (tables s.1.0.now s.1.1.0.now s.1.1.1.0.now) (tables s'.1.0.now s'.1.1.0.now s'.1.1.1.0.now) p q
