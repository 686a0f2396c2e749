-- The contract of each public function decides its outcome: the answer, and what is lent to be written holds afterwards.
use mathlib.Core.Path.{◌≡◌, refl, sym, ap, ◌∙◌}
use mathlib.Core.Bool.{Bool}
use mathlib.Core.List.{List}
use Prim.Native.Nat.{ℕ}
use lib.ListN.{length}
use Rattle.std.specs.Prelude.{Ok, Err}
use Rattle.refusals.specs.Checks.{first_failing, Outcome}
use Rattle.refusals.proofs.Decided.{OneAnswer, OneOutcome}
use Rattle.sizes.specs.Sizes.{Sized, all_of}
use Rattle.sizes.proofs.Laws.{sized}
use Rattle.nls.specs.Reading.{lower, midpoint}
use Rattle.nls.specs.Judging.{Verdict}
use Rattle.nls.proofs.Verdicts.{judged_only}
use Rattle.room.specs.Room.{read_checks, body_bits}
use Rattle.room.proofs.Laws.{decode_ready}
use Rattle.decoder.specs.Body.{read_answer, Tables, tables, own_tables, over, BodyRead, ReadsTo, ReadsBy, ReadAnswer}
use Rattle.decoder.specs.Ending.{ending}
use Rattle.decoder.specs.Rules.{rule_of}
use Rattle.decoder.specs.declared.ending.Ending.{Ending}
use Rattle.decoder.proofs.body.decode.Reads as decode
use Rattle.decoder.proofs.body.decode_by.Reads as decode_by
use Rattle.decoder.proofs.body.decode_midpoint.Reads as decode_midpoint
use Rattle.decoder.proofs.ending.word_of.Reads as word_of
use Rattle.decoder.proofs.ending.ending_of.Reads as Ending_of

pub word_of_decided : OneAnswer word_of.Learnt
word_of_decided k args r r' s s' p q = p ∙ sym q

pub ending_of_decided : OneAnswer Ending_of.Learnt
ending_of_decided k args r r' s s' p q = p ∙ sym q

-- two readings of one body have one verdict
decoded_one : (rule : ℕ → ℕ → ℕ) (word : ℕ → ℕ → Ending) (N L P : ℕ) (u : List Bool) (held : Tables) → Sized N L → (r r' : ReadAnswer) (t t' : Tables) → BodyRead rule word N L P u held r t → BodyRead rule word N L P u held r' t' → (r ≡ r') × (t ≡ t')
decoded_one rule word N L P u held z r r' t t' p q =
    let same : p.verdict ≡ q.verdict = judged_only N L z P u p.verdict q.verdict p.judged q.judged in (
      p.answered ∙ ap (λ (v : Verdict). read_answer word N L P u v) same ∙ sym q.answered,
      p.filled ∙ ap (λ (v : Verdict). over (all_of N) (own_tables rule N L P u v) held) same ∙ sym q.filled,
    )

pub reads_one : (rule : ℕ → ℕ → ℕ) (word : ℕ → ℕ → Ending) (N L P n : ℕ) (body : List ℕ) (held : Tables) (r r' : ReadAnswer) (t t' : Tables) → ReadsBy rule word N L P n body held r t → ReadsBy rule word N L P n body held r' t' → (r ≡ r') × (t ≡ t')
reads_one rule word N L P n body held r r' t t' = go checks refl
  where
    checks : Outcome
    checks = first_failing (read_checks N L P (length held.values) (length held.precisions) (length held.marks))

    u : List Bool
    u = body_bits n body

    go : (o : Outcome) → checks ≡ o → ReadsTo o rule word N L P u held r t → ReadsTo o rule word N L P u held r' t' → (r ≡ r') × (t ≡ t')
    go (Ok tt) e p q = decoded_one rule word N L P u held (sized N L (decode_ready N L P (length held.values) (length held.precisions) (length held.marks) (sym e)).levels) r r' t t' p q
    go (Err why) e p q = (p.0 ∙ sym q.0, p.1 ∙ sym q.1)

-- the sixth to the eighth parameter are the values, the precisions and the marks
pub decode_by_decided : OneOutcome {Lent = Tables} decode_by.Learnt (λ k s. tables s.1.1.1.1.1.0.now s.1.1.1.1.1.1.0.now s.1.1.1.1.1.1.1.0.now)
decode_by_decided k args r r' s s' p q =
    reads_one (rule_of args.1.1.1.1.1.1.1.1.0) (ending args.1.1.1.1.0 args.1.1.1.0.now) args.0 args.1.0 args.1.1.0 args.1.1.1.1.0 args.1.1.1.0.now (tables args.1.1.1.1.1.0.now args.1.1.1.1.1.1.0.now args.1.1.1.1.1.1.1.0.now) r r'
    (tables s.1.1.1.1.1.0.now s.1.1.1.1.1.1.0.now s.1.1.1.1.1.1.1.0.now)
    (tables s'.1.1.1.1.1.0.now s'.1.1.1.1.1.1.0.now s'.1.1.1.1.1.1.1.0.now) p q

pub decode_decided : OneOutcome {Lent = Tables} decode.Learnt (λ k s. tables s.1.1.1.1.1.0.now s.1.1.1.1.1.1.0.now s.1.1.1.1.1.1.1.0.now)
decode_decided k args r r' s s' p q =
    reads_one lower (ending args.1.1.1.1.0 args.1.1.1.0.now) args.0 args.1.0 args.1.1.0 args.1.1.1.1.0 args.1.1.1.0.now (tables args.1.1.1.1.1.0.now args.1.1.1.1.1.1.0.now args.1.1.1.1.1.1.1.0.now) r r'
    (tables s.1.1.1.1.1.0.now s.1.1.1.1.1.1.0.now s.1.1.1.1.1.1.1.0.now)
    (tables s'.1.1.1.1.1.0.now s'.1.1.1.1.1.1.0.now s'.1.1.1.1.1.1.1.0.now) p q

pub decode_midpoint_decided : OneOutcome {Lent = Tables} decode_midpoint.Learnt (λ k s. tables s.1.1.1.1.1.0.now s.1.1.1.1.1.1.0.now s.1.1.1.1.1.1.1.0.now)
decode_midpoint_decided k args r r' s s' p q =
    reads_one midpoint (ending args.1.1.1.1.0 args.1.1.1.0.now) args.0 args.1.0 args.1.1.0 args.1.1.1.1.0 args.1.1.1.0.now (tables args.1.1.1.1.1.0.now args.1.1.1.1.1.1.0.now args.1.1.1.1.1.1.1.0.now) r r'
    (tables s.1.1.1.1.1.0.now s.1.1.1.1.1.1.0.now s.1.1.1.1.1.1.1.0.now)
    (tables s'.1.1.1.1.1.0.now s'.1.1.1.1.1.1.0.now s'.1.1.1.1.1.1.1.0.now) p q
