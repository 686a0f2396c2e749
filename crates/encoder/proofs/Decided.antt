-- The contract of `encode` decides its outcome: the answer, and what is lent to be written holds afterwards.
use mathlib.Core.Path.{sym, ◌∙◌}
use Rattle.refusals.proofs.Decided.{OneOutcome}
use Rattle.encoder.specs.Body.{Loan, loan}
use Rattle.encoder.proofs.body.encode.Reads as encode

-- the fourth to the seventh parameter are DESC, GRAND, the marks and the output
pub encode_decided : OneOutcome {Lent = Loan} encode.Learnt (λ k s. loan s.1.1.1.0.now s.1.1.1.1.0.now s.1.1.1.1.1.0.now s.1.1.1.1.1.1.0.now)
encode_decided k args r r' s s' p q = (p.answered ∙ sym q.answered, p.filled ∙ sym q.filled)
