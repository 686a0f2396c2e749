-- The contract of the public function decides its outcome: where the scan stands, and what is left in the table of marks.
use mathlib.Core.Path.{sym, ◌∙◌}
use Rattle.refusals.proofs.Decided.{OneOutcome}
use Rattle.undo.proofs.go_back.Reads as go_back

-- the first parameter is the table
pub go_back_decided : OneOutcome go_back.Learnt (λ k s. s.0.now)
go_back_decided k args r r' s s' p q = (p.0 ∙ sym q.0, p.1 ∙ sym q.1)
