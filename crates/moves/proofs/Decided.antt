-- The contract of `go_on` decides its outcome: where the scan stands, and what is left in the table.
use mathlib.Core.Path.{sym, ◌∙◌}
use Rattle.refusals.proofs.Decided.{OneOutcome}
use Rattle.moves.proofs.go_on.Reads as go_on

-- the first parameter is the table
pub go_on_decided : OneOutcome go_on.Learnt (λ k s. s.0.now)
go_on_decided k args r r' s s' p q = (p.0 ∙ sym q.0, p.1 ∙ sym q.1)
