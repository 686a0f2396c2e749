-- The contract of each public function decides its outcome: the answer, and the lent buffer, which is the first parameter.
use mathlib.Core.Path.{sym, ◌∙◌}
use mathlib.Core.List.{List}
use Prim.Native.Nat.{ℕ}
use Rattle.refusals.proofs.Decided.{OneOutcome}
use Rattle.decimal.proofs.put.Reads as put
use Rattle.decimal.proofs.put_signed.Reads as put_signed

pub put_decided : OneOutcome {Lent = List ℕ} put.Learnt (λ k s. s.0.now)
put_decided k args r r' s s' p q = (p.0 ∙ sym q.0, p.1 ∙ sym q.1)

pub put_signed_decided : OneOutcome {Lent = List ℕ} put_signed.Learnt (λ k s. s.0.now)
put_signed_decided k args r r' s s' p q = (p.0 ∙ sym q.0, p.1 ∙ sym q.1)
