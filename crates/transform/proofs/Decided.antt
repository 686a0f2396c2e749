-- The contract of each public function decides its outcome: the answer, and what the output and the work table hold afterwards.
use mathlib.Core.Path.{◌≡◌, sym, ◌∙◌}
use mathlib.Core.List.{List}
use lib.IntN.{ℤ}
use Rattle.refusals.proofs.Decided.{OneOutcome}
use Rattle.transform.proofs.forward.Reads as forward
use Rattle.transform.proofs.inverse.Reads as inverse

-- the fourth and the fifth parameter are the output and the work table
pub forward_decided : OneOutcome {Lent = List ℤ × List ℤ} forward.Learnt (λ k s. (s.1.1.1.0.now, s.1.1.1.1.0.now))
forward_decided k args r r' s s' p q =
    let e : r ≡ r' = p.answered ∙ sym q.answered in
    let out : s.1.1.1.0.now ≡ s'.1.1.1.0.now = p.filled ∙ rw e (sym q.filled) in
    let work : s.1.1.1.1.0.now ≡ s'.1.1.1.1.0.now = p.cleared ∙ rw e (sym q.cleared) in
    (e, λ i. (out i, work i))

pub inverse_decided : OneOutcome {Lent = List ℤ × List ℤ} inverse.Learnt (λ k s. (s.1.1.1.0.now, s.1.1.1.1.0.now))
inverse_decided k args r r' s s' p q =
    let out : s.1.1.1.0.now ≡ s'.1.1.1.0.now = p.filled ∙ sym q.filled in
    let work : s.1.1.1.1.0.now ≡ s'.1.1.1.1.0.now = p.cleared ∙ sym q.cleared in
    (p.answered ∙ sym q.answered, λ i. (out i, work i))
