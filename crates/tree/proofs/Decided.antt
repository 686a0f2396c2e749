-- The contract of each public function decides its outcome: the answer, and what both tables hold after `summaries` and after `fill`.
use mathlib.Core.Path.{◌≡◌, sym, ◌∙◌}
use mathlib.Core.List.{List}
use Prim.Native.Nat.{ℕ}
use Rattle.refusals.proofs.Decided.{OneAnswer, OneOutcome}
use Rattle.tree.proofs.check.Reads as check
use Rattle.tree.proofs.check_by.Reads as check_by
use Rattle.tree.proofs.fill.Reads as fill
use Rattle.tree.proofs.summaries.Reads as summaries

pub check_decided : OneAnswer check.Learnt
check_decided k args r r' s s' p q = p ∙ sym q

pub check_by_decided : OneAnswer check_by.Learnt
check_by_decided k args r r' s s' p q = p ∙ sym q

-- the fourth and the fifth parameter are DESC and GRAND
pub fill_decided : OneOutcome {Lent = List ℕ × List ℕ} fill.Learnt (λ k s. (s.1.1.1.0.now, s.1.1.1.1.0.now))
fill_decided k args r r' s s' p q =
    let e : r ≡ r' = p.0 ∙ sym q.0 in
    let desc : s.1.1.1.0.now ≡ s'.1.1.1.0.now = p.1.0 ∙ rw e (sym q.1.0) in
    let grand : s.1.1.1.1.0.now ≡ s'.1.1.1.1.0.now = p.1.1 ∙ rw e (sym q.1.1) in
    (e, cc)

pub summaries_decided : OneOutcome {Lent = List ℕ × List ℕ} summaries.Learnt (λ k s. (s.1.1.1.0.now, s.1.1.1.1.0.now))
summaries_decided k args r r' s s' p q =
    let e : r ≡ r' = p.0 ∙ sym q.0 in
    let desc : s.1.1.1.0.now ≡ s'.1.1.1.0.now = p.1.0 ∙ rw e (sym q.1.0) in
    let grand : s.1.1.1.1.0.now ≡ s'.1.1.1.1.0.now = p.1.1 ∙ rw e (sym q.1.1) in
    (e, cc)
