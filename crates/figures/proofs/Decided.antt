-- The contract of each public function decides its outcome: the answer and what the lent tables hold afterwards.
use mathlib.Core.Path.{◌≡◌, sym, ◌∙◌}
use mathlib.Core.List.{List}
use Prim.Native.Nat.{ℕ}
use Rattle.refusals.proofs.Decided.{OneOutcome}
use Rattle.figures.proofs.figures_of.Reads as figures_of
use Rattle.figures.proofs.figures_of_all.Reads as figures_of_all

-- the fifth and the sixth parameter are DESC and GRAND
pub figures_of_decided : OneOutcome {Lent = List ℕ × List ℕ} figures_of.Learnt (λ k s. (s.1.1.1.1.0.now, s.1.1.1.1.1.0.now))
figures_of_decided k args r r' s s' p q =
    let e : r ≡ r' = p.0 ∙ sym q.0 in
    let desc : s.1.1.1.1.0.now ≡ s'.1.1.1.1.0.now = p.1.0 ∙ rw e (sym q.1.0) in
    let grand : s.1.1.1.1.1.0.now ≡ s'.1.1.1.1.1.0.now = p.1.1 ∙ rw e (sym q.1.1) in
    (e, cc)

-- the fourth, the fifth and the sixth parameter are DESC, GRAND and the output
pub figures_of_all_decided : OneOutcome {Lent = List ℕ × List ℕ × List ℕ} figures_of_all.Learnt (λ k s. (s.1.1.1.0.now, s.1.1.1.1.0.now, s.1.1.1.1.1.0.now))
figures_of_all_decided k args r r' s s' p q =
    let e : r ≡ r' = p.0 ∙ sym q.0 in
    let desc : s.1.1.1.0.now ≡ s'.1.1.1.0.now = p.1.0 ∙ rw e (sym q.1.0) in
    let grand : s.1.1.1.1.0.now ≡ s'.1.1.1.1.0.now = p.1.1.0 ∙ rw e (sym q.1.1.0) in
    let out : s.1.1.1.1.1.0.now ≡ s'.1.1.1.1.1.0.now = p.1.1.1 ∙ rw e (sym q.1.1.1) in
    (e, cc)
