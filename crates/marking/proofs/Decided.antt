-- The contract of each public function decides its outcome: what is answered, and what is left in the table.
use mathlib.Core.Path.{refl, sym, ◌∙◌}
use Rattle.refusals.proofs.Decided.{OneAnswer, OneOutcome}
use Rattle.marking.proofs.skip.Reads as skip
use Rattle.marking.proofs.set_skip.Reads as set_skip
use Rattle.marking.proofs.fill.Reads as fill
use Rattle.marking.proofs.split_desc.Reads as split_desc
use Rattle.marking.proofs.split_grand.Reads as split_grand
use Rattle.marking.proofs.same_four.Reads as same_four
use Rattle.marking.proofs.set_four.Reads as set_four
use Rattle.marking.proofs.start.Reads as start

pub skip_decided : OneAnswer skip.Learnt
skip_decided k args r r' s s' p q = p ∙ sym q

pub set_skip_decided : OneAnswer set_skip.Learnt
set_skip_decided k args r r' s s' p q = p ∙ sym q

-- the first parameter is the table
pub fill_decided : OneOutcome fill.Learnt (λ k s. s.0.now)
fill_decided k args r r' s s' p q = (refl, p ∙ sym q)

pub split_desc_decided : OneOutcome split_desc.Learnt (λ k s. s.0.now)
split_desc_decided k args r r' s s' p q = (refl, p ∙ sym q)

pub split_grand_decided : OneOutcome split_grand.Learnt (λ k s. s.0.now)
split_grand_decided k args r r' s s' p q = (refl, p ∙ sym q)

pub same_four_decided : OneAnswer same_four.Learnt
same_four_decided k args r r' s s' p q = p ∙ sym q

pub set_four_decided : OneOutcome set_four.Learnt (λ k s. s.0.now)
set_four_decided k args r r' s s' p q = (refl, p ∙ sym q)

pub start_decided : OneOutcome start.Learnt (λ k s. s.0.now)
start_decided k args r r' s s' p q = (refl, p ∙ sym q)
