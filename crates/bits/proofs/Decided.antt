-- The contract of each public function decides its outcome: what is answered, and what `put` leaves in the body.
use mathlib.Core.Path.{refl, sym, ◌∙◌}
use Rattle.refusals.proofs.Decided.{OneAnswer, OneOutcome}
use Rattle.bits.proofs.bit_of.Reads as bit_of
use Rattle.bits.proofs.bit_in.Reads as bit_in
use Rattle.bits.proofs.fetch.Reads as fetch
use Rattle.bits.proofs.with_bit.Reads as with_bit
use Rattle.bits.proofs.put.Reads as put

pub bit_of_decided : OneAnswer bit_of.Learnt
bit_of_decided k args r r' s s' p q = p ∙ sym q

pub bit_in_decided : OneAnswer bit_in.Learnt
bit_in_decided k args r r' s s' p q = p ∙ sym q

pub fetch_decided : OneAnswer fetch.Learnt
fetch_decided k args r r' s s' p q = p ∙ sym q

pub with_bit_decided : OneAnswer with_bit.Learnt
with_bit_decided k args r r' s s' p q = p ∙ sym q

-- the first parameter is the body
pub put_decided : OneOutcome put.Learnt (λ k s. s.0.now)
put_decided k args r r' s s' p q = (refl, p ∙ sym q)
