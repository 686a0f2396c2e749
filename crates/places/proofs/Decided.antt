-- The contract of each public function decides its outcome: the answer and, of the reorderings, what the output holds afterwards.
use mathlib.Core.Path.{◌≡◌, sym, ◌∙◌}
use Rattle.refusals.proofs.Decided.{OneAnswer, OneOutcome}
use Rattle.places.proofs.linear_at.Reads as linear_at
use Rattle.places.proofs.linear_number.Reads as linear_number
use Rattle.places.proofs.raster_at.Reads as raster_at
use Rattle.places.proofs.raster_number.Reads as raster_number
use Rattle.places.proofs.reorder_to_linear.Reads as reorder_to_linear
use Rattle.places.proofs.reorder_to_raster.Reads as reorder_to_raster
use Rattle.places.proofs.to_linear.Reads as to_linear
use Rattle.places.proofs.to_raster.Reads as to_raster

pub raster_number_decided : OneAnswer raster_number.Learnt
raster_number_decided k args r r' s s' p q = p ∙ sym q

pub linear_number_decided : OneAnswer linear_number.Learnt
linear_number_decided k args r r' s s' p q = p ∙ sym q

pub raster_at_decided : OneAnswer raster_at.Learnt
raster_at_decided k args r r' s s' p q = p ∙ sym q

pub linear_at_decided : OneAnswer linear_at.Learnt
linear_at_decided k args r r' s s' p q = p ∙ sym q

pub to_linear_decided : OneAnswer to_linear.Learnt
to_linear_decided k args r r' s s' p q = p ∙ sym q

pub to_raster_decided : OneAnswer to_raster.Learnt
to_raster_decided k args r r' s s' p q = p ∙ sym q

-- the third parameter is the output
pub reorder_to_linear_decided : OneOutcome reorder_to_linear.Learnt (λ k s. s.1.1.0.now)
reorder_to_linear_decided k args r r' s s' p q =
    let e : r ≡ r' = p.0 ∙ sym q.0 in (e, p.1 ∙ rw e (sym q.1))

pub reorder_to_raster_decided : OneOutcome reorder_to_raster.Learnt (λ k s. s.1.1.0.now)
reorder_to_raster_decided k args r r' s s' p q =
    let e : r ≡ r' = p.0 ∙ sym q.0 in (e, p.1 ∙ rw e (sym q.1))
