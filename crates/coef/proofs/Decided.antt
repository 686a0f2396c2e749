-- The contract of each public function decides its answer: that of `planes` by its being the least, the others by an equation.
use mathlib.Core.Path.{sym, ◌∙◌}
use Rattle.refusals.proofs.Decided.{OneAnswer}
use Rattle.coef.proofs.Laws.{planes_one}
use Rattle.coef.proofs.first_over.Reads as first_over
use Rattle.coef.proofs.first_over_by.Reads as first_over_by
use Rattle.coef.proofs.float_of.Reads as float_of
use Rattle.coef.proofs.is_negative.Reads as is_negative
use Rattle.coef.proofs.join_of.Reads as join_of
use Rattle.coef.proofs.magnitude.Reads as magnitude
use Rattle.coef.proofs.part_of.Reads as part_of
use Rattle.coef.proofs.planes.Reads as planes

pub is_negative_decided : OneAnswer is_negative.Learnt
is_negative_decided k args r r' s s' p q = p ∙ sym q

pub magnitude_decided : OneAnswer magnitude.Learnt
magnitude_decided k args r r' s s' p q = p ∙ sym q

pub part_of_decided : OneAnswer part_of.Learnt
part_of_decided k args r r' s s' p q = p ∙ sym q

pub join_of_decided : OneAnswer join_of.Learnt
join_of_decided k args r r' s s' p q = p ∙ sym q

pub first_over_decided : OneAnswer first_over.Learnt
first_over_decided k args r r' s s' p q = p ∙ sym q

pub first_over_by_decided : OneAnswer first_over_by.Learnt
first_over_by_decided k args r r' s s' p q = p ∙ sym q

pub planes_decided : OneAnswer planes.Learnt
planes_decided k args r r' s s' p q = planes_one p q

pub float_of_decided : OneAnswer float_of.Learnt
float_of_decided k args r r' s s' p q = p.0 ∙ sym q.0
