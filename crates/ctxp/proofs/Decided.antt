-- The contract of each exported function decides its outcome: the result, and what is lent to be written, the answer among it.
-- The lent answer is the last parameter of each.
use mathlib.Core.Path.{◌≡◌, refl, sym, ap, ◌∙◌}
use mathlib.Core.List.{List}
use Prim.Native.Nat.{ℕ}
use lib.IntN.{ℤ}
use lib.Ieee.{Float}
use lib.ListN.{get_or}
use Rattle.refusals.proofs.Decided.{OneOutcome}
use Rattle.transform.specs.Transform.{coefficients_of}
use Rattle.transform.specs.Answers.{all_zero}
use Rattle.nls.specs.Reading.{lower, midpoint}
use Rattle.encoder.specs.Body.{Loan, loan}
use Rattle.decoder.specs.Body.{Tables, tables, ReadAnswer}
use Rattle.decoder.specs.Ending.{ending}
use Rattle.decoder.proofs.Decided.{reads_one}
use Rattle.steps.specs.declared.Record.{Record}
use Rattle.steps.proofs.One.{starts_one, forwards_one, backs_one, turns_one}
use Rattle.txp.proofs.Decided.{decodes_one}
use Rattle.ctxp.specs.Answers.{Answers, of_outcome, of_encoded, of_decoded, of_written, of_read}
use Rattle.ctxp.specs.Lent.{FileDecoded, BodyDecoded, dial_of, numbers_of}
use Rattle.ctxp.proofs.Laws.{lent_by}
use Rattle.ctxp.proofs.txp_decode.Reads as decode
use Rattle.ctxp.proofs.txp_decode_body.Reads as decode_body
use Rattle.ctxp.proofs.txp_decode_midpoint.Reads as decode_midpoint
use Rattle.ctxp.proofs.txp_decode_body_midpoint.Reads as decode_body_midpoint
use Rattle.ctxp.proofs.txp_start.Reads as start
use Rattle.ctxp.proofs.txp_forward.Reads as forward
use Rattle.ctxp.proofs.txp_back.Reads as back
use Rattle.ctxp.proofs.txp_turn.Reads as turn
use Rattle.ctxp.proofs.txp_encode.Reads as encode
use Rattle.ctxp.proofs.txp_header.Reads as header
use Rattle.ctxp.proofs.txp_worst_body.Reads as worst_body
use Rattle.ctxp.proofs.txp_encode_body.Reads as encode_body
use Rattle.ctxp.proofs.txp_transform.Reads as transform
use Rattle.ctxp.proofs.txp_restore.Reads as restore
use Rattle.ctxp.proofs.txp_summaries.Reads as summaries
use Rattle.ctxp.proofs.txp_figures.Reads as figures
use Rattle.ctxp.proofs.txp_figures_all.Reads as figures_all
use Rattle.ctxp.proofs.txp_to_linear.Reads as to_linear
use Rattle.ctxp.proofs.txp_to_raster.Reads as to_raster
use Rattle.ctxp.proofs.txp_linear_place.Reads as linear_place
use Rattle.ctxp.proofs.txp_raster_place.Reads as raster_place
use Rattle.ctxp.proofs.txp_planes.Reads as planes
use Rattle.ctxp.proofs.txp_is_negative.Reads as is_negative
use Rattle.ctxp.proofs.txp_magnitude.Reads as magnitude
use Rattle.ctxp.proofs.txp_part.Reads as part
use Rattle.ctxp.proofs.txp_join.Reads as join
use Rattle.ctxp.proofs.txp_float.Reads as float
use Rattle.ctxp.proofs.txp_bit.Reads as bit
use Rattle.ctxp.proofs.txp_read_bit.Reads as read_bit
use Rattle.ctxp.proofs.txp_put_bit.Reads as put_bit
use Rattle.ctxp.proofs.txp_side_fits.Reads as side_fits
use Rattle.ctxp.proofs.txp_levels_fit.Reads as levels_fit
use Rattle.ctxp.proofs.txp_all.Reads as all
use Rattle.ctxp.proofs.txp_coarsest.Reads as coarsest

-- results and lent answers that say the same are equal
pub one_answer : {a a' : List ℕ} {r r' : ℕ} {held held' : List ℕ} → a ≡ a' → Answers r held a → Answers r' held' a' → (r ≡ r') × (held ≡ held')
one_answer e p q = (p.0 ∙ ap (λ (x : List ℕ). get_or x 0 0) e ∙ sym q.0, p.1 ∙ e ∙ sym q.1)

-- encoding: DESC, GRAND, the marks and the output are the fourth to the seventh parameter
pub encode_decided : OneOutcome {Lent = List ℕ × Loan} encode.Learnt
    (λ k s. (s.1.1.1.1.1.1.1.1.0.now, loan s.1.1.1.0.now s.1.1.1.1.0.now s.1.1.1.1.1.0.now s.1.1.1.1.1.1.0.now))
encode_decided k args r r' s s' p q =
    let one = one_answer (ap of_encoded (p.encodes.answered ∙ sym q.encodes.answered)) p.answers q.answers in
    (one.0, λ i. (one.1 i, (p.encodes.filled ∙ sym q.encodes.filled) i))

pub header_decided : OneOutcome {Lent = List ℕ} header.Learnt (λ k s. s.1.0.now)
header_decided k args r r' s s' p q = one_answer refl p q

pub worst_body_decided : OneOutcome {Lent = List ℕ} worst_body.Learnt (λ k s. s.1.1.1.0.now)
worst_body_decided k args r r' s s' p q = one_answer refl p q

pub encode_body_decided : OneOutcome {Lent = List ℕ × Loan} encode_body.Learnt
    (λ k s. (s.1.1.1.1.1.1.1.1.1.0.now, loan s.1.1.1.0.now s.1.1.1.1.0.now s.1.1.1.1.1.0.now s.1.1.1.1.1.1.0.now))
encode_body_decided k args r r' s s' p q =
    let one = one_answer (ap of_written (p.encodes.answered ∙ sym q.encodes.answered)) p.answers q.answers in
    (one.0, λ i. (one.1 i, (p.encodes.filled ∙ sym q.encodes.filled) i))

-- the transform and its inverse: the output and the work table are the fourth and the fifth parameter
pub transform_decided : OneOutcome {Lent = List ℕ × List ℤ × List ℤ} transform.Learnt
    (λ k s. (s.1.1.1.1.1.0.now, s.1.1.1.0.now, s.1.1.1.1.0.now))
transform_decided k args r r' s s' p q =
    let same = p.transforms.answered ∙ sym q.transforms.answered in
    let one = one_answer (ap of_outcome same) p.answers q.answers in
    let lent1 : s.1.1.1.0.now ≡ s'.1.1.1.0.now = lent_by p.said q.said (coefficients_of args.0 args.1.0 args.1.1.0.now) args.1.1.1.0.now same p.transforms.filled ∙ sym q.transforms.filled in
    let lent2 : s.1.1.1.1.0.now ≡ s'.1.1.1.1.0.now = lent_by p.said q.said (all_zero args.0) args.1.1.1.1.0.now same p.transforms.cleared ∙ sym q.transforms.cleared in
    (one.0, λ i. (one.1 i, lent1 i, lent2 i))

pub restore_decided : OneOutcome {Lent = List ℕ × List ℤ × List ℤ} restore.Learnt
    (λ k s. (s.1.1.1.1.1.0.now, s.1.1.1.0.now, s.1.1.1.1.0.now))
restore_decided k args r r' s s' p q =
    let one = one_answer (ap of_outcome (p.restores.answered ∙ sym q.restores.answered)) p.answers q.answers in
    let lent1 : s.1.1.1.0.now ≡ s'.1.1.1.0.now = p.restores.filled ∙ sym q.restores.filled in
    let lent2 : s.1.1.1.1.0.now ≡ s'.1.1.1.1.0.now = p.restores.cleared ∙ sym q.restores.cleared in
    (one.0, λ i. (one.1 i, lent1 i, lent2 i))

pub summaries_decided : OneOutcome {Lent = List ℕ × List ℕ × List ℕ} summaries.Learnt
    (λ k s. (s.1.1.1.1.1.0.now, s.1.1.1.0.now, s.1.1.1.1.0.now))
summaries_decided k args r r' s s' p q =
    let one = one_answer refl p.0 q.0 in
    let lent1 : s.1.1.1.0.now ≡ s'.1.1.1.0.now = p.1.0 ∙ sym q.1.0 in
    let lent2 : s.1.1.1.1.0.now ≡ s'.1.1.1.1.0.now = p.1.1 ∙ sym q.1.1 in
    (one.0, λ i. (one.1 i, lent1 i, lent2 i))

pub figures_decided : OneOutcome {Lent = List ℕ × List ℕ × List ℕ} figures.Learnt
    (λ k s. (s.1.1.1.1.1.1.0.now, s.1.1.1.1.0.now, s.1.1.1.1.1.0.now))
figures_decided k args r r' s s' p q =
    let one = one_answer refl p.0 q.0 in
    let lent1 : s.1.1.1.1.0.now ≡ s'.1.1.1.1.0.now = p.1.0 ∙ sym q.1.0 in
    let lent2 : s.1.1.1.1.1.0.now ≡ s'.1.1.1.1.1.0.now = p.1.1 ∙ sym q.1.1 in
    (one.0, λ i. (one.1 i, lent1 i, lent2 i))

pub figures_all_decided : OneOutcome {Lent = List ℕ × List ℕ × List ℕ × List ℕ} figures_all.Learnt
    (λ k s. (s.1.1.1.1.1.1.0.now, s.1.1.1.0.now, s.1.1.1.1.0.now, s.1.1.1.1.1.0.now))
figures_all_decided k args r r' s s' p q =
    let one = one_answer refl p.0 q.0 in
    let lent1 : s.1.1.1.0.now ≡ s'.1.1.1.0.now = p.1.0 ∙ sym q.1.0 in
    let lent2 : s.1.1.1.1.0.now ≡ s'.1.1.1.1.0.now = p.1.1.0 ∙ sym q.1.1.0 in
    let lent3 : s.1.1.1.1.1.0.now ≡ s'.1.1.1.1.1.0.now = p.1.1.1 ∙ sym q.1.1.1 in
    (one.0, λ i. (one.1 i, lent1 i, lent2 i, lent3 i))

pub to_linear_decided : OneOutcome {Lent = List ℕ × List ℤ} to_linear.Learnt
    (λ k s. (s.1.1.1.0.now, s.1.1.0.now))
to_linear_decided k args r r' s s' p q =
    let one = one_answer refl p.0 q.0 in
    let lent1 : s.1.1.0.now ≡ s'.1.1.0.now = p.1 ∙ sym q.1 in
    (one.0, λ i. (one.1 i, lent1 i))

pub to_raster_decided : OneOutcome {Lent = List ℕ × List ℤ} to_raster.Learnt
    (λ k s. (s.1.1.1.0.now, s.1.1.0.now))
to_raster_decided k args r r' s s' p q =
    let one = one_answer refl p.0 q.0 in
    let lent1 : s.1.1.0.now ≡ s'.1.1.0.now = p.1 ∙ sym q.1 in
    (one.0, λ i. (one.1 i, lent1 i))

pub linear_place_decided : OneOutcome {Lent = List ℕ} linear_place.Learnt (λ k s. s.1.1.0.now)
linear_place_decided k args r r' s s' p q = one_answer refl p q

pub raster_place_decided : OneOutcome {Lent = List ℕ} raster_place.Learnt (λ k s. s.1.1.0.now)
raster_place_decided k args r r' s s' p q = one_answer refl p q

pub planes_decided : OneOutcome {Lent = List ℕ} planes.Learnt (λ k s. s.1.0.now)
planes_decided k args r r' s s' p q = one_answer refl p q

pub is_negative_decided : OneOutcome {Lent = List ℕ} is_negative.Learnt (λ k s. s.1.0.now)
is_negative_decided k args r r' s s' p q = one_answer refl p q

pub magnitude_decided : OneOutcome {Lent = List ℕ} magnitude.Learnt (λ k s. s.1.0.now)
magnitude_decided k args r r' s s' p q = one_answer refl p q

pub part_decided : OneOutcome {Lent = List ℕ} part.Learnt (λ k s. s.1.0.now)
part_decided k args r r' s s' p q = one_answer refl p q

pub join_decided : OneOutcome {Lent = List ℕ × ℤ} join.Learnt
    (λ k s. (s.1.1.1.0.now, s.1.1.0.now))
join_decided k args r r' s s' p q =
    let one = one_answer refl p.0 q.0 in
    let lent1 : s.1.1.0.now ≡ s'.1.1.0.now = p.1 ∙ sym q.1 in
    (one.0, λ i. (one.1 i, lent1 i))

pub float_decided : OneOutcome {Lent = List ℕ × Float} float.Learnt
    (λ k s. (s.1.1.0.now, s.1.0.now))
float_decided k args r r' s s' p q =
    let one = one_answer refl p.0 q.0 in
    let lent1 : s.1.0.now ≡ s'.1.0.now = p.1 ∙ sym q.1 in
    (one.0, λ i. (one.1 i, lent1 i))

pub bit_decided : OneOutcome {Lent = List ℕ} bit.Learnt (λ k s. s.1.1.0.now)
bit_decided k args r r' s s' p q = one_answer refl p q

pub read_bit_decided : OneOutcome {Lent = List ℕ} read_bit.Learnt (λ k s. s.1.1.1.0.now)
read_bit_decided k args r r' s s' p q = one_answer refl p q

pub put_bit_decided : OneOutcome {Lent = List ℕ × List ℕ} put_bit.Learnt
    (λ k s. (s.1.1.1.0.now, s.0.now))
put_bit_decided k args r r' s s' p q =
    let one = one_answer refl p.0 q.0 in
    let lent1 : s.0.now ≡ s'.0.now = p.1 ∙ sym q.1 in
    (one.0, λ i. (one.1 i, lent1 i))

pub side_fits_decided : OneOutcome {Lent = List ℕ} side_fits.Learnt (λ k s. s.1.0.now)
side_fits_decided k args r r' s s' p q = one_answer refl p q

pub levels_fit_decided : OneOutcome {Lent = List ℕ} levels_fit.Learnt (λ k s. s.1.1.0.now)
levels_fit_decided k args r r' s s' p q = one_answer refl p q

pub all_decided : OneOutcome {Lent = List ℕ} all.Learnt (λ k s. s.1.0.now)
all_decided k args r r' s s' p q = one_answer refl p q

pub coarsest_decided : OneOutcome {Lent = List ℕ} coarsest.Learnt (λ k s. s.1.1.0.now)
coarsest_decided k args r r' s s' p q = one_answer refl p q

-- decoding: two outcomes of reading one file, or one body, are equal
file_one : (rule : ℕ → ℕ → ℕ) (bytes : List ℕ) (held : Tables) (r r' : ℕ) (a a' : List ℕ) (left left' : Tables) → FileDecoded rule bytes held r a left → FileDecoded rule bytes held r' a' left'
    → (r ≡ r') × (a ≡ a') × (left ≡ left')
file_one rule bytes held r r' a a' left left' p q =
    let one = decodes_one rule bytes held p.said q.said left left' p.decodes q.decodes in
    let said = one_answer (ap of_decoded one.0) p.answers q.answers in
    (said.0, said.1, one.1)

body_one : (rule : ℕ → ℕ → ℕ) (N L P declared : ℕ) (bytes : List ℕ) (held : Tables) (r r' : ℕ) (a a' : List ℕ) (left left' : Tables)
    → BodyDecoded rule N L P declared bytes held r a left → BodyDecoded rule N L P declared bytes held r' a' left' → (r ≡ r') × (a ≡ a') × (left ≡ left')
body_one rule N L P declared bytes held r r' a a' left left' p q =
    let one = reads_one rule (ending declared bytes) N L P declared bytes held p.said q.said left left' p.decodes q.decodes in
    let said = one_answer (ap of_read one.0) p.answers q.answers in
    (said.0, said.1, one.1)

pub decode_decided : OneOutcome {Lent = List ℕ × Tables} decode.Learnt (λ k s. (s.1.1.1.1.0.now, tables s.1.0.now s.1.1.0.now s.1.1.1.0.now))
decode_decided k args r r' s s' p q =
    let one = file_one lower args.0.now (tables args.1.0.now args.1.1.0.now args.1.1.1.0.now) r r' s.1.1.1.1.0.now s'.1.1.1.1.0.now (tables s.1.0.now s.1.1.0.now s.1.1.1.0.now) (tables s'.1.0.now s'.1.1.0.now s'.1.1.1.0.now) p q in
    (one.0, λ i. (one.1 i, one.2 i))

pub decode_midpoint_decided : OneOutcome {Lent = List ℕ × Tables} decode_midpoint.Learnt (λ k s. (s.1.1.1.1.0.now, tables s.1.0.now s.1.1.0.now s.1.1.1.0.now))
decode_midpoint_decided k args r r' s s' p q =
    let one = file_one midpoint args.0.now (tables args.1.0.now args.1.1.0.now args.1.1.1.0.now) r r' s.1.1.1.1.0.now s'.1.1.1.1.0.now (tables s.1.0.now s.1.1.0.now s.1.1.1.0.now) (tables s'.1.0.now s'.1.1.0.now s'.1.1.1.0.now) p q in
    (one.0, λ i. (one.1 i, one.2 i))

pub decode_body_decided : OneOutcome {Lent = List ℕ × Tables} decode_body.Learnt (λ k s. (s.1.1.1.1.1.1.1.1.0.now, tables s.1.1.1.1.1.0.now s.1.1.1.1.1.1.0.now s.1.1.1.1.1.1.1.0.now))
decode_body_decided k args r r' s s' p q =
    let one = body_one lower args.0 args.1.0 args.1.1.0 args.1.1.1.1.0 args.1.1.1.0.now (tables args.1.1.1.1.1.0.now args.1.1.1.1.1.1.0.now args.1.1.1.1.1.1.1.0.now) r r' s.1.1.1.1.1.1.1.1.0.now s'.1.1.1.1.1.1.1.1.0.now (tables s.1.1.1.1.1.0.now s.1.1.1.1.1.1.0.now s.1.1.1.1.1.1.1.0.now) (tables s'.1.1.1.1.1.0.now s'.1.1.1.1.1.1.0.now s'.1.1.1.1.1.1.1.0.now) p q in
    (one.0, λ i. (one.1 i, one.2 i))

pub decode_body_midpoint_decided : OneOutcome {Lent = List ℕ × Tables} decode_body_midpoint.Learnt (λ k s. (s.1.1.1.1.1.1.1.1.0.now, tables s.1.1.1.1.1.0.now s.1.1.1.1.1.1.0.now s.1.1.1.1.1.1.1.0.now))
decode_body_midpoint_decided k args r r' s s' p q =
    let one = body_one midpoint args.0 args.1.0 args.1.1.0 args.1.1.1.1.0 args.1.1.1.0.now (tables args.1.1.1.1.1.0.now args.1.1.1.1.1.1.0.now args.1.1.1.1.1.1.1.0.now) r r' s.1.1.1.1.1.1.1.1.0.now s'.1.1.1.1.1.1.1.1.0.now (tables s.1.1.1.1.1.0.now s.1.1.1.1.1.1.0.now s.1.1.1.1.1.1.1.0.now) (tables s'.1.1.1.1.1.0.now s'.1.1.1.1.1.1.0.now s'.1.1.1.1.1.1.1.0.now) p q in
    (one.0, λ i. (one.1 i, one.2 i))

-- the stepped decoder: outcomes of equal answers, records and tables are equal. The record's numbers are the first parameter
step_one : {said said' : ReadAnswer} {moved moved' : Record} {left left' : Tables} {r r' : ℕ} {a a' dial dial' : List ℕ} → (said ≡ said') × (moved ≡ moved') × (left ≡ left') → Answers r a (of_read said) → Answers r' a' (of_read said') → dial ≡ numbers_of moved → dial' ≡ numbers_of moved'
    → (r ≡ r') × (◌≡◌ {A = List ℕ × List ℕ × Tables} (a, dial, left) (a', dial', left'))
step_one one p q d d' =
    let said = one_answer (ap of_read one.0) p q in
    let recorded = d ∙ ap numbers_of one.1 ∙ sym d' in
    (said.0, λ i. (said.1 i, recorded i, one.2 i))

pub start_decided : OneOutcome {Lent = List ℕ × List ℕ × Tables} start.Learnt (λ k s. (s.1.1.1.1.1.1.1.0.now, s.0.now, tables s.1.1.1.1.0.now s.1.1.1.1.1.0.now s.1.1.1.1.1.1.0.now))
start_decided k args r r' s s' p q =
    step_one (starts_one args.1.0 args.1.1.0 args.1.1.1.0 (dial_of args.0.now) (tables args.1.1.1.1.0.now args.1.1.1.1.1.0.now args.1.1.1.1.1.1.0.now) p.said q.said p.moved q.moved (tables s.1.1.1.1.0.now s.1.1.1.1.1.0.now s.1.1.1.1.1.1.0.now) (tables s'.1.1.1.1.0.now s'.1.1.1.1.1.0.now s'.1.1.1.1.1.1.0.now) p.starts q.starts) p.answers q.answers p.recorded q.recorded

pub forward_decided : OneOutcome {Lent = List ℕ × List ℕ × Tables} forward.Learnt (λ k s. (s.1.1.1.1.1.1.0.now, s.0.now, tables s.1.1.1.0.now s.1.1.1.1.0.now s.1.1.1.1.1.0.now))
forward_decided k args r r' s s' p q =
    step_one (forwards_one args.1.1.0 args.1.0.now (dial_of args.0.now) (tables args.1.1.1.0.now args.1.1.1.1.0.now args.1.1.1.1.1.0.now) p.said q.said p.moved q.moved (tables s.1.1.1.0.now s.1.1.1.1.0.now s.1.1.1.1.1.0.now) (tables s'.1.1.1.0.now s'.1.1.1.1.0.now s'.1.1.1.1.1.0.now) p.forwards q.forwards) p.answers q.answers p.recorded q.recorded

pub back_decided : OneOutcome {Lent = List ℕ × List ℕ × Tables} back.Learnt (λ k s. (s.1.1.1.1.1.1.0.now, s.0.now, tables s.1.1.1.0.now s.1.1.1.1.0.now s.1.1.1.1.1.0.now))
back_decided k args r r' s s' p q =
    step_one (backs_one args.1.1.0 args.1.0.now (dial_of args.0.now) (tables args.1.1.1.0.now args.1.1.1.1.0.now args.1.1.1.1.1.0.now) p.said q.said p.moved q.moved (tables s.1.1.1.0.now s.1.1.1.1.0.now s.1.1.1.1.1.0.now) (tables s'.1.1.1.0.now s'.1.1.1.1.0.now s'.1.1.1.1.1.0.now) p.backs q.backs) p.answers q.answers p.recorded q.recorded

pub turn_decided : OneOutcome {Lent = List ℕ × List ℕ × Tables} turn.Learnt (λ k s. (s.1.1.1.1.1.1.1.0.now, s.0.now, tables s.1.1.1.1.0.now s.1.1.1.1.1.0.now s.1.1.1.1.1.1.0.now))
turn_decided k args r r' s s' p q =
    step_one (turns_one args.1.1.0 args.1.1.1.0 args.1.0.now (dial_of args.0.now) (tables args.1.1.1.1.0.now args.1.1.1.1.1.0.now args.1.1.1.1.1.1.0.now) p.said q.said p.moved q.moved (tables s.1.1.1.1.0.now s.1.1.1.1.1.0.now s.1.1.1.1.1.1.0.now) (tables s'.1.1.1.1.0.now s'.1.1.1.1.1.0.now s'.1.1.1.1.1.1.0.now) p.turns q.turns) p.answers q.answers p.recorded q.recorded
