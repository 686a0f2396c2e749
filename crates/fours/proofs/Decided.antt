-- The contract of each public function decides its outcome: what is answered, and what `set_word` leaves in the table.
use mathlib.Core.Path.{refl, sym, ◌∙◌}
use Rattle.refusals.proofs.Decided.{OneAnswer, OneOutcome}
use Rattle.fours.proofs.word_at.Reads as word_at
use Rattle.fours.proofs.set_word.Reads as set_word
use Rattle.fours.proofs.low.Reads as low
use Rattle.fours.proofs.spread.Reads as spread
use Rattle.fours.proofs.ones.Reads as ones
use Rattle.fours.proofs.threes.Reads as threes
use Rattle.fours.proofs.refined.Reads as refined
use Rattle.fours.proofs.count.Reads as count
use Rattle.fours.proofs.tables.sent_table.Reads as sent_table
use Rattle.fours.proofs.tables.picked_table.Reads as picked_table
use Rattle.fours.proofs.tables.parsed_table.Reads as parsed_table
use Rattle.fours.proofs.tables.placed_table.Reads as placed_table
use Rattle.fours.proofs.tables.row_table.Reads as row_table

pub word_at_decided : OneAnswer word_at.Learnt
word_at_decided k args r r' s s' p q = p.0 ∙ sym q.0

-- the first parameter is the table
pub set_word_decided : OneOutcome set_word.Learnt (λ k s. s.0.now)
set_word_decided k args r r' s s' p q = (refl, p ∙ sym q)

pub low_decided : OneAnswer low.Learnt
low_decided k args r r' s s' p q = p ∙ sym q

pub spread_decided : OneAnswer spread.Learnt
spread_decided k args r r' s s' p q = p ∙ sym q

pub ones_decided : OneAnswer ones.Learnt
ones_decided k args r r' s s' p q = p ∙ sym q

pub threes_decided : OneAnswer threes.Learnt
threes_decided k args r r' s s' p q = p ∙ sym q

pub refined_decided : OneAnswer refined.Learnt
refined_decided k args r r' s s' p q = p ∙ sym q

pub count_decided : OneAnswer count.Learnt
count_decided k args r r' s s' p q = p ∙ sym q

pub sent_table_decided : OneAnswer sent_table.Learnt
sent_table_decided k args r r' s s' p q = p ∙ sym q

pub picked_table_decided : OneAnswer picked_table.Learnt
picked_table_decided k args r r' s s' p q = p ∙ sym q

pub parsed_table_decided : OneAnswer parsed_table.Learnt
parsed_table_decided k args r r' s s' p q = p ∙ sym q

pub placed_table_decided : OneAnswer placed_table.Learnt
placed_table_decided k args r r' s s' p q = p ∙ sym q

pub row_table_decided : OneAnswer row_table.Learnt
row_table_decided k args r r' s s' p q = p ∙ sym q
