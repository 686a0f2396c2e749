-- The contract of each public function decides its answer.
use mathlib.Core.Path.{sym, ◌∙◌}
use Rattle.refusals.proofs.Decided.{OneAnswer}
use Rattle.room.proofs.worst_body.Reads as worst_body
use Rattle.room.proofs.most_bits.Reads as most_bits
use Rattle.room.proofs.usable_of.Reads as usable_of
use Rattle.room.proofs.check_worst.Reads as check_worst
use Rattle.room.proofs.check_encode.Reads as check_encode
use Rattle.room.proofs.check_tables.Reads as check_tables
use Rattle.room.proofs.check_decode.Reads as check_decode

pub worst_body_decided : OneAnswer worst_body.Learnt
worst_body_decided k args r r' s s' p q = p ∙ sym q

pub most_bits_decided : OneAnswer most_bits.Learnt
most_bits_decided k args r r' s s' p q = p ∙ sym q

pub usable_of_decided : OneAnswer usable_of.Learnt
usable_of_decided k args r r' s s' p q = p ∙ sym q

pub check_worst_decided : OneAnswer check_worst.Learnt
check_worst_decided k args r r' s s' p q = p ∙ sym q

pub check_encode_decided : OneAnswer check_encode.Learnt
check_encode_decided k args r r' s s' p q = p ∙ sym q

pub check_tables_decided : OneAnswer check_tables.Learnt
check_tables_decided k args r r' s s' p q = p ∙ sym q

pub check_decode_decided : OneAnswer check_decode.Learnt
check_decode_decided k args r r' s s' p q = p ∙ sym q
