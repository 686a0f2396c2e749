-- The call that writes a body: what it answers, and what the tables lent to it hold afterwards (document 01, "Numbers for no"). What it checks is in crate `room`.
use mathlib.Core.{Path.◌≡◌, Bool.Bool, List.List, List.◌++◌}
use lib.{IntN.ℤ, ListN.length, ListN.take, ListN.drop}
use Rattle.std.specs.Prelude.{ℕ, ◌+◌, Result, Ok, Err}
use Rattle.refusals.specs.{Checks.Outcome, Checks.first_failing, Checks.lent_after, declared.Refusal.Refusal}
use Rattle.bits.specs.Bits.{packed}
use Rattle.coef.specs.Coef.{planes_of}
use Rattle.tree.specs.Summaries.{desc_table, grand_table}
use Rattle.nls.specs.Stream.{stream, after}
use Rattle.room.specs.Room.{write_checks}
use Rattle.encoder.specs.declared.body.Written.{Written}

-- "The number of bits written is the smaller of the budget and the whole stream's length": the first of the stream
abbrev pub sent_bits : ℕ → ℕ → List ℤ → ℕ → List Bool
sent_bits N L A budget = take budget (stream N L (planes_of A) A)

-- what `encode` answers
abbrev pub WriteAnswer : Type 0
WriteAnswer = Result Written Refusal

abbrev pub write_answer : ℕ → ℕ → List ℤ → ℕ → Outcome → WriteAnswer
write_answer N L A budget (Ok tt) = Ok (record { planes = planes_of A; bits = length (sent_bits N L A budget) })
write_answer N L A budget (Err why) = Err why

-- "After the same bits, encoder and decoder hold equal tables": the marks where the scan stopped
abbrev pub sent_marks : ℕ → ℕ → List ℤ → ℕ → List ℕ
sent_marks N L A budget = (after N L (planes_of A) (sent_bits N L A budget)).marks

-- the output after a call: where it is done, `own` from `offset` on and the rest as it was; else as it was
abbrev pub output_after : Outcome → ℕ → List ℕ → List ℕ → List ℕ
output_after (Ok tt) offset own held = take offset held ++ (own ++ drop (offset + length own) held)
output_after (Err why) offset own held = held

-- what is lent to encoding: both summaries, the marks and the output
pub record Loan : Type 0 where
  pub descs : List ℕ
  pub grands : List ℕ
  pub marks : List ℕ
  pub out : List ℕ

abbrev pub loan : List ℕ → List ℕ → List ℕ → List ℕ → Loan
loan d g m o = record { descs = d; grands = g; marks = m; out = o }

-- the outcome of the checks on what is lent
abbrev pub write_outcome : ℕ → ℕ → List ℤ → ℕ → ℕ → Loan → Outcome
write_outcome N L A offset budget held =
    first_failing (write_checks N L A (length held.descs) (length held.grands) (length held.marks) (length held.out) offset budget)

-- what it holds after that outcome, where `own` is written from `offset` on
abbrev pub lent_to : Outcome → ℕ → ℕ → List ℤ → ℕ → ℕ → List ℕ → Loan → Loan
lent_to o N L A budget offset own held =
    loan (lent_after o (desc_table N L A) held.descs) (lent_after o (grand_table N L A) held.grands)
    (lent_after o (sent_marks N L A budget) held.marks) (output_after o offset own held.out)

-- a call that writes a body: the first check that fails decides its answer and what it leaves
pub record Writes (N L : ℕ) (A : List ℤ) (offset budget : ℕ) (held : Loan) (answer : WriteAnswer) (left : Loan) : Type 0 where
  pub answered : answer ≡ write_answer N L A budget (write_outcome N L A offset budget held)
  pub filled : left ≡ lent_to (write_outcome N L A offset budget held) N L A budget offset (packed (sent_bits N L A budget)) held
