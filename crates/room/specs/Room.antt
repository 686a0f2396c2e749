-- The checks of the calls on a body, in document 01's order ("Numbers for no"), and the worst body.
use mathlib.Core.{Bool.Bool, Bool.◌&&◌, List.List, List.[], List.◌∷◌, List.◌++◌}
use lib.{Dec.leb, IntN.ℤ, ListN.length}
use Rattle.std.specs.Prelude.{ℕ, ◌+◌, ◌*◌, min, Result, Ok, Err}
use Rattle.refusals.specs.{Checks.Check, Checks.need, Checks.Outcome, declared.Refusal.Refusal, declared.Refusal.TheVariants.Side, declared.Refusal.TheVariants.Levels, declared.Refusal.TheVariants.Lent, declared.Refusal.TheVariants.Output, declared.Refusal.TheVariants.Planes}
use Rattle.sizes.specs.Sizes.{all_of, side_fits, levels_fit, most_planes}
use Rattle.bits.specs.Bits.{bits_of, bytes_for}
use Rattle.coef.specs.Coef.{planes_of}
use Rattle.tree.specs.Summaries.{summary_checks}
use Rattle.nls.specs.Stream.{worst_body}

-- ---- the worst body

abbrev pub worst_checks : ℕ → ℕ → ℕ → List Check
worst_checks N L P = need (side_fits N) Side ∷ need (levels_fit N L) Levels ∷ need (leb P most_planes) Planes ∷ []

-- its bits, or the refusal
abbrev pub WorstAnswer : Type 0
WorstAnswer = Result ℕ Refusal

abbrev pub worst_answer : ℕ → ℕ → ℕ → Outcome → WorstAnswer
worst_answer N L P (Ok tt) = Ok (worst_body N L P)
worst_answer N L P (Err why) = Err why

-- the most bits that are written under a budget: the smaller of it and the worst body; where the sizes are out of range, the budget
abbrev pub most_bits : ℕ → WorstAnswer → ℕ
most_bits budget (Ok bits) = min budget bits
most_bits budget (Err why) = budget

-- ---- encoding

-- "Encoding checks 1 to 6 in that order.": those of the summaries, then the marks and the output.
-- `descs`, `grands`, `marks` and `out` are the lengths of what is lent; the body begins at `offset`.
abbrev pub room_checks : ℕ → ℕ → ℕ → ℕ → ℕ → ℕ → ℕ → List Check
room_checks N L P marks out offset budget =
    need (leb (all_of N) marks) Lent ∷ need (leb (offset + bytes_for (min budget (worst_body N L P))) out) Output ∷ []

abbrev pub write_checks : ℕ → ℕ → List ℤ → ℕ → ℕ → ℕ → ℕ → ℕ → ℕ → List Check
write_checks N L A descs grands marks out offset budget = summary_checks N L A descs grands ++ room_checks N L (planes_of A) marks out offset budget

-- ---- decoding

-- the three lent tables have room for `all` entries, by their lengths
unfoldable pub room_in : ℕ → ℕ → ℕ → ℕ → Bool
room_in all values precisions marks = leb all values && (leb all precisions && leb all marks)

abbrev pub table_checks : ℕ → ℕ → ℕ → ℕ → List Check
table_checks all values precisions marks = need (room_in all values precisions marks) Lent ∷ []

-- of decoding's checks those of a body: 1, 2, 9, 5
abbrev pub read_checks : ℕ → ℕ → ℕ → ℕ → ℕ → ℕ → List Check
read_checks N L P values precisions marks = worst_checks N L P ++ table_checks (all_of N) values precisions marks

-- "usable bits are the smaller of declared and 8 times the bytes present"
abbrev pub body_bits : ℕ → List ℕ → List Bool
body_bits usable body = bits_of (min usable (8 * length body)) body
