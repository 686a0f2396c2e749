-- The call that reads a body: what it answers, and what the tables lent to it hold afterwards (document 01, "Numbers for no"). What it checks is in crate `room`.
use mathlib.Core.{Path.◌≡◌, Bool.Bool, List.List, List.◌++◌}
use lib.{IntN.ℤ, IntN.pos, ListN.length, ListN.drop, ListN.replicate}
use Rattle.std.specs.Prelude.{ℕ, Result, Ok, Err}
use Rattle.refusals.specs.{Checks.Outcome, Checks.first_failing, declared.Refusal.Refusal, declared.Refusal.TheVariants.Contradiction, declared.Refusal.TheVariants.Beyond}
use Rattle.sizes.specs.Sizes.{all_of}
use Rattle.nls.specs.{Stream.after, Reading.last_plane, Reading.values_by, Reading.precisions, Reading.planes_finished, Reading.worst_error, Judging.Verdict, Judging.taken, Judging.contradiction, Judging.beyond, Judging.Judged}
use Rattle.room.specs.Room.{read_checks, body_bits}
use Rattle.decoder.specs.Ending.{ending}
use Rattle.decoder.specs.declared.ending.Ending.{Ending}
use Rattle.decoder.specs.declared.body.ReadTo.{ReadTo}

-- what the calls answer
abbrev pub ReadAnswer : Type 0
ReadAnswer = Result ReadTo Refusal

-- "The answer also gives bits used (all usable bits ..), planes finished and the worst error 2^k - 1"; document 02, T-06: and why the bits
-- ended. `word` has it, by the bits used and the planes left.
abbrev pub read_answer : (ℕ → ℕ → Ending) → ℕ → ℕ → ℕ → List Bool → Verdict → ReadAnswer
read_answer word N L P u taken =
    Ok (record { used = length u; finished = planes_finished N L P u; error = worst_error N L P u; ending = word (length u) (last_plane N L P u) })
read_answer word N L P u (contradiction bit) = Err (Contradiction bit)
read_answer word N L P u (beyond bit) = Err (Beyond bit)

-- the three tables that decoding fills
pub record Tables : Type 0 where
  pub values : List ℤ
  pub precisions : List ℕ
  pub marks : List ℕ

abbrev pub tables : List ℤ → List ℕ → List ℕ → Tables
tables v p m = record { values = v; precisions = p; marks = m }

-- their own entries. "Numbers 12 and 13 set the first I entries of values, precisions and marks to 0."
abbrev pub zeros : ℕ → Tables
zeros I = tables (replicate I (pos 0)) (replicate I 0) (replicate I 0)

-- "Demand 2 names the rule in use" (document 02, T-07): the values are those of the rule that is named
abbrev pub own_tables : (ℕ → ℕ → ℕ) → ℕ → ℕ → ℕ → List Bool → Verdict → Tables
own_tables rule N L P u taken = tables (values_by N L P u rule) (precisions N L P u) (after N L P u).marks
own_tables rule N L P u (contradiction bit) = zeros (all_of N)
own_tables rule N L P u (beyond bit) = zeros (all_of N)

-- the first I entries from `own`, the rest as it was
abbrev pub over : ℕ → Tables → Tables → Tables
over I own held = tables (own.values ++ drop I held.values) (own.precisions ++ drop I held.precisions) (own.marks ++ drop I held.marks)

-- a call whose checks all hold: the verdict on the usable bits decides the answer and the tables
pub record BodyRead (rule : ℕ → ℕ → ℕ) (word : ℕ → ℕ → Ending) (N L P : ℕ) (u : List Bool) (held : Tables) (answer : ReadAnswer) (left : Tables) : Type 0 where
  pub verdict : Verdict
  pub judged : Judged N L P u verdict
  pub answered : answer ≡ read_answer word N L P u verdict
  pub filled : left ≡ over (all_of N) (own_tables rule N L P u verdict) held

-- any call, by the outcome of the checks; "Numbers 1 to 11 touch no lent byte"
abbrev pub ReadsTo : Outcome → (ℕ → ℕ → ℕ) → (ℕ → ℕ → Ending) → ℕ → ℕ → ℕ → List Bool → Tables → ReadAnswer → Tables → Type 0
ReadsTo (Ok tt) rule word N L P u held answer left = BodyRead rule word N L P u held answer left
ReadsTo (Err why) rule word N L P u held answer left = (answer ≡ Err why) × (left ≡ held)

-- a call that reads the first n bits of a body, or all that it has
abbrev pub ReadsBy : (ℕ → ℕ → ℕ) → (ℕ → ℕ → Ending) → ℕ → ℕ → ℕ → ℕ → List ℕ → Tables → ReadAnswer → Tables → Type 0
ReadsBy rule word N L P n body held answer left = ReadsTo (first_failing (read_checks N L P (length held.values) (length held.precisions) (length held.marks))) rule word N L P (body_bits n body) held answer left

-- decoding: as many bits are declared
abbrev pub Reads : (ℕ → ℕ → ℕ) → ℕ → ℕ → ℕ → ℕ → List ℕ → Tables → ReadAnswer → Tables → Type 0
Reads rule N L P declared body held answer left = ReadsBy rule (ending declared body) N L P declared body held answer left
