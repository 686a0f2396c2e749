-- The calls of the stepped decoder (document 02, T-01): what each checks, what it answers, and what it leaves.
use mathlib.Core.{Path.◌≡◌, Bool.cond, Bool.◌&&◌, List.List, List.[], List.◌∷◌, List.◌++◌}
use lib.{Dec.leb, Dec.ltb, ListN.length, ListN.take}
use Rattle.std.specs.Prelude.{ℕ, zero, suc, ◌+◌, ◌*◌, ◌-◌, ◌≤◌, ◌<◌, min, Ok, Err}
use Rattle.refusals.specs.{Refusals.place_of, Checks.Check, Checks.need, Checks.first_failing, declared.Refusal.TheVariants.First, declared.Refusal.TheVariants.Spent, Checks.Outcome}
use Rattle.refusals.specs.declared.Refusal.TheVariants as refusal
use Rattle.sizes.specs.Sizes.{all_of}
use Rattle.bits.specs.Bits.{bit_at}
use Rattle.nls.specs.Reading.{midpoint}
use Rattle.nls.specs.Judging.{taken}
use Rattle.room.specs.Room.{table_checks, read_checks, body_bits}
use Rattle.decoder.specs.{Body.read_answer, Body.Tables, Body.tables, Body.over, Body.ReadsTo, Body.ReadsBy, Body.Reads, Ending.whole_or, Ending.ending, declared.ending.Ending.Ending, declared.ending.Ending.TheVariants.GoesOn, Body.ReadAnswer}
use Rattle.steps.specs.{Records.record_after, Records.in_range, Records.stand_in, Records.state_in, Records.Step, Records.step, Records.stays, Moved.reached, Moved.raised, Moved.lowered, declared.Record.Record}

-- "usable bits are the smaller of declared and 8 times the bytes present"
abbrev pub usable_bits : ℕ → List ℕ → ℕ
usable_bits declared body = min declared (8 * length body)

-- ---- the checks, in their order: "16 first, then 5"

-- "16, a record whose sizes, plane, pass or place are out of range or whose bits used pass the usable ones"
abbrev pub record_checks : Record → ℕ → ℕ → ℕ → ℕ → List Check
record_checks r most values precisions marks = need (in_range r && leb r.used most) refusal.Record ∷ table_checks (all_of r.n) values precisions marks

-- "15, forward with no usable bit left"
abbrev pub forward_checks : Record → ℕ → ℕ → ℕ → ℕ → List Check
forward_checks r most values precisions marks = record_checks r most values precisions marks ++ (need (ltb r.used most) Spent ∷ [])

-- "14, back at bit 0"
abbrev pub back_checks : Record → ℕ → ℕ → ℕ → ℕ → List Check
back_checks r most values precisions marks = record_checks r most values precisions marks ++ (need (ltb 0 r.used) First ∷ [])

-- ---- what a call leaves, in any record and tables: "otherwise every step still ends without a fault", and its outcome is one

-- the first I entries of each table; what a step over these leaves, the rest of the tables as it was
abbrev pub own_of : ℕ → Tables → Tables
own_of I t = tables (take I t.values) (take I t.precisions) (take I t.marks)

abbrev pub within : ℕ → Tables → Step → Step
within I held s = step s.answer s.dial (over I s.held held)

abbrev pub forward_to : Outcome → ℕ → List ℕ → Record → Tables → Step
forward_to (Err why) declared body r held = stays why r held
forward_to (Ok tt) declared body r held =
    within (all_of r.n) held (raised r (ending declared body) (state_in r (take (all_of r.n) held.marks)) (bit_at body r.used) (own_of (all_of r.n) held))

abbrev pub forward_of : ℕ → List ℕ → Record → Tables → Step
forward_of declared body r held =
    forward_to (first_failing (forward_checks r (usable_bits declared body) (length held.values) (length held.precisions) (length held.marks))) declared body r held

abbrev pub back_to : Outcome → ℕ → List ℕ → Record → Tables → Step
back_to (Err why) declared body r held = stays why r held
back_to (Ok tt) declared body r held =
    within (all_of r.n) held (lowered r (ending declared body) (state_in r (take (all_of r.n) held.marks)) (bit_at body (r.used - 1)) (own_of (all_of r.n) held))

abbrev pub back_of : ℕ → List ℕ → Record → Tables → Step
back_of declared body r held =
    back_to (first_failing (back_checks r (usable_bits declared body) (length held.values) (length held.precisions) (length held.marks))) declared body r held

-- at most k steps of one kind, until one is refused: that ends them at the last good position, with its refusal
unfoldable pub steps_of : (Record → Tables → Step) → ℕ → Step → Step
steps_of f zero s = s
steps_of f (suc k) s = elim (f s.dial s.held).answer [ Ok d ↦ steps_of f k (f s.dial s.held) | Err why ↦ f s.dial s.held ]

-- the answer of where a record stands
abbrev pub position_of : (ℕ → ℕ → Ending) → Record → ReadAnswer
position_of word r = reached word r.p r.used (stand_in r).left

-- as many steps, either way, as bring bits used to `to`
abbrev pub turn_to : Outcome → ℕ → ℕ → List ℕ → Record → Tables → Step
turn_to (Err why) declared to body r held = stays why r held
turn_to (Ok tt) declared to body r held =
    cond (leb to r.used)
    (steps_of (back_of declared body) (r.used - to) (step (position_of (ending declared body) r) r held))
    (steps_of (forward_of declared body) (to - r.used) (step (position_of (ending declared body) r) r held))

abbrev pub turn_of : ℕ → ℕ → List ℕ → Record → Tables → Step
turn_of declared to body r held =
    turn_to (first_failing (record_checks r (usable_bits declared body) (length held.values) (length held.precisions) (length held.marks))) declared to body r held

-- ---- the promise, in the words of decoding, by the midpoint: "The stepped decoder .. must ask for the midpoint" (document 02, T-07)

-- record and tables are what decoding the first n bits leaves: decoding them into these tables is done, and changes nothing
pub record Reached (N L P : ℕ) (body : List ℕ) (n : ℕ) (r : Record) (held : Tables) : Type 0 where
  pub read : Reads midpoint N L P n body held (read_answer (ending n body) N L P (body_bits n body) taken) held
  pub recorded : r ≡ record_after N L P (body_bits n body)

-- "leaves record and buffers as decoding that prefix leaves them"; "A forward bit refused as 12 or 13 leaves record and buffers at the last
-- good position, uncleared". `t` and the answer are those of decoding the prefix, whose record is `next`.
abbrev pub FollowsTo : ReadAnswer → Tables → Record → Record → Tables → Step → Type 0
FollowsTo (Ok d) t next r held s = s ≡ step (Ok d) next t
FollowsTo (Err why) t next r held s = s ≡ stays why r held

-- a step leaves what decoding the first k bits leaves, whatever that is. Its word is that of the position in the body at hand, where bits may
-- go on (document 02, T-06: "Decoder, stepped decoder .. carry it through").
abbrev pub Follows : ℕ → ℕ → ℕ → ℕ → List ℕ → ℕ → Record → Tables → Step → Type 0
Follows N L P declared body k r held s =
    (answer : ReadAnswer) (t : Tables) → ReadsBy midpoint (ending declared body) N L P k body held answer t → FollowsTo answer t (record_after N L P (body_bits k body)) r held s

-- Any two positions: turning leaves what decoding as many bits leaves. Where these are more than the usable bits it ends behind the last of
-- them, with 15; where decoding refuses some, before the first that is refused, with that refusal, whose place is the number of that bit.
abbrev pub TurnsTo : ReadAnswer → Tables → ℕ → ℕ → ℕ → ℕ → ℕ → List ℕ → Tables → Step → Type 0
TurnsTo (Ok d) t N L P most to body held s =
    s ≡ step (cond (leb to most) (Ok d) (Err Spent)) (record_after N L P (body_bits (min to most) body)) t
TurnsTo (Err why) t N L P most to body held s =
    (answer : ReadAnswer) (last : Tables) → Reads midpoint N L P (place_of why) body held answer last
    → s ≡ step (Err why) (record_after N L P (body_bits (place_of why) body)) last

-- ---- the contracts

-- no body is lent to a start: bits go on, but where P is 0
abbrev pub unended : ℕ → ℕ → Ending
unended used left = whole_or left GoesOn

-- record and tables as decoding no bit leaves them; a refused start leaves the record
pub record Starts (N L P : ℕ) (r : Record) (held : Tables) (answer : ReadAnswer) (dial : Record) (left : Tables) : Type 0 where
  pub reads : ReadsTo (first_failing (read_checks N L P (length held.values) (length held.precisions) (length held.marks))) midpoint unended N L P [] held answer left
  pub recorded : dial ≡ elim answer as (λ _. Record) [ Ok d ↦ record_after N L P [] | Err why ↦ r ]

-- "One bit forward .. leaves record and buffers as decoding that prefix leaves them."
pub record Forwards (declared : ℕ) (body : List ℕ) (r : Record) (held : Tables) (answer : ReadAnswer) (dial : Record) (left : Tables) : Type 0 where
  pub follows : (N L P n : ℕ) → Reached N L P body n r held → n < usable_bits declared body → Follows N L P declared body (n + 1) r held (step answer dial left)
  pub decided : step answer dial left ≡ forward_of declared body r held

-- ".. or one back with the body at hand"
pub record Backs (declared : ℕ) (body : List ℕ) (r : Record) (held : Tables) (answer : ReadAnswer) (dial : Record) (left : Tables) : Type 0 where
  pub follows : (N L P n : ℕ) → Reached N L P body n r held → n ≤ usable_bits declared body → 0 < n → Follows N L P declared body (n - 1) r held (step answer dial left)
  pub decided : step answer dial left ≡ back_of declared body r held

-- turning: as many steps, either way, as bring bits used to `to`
pub record Turns (declared to : ℕ) (body : List ℕ) (r : Record) (held : Tables) (answer : ReadAnswer) (dial : Record) (left : Tables) : Type 0 where
  pub follows : (N L P n : ℕ) → Reached N L P body n r held → n ≤ usable_bits declared body
      → (said : ReadAnswer) (t : Tables) → ReadsBy midpoint (ending declared body) N L P (min to (usable_bits declared body)) body held said t
      → TurnsTo said t N L P (usable_bits declared body) to body held (step answer dial left)
  pub decided : step answer dial left ≡ turn_of declared to body r held
