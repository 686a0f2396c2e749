-- Words of inner contracts, which no promise to a caller uses: what holds where the checks of a step do.
use Rattle.std.specs.Prelude.{ℕ, ◌-◌, ◌≤◌, ◌<◌}
use mathlib.Core.{Path.◌≡◌, Bool.true, Bool.false, Bool.cond, List.List}
use lib.{Dec.ltb}
use Rattle.refusals.specs.declared.Refusal.TheVariants.{First, Spent}
use Rattle.sizes.specs.Sizes.{all_of}
use Rattle.bits.specs.Bits.{bit_at}
use Rattle.moves.specs.{Stands.stand, declared.Stand.Stand}
use Rattle.decoder.specs.{Body.Tables, declared.ending.Ending.Ending}
use Rattle.steps.specs.{Records.in_range, Records.state_in, Records.Step, Records.step, Records.stays, Moved.raised, Moved.lowered, Steps.own_of, Steps.within, Steps.steps_of, Steps.position_of, declared.Record.Record}

-- a record in range, and tables of I entries, by their lengths
pub record Ready (r : Record) (values precisions marks : ℕ) : Type 0 where
  pub range : in_range r ≡ true
  pub values_size : values ≡ all_of r.n
  pub precisions_size : precisions ≡ all_of r.n
  pub marks_size : marks ≡ all_of r.n

-- what the checks of a step say where all hold: a record in range, no more bits used than usable, and room for I entries
pub record CallReady (r : Record) (most values precisions marks : ℕ) : Type 0 where
  pub range : in_range r ≡ true
  pub few : r.used ≤ most
  pub values_room : all_of r.n ≤ values
  pub precisions_room : all_of r.n ≤ precisions
  pub marks_room : all_of r.n ≤ marks

-- the scan can stand there: at the end, or in one of P planes, at one of I places
pub record Stood (r : Record) (at : Stand) : Type 0 where
  pub known : at.pass < 3
  pub planes : at.left ≤ r.p
  pub place : 1 ≤ at.left → at.place < all_of r.n
  pub ended : at.left ≡ 0 → at ≡ stand 0 0 0 false

-- steps over tables of I entries, `most` bits of the body being usable
module _ (word : ℕ → ℕ → Ending) where
  abbrev pub forward_in : ℕ → List ℕ → Record → Tables → Step
  forward_in most body r t = cond (ltb r.used most) (raised r word (state_in r t.marks) (bit_at body r.used) t) (stays Spent r t)

  abbrev pub back_in : List ℕ → Record → Tables → Step
  back_in body r t = cond (ltb 0 r.used) (lowered r word (state_in r t.marks) (bit_at body (r.used - 1)) t) (stays First r t)

  -- k such steps from where a record stands, over the first I entries of the tables
  abbrev pub own_steps : (Record → Tables → Step) → ℕ → Record → Tables → Step
  own_steps f k r held = within (all_of r.n) held (steps_of f k (step (position_of word r) r (own_of (all_of r.n) held)))
