-- The scan record of the stepped decoder (document 02, T-01): the scan's state at rest, at its next question with silent moves made.
use mathlib.Core.{Bool.Bool, Bool.false, Bool.cond, Bool.◌&&◌, Bool.◌||◌, List.List}
use lib.{Dec.ltb, Dec.leb, Dec.eqb, ListN.length}
use Rattle.std.specs.Prelude.{ℕ, ◌+◌, ◌-◌, Err}
use Rattle.refusals.specs.declared.Refusal.{Refusal}
use Rattle.sizes.specs.Sizes.{all_of, side_fits, levels_fit, most_planes}
use Rattle.bits.specs.Bits.{digit}
use Rattle.nls.specs.{Scan.State, Stream.after}
use Rattle.moves.specs.{Stands.pass_number, Stands.stand, Stands.state_of, declared.Stand.Stand}
use Rattle.decoder.specs.{Body.Tables, Body.ReadAnswer}
use Rattle.steps.specs.declared.Record.{Record}

-- "a small scan record (N, L, P, plane, pass, place, bits used, a pending sign)"; the passes are 0, 1 and 2
abbrev pub record_at : ℕ → ℕ → ℕ → ℕ → ℕ → ℕ → ℕ → ℕ → Record
record_at N L P plane pass place used pending =
    record { n = N; l = L; p = P; plane = plane; pass = pass; place = place; used = used; pending = pending }

-- the record of a state after `used` bits; where no plane is left, and so for P = 0, it is plane 0, pass 2, place I
unfoldable pub record_of : ℕ → ℕ → ℕ → ℕ → State → Record
record_of N L P used s =
    cond (eqb s.left 0) (record_at N L P 0 2 (all_of N) used 0) (record_at N L P (s.left - 1) (pass_number s.pass) s.place used (digit s.pending))

-- "as decoding that prefix leaves them": the record after the bits u
abbrev pub record_after : ℕ → ℕ → ℕ → List Bool → Record
record_after N L P u = record_of N L P (length u) (after N L P u)

-- Which records are in range: sizes and P as decoding has them, and a record that stands at the end, or in one of P planes, in one of
-- three passes, at one of I places, with a sign pending or none.
unfoldable pub is_end : Record → Bool
is_end r = eqb r.plane 0 && (eqb r.pass 2 && (eqb r.place (all_of r.n) && eqb r.pending 0))

unfoldable pub is_within : Record → Bool
is_within r = ltb r.plane r.p && (ltb r.pass 3 && (ltb r.place (all_of r.n) && ltb r.pending 2))

unfoldable pub in_range : Record → Bool
in_range r = side_fits r.n && (levels_fit r.n r.l && (leb r.p most_planes && (is_end r || is_within r)))

-- where the scan stands by such a record, and the state of its marks m
unfoldable pub stand_in : Record → Stand
stand_in r = cond (is_end r) (stand 0 0 0 false) (stand (r.plane + 1) r.pass r.place (eqb r.pending 1))

abbrev pub state_in : Record → List ℕ → State
state_in r m = state_of (stand_in r) m

-- what a step leaves: its answer, the record and the tables
pub record Step : Type 0 where
  pub answer : ReadAnswer
  pub dial : Record
  pub held : Tables

abbrev pub step : ReadAnswer → Record → Tables → Step
step answer dial held = record { answer = answer; dial = dial; held = held }

-- a refusal, which changes nothing
abbrev pub stays : Refusal → Record → Tables → Step
stays why dial held = step (Err why) dial held
