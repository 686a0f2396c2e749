-- Where record and tables are those that decoding some bits leaves.
use Prim.Native.Nat.{ℕ, ◌*◌, ◌≤◌, ◌<◌, min}
use mathlib.Core.Path.{◌≡◌, refl, sym, ap, subst, ◌∙◌}
use mathlib.Core.Bool.{Bool, true}
use mathlib.Core.Option.{Option, none, some}
use mathlib.Core.List.{List, [], ◌∷◌, ◌++◌}
use native.Mathlib.Omega.{arith}
use lib.IntN.{ℤ}
use lib.ListN.{length, take, drop, length-append}
use lib.Seq.{take_at, drop_at}
use Rattle.std.specs.Prelude.{Ok, Err}
use Rattle.refusals.specs.Checks.{first_failing, Outcome}
use Rattle.sizes.specs.Sizes.{most_planes, all_of, coarsest_of, side_fits, levels_fit, Sized}
use Rattle.sizes.specs.Tables.{table}
use Rattle.sizes.proofs.Laws.{sized}
use Rattle.sizes.proofs.Tables.{table_length}
use Rattle.bits.specs.Bits.{bits_of}
use Rattle.nls.specs.Marks.{start_marks}
use Rattle.nls.specs.Scan.{Question, pixels, State, state_at, tell, ask, next, reach, start}
use Rattle.nls.specs.Stream.{begin, after}
use Rattle.nls.specs.Reading.{midpoint, values_by, precisions}
use Rattle.nls.specs.Judging.{Fits, Verdict, taken, contradiction, beyond, Judged}
use Rattle.nls.proofs.Arrays.{Bits, bits_of_arr, told, Fit}
use Rattle.nls.proofs.Machine.Run.{tell_left, left_none}
use Rattle.nls.proofs.Known.{left_most}
use Rattle.nls.proofs.Lists.{arr_of}
use Rattle.nls.proofs.Streams.{asks_none_left, marks_length, begins_iff}
use Rattle.room.specs.Room.{read_checks, body_bits}
use Rattle.room.proofs.Laws.{decode_well, decode_ready, DecodeReady}
use Rattle.moves.specs.Stands.{state_of, stand_of}
use Rattle.moves.specs.declared.Stand.{Stand}
use Rattle.moves.proofs.Laws.{state_stand, asked_inside}
use Rattle.moves.proofs.Ended.{Ended, ended_settle}
use Rattle.decoder.specs.Body.{read_answer, Tables, tables, own_tables, over, ReadsTo, ReadsBy, Reads, ReadAnswer}
use Rattle.decoder.specs.Ending.{ending}
use Rattle.decoder.specs.declared.ending.Ending.{Ending}
use Rattle.decoder.specs.declared.body.ReadTo.{ReadTo}
use Rattle.steps.specs.Records.{record_after, in_range, state_in}
use Rattle.steps.specs.Steps.{own_of, Reached, unended, Starts}
use Rattle.steps.specs.declared.Record.{Record}
use Rattle.steps.proofs.Standing.{Sizes, record_sizes, Means, record_means}

-- ---- a scan that ended stands where a plane would begin

-- an answer is given where a plane is left, and leaves it
module _ (N : ℕ) (B : Bits) where
  ended_told : (s : State) (a : Bool) → told N B (ask (all_of N) s) a → Ended (tell (all_of N) s a)
  ended_told s a f e =
      absurd (subst (λ (o : Option Question). told N B o a) (left_none (all_of N) s (sym (tell_left (all_of N) s.left s.pass s.place s.pending s.marks a) ∙ e)) f)

  ended_reach : (s : State) (u : List Bool) → Fit N B s u → Ended s → Ended (reach (all_of N) s u)
  unfolding reach next
  ended_reach s [] f h = h
  ended_reach s (a ∷ u) f h = ended_reach (next (all_of N) s a) u f.1 (ended_settle (all_of N) (tell (all_of N) s a) (ended_told s a f.0))

module _ (N L : ℕ) (z : Sized N L) (P : ℕ) where
  ended_begin : Ended (begin N L P)
  unfolding start
  ended_begin = ended_settle (all_of N) (state_at P pixels 0 (start_marks (all_of N) (coarsest_of N L))) (λ e. ap (λ (l : ℕ). state_at l pixels 0 (start_marks (all_of N) (coarsest_of N L))) e)

  pub ended_after : (u : List Bool) → Fits N L P u → (after N L P u).left ≡ 0 → after N L P u ≡ state_at 0 pixels 0 (after N L P u).marks
  ended_after u w = ended_reach N (bits_of_arr (arr_of w.0)) (begin N L P) u ((begins_iff N L z P w.0 u).0 w.1).2 ended_begin

-- ---- the record after bits that fit

module _ (N L P : ℕ) (side : side_fits N ≡ true) (levels : levels_fit N L ≡ true) (few : P ≤ most_planes) (u : List Bool) (w : Fits N L P u) where
  inside : (o : Option Question) → ask (all_of N) (after N L P u) ≡ o → ((after N L P u).left ≡ 0 → ⊥) → (after N L P u).place < all_of N
  inside none e h = absurd (h (asks_none_left N L P u e))
  inside (some q) e h = asked_inside N L P u q e

  means_after : Means N L P (length u) (after N L P u) (record_after N L P u)
  means_after =
      record_means N L P (length u) (after N L P u) side levels few (left_most N L P u) (inside (ask (all_of N) (after N L P u)) refl)
      (λ e. ap stand_of (ended_after N L (sized N L levels) P u w e))

-- ---- tables whose first entries are those after some bits

-- what decoding leaves has I entries in each table
pub record Own (I : ℕ) (t : Tables) : Type 0 where
  pub values : length t.values ≡ I
  pub precisions : length t.precisions ≡ I
  pub marks : length t.marks ≡ I

pub own_tables_lem : (N L P : ℕ) → levels_fit N L ≡ true → (u : List Bool) → Own (all_of N) (own_tables midpoint N L P u taken)
own_tables_lem N L P l u =
    record { values = table_length (all_of N) _; precisions = table_length (all_of N) _; marks = marks_length N L (sized N L l) P u }

module _ (I : ℕ) (own : Tables) (o : Own I own) (held : Tables) where
  -- the own entries, and what is laid over them
  pub own_over : own_of I (over I own held) ≡ own
  own_over =
      ap (λ (x : List ℤ). tables x (take I (own.precisions ++ drop I held.precisions)) (take I (own.marks ++ drop I held.marks))) (take_at own.values (drop I held.values) I o.values)
      ∙ ap (λ (x : List ℕ). tables own.values x (take I (own.marks ++ drop I held.marks))) (take_at own.precisions (drop I held.precisions) I o.precisions)
      ∙ ap (λ (x : List ℕ). tables own.values own.precisions x) (take_at own.marks (drop I held.marks) I o.marks)

  pub over_over : (new : Tables) → over I new (over I own held) ≡ over I new held
  over_over new =
      ap (λ (x : List ℤ). tables (new.values ++ x) (new.precisions ++ drop I (own.precisions ++ drop I held.precisions)) (new.marks ++ drop I (own.marks ++ drop I held.marks))) (drop_at own.values (drop I held.values) I o.values)
      ∙ ap (λ (x : List ℕ). tables (new.values ++ drop I held.values) (new.precisions ++ x) (new.marks ++ drop I (own.marks ++ drop I held.marks))) (drop_at own.precisions (drop I held.precisions) I o.precisions)
      ∙ ap (λ (x : List ℕ). tables (new.values ++ drop I held.values) (new.precisions ++ drop I held.precisions) (new.marks ++ x)) (drop_at own.marks (drop I held.marks) I o.marks)

-- ---- record and tables as decoding the bits u leaves them

pub record Good (N L P : ℕ) (u : List Bool) (r : Record) (held : Tables) : Type 0 where
  pub side : side_fits N ≡ true
  pub levels : levels_fit N L ≡ true
  pub planes : P ≤ most_planes
  pub fits : Fits N L P u
  pub recorded : r ≡ record_after N L P u
  pub values_room : all_of N ≤ length held.values
  pub precisions_room : all_of N ≤ length held.precisions
  pub marks_room : all_of N ≤ length held.marks
  pub filled : held ≡ over (all_of N) (own_tables midpoint N L P u taken) held

-- within the body its first n bits are n
pub body_bits_lem : (n : ℕ) (body : List ℕ) → n ≤ 8 * length body → body_bits n body ≡ bits_of n body
body_bits_lem n body h = ap {B = List Bool} (λ (k : ℕ). bits_of k body) {x = min n (8 * length body)} {y = n} (omega (arith, h))

-- a reading that is done
module _ (word : ℕ → ℕ → Ending) (N L P : ℕ) (u : List Bool) (r : Record) (held : Tables) (same : r ≡ record_after N L P u) where
  good_ready : DecodeReady N L P (length held.values) (length held.precisions) (length held.marks) → (v : Verdict) → Judged N L P u v → read_answer word N L P u taken ≡ read_answer word N L P u v
      → held ≡ over (all_of N) (own_tables midpoint N L P u v) held → Good N L P u r held
  good_ready d taken j a f =
      record {
        side = d.side;
        levels = d.levels;
        planes = d.planes;
        fits = j;
        recorded = same;
        values_room = d.values_room;
        precisions_room = d.precisions_room;
        marks_room = d.marks_room;
        filled = f;
      }
  good_ready d (contradiction k) j a f = let z : ◌≡◌ {A = ℕ} 0 1 = cc in absurd (omega (arith, z))
  good_ready d (beyond k) j a f = let z : ◌≡◌ {A = ℕ} 0 1 = cc in absurd (omega (arith, z))

  good_read : (o : Outcome) → o ≡ first_failing (read_checks N L P (length held.values) (length held.precisions) (length held.marks))
      → ReadsTo o midpoint word N L P u held (read_answer word N L P u taken) held → Good N L P u r held
  good_read (Ok tt) e p = good_ready (decode_ready N L P (length held.values) (length held.precisions) (length held.marks) e) p.verdict p.judged p.answered p.filled
  good_read (Err why) e p = let a : read_answer word N L P u taken ≡ Err why = p.0 in let z : ◌≡◌ {A = ℕ} 0 1 = cc in absurd (omega (arith, z))

pub good_of : (N L P : ℕ) (body : List ℕ) (n : ℕ) (r : Record) (held : Tables) → Reached N L P body n r held → n ≤ 8 * length body → Good N L P (bits_of n body) r held
good_of N L P body n r held w h =
    subst (λ (u : List Bool). Good N L P u r held) (body_bits_lem n body h)
    (good_read (ending n body) N L P (body_bits n body) r held w.recorded (first_failing (read_checks N L P (length held.values) (length held.precisions) (length held.marks))) refl w.read)

module _ (N L P : ℕ) (u : List Bool) (r : Record) (held : Tables) (g : Good N L P u r held) where
  -- tables with room, which decoding any bits that are judged fills
  pub reads_judged : (word : ℕ → ℕ → Ending) (body : List ℕ) (k : ℕ) (v : Verdict) → Judged N L P (body_bits k body) v
      → ReadsBy midpoint word N L P k body held (read_answer word N L P (body_bits k body) v) (over (all_of N) (own_tables midpoint N L P (body_bits k body) v) held)
  reads_judged word body k v j =
      subst (λ (o : Outcome). ReadsTo o midpoint word N L P (body_bits k body) held (read_answer word N L P (body_bits k body) v) (over (all_of N) (own_tables midpoint N L P (body_bits k body) v) held))
      (decode_well N L P (length held.values) (length held.precisions) (length held.marks) g.side g.levels g.planes g.values_room g.precisions_room g.marks_room)
      (record { verdict = v; judged = j; answered = refl; filled = refl })

  good_sizes : Sizes N L P (length u) r
  good_sizes = subst (λ (x : Record). Sizes N L P (length u) x) (sym g.recorded) (record_sizes N L P (length u) (after N L P u))

  good_means : Means N L P (length u) (after N L P u) r
  good_means = subst (λ (x : Record). Means N L P (length u) (after N L P u) x) (sym g.recorded) (means_after N L P g.side g.levels g.planes u g.fits)

  pub good_side : r.n ≡ N
  good_side = good_sizes.side

  pub good_levels : r.l ≡ L
  good_levels = good_sizes.levels

  pub good_planes : r.p ≡ P
  good_planes = good_sizes.planes

  pub good_used : r.used ≡ length u
  good_used = good_sizes.bits

  -- the record is in range, its own entries are those of decoding, and its state is the scan's
  pub good_range : in_range r ≡ true
  good_range = good_means.0

  pub good_own : own_of (all_of N) held ≡ own_tables midpoint N L P u taken
  good_own = ap (λ (t : Tables). own_of (all_of N) t) g.filled ∙ own_over (all_of N) (own_tables midpoint N L P u taken) (own_tables_lem N L P g.levels u) held

  pub good_state : state_in r (take (all_of N) held.marks) ≡ after N L P u
  good_state = ap (λ (t : Tables). state_in r t.marks) good_own ∙ ap (λ (t : Stand). state_of t (after N L P u).marks) good_means.1 ∙ state_stand (after N L P u)

-- where decoding the bits v leaves record and tables
pub good_at : (N L P : ℕ) → side_fits N ≡ true → levels_fit N L ≡ true → P ≤ most_planes → (v : List Bool) → Fits N L P v → (held : Tables)
    → Good N L P v (record_after N L P v) (over (all_of N) (own_tables midpoint N L P v taken) held)
good_at N L P side levels planes v w held =
    let o : Own (all_of N) (own_tables midpoint N L P v taken) = own_tables_lem N L P levels v in
    record {
      side = side;
      levels = levels;
      planes = planes;
      fits = w;
      recorded = refl;
      values_room = omega (arith, length-append (values_by N L P v midpoint) (drop (all_of N) held.values), o.values);
      precisions_room = omega (arith, length-append (precisions N L P v) (drop (all_of N) held.precisions), o.precisions);
      marks_room = omega (arith, length-append (after N L P v).marks (drop (all_of N) held.marks), o.marks);
      filled = sym (over_over (all_of N) (own_tables midpoint N L P v taken) o held (own_tables midpoint N L P v taken));
    }

-- and back: what is so is what decoding leaves
pub good_reached : (N L P : ℕ) (body : List ℕ) (n : ℕ) (r : Record) (held : Tables) → Good N L P (bits_of n body) r held → n ≤ 8 * length body → Reached N L P body n r held
good_reached N L P body n r held g h =
    let e : bits_of n body ≡ body_bits n body = sym (body_bits_lem n body h) in
    record {
      read =
          subst (λ (t : Tables). Reads midpoint N L P n body held (read_answer (ending n body) N L P (body_bits n body) taken) t)
          (sym (g.filled ∙ ap (λ (u : List Bool). over (all_of N) (own_tables midpoint N L P u taken) held) e))
          (reads_judged N L P (bits_of n body) r held g (ending n body) body n taken (subst (λ (u : List Bool). Fits N L P u) e g.fits));
      recorded = g.recorded ∙ ap (λ (u : List Bool). record_after N L P u) e;
    }

-- ---- a start that is done

module _ (N L P : ℕ) (r : Record) (held : Tables) (answer : ReadAnswer) (dial : Record) (left : Tables) (p : Starts N L P r held answer dial left) (d : ReadTo) (is : answer ≡ Ok d) where
  start_record : dial ≡ record_after N L P []
  start_record = p.recorded ∙ ap (λ (a : ReadAnswer). elim a as (λ _. Record) [ Ok c ↦ record_after N L P [] | Err why ↦ r ]) is

  start_judged : DecodeReady N L P (length held.values) (length held.precisions) (length held.marks) → (v : Verdict) → Judged N L P [] v → answer ≡ read_answer unended N L P [] v
      → left ≡ over (all_of N) (own_tables midpoint N L P [] v) held → Good N L P [] dial left
  start_judged c taken j a f =
      subst (λ (x : Record). Good N L P [] x left) (sym start_record) (subst (λ (t : Tables). Good N L P [] (record_after N L P []) t) (sym f) (good_at N L P c.side c.levels c.planes [] j held))
  start_judged c (contradiction k) j a f = let z : ◌≡◌ {A = ℕ} 0 1 = cc in absurd (omega (arith, z))
  start_judged c (beyond k) j a f = let z : ◌≡◌ {A = ℕ} 0 1 = cc in absurd (omega (arith, z))

  start_checked : (o : Outcome) → o ≡ first_failing (read_checks N L P (length held.values) (length held.precisions) (length held.marks)) → ReadsTo o midpoint unended N L P [] held answer left → Good N L P [] dial left
  start_checked (Ok tt) e q = start_judged (decode_ready N L P (length held.values) (length held.precisions) (length held.marks) e) q.verdict q.judged q.answered q.filled
  start_checked (Err why) e q = let a : answer ≡ Err why = q.0 in let z : ◌≡◌ {A = ℕ} 0 1 = cc in absurd (omega (arith, z))

  pub start_good : (body : List ℕ) → Good N L P (bits_of 0 body) dial left
  unfolding table
  start_good body = start_checked (first_failing (read_checks N L P (length held.values) (length held.precisions) (length held.marks))) refl p.reads
