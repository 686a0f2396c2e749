-- The calls with the record by value: what their checks say where all hold, the first I entries put back into the tables, and many steps
-- of one kind.
use Prim.Native.Nat.{ℕ, zero, suc, ◌+◌, ◌*◌, ◌-◌, ◌≤◌, ◌<◌, min}
use mathlib.Core.Path.{◌≡◌, refl, sym, ap, subst, ◌∙◌}
use mathlib.Core.Bool.{Bool, true, false, cond, ◌&&◌}
use mathlib.Core.List.{List, [], ◌∷◌, ◌++◌}
use native.Mathlib.Omega.{arith}
use borrow.Author.Tests.{leb-true, le-leb, lt-leb, le-ltb, ltb-true, eqb-false}
use lib.Dec.{leb, ltb, eqb}
use lib.IntN.{ℤ}
use lib.ListN.{length, take, drop, take-append-drop, length-append}
use lib.Seq.{length-take-le}
use Rattle.std.specs.Prelude.{Ok, Err}
use Rattle.refusals.specs.Checks.{Check, need, first_failing, Outcome}
use Rattle.refusals.specs.declared.Refusal.{Refusal}
use Rattle.refusals.specs.declared.Refusal.TheVariants.{Contradiction, Beyond, First, Spent, Lent}
use Rattle.refusals.specs.declared.Refusal.TheVariants as refusal
use Rattle.refusals.proofs.Laws.{first_holds, first_fails, first_none, AllHold, passed, first_then_done, first_then_refused}
use Rattle.sizes.specs.Sizes.{all_of, coarsest_of}
use Rattle.sizes.proofs.Laws.{both, both_left, both_right, sized}
use Rattle.sizes.specs.Tables.{table}
use Rattle.bits.specs.Bits.{bit_at}
use Rattle.nls.specs.Scan.{State}
use Rattle.nls.specs.Reading.{midpoint, last_plane, planes_finished, worst_error}
use Rattle.nls.specs.Judging.{Verdict, taken, contradiction, beyond}
use Rattle.room.specs.Room.{room_in, table_checks, read_checks, body_bits}
use Rattle.room.proofs.Laws.{DecodeReady, decode_ready}
use Rattle.moves.specs.Stands.{stand_of}
use Rattle.moves.specs.Moves.{onward}
use Rattle.moves.proofs.Laws.{state_stand}
use Rattle.undo.specs.Back.{big_in, back}
use Rattle.decoder.specs.Body.{Tables, tables, read_answer, over, ReadsTo, Reads, ReadAnswer}
use Rattle.decoder.specs.Ending.{whole_or, ending}
use Rattle.decoder.specs.declared.ending.Ending.{Ending}
use Rattle.decoder.specs.declared.ending.Ending.TheVariants.{GoesOn}
use Rattle.decoder.specs.declared.body.ReadTo.{ReadTo}
use Rattle.steps.specs.Records.{record_of, record_after, in_range, stand_in, state_in, Step, step, stays}
use Rattle.steps.specs.Moved.{asked_in, heard, unheard, noted, moved_to, barred, raised, raised_to, lowered, lowered_to}
use Rattle.steps.specs.Ready.{Ready, CallReady, Stood, forward_in, back_in, own_steps}
use Rattle.steps.specs.Steps.{usable_bits, record_checks, own_of, within, forward_to, forward_of, back_to, back_of, steps_of, position_of, turn_to, turn_of, unended, Starts}
use Rattle.steps.specs.declared.Record.{Record}
use Rattle.steps.proofs.RecordLaws.{begin_left}
use Rattle.steps.proofs.Standing.{stood_first, stood_onward, stood_back, record_range, record_n, record_used}
use Rattle.steps.proofs.Lengths.{heard_length, unheard_length, noted_length, onward_length, back_length}
use Rattle.steps.proofs.Good.{Own, own_over, over_over}

-- ---- the checks of a record and of the tables lent with it, where all hold

pub call_ready : (r : Record) (most values precisions marks : ℕ) → (Ok tt) ≡ first_failing (record_checks r most values precisions marks) → CallReady r most values precisions marks
unfolding AllHold room_in
call_ready r most values precisions marks is =
    let all = passed (record_checks r most values precisions marks) (sym is) in
    let rooms = all.1.0 in
    let others = both_right (leb (all_of r.n) values) (leb (all_of r.n) precisions && leb (all_of r.n) marks) rooms in
    record {
      range = both_left (in_range r) (leb r.used most) all.0;
      few = leb-true r.used most (both_right (in_range r) (leb r.used most) all.0);
      values_room = leb-true (all_of r.n) values (both_left (leb (all_of r.n) values) (leb (all_of r.n) precisions && leb (all_of r.n) marks) rooms);
      precisions_room = leb-true (all_of r.n) precisions (both_left (leb (all_of r.n) precisions) (leb (all_of r.n) marks) others);
      marks_room = leb-true (all_of r.n) marks (both_right (leb (all_of r.n) precisions) (leb (all_of r.n) marks) others);
    }

-- and all hold where these are so
pub checks_done : (r : Record) (most values precisions marks : ℕ) → in_range r ≡ true → r.used ≤ most → all_of r.n ≤ values → all_of r.n ≤ precisions → all_of r.n ≤ marks
    → first_failing (record_checks r most values precisions marks) ≡ Ok tt
unfolding room_in
checks_done r most values precisions marks range few v k m =
    first_holds (in_range r && leb r.used most) refusal.Record (table_checks (all_of r.n) values precisions marks) (both range (le-leb r.used most few))
    ∙ first_holds (room_in (all_of r.n) values precisions marks) Lent [] (both (le-leb (all_of r.n) values v) (both (le-leb (all_of r.n) precisions k) (le-leb (all_of r.n) marks m)))
    ∙ first_none

-- ---- the tables cut to their first I entries, and put back

pub own_ready : (r : Record) (most : ℕ) (held : Tables) → CallReady r most (length held.values) (length held.precisions) (length held.marks) → (I : ℕ) → I ≡ all_of r.n
    → Ready r (length (take I held.values)) (length (take I held.precisions)) (length (take I held.marks))
own_ready r most held w I ei =
    record {
      range = w.range;
      values_size = length-take-le I held.values (omega (arith, ei, w.values_room)) ∙ ei;
      precisions_size = length-take-le I held.precisions (omega (arith, ei, w.precisions_room)) ∙ ei;
      marks_size = length-take-le I held.marks (omega (arith, ei, w.marks_room)) ∙ ei;
    }

pub own_steps_lem : (word : ℕ → ℕ → Ending) (f : Record → Tables → Step) (k : ℕ) (r : Record) (held : Tables) (I : ℕ) → I ≡ all_of r.n → (x : Step) → x ≡ steps_of f k (step (position_of word r) r (own_of I held))
    → within I held x ≡ own_steps word f k r held
own_steps_lem word f k r held I ei x e =
    ap (λ (s : Step). within I held s) e ∙ ap (λ (n : ℕ). within n held (steps_of f k (step (position_of word r) r (own_of n held)))) ei

-- ---- one step, over the first I entries

-- the first I entries as they were
own_back : (I : ℕ) (held : Tables) → over I (own_of I held) held ≡ held
own_back I held =
    λ i. tables (take-append-drop I held.values i) (take-append-drop I held.precisions i) (take-append-drop I held.marks i)

-- any call whose last check is t: `to` answers by the outcome of the checks, and `f` is the step over the first I entries
module _ (checks : List Check) (t : Bool) (why : Refusal) (r : Record) (held : Tables) (to : Outcome → Step) where
  call_refused : (cause : Refusal) → Err cause ≡ first_failing checks → to (Err cause) ≡ stays cause r held
      → stays cause r held ≡ to (first_failing (checks ++ (need t why ∷ [])))
  call_refused cause is e = sym e ∙ ap (λ (o : Outcome). to o) (sym (first_then_refused checks (need t why ∷ []) cause (sym is)))

  module _ (is : (Ok tt) ≡ first_failing checks) where
    last : first_failing (checks ++ (need t why ∷ [])) ≡ first_failing (need t why ∷ [])
    last = first_then_done checks (need t why ∷ []) (sym is)

    call_barred : t ≡ false → to (Err why) ≡ stays why r held → stays why r held ≡ to (first_failing (checks ++ (need t why ∷ [])))
    call_barred h e = sym e ∙ ap (λ (o : Outcome). to o) (sym (last ∙ first_fails t why [] h))

    call_moved : (I : ℕ) (f : Tables → Step) → to (Ok tt) ≡ within I held (f (own_of I held)) → to (Err why) ≡ stays why r held
        → within I held (cond t (f (own_of I held)) (stays why r (own_of I held))) ≡ to (first_failing (checks ++ (need t why ∷ [])))
    call_moved I f done refused = tell t refl
      where
        at : Bool → Step
        at x = within I held (cond x (f (own_of I held)) (stays why r (own_of I held)))

        tell : (x : Bool) → t ≡ x → at t ≡ to (first_failing (checks ++ (need t why ∷ [])))
        tell true h = ap at h ∙ sym done ∙ ap (λ (o : Outcome). to o) (sym (last ∙ first_holds t why [] h ∙ first_none))
        tell false h = ap at h ∙ ap (λ (x : Tables). stays why r x) (own_back I held) ∙ call_barred h refused

module _ (r : Record) (held : Tables) where
  -- the outcome of the checks, where this many bits are usable
  abbrev pub outcome_for : ℕ → Outcome
  outcome_for most = first_failing (record_checks r most (length held.values) (length held.precisions) (length held.marks))

module _ (declared : ℕ) (body : List ℕ) (r : Record) (held : Tables) (most : ℕ) (em : most ≡ usable_bits declared body) where
  abbrev checks : List Check
  checks = record_checks r (usable_bits declared body) (length held.values) (length held.precisions) (length held.marks)

  abbrev raise : Tables → Step
  raise t = raised r (ending declared body) (state_in r t.marks) (bit_at body r.used) t

  abbrev lower : Tables → Step
  lower t = lowered r (ending declared body) (state_in r t.marks) (bit_at body (r.used - 1)) t

  so : (o : Outcome) → o ≡ outcome_for r held most → o ≡ first_failing checks
  so o is = is ∙ ap (λ (k : ℕ). outcome_for r held k) em

  pub forward_refused : (cause : Refusal) → Err cause ≡ outcome_for r held most → stays cause r held ≡ forward_of declared body r held
  forward_refused cause is =
      call_refused checks (ltb r.used (usable_bits declared body)) Spent r held (λ o. forward_to o declared body r held) cause (so _ is) refl

  pub back_refused : (cause : Refusal) → Err cause ≡ outcome_for r held most → stays cause r held ≡ back_of declared body r held
  back_refused cause is = call_refused checks (ltb 0 r.used) First r held (λ o. back_to o declared body r held) cause (so _ is) refl

  module _ (is : (Ok tt) ≡ outcome_for r held most) where
    -- all hold for the usable bits of the body
    pub usable_ready : CallReady r (usable_bits declared body) (length held.values) (length held.precisions) (length held.marks)
    usable_ready = call_ready r (usable_bits declared body) (length held.values) (length held.precisions) (length held.marks) (so (Ok tt) is)

    -- where no usable bit is left, and where no bit is used
    pub forward_at_end : r.used ≡ most → stays Spent r held ≡ forward_of declared body r held
    forward_at_end h =
        call_barred checks (ltb r.used (usable_bits declared body)) Spent r held (λ o. forward_to o declared body r held) (so _ is) (le-ltb r.used (usable_bits declared body) (omega (arith, h, em))) refl

    pub back_at_first : r.used ≡ 0 → stays First r held ≡ back_of declared body r held
    back_at_first h = call_barred checks (ltb 0 r.used) First r held (λ o. back_to o declared body r held) (so _ is) (le-ltb 0 r.used (omega (arith, h))) refl

    module _ (I : ℕ) (ei : I ≡ all_of r.n) where
      forward_once : within I held (forward_in (ending declared body) most body r (own_of I held)) ≡ forward_of declared body r held
      forward_once =
          ap (λ (k : ℕ). within I held (forward_in (ending declared body) k body r (own_of I held))) em
          ∙ call_moved checks (ltb r.used (usable_bits declared body)) Spent r held (λ o. forward_to o declared body r held) (so _ is) I raise (ap (λ (k : ℕ). within k held (raise (own_of k held))) (sym ei)) refl

      back_once : within I held (back_in (ending declared body) body r (own_of I held)) ≡ back_of declared body r held
      back_once =
          call_moved checks (ltb 0 r.used) First r held (λ o. back_to o declared body r held) (so _ is) I lower (ap (λ (k : ℕ). within k held (lower (own_of k held))) (sym ei)) refl

-- ---- many steps of one kind

module _ (f : Record → Tables → Step) (at x : Step) (e : x ≡ f at.dial at.held) (k j : ℕ) (more : k ≡ suc j) where
  -- one of them is done
  pub steps_on : (d : ReadTo) → x.answer ≡ Ok d → steps_of f j x ≡ steps_of f k at
  unfolding steps_of
  steps_on d g =
      sym (ap (λ (n : ℕ). steps_of f n at) more ∙ tell (f at.dial at.held).answer (ap (λ (z : Step). z.answer) (sym e) ∙ g) ∙ ap (λ (z : Step). steps_of f j z) (sym e))
    where
      tell : (a : ReadAnswer) → a ≡ Ok d
          → elim a [ Ok y ↦ steps_of f j (f at.dial at.held) | Err why ↦ f at.dial at.held ] ≡ steps_of f j (f at.dial at.held)
      tell a h = rw h

  -- one of them is refused
  pub steps_end : (why : Refusal) → x.answer ≡ Err why → x ≡ steps_of f k at
  unfolding steps_of
  steps_end why g =
      sym (ap (λ (n : ℕ). steps_of f n at) more ∙ tell (f at.dial at.held).answer (ap (λ (z : Step). z.answer) (sym e) ∙ g) ∙ sym e)
    where
      tell : (a : ReadAnswer) → a ≡ Err why
          → elim a [ Ok y ↦ steps_of f j (f at.dial at.held) | Err w ↦ f at.dial at.held ] ≡ f at.dial at.held
      tell a h = rw h

-- no step is left
pub steps_none : (f : Record → Tables → Step) (k : ℕ) (at : Step) → k ≡ 0 → at ≡ steps_of f k at
unfolding steps_of
steps_none f k at e = rw e

-- only one is left
pub steps_one : (f : Record → Tables → Step) (k : ℕ) (at : Step) → k ≡ 1 → steps_of f k at ≡ f at.dial at.held
unfolding steps_of
steps_one f k at e = ap (λ (n : ℕ). steps_of f n at) e ∙ tell (f at.dial at.held).answer
  where
    tell : (a : ReadAnswer) → elim a [ Ok y ↦ steps_of f 0 (f at.dial at.held) | Err why ↦ f at.dial at.held ] ≡ f at.dial at.held
    tell (Ok y) = refl
    tell (Err why) = refl

-- Steps f over whole tables and steps g over their first I entries: where each f is a g, with the rest of the tables as it was, many are.
-- `Holds` is what makes it so, and what a step that is done keeps.
module _ (I : ℕ) (f g : Record → Tables → Step) (Holds : Record → Tables → Type 0)
    (each : (r : Record) (held : Tables) → Holds r held → within I held (g r (own_of I held)) ≡ f r held)
    (kept : (r : Record) (held : Tables) → Holds r held → (d : ReadTo) → (g r (own_of I held)).answer ≡ Ok d
    → Own I (g r (own_of I held)).held × Holds (g r (own_of I held)).dial (over I (g r (own_of I held)).held held)) where
  abbrev Lifts : ℕ → Type 0
  Lifts k = (a : ReadAnswer) (r : Record) (held : Tables) → Holds r held → within I held (steps_of g k (step a r (own_of I held))) ≡ steps_of f k (step a r held)

  lifts_none : Lifts 0
  unfolding steps_of
  lifts_none a r held h = ap (λ (t : Tables). step a r t) (own_back I held)

  lifts_more : (k : ℕ) → Lifts k → Lifts (suc k)
  lifts_more k more a r held h = tell x.answer refl
    where
      own : Tables
      own = own_of I held

      x : Step
      x = g r own

      same : within I held x ≡ f r held
      same = each r held h

      tell : (b : ReadAnswer) → x.answer ≡ b → within I held (steps_of g (suc k) (step a r own)) ≡ steps_of f (suc k) (step a r held)
      tell (Err why) e =
          ap (λ (s : Step). within I held s) (sym (steps_end g (step a r own) x refl (suc k) k refl why e)) ∙ same
          ∙ steps_end f (step a r held) (f r held) refl (suc k) k refl why (ap (λ (s : Step). s.answer) (sym same) ∙ e)
      tell (Ok d) e =
          let w = kept r held h d e in
          let later : Tables = over I x.held held in
          let end : Step = steps_of g k (step x.answer x.dial (own_of I later)) in
          ap (λ (s : Step). within I held s) (sym (steps_on g (step a r own) x refl (suc k) k refl d e))
          ∙ ap (λ (t : Tables). within I held (steps_of g k (step x.answer x.dial t))) (sym (own_over I x.held w.0 held))
          ∙ ap (λ (t : Tables). step end.answer end.dial t) (sym (over_over I x.held w.0 held end.held))
          ∙ more x.answer x.dial later w.1
          ∙ ap (λ (s : Step). steps_of f k s) same
          ∙ steps_on f (step a r held) (f r held) refl (suc k) k refl d (ap (λ (s : Step). s.answer) (sym same) ∙ e)

  steps_within : (k : ℕ) → Lifts k
  steps_within zero = lifts_none
  steps_within (suc k) = lifts_more k (steps_within k)

-- ---- what a step over tables of I entries keeps

-- a step that is done leaves a record of the same size, in range, and tables as long
abbrev Keeps : ℕ → ℕ → ReadAnswer → Record → Tables → Type 0
Keeps N most (Ok d) dial own = (dial.n ≡ N) × (in_range dial ≡ true) × (dial.used ≤ most) × Own (all_of N) own
Keeps N most (Err why) dial own = Unit {0}

module _ (word : ℕ → ℕ → Ending) (r : Record) (most : ℕ) (t : Tables) (w : Ready r (length t.values) (length t.precisions) (length t.marks)) where
  moved_keeps : (used : ℕ) (s : State) (v : List ℤ) (k : List ℕ) → used ≤ most → Stood r (stand_of s) → Own (all_of r.n) (tables v k s.marks)
      → let x = moved_to r word used s v k in Keeps r.n most x.answer x.dial x.held
  moved_keeps used s v k h at o = (
    record_n r.n r.l r.p used s,
    subst (λ (t : State). in_range (record_of r.n r.l r.p used t) ≡ true) (state_stand s) (record_range r w.range used (stand_of s) s.marks at),
    subst (λ (x : ℕ). x ≤ most) (sym (record_used r.n r.l r.p used s)) h,
    o,
  )

  module _ (body : List ℕ) where
    abbrev here : State
    here = state_in r t.marks

    abbrev forth : Step
    forth = forward_in word most body r t

    abbrev hence : Step
    hence = back_in word body r t

    forward_keeps : Keeps r.n most forth.answer forth.dial forth.held
    forward_keeps = on (ltb r.used most) (eqb here.left 0) (barred r here a) refl refl
      where
        a : Bool
        a = bit_at body r.used

        on : (x y z : Bool) → ltb r.used most ≡ x → eqb here.left 0 ≡ y
            → let s = cond x (cond y (stays (Beyond r.used) r t) (cond z (stays (Contradiction r.used) r t) (raised_to r word here a t))) (stays Spent r t) in Keeps r.n most s.answer s.dial s.held
        on false y z e f = tt
        on true true z e f = tt
        on true false true e f = tt
        on true false false e f =
            moved_keeps (r.used + 1) (onward (all_of r.n) here a) (heard (asked_in (all_of r.n) here) here.place (here.left - 1) a t.values) (noted r.n r.l (asked_in (all_of r.n) here) here.place (here.left - 1) a t.precisions)
            (omega (arith, ltb-true r.used most e))
            (stood_onward r w.range (stand_in r) t.marks a (stood_first r w.range) (omega (arith, eqb-false here.left 0 f)))
            (record {
              values = heard_length (asked_in (all_of r.n) here) here.place (here.left - 1) a t.values ∙ w.values_size;
              precisions = noted_length r.n r.l (asked_in (all_of r.n) here) here.place (here.left - 1) a t.precisions ∙ w.precisions_size;
              marks = onward_length (all_of r.n) (all_of r.n) here a w.marks_size;
            })

    back_keeps : r.used ≤ most → Keeps r.n most hence.answer hence.dial hence.held
    back_keeps few = on (ltb 0 r.used)
      where
        a : Bool
        a = bit_at body (r.used - 1)

        s : State
        s = back (all_of r.n) (coarsest_of r.n r.l) r.p (big_in t.values) here

        on : (x : Bool) → let z = cond x (lowered_to r word s a t) (stays First r t) in Keeps r.n most z.answer z.dial z.held
        on false = tt
        on true =
            moved_keeps (r.used - 1) s (unheard (asked_in (all_of r.n) s) s.place s.left t.values) (noted r.n r.l (asked_in (all_of r.n) s) s.place s.left a t.precisions)
            (omega (arith, few))
            (stood_back r w.range (stand_in r) t.marks t.values w.marks_size (stood_first r w.range))
            (record {
              values = unheard_length (asked_in (all_of r.n) s) s.place s.left t.values ∙ w.values_size;
              precisions = noted_length r.n r.l (asked_in (all_of r.n) s) s.place s.left a t.precisions ∙ w.precisions_size;
              marks = back_length (all_of r.n) (all_of r.n) (coarsest_of r.n r.l) r.p (big_in t.values) here w.marks_size;
            })

-- ---- many steps, over the first I entries

-- the checks hold, for a record of N
record Checked (N most : ℕ) (r : Record) (held : Tables) : Type 0 where
  side : r.n ≡ N
  done : (Ok tt) ≡ outcome_for r held most

module _ (N most : ℕ) (r : Record) (held : Tables) (h : Checked N most r held) where
  abbrev own : Tables
  own = own_of (all_of N) held

  ready : CallReady r most (length held.values) (length held.precisions) (length held.marks)
  ready = call_ready r most (length held.values) (length held.precisions) (length held.marks) h.done

  as_long : Ready r (length own.values) (length own.precisions) (length own.marks)
  as_long = own_ready r most held ready (all_of N) (ap all_of (sym h.side))

  checked_on : (x : Step) → Keeps r.n most x.answer x.dial x.held → (d : ReadTo) → x.answer ≡ Ok d
      → Own (all_of N) x.held × Checked N most x.dial (over (all_of N) x.held held)
  checked_on x k d e =
      let z : Keeps N most (Ok d) x.dial x.held = subst (λ (n : ℕ). Keeps n most (Ok d) x.dial x.held) h.side (subst (λ (a : ReadAnswer). Keeps r.n most a x.dial x.held) e k) in
      let i : all_of x.dial.n ≡ all_of N = ap all_of z.0 in (
        z.3,
        record {
          side = z.0;
          done =
              sym (checks_done x.dial most (length (x.held.values ++ drop (all_of N) held.values)) (length (x.held.precisions ++ drop (all_of N) held.precisions)) (length (x.held.marks ++ drop (all_of N) held.marks))
              z.1 z.2
              (omega (arith, i, length-append x.held.values (drop (all_of N) held.values), z.3.values))
              (omega (arith, i, length-append x.held.precisions (drop (all_of N) held.precisions), z.3.precisions))
              (omega (arith, i, length-append x.held.marks (drop (all_of N) held.marks), z.3.marks)));
        },
      )

module _ (word : ℕ → ℕ → Ending) (body : List ℕ) (most N : ℕ) where
  forward_on : (r : Record) (held : Tables) → Checked N most r held → (d : ReadTo) → let x = forward_in word most body r (own_of (all_of N) held) in x.answer ≡ Ok d
      → Own (all_of N) x.held × Checked N most x.dial (over (all_of N) x.held held)
  forward_on r held h d e =
      checked_on N most r held h (forward_in word most body r (own_of (all_of N) held))
      (forward_keeps word r most (own_of (all_of N) held) (as_long N most r held h) body) d e

  back_on : (r : Record) (held : Tables) → Checked N most r held → (d : ReadTo) → let x = back_in word body r (own_of (all_of N) held) in x.answer ≡ Ok d
      → Own (all_of N) x.held × Checked N most x.dial (over (all_of N) x.held held)
  back_on r held h d e =
      checked_on N most r held h (back_in word body r (own_of (all_of N) held))
      (back_keeps word r most (own_of (all_of N) held) (as_long N most r held h) body (ready N most r held h).few) d e

module _ (declared : ℕ) (body : List ℕ) (r : Record) (held : Tables) (most : ℕ) (em : most ≡ usable_bits declared body) (is : (Ok tt) ≡ outcome_for r held most) (k : ℕ) where
  forward_all : own_steps (ending declared body) (forward_in (ending declared body) (usable_bits declared body) body) k r held ≡ steps_of (forward_of declared body) k (step (position_of (ending declared body) r) r held)
  forward_all =
      steps_within (all_of r.n) (forward_of declared body) (forward_in (ending declared body) (usable_bits declared body) body) (Checked r.n (usable_bits declared body))
      (λ s t h. forward_once declared body s t (usable_bits declared body) refl h.done (all_of r.n) (ap all_of (sym h.side))) (forward_on (ending declared body) body (usable_bits declared body) r.n)
      k (position_of (ending declared body) r) r held (record { side = refl; done = so declared body r held most em (Ok tt) is })

  back_all : own_steps (ending declared body) (back_in (ending declared body) body) k r held ≡ steps_of (back_of declared body) k (step (position_of (ending declared body) r) r held)
  back_all =
      steps_within (all_of r.n) (back_of declared body) (back_in (ending declared body) body) (Checked r.n most)
      (λ s t h. back_once declared body s t most em h.done (all_of r.n) (ap all_of (sym h.side))) (back_on (ending declared body) body most r.n)
      k (position_of (ending declared body) r) r held (record { side = refl; done = is })

  -- only one
  module _ (one : k ≡ 1) (x : Step) where
    pub forward_moved : x ≡ own_steps (ending declared body) (forward_in (ending declared body) (usable_bits declared body) body) k r held → x ≡ forward_of declared body r held
    forward_moved e = e ∙ forward_all ∙ steps_one (forward_of declared body) k (step (position_of (ending declared body) r) r held) one

    pub back_moved : x ≡ own_steps (ending declared body) (back_in (ending declared body) body) k r held → x ≡ back_of declared body r held
    back_moved e = e ∙ back_all ∙ steps_one (back_of declared body) k (step (position_of (ending declared body) r) r held) one

-- ---- a turn

module _ (declared to : ℕ) (body : List ℕ) (r : Record) (held : Tables) (most : ℕ) (em : most ≡ usable_bits declared body) where
  by_checks : (o : Outcome) → o ≡ outcome_for r held most → turn_to o declared to body r held ≡ turn_of declared to body r held
  by_checks o is = ap (λ (q : Outcome). turn_to q declared to body r held) (so declared body r held most em o is)

  pub turn_refused : (why : Refusal) → Err why ≡ outcome_for r held most → stays why r held ≡ turn_of declared to body r held
  turn_refused why is = by_checks (Err why) is

  module _ (is : (Ok tt) ≡ outcome_for r held most) (x : Step) where
    abbrev down : Step
    down = steps_of (back_of declared body) (r.used - to) (step (position_of (ending declared body) r) r held)

    abbrev up : Step
    up = steps_of (forward_of declared body) (to - r.used) (step (position_of (ending declared body) r) r held)

    by_test : (b : Bool) → leb to r.used ≡ b → cond b down up ≡ turn_of declared to body r held
    by_test b e = ap (λ (t : Bool). cond t down up) (sym e) ∙ by_checks (Ok tt) is

    pub turn_down : to ≤ r.used → x ≡ own_steps (ending declared body) (back_in (ending declared body) body) (r.used - to) r held → x ≡ turn_of declared to body r held
    turn_down h e = e ∙ back_all declared body r held most em is (r.used - to) ∙ by_test true (le-leb to r.used h)

    pub turn_up : r.used < to → x ≡ own_steps (ending declared body) (forward_in (ending declared body) (usable_bits declared body) body) (to - r.used) r held → x ≡ turn_of declared to body r held
    turn_up h e = e ∙ forward_all declared body r held most em is (to - r.used) ∙ by_test false (lt-leb to r.used h)

-- ---- the start

module _ (N L P : ℕ) (body : List ℕ) (held : Tables) (answer : ReadAnswer) (left : Tables) (read : Reads midpoint N L P 0 body held answer left) where
  abbrev checked : Outcome
  checked = first_failing (read_checks N L P (length held.values) (length held.precisions) (length held.marks))

  none_read : body_bits 0 body ≡ []
  unfolding table
  none_read = let e : min 0 (8 * length body) ≡ 0 = omega arith in rw e

  read_so : (a : ReadAnswer) → answer ≡ a → ReadsTo checked midpoint (ending 0 body) N L P [] held a left
  read_so a e =
      subst (λ (b : ReadAnswer). ReadsTo checked midpoint (ending 0 body) N L P [] held b left) e (subst (λ (u : List Bool). ReadsTo checked midpoint (ending 0 body) N L P u held answer left) none_read read)

  -- a call that is done passed its checks
  pub start_ready : (d : ReadTo) → answer ≡ Ok d → DecodeReady N L P (length held.values) (length held.precisions) (length held.marks)
  start_ready d e = tell checked refl (read_so (Ok d) e)
    where
      tell : (o : Outcome) → checked ≡ o → ReadsTo o midpoint (ending 0 body) N L P [] held (Ok d) left → DecodeReady N L P (length held.values) (length held.precisions) (length held.marks)
      tell (Ok tt) h k = decode_ready N L P (length held.values) (length held.precisions) (length held.marks) (sym h)
      tell (Err why) h k =
          let f : Ok d ≡ Err why = k.0 in
          let z : ◌≡◌ {A = ℕ} 0 1 = cc in
          absurd (omega arith)

  -- the same reading, with the word of a start
  start_as : (a : ReadAnswer) → ((v : Verdict) → answer ≡ read_answer (ending 0 body) N L P [] v → a ≡ read_answer unended N L P [] v)
      → ((why : Refusal) → answer ≡ Err why → a ≡ Err why) → ReadsTo checked midpoint unended N L P [] held a left
  start_as a f g = tell checked (read_so answer refl)
    where
      tell : (o : Outcome) → ReadsTo o midpoint (ending 0 body) N L P [] held answer left → ReadsTo o midpoint unended N L P [] held a left
      tell (Ok tt) k = record { verdict = k.verdict; judged = k.judged; answered = f k.verdict k.answered; filled = k.filled }
      tell (Err why) k = (g why k.0, k.1)

  pub start_done : (r : Record) (d : ReadTo) → answer ≡ Ok d → (said : Ending) → said ≡ whole_or P GoesOn → (dial : Record) → dial ≡ record_after N L P []
      → Starts N L P r held (Ok (record { used = d.used; finished = d.finished; error = d.error; ending = said })) dial left
  start_done r d e said is dial first = record { reads = start_as started read_in refused_in; recorded = first }
    where
      started : ReadAnswer
      started = Ok (record { used = d.used; finished = d.finished; error = d.error; ending = said })

      read_in : (v : Verdict) → answer ≡ read_answer (ending 0 body) N L P [] v → started ≡ read_answer unended N L P [] v
      read_in taken q =
          let a : Ok d ≡ read_answer (ending 0 body) N L P [] taken = sym e ∙ q in
          let same : d ≡ record { used = 0; finished = planes_finished N L P []; error = worst_error N L P []; ending = ending 0 body 0 (last_plane N L P []) } = cc in
          let word : said ≡ unended 0 (last_plane N L P []) = is ∙ ap (λ (x : ℕ). whole_or x GoesOn) (sym (begin_left N L P (sized N L (start_ready d e).levels))) in
          λ i. Ok (record { used = (same i).used; finished = (same i).finished; error = (same i).error; ending = word i })
      read_in (contradiction k) q = let z : ◌≡◌ {A = ℕ} 0 1 = cc in absurd (omega (arith, z))
      read_in (beyond k) q = let z : ◌≡◌ {A = ℕ} 0 1 = cc in absurd (omega (arith, z))

      refused_in : (why : Refusal) → answer ≡ Err why → started ≡ Err why
      refused_in why q = let z : ◌≡◌ {A = ℕ} 0 1 = cc in absurd (omega (arith, z))

  pub start_refused : (r : Record) (why : Refusal) → answer ≡ Err why → Starts N L P r held (Err why) r left
  start_refused r why e = record { reads = start_as (Err why) read_in (λ w q. sym e ∙ q); recorded = refl }
    where
      read_in : (v : Verdict) → answer ≡ read_answer (ending 0 body) N L P [] v → Err why ≡ read_answer unended N L P [] v
      read_in taken q = let z : ◌≡◌ {A = ℕ} 0 1 = cc in absurd (omega (arith, z))
      read_in (contradiction k) q = sym e ∙ q
      read_in (beyond k) q = sym e ∙ q
