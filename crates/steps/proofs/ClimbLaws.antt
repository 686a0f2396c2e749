-- What each way through one step forward leaves, and what many leave, where the scan stands at `at` after `used` bits.
use mathlib.Core.Path.{◌≡◌, refl, sym, ap, ◌∙◌}
use mathlib.Core.Bool.{Bool, true, false, cond, not, ◌&&◌}
use mathlib.Core.List.{List}
use Prim.Native.Nat.{ℕ, ◌+◌, ◌-◌, ◌^◌, ◌≤◌, ◌<◌}
use native.Mathlib.Omega.{arith}
use borrow.Author.Tests.{eq-eqb, ne_eqb, lt-ltb, le-ltb}
use lib.Dec.{eqb, ltb}
use lib.IntN.{ℤ}
use Rattle.std.specs.Prelude.{Ok}
use Rattle.refusals.specs.declared.Refusal.{Refusal, TheVariants.Contradiction, TheVariants.Beyond, TheVariants.Spent}
use Rattle.sizes.specs.Sizes.{most_n, most_planes, all_of, coarsest_of}
use Rattle.sizes.proofs.Laws.{both, side_most, all_most}
use Rattle.bits.specs.Bits.{bit_at, Next}
use Rattle.view.specs.View.{viewed}
use Rattle.view.proofs.Laws.{viewed_within}
use Rattle.nls.specs.Scan.{State}
use Rattle.marking.proofs.Laws.{in_true}
use Rattle.moves.specs.Stands.{state_of, stand_of}
use Rattle.moves.specs.Moves.{onward, stand_fits}
use Rattle.moves.specs.declared.Stand.{Stand}
use Rattle.moves.proofs.Laws.{state_stand}
use Rattle.reading.specs.Reading.{bars_zero}
use Rattle.reading.proofs.ReadLaws.{told_bit}
use Rattle.decoder.specs.{Body.Tables, Body.tables, declared.ending.Ending.Ending, Body.ReadAnswer}
use Rattle.steps.specs.declared.{Record.Record, Asked.Asked}
use Rattle.steps.specs.Records.{record_at, record_of, in_range, stand_in, state_in, Step, step, stays}
use Rattle.steps.specs.Moved.{asked_in, noted, heard, reached, moved_to, raised_to, barred}
use Rattle.steps.specs.Ready.{Stood, forward_in}
use Rattle.steps.specs.Steps.{usable_bits, steps_of, position_of}
use Rattle.steps.proofs.RecordLaws.{range_sizes}
use Rattle.steps.proofs.Standing.{record_n, record_l, record_p, record_used, record_stand, record_same}
use Rattle.steps.proofs.CallLaws.{steps_on, steps_end}

-- what a bit read through the view tells
pub read_bit : (body : List ℕ) (n declared : ℕ) {next : Next} → next ≡ viewed body n declared → (x : Bool) → next ≡ Ok x → (n < usable_bits declared body) × (x ≡ bit_at body n)
read_bit body n declared is x e = (viewed_within body n declared x (sym is ∙ e), (told_bit body n declared is x e).1)

module _ (r : Record) (range : in_range r ≡ true) where
  abbrev I : ℕ
  I = all_of r.n

  abbrev D : ℕ
  D = coarsest_of r.n r.l

  I_small : I ≤ all_of most_n
  I_small = all_most r.n (side_most r.n (range_sizes r range).0)

  -- ---- where the scan can stand

  module _ (at : Stand) (stood : Stood r at) where
    -- no more planes are left than there can be
    pub stood_planes : at.left ≤ most_planes
    stood_planes = omega (arith, stood.planes, (range_sizes r range).2)

    -- its place is one of a record
    pub stood_place : 1 ≤ at.left → at.place < 2 ^ 32
    stood_place h = omega (arith, stood.place h, I_small)

    -- moves go on from there
    pub stood_fits : (J : ℕ) → J ≡ I → 1 ≤ at.left → stand_fits J at ≡ true
    unfolding stand_fits
    stood_fits J j h =
        both (in_true J at.place (omega (arith, I_small)) (omega (arith, stood.place h))) (lt-ltb at.pass 3 stood.known)

    -- ---- an answer

    module _ (some_left : 1 ≤ at.left) (a : Bool) (J : ℕ) (j : J ≡ I) (m : List ℕ) where
      pub told_stand : (on : Stand) → on ≡ cond (stand_fits J at) (stand_of (onward J (state_of at m) a)) at → on ≡ stand_of (onward I (state_of at m) a)
      told_stand on e = e ∙ rw (stood_fits J j some_left, j)

      pub told_tables : (m' : List ℕ) (what : Asked) (v v' : List ℤ) (k k' : List ℕ) → m' ≡ cond (stand_fits J at) (onward J (state_of at m) a).marks m
          → what ≡ asked_in J (state_of at m) → v' ≡ heard what at.place (at.left - 1) a v → k' ≡ noted r.n r.l what at.place (at.left - 1) a k
          → tables v' k' m' ≡ tables (heard (asked_in I (state_of at m)) at.place (at.left - 1) a v) (noted r.n r.l (asked_in I (state_of at m)) at.place (at.left - 1) a k) (onward I (state_of at m) a).marks
      told_tables m' what v v' k k' f q ev ek =
          let w : what ≡ asked_in I (state_of at m) = q ∙ rw j in
          let values : v' ≡ heard (asked_in I (state_of at m)) at.place (at.left - 1) a v = ev ∙ ap (λ (y : Asked). heard y at.place (at.left - 1) a v) w in
          let planes : k' ≡ noted r.n r.l (asked_in I (state_of at m)) at.place (at.left - 1) a k = ek ∙ ap (λ (y : Asked). noted r.n r.l y at.place (at.left - 1) a k) w in
          let marks : m' ≡ (onward I (state_of at m) a).marks = f ∙ rw (stood_fits J j some_left, j) in
          λ i. tables (values i) (planes i) (marks i)

    -- ---- one step from there, after `used` bits

    module _ (word : ℕ → ℕ → Ending) (most : ℕ) (body : List ℕ) (used : ℕ) (v : List ℤ) (k m : List ℕ) where
      abbrev s : State
      s = state_of at m

      abbrev here : Record
      here = record_of r.n r.l r.p used s

      abbrev t : Tables
      t = tables v k m

      -- a step reads the sizes and the bits used in a record, and the state that it stands for
      abbrev by_parts : ℕ → ℕ → ℕ → ℕ → State → Step
      by_parts N L P u x =
          let plain = record_at N L P 0 0 0 u 0 in
          cond (ltb u most) (cond (eqb x.left 0) (stays (Beyond u) here t) (cond (barred plain x (bit_at body u)) (stays (Contradiction u) here t) (raised_to plain word x (bit_at body u) t))) (stays Spent here t)

      forward_parts : forward_in word most body here t ≡ by_parts r.n r.l r.p used s
      forward_parts =
          let stand : state_in here m ≡ s = ap (λ (x : Stand). state_of x m) (record_stand r range used at m stood) in
          λ i. by_parts (record_n r.n r.l r.p used s i) (record_l r.n r.l r.p used s i) (record_p r.n r.l r.p used s i) (record_used r.n r.l r.p used s i) (stand i)

      pub forward_spent : most ≤ used → forward_in word most body here t ≡ stays Spent here t
      forward_spent h = forward_parts ∙ rw (le-ltb used most h)

      module _ (a : Bool) (bit : (used < most) × (a ≡ bit_at body used)) where
        pub forward_beyond : at.left ≡ 0 → forward_in word most body here t ≡ stays (Beyond used) here t
        forward_beyond h = forward_parts ∙ rw (lt-ltb used most bit.0, eq-eqb at.left 0 h)

        -- whether the bit fits no array, as code tells it
        module _ (more : at.left ≡ 0 → ⊥) (no : Bool) (told : no ≡ (not a && (not at.pending && bars_zero I D r.p at.left used at.place m))) where
          pub forward_barred : no ≡ true → forward_in word most body here t ≡ stays (Contradiction used) here t
          forward_barred h = forward_parts ∙ rw (lt-ltb used most bit.0, ne_eqb at.left 0 more, sym bit.1, sym told ∙ h)

          pub forward_on : no ≡ false
              → forward_in word most body here t ≡ moved_to r word (used + 1) (onward I s a) (heard (asked_in I s) at.place (at.left - 1) a v) (noted r.n r.l (asked_in I s) at.place (at.left - 1) a k)
          forward_on h = forward_parts ∙ rw (lt-ltb used most bit.0, ne_eqb at.left 0 more, sym bit.1, sym told ∙ h)

      -- ---- many

      abbrev now : Step
      now = step (reached word r.p used at.left) here t

      -- one is refused
      pub climb_ends : (to : ℕ) (why : Refusal) → used < to → forward_in word most body here t ≡ stays why here t → stays why here t ≡ steps_of (forward_in word most body) (to - used) now
      climb_ends to why h e = steps_end (forward_in word most body) now (stays why here t) (sym e) (to - used) (to - used - 1) (omega (arith, h)) why refl

      -- one is done, where `on`, v', k' and m' are what its answer leaves
      pub climb_goes : (to : ℕ) (a : Bool) (on : Stand) (v' : List ℤ) (k' m' : List ℕ) → used < to
          → forward_in word most body here t ≡ moved_to r word (used + 1) (onward I s a) (heard (asked_in I s) at.place (at.left - 1) a v) (noted r.n r.l (asked_in I s) at.place (at.left - 1) a k)
          → on ≡ stand_of (onward I s a)
          → tables v' k' m' ≡ tables (heard (asked_in I s) at.place (at.left - 1) a v) (noted r.n r.l (asked_in I s) at.place (at.left - 1) a k) (onward I s a).marks
          → steps_of (forward_in word most body) (to - (used + 1)) (step (reached word r.p (used + 1) on.left) (record_of r.n r.l r.p (used + 1) (state_of on m')) (tables v' k' m')) ≡ steps_of (forward_in word most body) (to - used) now
      climb_goes to a on v' k' m' h e f g =
          let state : state_of on m' ≡ onward I s a = (λ i. state_of (f i) (g i).marks) ∙ state_stand (onward I s a) in
          let x : Step = step (reached word r.p (used + 1) on.left) (record_of r.n r.l r.p (used + 1) (state_of on m')) (tables v' k' m') in
          let moved : x ≡ forward_in word most body here t = (λ i. step (reached word r.p (used + 1) (state i).left) (record_of r.n r.l r.p (used + 1) (state i)) (g i)) ∙ sym e in
          steps_on (forward_in word most body) now x moved (to - used) (to - (used + 1)) (omega (arith, h)) _ refl

  -- where a climb begins
  pub climb_begins : (word : ℕ → ℕ → Ending) (at : Stand) → at ≡ stand_in r → (v : List ℤ) (k m : List ℕ) (f : Record → Tables → Step) (n : ℕ)
      → steps_of f n (step (reached word r.p r.used at.left) (record_of r.n r.l r.p r.used (state_of at m)) (tables v k m)) ≡ steps_of f n (step (position_of word r) r (tables v k m))
  climb_begins word at e v k m f n =
      (λ i. steps_of f n (step (reached word r.p r.used (e i).left) (record_of r.n r.l r.p r.used (state_of (e i) m)) (tables v k m)))
      ∙ ap (λ (x : Record). steps_of f n (step (position_of word r) x (tables v k m))) (record_same r range m)

-- ---- each way through the code

module _ (r : Record) where
  -- where the scan has arrived
  pub arrived : (word : ℕ → ℕ → Ending) (used : ℕ) (at : Stand) (answer : ReadAnswer) (dial : Record) → answer ≡ reached word r.p used at.left
      → ((m : List ℕ) → dial ≡ record_of r.n r.l r.p used (state_of at m)) → (v : List ℤ) (k m : List ℕ)
      → step answer dial (tables v k m) ≡ moved_to r word used (state_of at m) v k
  arrived word used at answer dial e f v k m =
      ap (λ (x : ReadAnswer). step x dial (tables v k m)) e ∙ ap (λ (x : Record). step (reached word r.p used at.left) x (tables v k m)) (f m)

  -- whether a 0 fits no array
  pub bars_zero_lem : (at : Stand) (used : ℕ) (m : List ℕ) (a z : Bool) (J d : ℕ) → a ≡ false → at.pending ≡ false → J ≡ all_of r.n → d ≡ coarsest_of r.n r.l
      → z ≡ bars_zero J d r.p at.left used at.place m
      → z ≡ (not a && (not at.pending && bars_zero (all_of r.n) (coarsest_of r.n r.l) r.p at.left used at.place m))
  bars_zero_lem at used m a z J d e f j q h = h ∙ rw (e, f, j, q)
