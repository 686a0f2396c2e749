-- Steps back, as code makes them over a stand and a count of bits: each leaves what `back_in` leaves for the record of that stand, and so
-- many of them leave what as many steps by records do.
use mathlib.Core.Path.{◌≡◌, refl, sym, ap, subst, ◌∙◌}
use mathlib.Core.Bool.{Bool, true, cond}
use mathlib.Core.List.{List}
use Prim.Native.Nat.{ℕ, zero, suc, ◌*◌, ◌-◌, ◌%◌, ◌≤◌, ◌<◌}
use native.Mathlib.Omega.{arith}
use borrow.Author.Tests.{eq-eqb, lt-ltb, le-leb}
use lib.Dec.{ltb}
use lib.IntN.{ℤ}
use lib.ListN.{length}
use Rattle.refusals.specs.declared.Refusal.TheVariants.{First}
use Rattle.sizes.specs.Sizes.{most_n, most_planes, all_of, coarsest_of}
use Rattle.sizes.proofs.Laws.{both, side_most, sized, all_most, all_sixteen, coarsest_least, coarsest_all}
use Rattle.bits.specs.Bits.{bit_at}
use Rattle.nls.specs.Scan.{State}
use Rattle.moves.specs.Stands.{state_of, stand_of}
use Rattle.moves.specs.declared.Stand.{Stand}
use Rattle.moves.proofs.Laws.{state_stand}
use Rattle.undo.specs.Back.{big_in, back}
use Rattle.undo.specs.Undoing.{table_fits, stand_fits, back_fits}
use Rattle.decoder.specs.{Body.tables, declared.ending.Ending.Ending}
use Rattle.steps.specs.declared.Record.{Record}
use Rattle.steps.specs.Records.{record_at, record_of, in_range, stand_in, Step, step, stays}
use Rattle.steps.specs.Moved.{asked_in, noted, unheard, moved_to, lowered}
use Rattle.steps.specs.Steps.{steps_of, position_of}
use Rattle.steps.specs.Ready.{Stood, back_in}
use Rattle.steps.proofs.RecordLaws.{range_sizes}
use Rattle.steps.proofs.CallLaws.{steps_on, steps_none}
use Rattle.steps.proofs.Standing.{Sizes, record_sizes, record_stand, record_same, stood_first, stood_back}

module _ (r : Record) (range : in_range r ≡ true) where
  abbrev I : ℕ
  I = all_of r.n

  abbrev D : ℕ
  D = coarsest_of r.n r.l

  -- a place of the tables, or the end
  stood_within : (at : Stand) → Stood r at → at.place ≤ I
  stood_within at s = tell at.left refl
    where
      tell : (n : ℕ) → at.left ≡ n → at.place ≤ I
      tell zero e = omega (arith, ap (λ (t : Stand). t.place) (s.ended e))
      tell (suc n) e = omega (arith, s.place (omega (arith, e)))

  -- a bit can be taken back
  stood_fits : (J K d : ℕ) (at : Stand) → J ≡ I → K ≡ I → d ≡ D → Stood r at → back_fits J K d r.p at ≡ true
  unfolding table_fits stand_fits
  stood_fits J K d at j k e s =
      let small : I ≤ all_of most_n = all_most r.n (side_most r.n (range_sizes r range).0) in
      let z = sized r.n r.l (range_sizes r range).1 in
      rw (j, k, e)
      (both
      (both (le-leb I (all_of most_n) small) (both (eq-eqb I I refl) (both (eq-eqb (I % 16) 0 (all_sixteen r.n r.l z)) (both (le-leb 4 D (coarsest_least r.n r.l z)) (le-leb (4 * D) I (coarsest_all r.n r.l z))))))
      (both (le-leb r.p most_planes (range_sizes r range).2) (both (le-leb at.left r.p s.planes) (both (lt-ltb at.pass 3 s.known) (le-leb at.place I (stood_within at s))))))

  -- One step: the scan goes back from `at` to `from`, the marks m become m', and then the tables v and k become v' and k'.
  module _ (word : ℕ → ℕ → Ending) (body : List ℕ) (used : ℕ) (at : Stand) (v : List ℤ) (k m : List ℕ) (stood : Stood r at) where
    abbrev before : State
    before = back I D r.p (big_in v) (state_of at m)

    -- a step back, by the sizes, the bits used and where the scan stands
    abbrev lower_by : ℕ → ℕ → ℕ → ℕ → Stand → Step
    lower_by N L P u t = lowered (record_at N L P 0 0 0 u 0) word (state_of t m) (bit_at body (u - 1)) (tables v k m)

    back_is : 1 ≤ used → back_in word body (record_of r.n r.l r.p used (state_of at m)) (tables v k m) ≡ lower_by r.n r.l r.p used at
    back_is h =
        let c : Record = record_of r.n r.l r.p used (state_of at m) in
        let z : Sizes r.n r.l r.p used c = record_sizes r.n r.l r.p used (state_of at m) in
        let some : ltb 0 c.used ≡ true = lt-ltb 0 c.used (omega (arith, h, z.bits)) in
        ap (λ (t : Bool). cond t (lower_by c.n c.l c.p c.used (stand_in c)) (stays First c (tables v k m))) some
        ∙ (λ i. lower_by (z.side i) (z.levels i) (z.planes i) (z.bits i) (record_stand r range used at m stood i))

    module _ (J K d : ℕ) (from : Stand) (m' : List ℕ) (j : J ≡ I) (n : K ≡ I) (e : d ≡ D)
        (came : from ≡ cond (back_fits J K d r.p at) (stand_of (back J d r.p (big_in v) (state_of at m))) at)
        (marked : m' ≡ cond (back_fits J K d r.p at) (back J d r.p (big_in v) (state_of at m)).marks m) where
      fits : back_fits J K d r.p at ≡ true
      fits = stood_fits J K d at j n e stood

      from_is : from ≡ stand_of before
      from_is = came ∙ rw (fits, j, e)

      state_is : state_of from m' ≡ before
      state_is =
          let g : m' ≡ before.marks = marked ∙ rw (fits, j, e) in
          ap (λ (t : Stand). state_of t m') from_is ∙ ap (λ (y : List ℕ). state_of (stand_of before) y) g ∙ state_stand before

      -- the scan can stand there
      pub from_stood : length m ≡ I → Stood r from
      from_stood h = subst (λ (t : Stand). Stood r t) (sym from_is) (stood_back r range at m v h stood)

      -- it is the step back of the record of where the scan stood
      step_back : (a : Bool) (v' : List ℤ) (k' : List ℕ) → 1 ≤ used → a ≡ bit_at body (used - 1) → v' ≡ unheard (asked_in I (state_of from m')) from.place from.left v → k' ≡ noted r.n r.l (asked_in I (state_of from m')) from.place from.left a k
          → moved_to r word (used - 1) (state_of from m') v' k' ≡ back_in word body (record_of r.n r.l r.p used (state_of at m)) (tables v k m)
      step_back a v' k' h ea ev ek =
          (λ i. moved_to r word (used - 1) (state_of from m') (ev i) (ek i))
          ∙ ap (λ (s : State). moved_to r word (used - 1) s (unheard (asked_in I s) s.place s.left v) (noted r.n r.l (asked_in I s) s.place s.left a k)) state_is
          ∙ ap (λ (x : Bool). moved_to r word (used - 1) before (unheard (asked_in I before) before.place before.left v) (noted r.n r.l (asked_in I before) before.place before.left x k)) ea
          ∙ sym (back_is h)

-- From tables of I entries, down to `to` bits used: the steps that are left lead where all lead.
pub record Descending (r : Record) (word : ℕ → ℕ → Ending) (body : List ℕ) (most to : ℕ) (whole : Step) (used : ℕ) (at : Stand) (v : List ℤ) (k m : List ℕ) : Type 0 where
  pub stood : Stood r at
  pub few : used ≤ most
  pub values_size : length v ≡ all_of r.n
  pub precisions_size : length k ≡ all_of r.n
  pub marks_size : length m ≡ all_of r.n
  pub same : steps_of (back_in word body) (used - to) (moved_to r word used (state_of at m) v k) ≡ whole

module _ (r : Record) (range : in_range r ≡ true) (word : ℕ → ℕ → Ending) (body : List ℕ) (most to : ℕ) where
  -- where the record stands, all are left
  pub descending_first : (at : Stand) (v : List ℤ) (k m : List ℕ) → at ≡ stand_in r → r.used ≤ most → length v ≡ all_of r.n → length k ≡ all_of r.n → length m ≡ all_of r.n
      → Descending r word body most to (steps_of (back_in word body) (r.used - to) (step (position_of word r) r (tables v k m))) r.used at v k m
  descending_first at v k m here few ev ek em =
      record {
        stood = subst (λ (t : Stand). Stood r t) (sym here) (stood_first r range);
        few = few;
        values_size = ev;
        precisions_size = ek;
        marks_size = em;
        same =
            ap (λ (x : Step). steps_of (back_in word body) (r.used - to) x)
            (ap (λ (t : Stand). moved_to r word r.used (state_of t m) v k) here ∙ ap (λ (x : Record). step (position_of word r) x (tables v k m)) (record_same r range m));
      }

  -- where none is left, all are done
  pub descending_last : (whole : Step) (used : ℕ) (at : Stand) (v : List ℤ) (k m : List ℕ) → Descending r word body most to whole used at v k m → used ≤ to → moved_to r word used (state_of at m) v k ≡ whole
  descending_last whole used at v k m w h = steps_none (back_in word body) (used - to) (moved_to r word used (state_of at m) v k) (omega (arith, h)) ∙ w.same

  -- one of them
  module _ (whole : Step) (used : ℕ) (at : Stand) (v : List ℤ) (k m : List ℕ) (w : Descending r word body most to whole used at v k m) (some : to < used)
      (J K d : ℕ) (from : Stand) (m' : List ℕ) (j : J ≡ all_of r.n) (n : K ≡ all_of r.n) (e : d ≡ coarsest_of r.n r.l)
      (came : from ≡ cond (back_fits J K d r.p at) (stand_of (back J d r.p (big_in v) (state_of at m))) at)
      (marked : m' ≡ cond (back_fits J K d r.p at) (back J d r.p (big_in v) (state_of at m)).marks m) where
    pub descending_on : (a : Bool) (v' : List ℤ) (k' : List ℕ) → a ≡ bit_at body (used - 1)
        → v' ≡ unheard (asked_in (all_of r.n) (state_of from m')) from.place from.left v → k' ≡ noted r.n r.l (asked_in (all_of r.n) (state_of from m')) from.place from.left a k
        → length v' ≡ all_of r.n → length k' ≡ all_of r.n → length m' ≡ all_of r.n
        → Descending r word body most to whole (used - 1) from v' k' m'
    descending_on a v' k' ea ev ek lv lk lm =
        let next = step_back r range word body used at v k m w.stood J K d from m' j n e came marked a v' k' (omega (arith, some)) ea ev ek in
        record {
          stood = from_stood r range word body used at v k m w.stood J K d from m' j n e came marked w.marks_size;
          few = omega (arith, w.few);
          values_size = lv;
          precisions_size = lk;
          marks_size = lm;
          same =
              steps_on (back_in word body) (moved_to r word used (state_of at m) v k) (moved_to r word (used - 1) (state_of from m') v' k') next (used - to) (used - 1 - to) (omega (arith, some)) _ refl
              ∙ w.same;
        }
