-- The loop of the way back, turn by turn, and the tests before it.
use Prim.Native.Nat.{ℕ, ◌*◌, ◌%◌, ◌≤◌, ◌<◌}
use mathlib.Core.Path.{◌≡◌, refl, sym, ap, subst, ◌∙◌}
use mathlib.Core.Bool.{Bool, true, false, cond}
use mathlib.Core.List.{List}
use native.Mathlib.Omega.{arith}
use borrow.Author.Tests.{ltb-true, leb-true, eqb-true}
use lib.Dec.{ltb, leb, eqb}
use lib.IntN.{ℤ}
use lib.ListN.{length}
use Rattle.sizes.specs.Sizes.{most_n, most_planes, all_of}
use Rattle.sizes.proofs.Laws.{both_left, both_right}
use Rattle.nls.specs.Scan.{State, state_at}
use Rattle.moves.specs.declared.Stand.{Stand}
use Rattle.moves.specs.Stands.{pass_of, stand, state_of, stand_of}
use Rattle.moves.proofs.Passes.{pass_back}
use Rattle.undo.specs.Back.{answered, big_in, prior, prior_at, back}
use Rattle.undo.specs.declared.Before.{Before}
use Rattle.undo.specs.declared.Before.TheVariants.{Nothing, Quiet, Answer}
use Rattle.undo.specs.Undoing.{Was, plain, Hushed, Stood, Room, Scanned, table_fits, stand_fits, back_fits}
use Rattle.undo.proofs.Fuel.{behind, nearer, back_first, back_answered, back_quiet}
use Rattle.undo.proofs.Steps.{was_nothing, was_quiet, was_answer}

-- ---- a turn of the loop, where the way back from here is the whole way

module _ (I D P : ℕ) (big : ℕ → ℕ → Bool) (at : Stand) (m m' : List ℕ) (r : Before) (n : ℕ) (size : n ≡ I) (w : Was (prior n D P big (plain at m)) r m m') (whole : State) (same : back I D P big (plain at m) ≡ whole) where
  here : Was (prior I D P big (plain at m)) r m m'
  here = subst (λ (k : ℕ). Was (prior k D P big (plain at m)) r m m') size w

  pub ends_first : r ≡ Nothing → at.pass < 3 → Stood whole (stand at.left at.pass at.place false) m'
  ends_first e h =
      let x = was_nothing (prior I D P big (plain at m)) m m' (rw e at here) in
      record { same = sym same ∙ back_first I D P big (plain at m) x.0 ∙ ap (λ (k : List ℕ). plain at k) (sym x.1); passed = h }

  pub ends_answer : (st : Stand) → r ≡ Answer st → Stood whole st m'
  ends_answer st e =
      let x = was_answer (prior I D P big (plain at m)) st m m' (rw e at here) in
      record { same = sym same ∙ back_answered I D P big (plain at m) (state_of st m') x.0; passed = x.1 }

  pub goes_on : (to : Stand) → r ≡ Quiet to → at.left ≤ P → at.place ≤ I → (behind I D P big (plain to m') < behind I D P big (plain at m)) × (to.left ≤ P) × (to.pass < 3) × (to.place ≤ I) × (back I D P big (plain to m') ≡ whole)
  goes_on to e h k =
      let x = was_quiet (prior I D P big (plain at m)) to m m' (rw e at here) in
      let f = nearer I D P big (plain at m) (plain to m') x.0 h k in
      (f.0, f.1, x.1, f.2, sym (back_quiet I D P big (plain at m) (plain to m') x.0 h k) ∙ same)

  -- and further over a run of places where the pass asked nothing
  pub runs_on : (to : Stand) → r ≡ Quiet to → at.left ≤ P → at.place ≤ I → (s i : ℕ) (k : List ℕ) → s ≡ I → ((b : ℕ) → to.left ≤ b → Hushed s D b big to.left (pass_of to.pass) to.place m' i k)
      → (behind I D P big (state_at to.left (pass_of to.pass) i k) < behind I D P big (plain at m)) × (to.left ≤ P) × (to.pass < 3) × (i ≤ I) × (back I D P big (state_at to.left (pass_of to.pass) i k) ≡ whole)
  runs_on to e h j s i k z f =
      let g = goes_on to e h j in
      let x = subst (λ (t : ℕ). Hushed t D P big to.left (pass_of to.pass) to.place m' i k) z (f P g.1) in
      (omega arith, g.1, g.2, omega arith, x.same ∙ g.4)

-- ---- what the tests tell

module _ (I n D : ℕ) where
  pub table_told : table_fits I n D ≡ true → (I ≤ all_of most_n) × (n ≡ I) × (I % 16 ≡ 0) × (4 ≤ D) × (4 * D ≤ I)
  unfolding table_fits
  table_told e =
      let a = both_right (leb I (all_of most_n)) _ e in
      let b = both_right (eqb n I) _ a in
      let d = both_right (eqb (I % 16) 0) _ b in
      (leb-true I (all_of most_n) (both_left (leb I (all_of most_n)) _ e), eqb-true n I (both_left (eqb n I) _ a), eqb-true (I % 16) 0 (both_left (eqb (I % 16) 0) _ b), leb-true 4 D (both_left (leb 4 D) _ d), leb-true (4 * D) I (both_right (leb 4 D) _ d))

module _ (I P : ℕ) (t : Stand) where
  pub stand_told : stand_fits I P t ≡ true → (P ≤ most_planes) × (t.left ≤ P) × (t.pass < 3) × (t.place ≤ I)
  unfolding stand_fits
  stand_told e =
      let a = both_right (leb P most_planes) _ e in
      let b = both_right (leb t.left P) _ a in
      (leb-true P most_planes (both_left (leb P most_planes) _ e), leb-true t.left P (both_left (leb t.left P) _ a), ltb-true t.pass 3 (both_left (ltb t.pass 3) _ b), leb-true t.place I (both_right (ltb t.pass 3) _ b))

pub room_told : (m : List ℕ) (v : List ℤ) (D P : ℕ) (t : Stand) → table_fits (length m) (length v) D ≡ true → stand_fits (length m) P t ≡ true → Room D m t.place × Scanned (length m) P v t.left t.pass
room_told m v D P t e f =
    let a = table_told (length m) (length v) D e in
    let b = stand_told (length m) P t f in
    (record { near = a.0; whole = a.2; wide = a.3; roots = a.4; within = b.3 }, record { each = a.1; most = b.0; lefts = b.1; passes = b.2 })

-- ---- the whole way

pub stood_stand : (t : State) (st : Stand) (m : List ℕ) → Stood t st m → st ≡ stand_of t
stood_stand t st m s = ap (λ (k : ℕ). stand st.left k st.place st.pending) (sym (pass_back st.pass s.passed)) ∙ ap stand_of (sym s.same)

pub stood_marks : (t : State) (st : Stand) (m : List ℕ) → Stood t st m → m ≡ t.marks
stood_marks t st m s = sym (ap (λ (u : State). u.marks) s.same)

-- a sign that is pending: the test bit before it was the last answer
pub pending_stood : (I D P : ℕ) (big : ℕ → ℕ → Bool) (t : Stand) (m : List ℕ) → t.pending ≡ true → t.pass < 3 → Stood (back I D P big (state_of t m)) (stand t.left t.pass t.place false) m
pending_stood I D P big t m e h =
    record {
      same = back_answered I D P big (state_of t m) (state_at t.left (pass_of t.pass) t.place m) (subst (λ (b : Bool). prior_at I D P big t.left (pass_of t.pass) t.place b m ≡ answered (state_at t.left (pass_of t.pass) t.place m)) (sym e) refl);
      passed = h;
    }

-- none is pending
pub plain_stood : (I D P : ℕ) (big : ℕ → ℕ → Bool) (t : Stand) (m m' : List ℕ) (st : Stand) → t.pending ≡ false → Stood (back I D P big (plain t m)) st m' → Stood (back I D P big (state_of t m)) st m'
plain_stood I D P big t m m' st e s = subst (λ (b : Bool). Stood (back I D P big (record { left = t.left; pass = pass_of t.pass; place = t.place; pending = b; marks = m })) st m') (sym e) s

-- what is answered, and the marks, by whether a bit can be taken back
module _ (m : List ℕ) (v : List ℤ) (D P : ℕ) (t : Stand) where
  abbrev pub Outcome : Stand → List ℕ → Type 0
  Outcome st m' =
      (st ≡ cond (back_fits (length m) (length v) D P t) (stand_of (back (length m) D P (big_in v) (state_of t m))) t) × (m' ≡ cond (back_fits (length m) (length v) D P t) (back (length m) D P (big_in v) (state_of t m)).marks m)

  pub went : table_fits (length m) (length v) D ≡ true → (st : Stand) (m' : List ℕ) → stand_fits (length m) P t ≡ true → Stood (back (length m) D P (big_in v) (state_of t m)) st m' → Outcome st m'
  went e st m' f s = (rw (e, f) (stood_stand (back (length m) D P (big_in v) (state_of t m)) st m' s), rw (e, f) (stood_marks (back (length m) D P (big_in v) (state_of t m)) st m' s))
