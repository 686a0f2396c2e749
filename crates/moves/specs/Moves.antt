-- Words of inner contracts, which no promise to a caller uses: an answer and the silent moves after it, in a table of any marks.
use mathlib.Core.{Path.◌≡◌, Bool.Bool, Bool.true, Bool.false, Bool.◌&&◌, List.List}
use lib.{Dec.ltb, Dec.eqb, ListN.length, ListN.get_or}
use Rattle.std.specs.Prelude.{ℕ, suc, ◌≤◌, ◌<◌, Option, Some, None}
use Rattle.nls.specs.{Marks.MD, Marks.MG, Scan.Pass, Scan.pixels, Scan.sets, Scan.refining, Scan.State, Scan.state_at, Scan.tell_at, Scan.tell_sets, Scan.settle, Scan.moves_left}
use Rattle.marking.specs.Marking.{grand_split_marks, in_table}
use Rattle.moves.specs.{Stands.state_of, declared.Stand.Stand}

module _ (I : ℕ) where
  -- What follows an answer: as `tell` of crate nls has it, but that the pushes of a GRAND that is split end with the codes. In no state
  -- after bits this differs (`told_tell` of proofs/Laws.antt).
  abbrev pub told_sets : ℕ → ℕ → List ℕ → Bool → Bool → Bool → State
  told_sets l i m true false true = state_at l sets i (grand_split_marks I i m)
  told_sets l i m false false true = tell_sets I l i m false false true
  told_sets l i m a true is_mg = tell_sets I l i m a true is_mg
  told_sets l i m a false false = tell_sets I l i m a false false

  abbrev pub told_at : ℕ → Pass → ℕ → Bool → List ℕ → Bool → State
  told_at l pass i true m a = tell_at I l pass i true m a
  told_at l pixels i false m a = tell_at I l pixels i false m a
  told_at l sets i false m a = told_sets l i m a (eqb (get_or m i 0) MD) (eqb (get_or m i 0) MG)
  told_at l refining i false m a = tell_at I l refining i false m a

  abbrev pub told : State → Bool → State
  told s a = told_at s.left s.pass s.place s.pending s.marks a

  -- and after the silent moves
  abbrev pub onward : State → Bool → State
  onward s a = settle I (told s a)

  -- The scan rests where it stands, at a question or its end; or it moves silently to where no sign is pending: what is ahead stays the
  -- same, and fewer moves are left.
  abbrev pub Moves : State → Option Stand → List ℕ → Type 0
  Moves s None m = (m ≡ s.marks) × (settle I s ≡ s)
  Moves s (Some t) m = (length m ≡ length s.marks) × (t.pass < 3) × (t.pending ≡ false) × (settle I (state_of t m) ≡ settle I s) × (moves_left I (state_of t m) < moves_left I s)

  -- From place i to place j a pass asks nothing, and the marks m become m': what is ahead stays the same.
  pub record Passed (p : Pass) (i : ℕ) (m : List ℕ) (j : ℕ) (m' : List ℕ) : Type 0 where
    pub on : i ≤ j
    pub long : length m' ≡ length m
    pub ahead : (b : ℕ) → settle I (state_at (suc b) p j m') ≡ settle I (state_at (suc b) p i m)

-- a table of I marks is no larger than that of the largest N, and the scan stands at one of its places, in one of the three passes
unfoldable pub stand_fits : ℕ → Stand → Bool
stand_fits I t = in_table I t.place && ltb t.pass 3
