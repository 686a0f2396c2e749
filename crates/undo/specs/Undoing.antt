-- Words of inner contracts of the way back: what the code answers for what led to a state, and what is asked of the tables.
use Rattle.std.specs.Prelude.{ℕ, ◌+◌, ◌-◌, ◌*◌, ◌%◌, ◌≤◌, ◌<◌, ◌≡◌, Bool, ◌&&◌, ◌||◌, not, List, ltb, leb, eqb, ℤ, length}
use Rattle.sizes.specs.Sizes.{most_n, most_planes, all_of}
use Rattle.nls.specs.Marks.{MSP}
use Rattle.nls.specs.Scan.{Pass, State, state_at}
use Rattle.marking.specs.Marking.{same_four}
use Rattle.moves.specs.declared.Stand.{Stand}
use Rattle.moves.specs.Stands.{pass_of, state_of}
use Rattle.undo.specs.Back.{Prior, first, quiet, answered, is, back}
use Rattle.undo.specs.declared.Before.{Before}
use Rattle.undo.specs.declared.Before.TheVariants.{Nothing, Quiet, Answer}

-- the state where the scan stands, with no sign pending
abbrev pub plain : Stand → List ℕ → State
plain st m = state_at st.left (pass_of st.pass) st.place m

-- the code's answer, and the marks m that have become m', are those of what led to a state
abbrev pub Was : Prior → Before → List ℕ → List ℕ → Type 0
Was first Nothing m m' = m' ≡ m
Was (quiet t) (Quiet st) m m' = (t ≡ plain st m') × (st.pass < 3)
Was (answered t) (Answer st) m m' = (t ≡ state_of st m') × (st.pass < 3)
Was first (Quiet st) m m' = ⊥
Was first (Answer st) m m' = ⊥
Was (quiet t) Nothing m m' = ⊥
Was (quiet t) (Answer st) m m' = ⊥
Was (answered t) Nothing m m' = ⊥
Was (answered t) (Quiet st) m m' = ⊥

-- the four coefficients before place q are found; one of the four from i on is big; the one at i was found in the plane in progress
abbrev pub four_found : List ℕ → ℕ → Bool
four_found m q = leb 4 q && same_four m (q - 4) MSP

module _ (big : ℕ → ℕ → Bool) (l : ℕ) where
  abbrev pub any_big : ℕ → Bool
  any_big i = (big l i || big l (i + 1)) || (big l (i + 2) || big l (i + 3))

  abbrev pub is_new : List ℕ → ℕ → Bool
  is_new m i = is m i MSP && not (big l i)

-- Between place r and place q a pass asked nothing, and going back from q makes m' of the marks m: the way back leads where it leads from r.
pub record Hushed (I D P : ℕ) (big : ℕ → ℕ → Bool) (l : ℕ) (p : Pass) (q : ℕ) (m : List ℕ) (r : ℕ) (m' : List ℕ) : Type 0 where
  pub near : r ≤ q
  pub same : back I D P big (state_at l p r m') ≡ back I D P big (state_at l p q m)

-- where the scan stands, and the marks, are those of a state
pub record Stood (t : State) (st : Stand) (m : List ℕ) : Type 0 where
  pub same : t ≡ state_of st m
  pub passed : st.pass < 3

-- what a move back asks of a table of marks, a coarsest band of D places and a place
pub record Room (D : ℕ) (m : List ℕ) (place : ℕ) : Type 0 where
  pub near : length m ≤ all_of most_n
  pub whole : length m % 16 ≡ 0
  pub wide : 4 ≤ D
  pub roots : 4 * D ≤ length m
  pub within : place ≤ length m

-- and of as many values, P planes, the planes left and the pass
pub record Scanned (I P : ℕ) (v : List ℤ) (left pass : ℕ) : Type 0 where
  pub each : length v ≡ I
  pub most : P ≤ most_planes
  pub lefts : left ≤ P
  pub passes : pass < 3

-- The same as a test: I marks and n values, a coarsest band of D places, P planes and a stand are such that a bit can be taken back.
unfoldable pub table_fits : ℕ → ℕ → ℕ → Bool
table_fits I n D = leb I (all_of most_n) && (eqb n I && (eqb (I % 16) 0 && (leb 4 D && leb (4 * D) I)))

unfoldable pub stand_fits : ℕ → ℕ → Stand → Bool
stand_fits I P t = leb P most_planes && (leb t.left P && (ltb t.pass 3 && leb t.place I))

abbrev pub back_fits : ℕ → ℕ → ℕ → ℕ → Stand → Bool
back_fits I n D P t = table_fits I n D && stand_fits I P t
