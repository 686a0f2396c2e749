-- Words of the inner contracts, which no promise to a caller uses: what a pass does at four places with bits enough, over any source of answers.
use Rattle.std.specs.Prelude.{ℕ, ◌+◌, cond, List, eqb, get_or}
use Rattle.nls.specs.Marks.{MIP, MNP, MSP}
use Rattle.nls.specs.Scan.{bit_of, sign_of, Pass, pixels, sets, refining}
use Rattle.marking.specs.Marking.{put_four}
use Rattle.walk.specs.Visits.{Source, got, Sv, sv}

-- a coefficient by itself: its mark after its bit, and what is kept of the bit and, after a 1, of the sign
abbrev pub own_mark : {O : Type 0} → Source O → ℕ → ℕ → O → ℕ
own_mark K b i o = cond (K.next (bit_of i b) o) MNP MIP

abbrev pub own_rest : {O : Type 0} → Source O → Pass → ℕ → ℕ → O → O
own_rest K p b i o = cond (K.next (bit_of i b) o) (got K p b (sign_of i) (got K p b (bit_of i b) o)) (got K p b (bit_of i b) o)

-- what a pass does at a place with mark v: the mark after it, and what is kept
pub record Own (O : Type 0) : Type 0 where
  pub mark : ℕ → ℕ → O → ℕ
  pub rest : ℕ → ℕ → O → O

-- the pixel pass and the refinement pass, where a mark is below MCP; the set pass at a child of a set that was just split
abbrev pub of_pixel : {O : Type 0} → Source O → ℕ → Own O
of_pixel K b = record { mark = λ i v o. cond (eqb v MIP) (own_mark K b i o) v; rest = λ i v o. cond (eqb v MIP) (own_rest K pixels b i o) o }

abbrev pub of_refining : {O : Type 0} → Source O → ℕ → Own O
of_refining K b = record { mark = λ i v o. cond (eqb v MNP) MSP v; rest = λ i v o. cond (eqb v MSP) (got K refining b (bit_of i b) o) o }

abbrev pub of_child : {O : Type 0} → Source O → ℕ → Own O
of_child K b = record { mark = λ i v o. own_mark K b i o; rest = λ i v o. own_rest K sets b i o }

-- four places from i on, one after the other: what is kept after the first, the second, the third and the fourth, and all that is left
abbrev pub kept1 : {O : Type 0} → Own O → ℕ → List ℕ → O → O
kept1 D i m o = D.rest i (get_or m i 0) o

abbrev pub kept2 : {O : Type 0} → Own O → ℕ → List ℕ → O → O
kept2 D i m o = D.rest (i + 1) (get_or m (i + 1) 0) (kept1 D i m o)

abbrev pub kept3 : {O : Type 0} → Own O → ℕ → List ℕ → O → O
kept3 D i m o = D.rest (i + 2) (get_or m (i + 2) 0) (kept2 D i m o)

abbrev pub kept4 : {O : Type 0} → Own O → ℕ → List ℕ → O → O
kept4 D i m o = D.rest (i + 3) (get_or m (i + 3) 0) (kept3 D i m o)

abbrev pub four_marks : {O : Type 0} → Own O → ℕ → List ℕ → O → List ℕ
four_marks D i m o = put_four m i (D.mark i (get_or m i 0) o) (D.mark (i + 1) (get_or m (i + 1) 0) (kept1 D i m o)) (D.mark (i + 2) (get_or m (i + 2) 0) (kept2 D i m o)) (D.mark (i + 3) (get_or m (i + 3) 0) (kept3 D i m o))

abbrev pub four_seen : {O : Type 0} → Own O → ℕ → List ℕ → O → Sv O
four_seen D i m o = sv (four_marks D i m o) (kept4 D i m o)
