-- Words of the inner contracts, which no promise to a caller uses: the visit of one place, over any source of answers.
-- The encoder asks an array and the decoder asks a body; all else that they do at a place is the same.
use Rattle.std.specs.Prelude.{ℕ, ◌+◌, ◌/◌, Bool, false, cond, List, ltb, eqb, set, get_or}
use Rattle.nls.specs.Marks.{MIP, MNP, MSP, MCP, MD, MG}
use Rattle.nls.specs.Scan.{Question, bit_of, sign_of, in_desc, in_grand, Pass, pixels, sets, refining}
use Rattle.marking.specs.Marking.{skip_of, set_skip_of, desc_split_marks, grand_split_marks}
use Rattle.walk.specs.Scans.{Seen, halt, refuse, move, Scan}

-- A source of answers: how many bits there are, how many are used, the next bit as the answer to a question,
-- what is kept of it (pass, plane, question, bit), and whether a 0 to a question of the set pass is refused (plane, question, place, marks).
pub record Source (O : Type 0) : Type 0 where
  pub budget : ℕ
  pub used : O → ℕ
  pub next : Question → O → Bool
  pub keep : Pass → ℕ → Question → Bool → O → O
  pub bars : ℕ → Question → ℕ → List ℕ → O → Bool

abbrev pub more : {O : Type 0} → Source O → O → Bool
more K o = ltb (K.used o) K.budget

-- after the next bit
abbrev pub got : {O : Type 0} → Source O → Pass → ℕ → Question → O → O
got K p b q o = K.keep p b q (K.next q o) o

-- the marks, and the state of the source
pub record Sv (O : Type 0) : Type 0 where
  pub marks : List ℕ
  pub rest : O

abbrev pub sv : {O : Type 0} → List ℕ → O → Sv O
sv m o = record { marks = m; rest = o }

-- a coefficient by itself: its bit, and after a 1 its sign; `bar`: a 0 is refused
unfoldable pub one_seen : {O : Type 0} → Source O → Pass → ℕ → ℕ → Bool → List ℕ → O → Seen (Sv O)
one_seen K p b i bar m o =
    cond (more K o)
    (cond (K.next (bit_of i b) o)
    (cond (more K (got K p b (bit_of i b) o))
    (move (i + 1) (sv (set m i MNP) (got K p b (sign_of i) (got K p b (bit_of i b) o))))
    (halt (sv m (got K p b (bit_of i b) o))))
    (cond bar (refuse (sv m o)) (move (i + 1) (sv (set m i MIP) (got K p b (bit_of i b) o)))))
    (halt (sv m o))

-- a set's test: on 0 it is skipped, on 1 its marks are `new` and the place is visited again
unfoldable pub test_seen : {O : Type 0} → Source O → ℕ → ℕ → Question → ℕ → Bool → List ℕ → List ℕ → O → Seen (Sv O)
test_seen K b i q far bar new m o =
    cond (more K o)
    (cond (K.next q o)
    (move i (sv new (got K sets b q o)))
    (cond bar (refuse (sv m o)) (move (i + far) (sv m (got K sets b q o)))))
    (halt (sv m o))

-- the three passes; v is the mark
unfoldable pub pixels_seen : {O : Type 0} → Source O → ℕ → ℕ → ℕ → List ℕ → O → Seen (Sv O)
pixels_seen K b i v m o = cond (eqb v MIP) (one_seen K pixels b i false m o) (move (i + skip_of v) (sv m o))

unfoldable pub sets_seen : {O : Type 0} → Source O → ℕ → ℕ → ℕ → ℕ → List ℕ → O → Seen (Sv O)
sets_seen K I b i v m o =
    cond (eqb v MCP) (one_seen K sets b i (K.bars b (bit_of i b) i m o) m o)
    (cond (eqb v MD) (test_seen K b i (in_desc (i / 4) b) 4 (K.bars b (in_desc (i / 4) b) i m o) (desc_split_marks I i m) m o)
    (cond (eqb v MG) (test_seen K b i (in_grand (i / 16) b) 16 (K.bars b (in_grand (i / 16) b) i m o) (grand_split_marks I i m) m o)
    (move (i + set_skip_of v) (sv m o))))

unfoldable pub refining_seen : {O : Type 0} → Source O → ℕ → ℕ → ℕ → List ℕ → O → Seen (Sv O)
refining_seen K b i v m o =
    cond (eqb v MSP)
    (cond (more K o) (move (i + 1) (sv m (got K refining b (bit_of i b) o))) (halt (sv m o)))
    (cond (eqb v MNP) (move (i + 1) (sv (set m i MSP) o)) (move (i + skip_of v) (sv m o)))

unfoldable pub visit_seen : {O : Type 0} → Source O → ℕ → ℕ → ℕ → ℕ → Sv O → Seen (Sv O)
visit_seen K I b pass i t =
    cond (eqb pass 0) (pixels_seen K b i (get_or t.marks i 0) t.marks t.rest)
    (cond (eqb pass 1) (sets_seen K I b i (get_or t.marks i 0) t.marks t.rest)
    (refining_seen K b i (get_or t.marks i 0) t.marks t.rest))

abbrev pub scan_of : {O : Type 0} → Source O → ℕ → Scan (Sv O)
scan_of K I = record { all = I; budget = K.budget; used = λ t. K.used t.rest; visit = λ b pass i t. visit_seen K I b pass i t }
