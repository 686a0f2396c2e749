-- Precisions from the scan's state alone: where in a plane each coefficient has its turn. Words of inner contracts, which no promise uses;
-- that they give the precisions of Reading is `precision_of_lem` of proofs/Demands.antt.
use Rattle.std.specs.Prelude.{ℕ, zero, suc, ◌+◌, ◌*◌, ◌-◌, ◌/◌}
use mathlib.Core.{Bool.◌&&◌, Bool.cond, List.List}
use lib.{Dec.ltb, Dec.leb, Dec.eqb, ListN.get_or}
use Rattle.nls.specs.{Marks.MIP, Marks.MNP, Marks.MCP, Marks.MD, Marks.MG, Scan.Pass, Scan.pixels, Scan.sets, Scan.refining, Scan.State}

-- where the scan stands in its plane: pass times I, and the place
abbrev pub standing : ℕ → Pass → ℕ → ℕ
standing I pixels place = place
standing I sets place = I + place
standing I refining place = 2 * I + place

-- the place of the MD or MG of the set that holds j, at most n rows above it: the first of j's four has MD, or the first of its sixteen MG,
-- or the set holds the parent too
unfoldable pub holder : ℕ → List ℕ → ℕ → ℕ
holder zero m j = j
holder (suc n) m j =
    cond (eqb (get_or m (4 * (j / 4)) 0) MD) (4 * (j / 4)) (cond (eqb (get_or m (16 * (j / 16)) 0) MG) (16 * (j / 16)) (holder n m (j / 4)))

-- the plane in progress, if the turn has been; else the last finished one
abbrev pub down_to : ℕ → ℕ → ℕ → ℕ
down_to left now turn = cond (ltb turn now) (left - 1) left

module _ (I : ℕ) (m : List ℕ) where
  -- the turn of place j in a plane: MIP and MNP have theirs in the pixel pass, MSP in the refinement pass (MCP is another mark before that),
  -- and what does not stand alone has it where its set is tested
  unfoldable pub turn : ℕ → ℕ
  turn j = cond (leb MIP (get_or m j 0) && leb (get_or m j 0) MCP) (cond (leb (get_or m j 0) MNP) j (2 * I + j)) (I + holder I m j)

  -- with `left` planes not finished, where the scan stands at `now`
  abbrev pub precision_by : ℕ → ℕ → ℕ → ℕ
  precision_by left now j = down_to left now (turn j)

abbrev pub precision_of : ℕ → State → ℕ → ℕ
precision_of I s j = precision_by I s.marks s.left (standing I s.pass s.place) j
