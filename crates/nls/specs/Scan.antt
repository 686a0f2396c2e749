-- The three passes (document 01, "The three passes"), as a machine that moves silently, asks, or is over.
-- It takes one bit at a time, so a stop between a test bit and its sign is a state like any other.
use mathlib.Core.{Bool.Bool, Bool.true, Bool.false, Option.Option, Option.none, Option.some, List.List, List.[], List.◌∷◌}
use Rattle.std.specs.Prelude.{ℕ, zero, suc, ◌+◌, ◌*◌, ◌-◌, ◌/◌}
use lib.{ListN.get_or, ListN.set, Dec.ltb, Dec.eqb}
use Rattle.nls.specs.Marks.{MIP, MNP, MSP, MCP, MD, MG, skip, set_skip, split_desc, split_grand, start_marks}

-- What the scan asks: bit b of the magnitude at i; the sign at i; whether DESC(g) or GRAND(g) has bit b.
pub data Question : Type 0 where
  bit_of : ℕ → ℕ → Question
  sign_of : ℕ → Question
  in_desc : ℕ → ℕ → Question
  in_grand : ℕ → ℕ → Question

pub data Pass : Type 0 where
  pixels sets refining : Pass

-- Where the scan stands. `left` planes are not finished, so the plane in progress is left - 1;
-- `pending`: the test bit 1 of the coefficient at `place` was read, and its sign was not.
pub record State : Type 0 where
  pub left : ℕ
  pub pass : Pass
  pub place : ℕ
  pub pending : Bool
  pub marks : List ℕ

abbrev pub state_at : ℕ → Pass → ℕ → List ℕ → State
state_at left pass place m = record { left = left; pass = pass; place = place; pending = false; marks = m }

-- What the scan does next.
pub data Look : Type 0 where
  over : Look
  silent : State → Look
  asks : Question → Look

-- Place i of plane b, by whether i is below I and by the mark there.
-- "Pixel pass: at MIP write the magnitude's bit b .. Other marks: skip."
abbrev pub look_pixels : ℕ → ℕ → List ℕ → Bool → Bool → Look
look_pixels b i m false is_mip = silent (state_at (suc b) sets 0 m)
look_pixels b i m true true = asks (bit_of i b)
look_pixels b i m true false = silent (state_at (suc b) pixels (i + skip (get_or m i 0)) m)

-- "Set pass. MD at i: write whether DESC(i/4) has bit b. .. MG at i: write whether GRAND(i/16) has bit b. .. MCP: write bit b ..
-- Other marks: set-pass skip."
abbrev pub look_sets : ℕ → ℕ → List ℕ → Bool → Bool → Bool → Bool → Look
look_sets b i m false is_md is_mg is_mcp = silent (state_at (suc b) refining 0 m)
look_sets b i m true true is_mg is_mcp = asks (in_desc (i / 4) b)
look_sets b i m true false true is_mcp = asks (in_grand (i / 16) b)
look_sets b i m true false false true = asks (bit_of i b)
look_sets b i m true false false false = silent (state_at (suc b) sets (i + set_skip (get_or m i 0)) m)

-- "Refinement pass: MSP writes bit b. MNP becomes MSP and writes nothing. Other marks: skip."
abbrev pub look_refining : ℕ → ℕ → List ℕ → Bool → Bool → Bool → Look
look_refining b i m false is_msp is_mnp = silent (state_at b pixels 0 m)
look_refining b i m true true is_mnp = asks (bit_of i b)
look_refining b i m true false true = silent (state_at (suc b) refining (i + 1) (set m i MSP))
look_refining b i m true false false = silent (state_at (suc b) refining (i + skip (get_or m i 0)) m)

module _ (I : ℕ) where
  abbrev pub look_at : ℕ → Pass → ℕ → Bool → List ℕ → Look
  look_at zero pass i pending m = over
  look_at (suc b) pass i true m = asks (sign_of i)
  look_at (suc b) pixels i false m = look_pixels b i m (ltb i I) (eqb (get_or m i 0) MIP)
  look_at (suc b) sets i false m = look_sets b i m (ltb i I) (eqb (get_or m i 0) MD) (eqb (get_or m i 0) MG) (eqb (get_or m i 0) MCP)
  look_at (suc b) refining i false m = look_refining b i m (ltb i I) (eqb (get_or m i 0) MSP) (eqb (get_or m i 0) MNP)

  abbrev pub look : State → Look
  look s = look_at s.left s.pass s.place s.pending s.marks

  -- What follows an answer in the set pass, by whether the mark is MD or MG; else it is MCP.
  abbrev pub tell_sets : ℕ → ℕ → List ℕ → Bool → Bool → Bool → State
  tell_sets l i m true true is_mg = state_at l sets i (split_desc I i m (ltb (4 * i) I))
  tell_sets l i m false true is_mg = state_at l sets (i + 4) m
  tell_sets l i m true false true = state_at l sets i (split_grand I i m)
  tell_sets l i m false false true = state_at l sets (i + 16) m
  tell_sets l i m true false false = record { left = l; pass = sets; place = i; pending = true; marks = m }
  tell_sets l i m false false false = state_at l sets (i + 1) (set m i MIP)

  -- What follows an answer. "A test bit 1 whose sign is missing has changed no mark": the sign sets MNP.
  abbrev pub tell_at : ℕ → Pass → ℕ → Bool → List ℕ → Bool → State
  tell_at l pass i true m a = state_at l pass (i + 1) (set m i MNP)
  tell_at l pixels i false m true = record { left = l; pass = pixels; place = i; pending = true; marks = m }
  tell_at l pixels i false m false = state_at l pixels (i + 1) m
  tell_at l sets i false m a = tell_sets l i m a (eqb (get_or m i 0) MD) (eqb (get_or m i 0) MG)
  tell_at l refining i false m a = state_at l refining (i + 1) m

  abbrev pub tell : State → Bool → State
  tell s a = tell_at s.left s.pass s.place s.pending s.marks a

  -- "Silent moves before that bit have been made": all silent moves, of which there are at most `moves_left`
  unfoldable pub silently : ℕ → State → State
  silently zero s = s
  silently (suc n) s = elim (look s) [ over ↦ s | silent t ↦ silently n t | asks q ↦ s ]

  abbrev pub passes_left : Pass → ℕ
  passes_left pixels = 2
  passes_left sets = 1
  passes_left refining = 0

  abbrev pub moves_left : State → ℕ
  moves_left s = (s.left * 3 + passes_left s.pass) * (I + 2) + ((I + 1) - s.place)

  unfoldable pub settle : State → State
  settle s = silently (moves_left s) s

  -- What is asked in a settled state, and the settled state after the answer.
  abbrev pub asked : Look → Option Question
  asked over = none
  asked (silent s) = none
  asked (asks q) = some q

  unfoldable pub ask : State → Option Question
  ask s = asked (look s)

  unfoldable pub next : State → Bool → State
  next s a = settle (tell s a)

  -- The state after the bits u.
  unfoldable pub reach : State → List Bool → State
  reach s [] = s
  reach s (a ∷ u) = reach (next s a) u

  -- "Planes run from P-1 down to 0 .. Each pass starts at place 0": the scan before its first bit
  unfoldable pub start : ℕ → ℕ → State
  start D P = settle (state_at P pixels 0 (start_marks I D))
