-- Marks (document 01, "Marks"). A table of marks is a list of codes, one for each of the I places.
use Rattle.std.specs.Prelude.{ℕ, zero, suc, ◌+◌, ◌*◌, ◌-◌, ◌/◌, ◌^◌}
use mathlib.Core.{Bool.Bool, Bool.true, Bool.false, List.List, List.◌++◌}
use lib.{Dec.ltb, ListN.set, ListN.replicate}

-- "0 none; 1 MIP; 2 MNP; 3 MSP; 4 MCP; 5 MD; 6 MG; MNk is k+5"
abbrev pub no_mark : ℕ
no_mark = 0

abbrev pub MIP : ℕ
MIP = 1

abbrev pub MNP : ℕ
MNP = 2

abbrev pub MSP : ℕ
MSP = 3

abbrev pub MCP : ℕ
MCP = 4

abbrev pub MD : ℕ
MD = 5

abbrev pub MG : ℕ
MG = 6

abbrev pub MN : ℕ → ℕ
MN k = k + 5

-- "Skips: MIP, MNP, MSP, MCP 1; MD 4; MG 16; MNk 4^k". Mark 0 is never visited (`no_mark_0` of proofs/Demands.antt); it skips as MIP does.
unfoldable pub skip : ℕ → ℕ
skip m = elim (ltb m MD) [ true ↦ 1 | false ↦ elim (ltb m (MN 2)) [ true ↦ 4 ^ (m - 4) | false ↦ 4 ^ (m - 5) ] ]

-- "In the set pass MIP, MNP and MSP skip 4."
unfoldable pub set_skip : ℕ → ℕ
set_skip m = elim (ltb m MD) [ true ↦ 4 | false ↦ skip m ]

module _ (I : ℕ) where
  -- "Push(i) sets 4i to MN2, 16i to MN3 and so on, only while the place is below I."
  -- place j gets the code, 4j the next one, ..: at most n of them
  unfoldable pub push_from : ℕ → ℕ → ℕ → List ℕ → List ℕ
  push_from zero j code m = m
  push_from (suc n) j code m = elim (ltb j I) [ true ↦ push_from n (4 * j) (code + 1) (set m j code) | false ↦ m ]

  abbrev pub push : ℕ → List ℕ → List ℕ
  push i m = push_from I (4 * i) (MN 2) m

  -- places i to i+3 become MCP, and 4i MG if that is below I: DESC is split
  abbrev pub split_desc : ℕ → List ℕ → Bool → List ℕ
  split_desc i m true = set (set (set (set (set m i MCP) (i + 1) MCP) (i + 2) MCP) (i + 3) MCP) (4 * i) MG
  split_desc i m false = set (set (set (set m i MCP) (i + 1) MCP) (i + 2) MCP) (i + 3) MCP

  -- places i, i+4, i+8, i+12 become MD, each is pushed: GRAND is split
  abbrev pub split_grand : ℕ → List ℕ → List ℕ
  split_grand i m =
      push (i + 12) (set (push (i + 8) (set (push (i + 4) (set (push i (set m i MD)) (i + 4) MD)) (i + 8) MD)) (i + 12) MD)

  -- "every fourth place i from D to 4D-4 gets MD and is pushed": n such places from i on
  unfoldable pub push_roots : ℕ → ℕ → List ℕ → List ℕ
  push_roots zero i m = m
  push_roots (suc n) i m = push_roots n (i + 4) (push i (set m i MD))

  -- "Start: all places 0; places below D get MIP; every fourth place ..": there are 3D/4 of these
  unfoldable pub start_marks : ℕ → List ℕ
  start_marks D = push_roots (3 * D / 4) D (replicate D MIP ++ replicate (I - D) no_mark)
