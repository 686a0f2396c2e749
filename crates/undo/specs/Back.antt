-- One bit back: what led to a state of the scan, told by its marks and by which coefficients have a bit of plane `left` or above.
-- Words of inner contracts, which no promise uses; that they take back every bit which some array begins with is `back_after` of
-- proofs/Whole.antt, and `back_by_values` of proofs/ByValues.antt where the values of decoding are asked.
use Rattle.std.specs.Prelude.{ℕ, zero, suc, ◌+◌, ◌*◌, ◌-◌, ◌%◌, ◌^◌}
use mathlib.Core.{Bool.Bool, Bool.true, Bool.false, Bool.◌&&◌, Bool.◌||◌, Bool.not, List.List}
use lib.{Dec.ltb, Dec.leb, Dec.eqb, IntN.ℤ, ListN.get_or, ListN.set}
use Rattle.sizes.specs.Sizes.{most_n}
use Rattle.coef.specs.Coef.{at, magnitude}
use Rattle.nls.specs.Marks.{no_mark, MIP, MNP, MSP, MCP, MD, MG, MN, push_from}
use Rattle.nls.specs.Scan.{Pass, pixels, sets, refining, State, state_at, moves_left}

-- What led to a state: nothing, since it is the first; a silent move from a state; an answer in a state.
pub data Prior : Type 0 where
  first : Prior
  quiet : State → Prior
  answered : State → Prior

-- a state whose sign is still to come
abbrev pub waiting : ℕ → Pass → ℕ → List ℕ → State
waiting left pass place m = record { left = left; pass = pass; place = place; pending = true; marks = m }

-- the mark at t is v
abbrev pub is : List ℕ → ℕ → ℕ → Bool
is m t v = eqb (get_or m t 0) v

-- the mark at t is that of a coefficient which no set has any more
abbrev pub alone : List ℕ → ℕ → Bool
alone m t = ltb no_mark (get_or m t 0) && ltb (get_or m t 0) MCP

-- the value at i has a bit of plane l or above
abbrev pub big_in : List ℤ → ℕ → ℕ → Bool
big_in v l i = leb (2 ^ l) (magnitude (at v i))

-- Where the block of places that ends at q begins: a skip is 1, 4, 16 .. places, and of these only the first has a mark
unfoldable pub block_from : ℕ → List ℕ → ℕ → ℕ → ℕ
block_from zero m q size = q - size
block_from (suc n) m q size = elim (is m (q - size) no_mark) [ true ↦ block_from n m q (4 * size) | false ↦ q - size ]

abbrev pub block : List ℕ → ℕ → ℕ
block m q = block_from most_n m q 1

-- the marks at the heads of four groups, from i on, are all v
abbrev pub four_are : List ℕ → ℕ → ℕ → Bool
four_are m i v = is m i v && (is m (i + 4) v && (is m (i + 8) v && is m (i + 12) v))

-- none of the four marks from i on is v
abbrev pub none_is : List ℕ → ℕ → ℕ → Bool
none_is m i v = not (is m i v) && (not (is m (i + 1) v) && (not (is m (i + 2) v) && not (is m (i + 3) v)))

-- q has the four MD that `split_grand` leaves: only where GRAND could be, from 4D on
abbrev pub many_descs : ℕ → List ℕ → ℕ → Bool
many_descs D m q = eqb (q % 16) 0 && (leb (4 * D) q && four_are m q MD)

module _ (I : ℕ) where
  -- a push taken back: the marks at j, 4j .. go, at most n of them
  unfoldable pub wipe_from : ℕ → ℕ → List ℕ → List ℕ
  wipe_from zero j m = m
  wipe_from (suc n) j m = elim (ltb j I) [ true ↦ wipe_from n (4 * j) (set m j no_mark) | false ↦ m ]

  -- MD at i, and what was pushed below it
  abbrev pub wiped : ℕ → List ℕ → List ℕ
  wiped i m = wipe_from I (4 * i) (set m i no_mark)

  -- `split_desc` taken back: DESC is one set again, with MN2 below it if there is a place
  abbrev pub join_desc : ℕ → List ℕ → Bool → List ℕ
  join_desc i m true = set (set (set (set (set m i MD) (i + 1) no_mark) (i + 2) no_mark) (i + 3) no_mark) (4 * i) (MN 2)
  join_desc i m false = set (set (set (set m i MD) (i + 1) no_mark) (i + 2) no_mark) (i + 3) no_mark

  -- `split_grand` taken back: GRAND is one set again, with MN3, MN4 .. below it
  abbrev pub join_grand : ℕ → List ℕ → List ℕ
  join_grand i m = push_from I I (4 * i) (MN 3) (set (wiped (i + 4) (wiped (i + 8) (wiped (i + 12) m))) i MG)

  -- `big left i`: the coefficient at i has a bit of plane `left` or above, so it was found before the plane in progress
  module _ (D P : ℕ) (big : ℕ → ℕ → Bool) where
    -- the group of four at j was split in the plane in progress: none of it is MSP, and nothing lies below it or a GRAND that is not split
    abbrev pub fresh : List ℕ → ℕ → Bool
    fresh m j = none_is m j MSP && (leb I (4 * j) || is m (4 * j) MG)

    -- the answer of a coefficient whose mark was v: if that is MNP now, it was the sign
    abbrev pub unasked : ℕ → Pass → ℕ → ℕ → List ℕ → Bool → Prior
    unasked l p i v m true = answered (waiting l p i (set m i v))
    unasked l p i v m false = answered (state_at l p i (set m i v))

    -- The pixel pass at q, where the block that ends at q begins at i: by whether q is 0, a plane lies above, and i is MIP or MNP
    abbrev pub prior_pixels : ℕ → ℕ → List ℕ → Bool → Bool → Bool → Prior
    prior_pixels l i m true true alone = quiet (state_at (suc l) refining I m)
    prior_pixels l i m true false alone = first
    prior_pixels l i m false above true = unasked l pixels i MIP m (is m i MNP)
    prior_pixels l i m false above false = quiet (state_at l pixels i m)

    -- The refinement pass, likewise: by whether q is 0, i is MSP, and its coefficient was found before this plane; else it was MNP
    abbrev pub prior_refining : ℕ → ℕ → List ℕ → Bool → Bool → Bool → Prior
    prior_refining l i m true is_msp old = quiet (state_at l sets I m)
    prior_refining l i m false true true = answered (state_at l refining i m)
    prior_refining l i m false true false = quiet (state_at l refining i (set m i MNP))
    prior_refining l i m false false old = quiet (state_at l refining i m)

    -- a set at i, which was tested 0 if its mark is MD or MG
    abbrev pub prior_set : ℕ → ℕ → List ℕ → Bool → Prior
    prior_set l i m true = answered (state_at l sets i m)
    prior_set l i m false = quiet (state_at l sets i m)

    -- what ends at q in the set pass: by whether it is a group of four that stand alone, and whether this was split in the plane in progress
    abbrev pub prior_block : ℕ → ℕ → List ℕ → Bool → Bool → Prior
    prior_block l q m true true = unasked l sets (q - 1) MCP m (is m (q - 1) MNP)
    prior_block l q m true false = quiet (state_at l sets (q - 4) m)
    prior_block l q m false new = prior_set l (block m q) m (is m (block m q) MD || is m (block m q) MG)

    -- The set pass at q: by whether q is a multiple of 4, is MCP, has four MD, and is 0
    abbrev pub prior_sets : ℕ → ℕ → List ℕ → Bool → Bool → Bool → Bool → Prior
    prior_sets l q m false is_mcp four_md zero? = unasked l sets (q - 1) MCP m (is m (q - 1) MNP)
    prior_sets l q m true true four_md zero? = answered (state_at l sets q (join_desc q m (ltb (4 * q) I)))
    prior_sets l q m true false true zero? = answered (state_at l sets q (join_grand q m))
    prior_sets l q m true false false true = quiet (state_at l pixels I m)
    prior_sets l q m true false false false =
        prior_block l q m (alone m (q - 4)) (leb D (q - 4) && fresh m (q - 4))

    abbrev pub prior_at : ℕ → Pass → ℕ → Bool → List ℕ → Prior
    prior_at l p q true m = answered (state_at l p q m)
    prior_at l pixels q false m = prior_pixels l (block m q) m (eqb q 0) (ltb l P) (is m (block m q) MIP || is m (block m q) MNP)
    prior_at l sets q false m = prior_sets l q m (eqb (q % 4) 0) (is m q MCP) (many_descs D m q) (eqb q 0)
    prior_at l refining q false m = prior_refining l (block m q) m (eqb q 0) (is m (block m q) MSP) (big l (block m q))

    abbrev pub prior : State → Prior
    prior s = prior_at s.left s.pass s.place s.pending s.marks

    -- silent moves back, and the answer before them: at most n moves
    unfoldable pub back_from : ℕ → State → State
    back_from zero s = s
    back_from (suc n) s = elim (prior s) [ first ↦ s | quiet t ↦ back_from n t | answered t ↦ t ]

    -- no more moves than these lie between the first state and the last
    abbrev pub all_moves : ℕ
    all_moves = (P * 3 + 2) * (I + 2) + (I + 1)

    -- the state before the last answer
    unfoldable pub back : State → State
    back s = back_from (suc (all_moves - moves_left I s)) s
