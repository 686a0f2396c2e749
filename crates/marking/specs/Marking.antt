-- Marks as the code has them: skips, pushes and splits of a table that is no larger than that of the largest N (document 01, "Marks").
use Rattle.std.specs.Prelude.{ℕ, ◌+◌, ◌-◌, ◌*◌, ◌%◌}
use mathlib.Core.{Bool.Bool, Bool.cond, Bool.◌&&◌, List.List}
use lib.{Dec.ltb, Dec.leb, Dec.eqb, ListN.length, ListN.get_or, ListN.set}
use Rattle.sizes.specs.Sizes.{most_n, all_of}
use Rattle.nls.specs.Marks.{MD, MN, skip, set_skip, push_from, split_desc}

-- MNk is pushed to places of 4^k and more, so that k is below N, and codes end before that of the largest N (document 02, T-02:
-- "Marks MN8 and MN9 take codes 13 and 14")
abbrev pub codes_end : ℕ
codes_end = MN most_n

-- a code without a meaning skips 1
unfoldable pub skip_of : ℕ → ℕ
skip_of k = cond (ltb k codes_end) (skip k) 1

unfoldable pub set_skip_of : ℕ → ℕ
set_skip_of k = cond (ltb k codes_end) (set_skip k) 1

-- a push writes each code once at most
abbrev pub push_most : ℕ → ℕ → List ℕ → List ℕ
push_most I i m = push_from I (codes_end - MN 2) (4 * i) (MN 2) m

abbrev pub new_desc : ℕ → ℕ → List ℕ → List ℕ
new_desc I i m = push_most I i (set m i MD)

abbrev pub grand_split_marks : ℕ → ℕ → List ℕ → List ℕ
grand_split_marks I i m = new_desc I (i + 12) (new_desc I (i + 8) (new_desc I (i + 4) (new_desc I i m)))

abbrev pub desc_split_marks : ℕ → ℕ → List ℕ → List ℕ
desc_split_marks I i m = split_desc I i m (ltb (4 * i) I)

-- the four marks from i on become a, b, c, d
abbrev pub put_four : List ℕ → ℕ → ℕ → ℕ → ℕ → ℕ → List ℕ
put_four m i a b c d = set (set (set (set m i a) (i + 1) b) (i + 2) c) (i + 3) d

-- the four marks from i on are in the table, and all of them are v; and they become v
abbrev pub same_four : List ℕ → ℕ → ℕ → Bool
same_four m i v = leb (i + 4) (length m) && (eqb (get_or m i 0) v && (eqb (get_or m (i + 1) 0) v && (eqb (get_or m (i + 2) 0) v && eqb (get_or m (i + 3) 0) v)))

abbrev pub set_four : List ℕ → ℕ → ℕ → List ℕ
set_four m i v = put_four m i v v v v

-- a table of I marks is no larger than that of the largest N, and i is a place of it
unfoldable pub in_table : ℕ → ℕ → Bool
in_table I i = leb I (all_of most_n) && ltb i I

-- I and D are such that a start table can have them
unfoldable pub start_fits : ℕ → ℕ → Bool
start_fits I D = leb I (all_of most_n) && leb 4 D && leb (4 * D) I && eqb (D % 4) 0
