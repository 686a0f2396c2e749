-- Where the scan stood, as the final pass is given it: what the marks and the place say of each coefficient's precision.
use mathlib.Core.Path.{◌≡◌, refl, sym, ap, subst, ◌∙◌}
use mathlib.Core.Bool.{Bool, true, false, cond}
use mathlib.Core.List.{List}
use Prim.Native.Nat.{ℕ, zero, suc, ◌+◌, ◌*◌, ◌-◌, ◌/◌, ◌%◌, ◌≤◌, ◌<◌}
use native.Mathlib.Omega.{arith}
use borrow.Author.Tests.{ltb-true, ltb-false, lt-ltb, le-ltb}
use lib.Dec.{ltb}
use lib.IntN.{ℤ, pos, negsuc}
use lib.ListN.{length, get_or, replicate, length-replicate, get_or-replicate}
use lib.Pow.{pow_mono}
use Rattle.sizes.specs.Sizes.{most_n, most_planes, all_of}
use Rattle.sizes.specs.Tables.{table}
use Rattle.sizes.proofs.Laws.{all_most}
use Rattle.sizes.proofs.Tables.{table_ext, table_is}
use Rattle.coef.specs.Coef.{at, negative}
use Rattle.nls.specs.Marks.{skip}
use Rattle.nls.specs.Reading.{known, value_by, Between, precision_at, precisions, values_by}
use Rattle.nls.specs.Turns.{turn, down_to, precision_by}
use Rattle.nls.proofs.Tiled.{tiled}
use Rattle.nls.proofs.Machine.Table.{Cfg}
use Rattle.nls.proofs.Machine.Cover.{Core, skip_1}
use Rattle.nls.proofs.Machine.Blocks.{after_block, at_0}
use Rattle.nls.proofs.Streams.{codes_fit, marks_length}
use Rattle.nls.proofs.Known.{left_most}
use Rattle.nls.proofs.Values.{value_range}
use Rattle.nls.proofs.Precision.Turns.{turn_new, turn_old, precision_of_lem}
use Rattle.nls.proofs.Precision.Rows.{core_after, turn_head, turn_row, row_same, row_of, row_fits}
use Rattle.marking.specs.Marking.{codes_end}
use Rattle.reading.specs.Reading.{coded}
use Rattle.reading.proofs.Coded.{codes_at}
use Rattle.decoder.specs.Finishing.{plain_of, Stood, Codes, Uncodes}

-- a code undone
plain_coded : (z : ℤ) → plain_of (coded z) ≡ z
plain_coded (pos n) =
    let e : (2 * n + 0) % 2 ≡ 0 = omega arith in
    let h : (2 * n + 0) / 2 ≡ n = omega arith in
    rw (e, h)
plain_coded (negsuc n) =
    let e : (2 * suc n + 1) % 2 ≡ 1 = omega arith in
    let h : (2 * suc n + 1) / 2 ≡ suc n = omega arith in
    rw (e, h)

-- a turn in the pass that begins at `start` has been, exactly if the pass has come past its place
ahead : (start place now : ℕ) → ltb (start + place) now ≡ ltb place (now - start)
ahead start place now = go (ltb place (now - start)) refl
  where
    go : (t : Bool) → ltb place (now - start) ≡ t → ltb (start + place) now ≡ t
    go true e = lt-ltb (start + place) now (omega (arith, ltb-true place (now - start) e))
    go false e = le-ltb (start + place) now (omega (arith, ltb-false place (now - start) e))

-- where the walk over the marks stands: at a mark, or at the end
pub record Walked (m : List ℕ) (t : ℕ) : Type 0 where
  pub within : t ≤ length m
  pub marked : t < length m → get_or m t 0 ≡ 0 → ⊥

module _ {m : List ℕ} {left now : ℕ} (s : Stood m left now) where
  abbrev N : ℕ
  N = s.N

  abbrev L : ℕ
  L = s.L

  pub long : length m ≡ all_of s.N
  long = ap (λ (x : List ℕ). length x) s.marked ∙ marks_length N L s.sized s.P s.bits

  pub short : length m ≤ all_of most_n
  short = omega (arith, long, all_most N s.most)

  pub left_fits : left ≤ most_planes
  left_fits = omega (arith, s.lefts, left_most N L s.P s.bits, s.planes)

  pub mark_fits : (i : ℕ) → get_or m i 0 < codes_end
  mark_fits i = omega (arith, ap (λ (x : List ℕ). get_or x i 0) s.marked, codes_fit N L s.sized s.P s.bits i, s.most)

  -- the precision by the state's words is that of the definitions
  abbrev pub down : ℕ → ℕ
  down j = precision_by (length m) m left now j

  precision_is : (i : ℕ) → i < all_of s.N → precision_by (all_of s.N) m left now i ≡ precision_at s.N s.L s.P s.bits i
  precision_is i h = rw (s.marked, s.lefts, s.stands) (sym (precision_of_lem N L s.sized s.P s.fits.0 s.bits s.fits.1 i h))

  pub precisions_are : table (all_of s.N) (λ i. precision_by (all_of s.N) m left now i) ≡ precisions s.N s.L s.P s.bits
  precisions_are = table_ext (all_of N) _ _ precision_is

  module _ (v : List ℤ) (codes : Codes s v) (rule : ℕ → ℕ → ℕ) where
    plain_at : (i : ℕ) → plain_of (at v i) ≡ at (known s.N s.L s.P s.bits).bits i
    plain_at i =
        let b : List ℤ = (known N L s.P s.bits).bits in
        ap (λ (x : List ℤ). plain_of (at x i)) codes ∙ ap plain_of (codes_at b i) ∙ plain_coded (at b i)

    pub values_are : table (all_of s.N) (λ i. value_by rule (precision_by (all_of s.N) m left now i) (plain_of (at v i))) ≡ values_by s.N s.L s.P s.bits rule
    values_are =
        table_ext (all_of N) _ _
        (λ i h. ap (λ (k : ℕ). value_by rule k (plain_of (at v i))) (precision_is i h) ∙ ap (λ (z : ℤ). value_by rule (precision_at N L s.P s.bits i) z) (plain_at i))

    -- each code can be undone
    pub undone : Between rule → (i : ℕ) → i < length m → Uncodes rule (at v i) (down i)
    undone fair i h = (
      ap (λ (x : List ℤ). negative (at x i)) codes ∙ ap negative (codes_at (known N L s.P s.bits).bits i),
      omega (arith, low (ltb (turn (length m) m i) now), left_fits),
      rw (long, precision_is i (omega (arith, h, long)), plain_at i)
          (omega (arith, value_range N L s.P s.bits rule fair i (omega (arith, h, long)), pow_mono {i = s.P} {j = most_planes} s.planes)),
    )
      where
        low : (t : Bool) → cond t (left - 1) left ≤ left
        low true = omega arith
        low false = omega arith

  -- before a plane's first bit each is the last finished one
  pub before_any : now ≡ 0 → replicate (length m) left ≡ table (length m) (λ j. precision_by (length m) m left now j)
  before_any e =
      table_is (length m) (λ j. precision_by (length m) m left now j) 0 (replicate (length m) left) (length-replicate (length m) left)
      (λ i h. get_or-replicate (length m) i left 0 h ∙ ap (λ (t : Bool). cond t (left - 1) left) (sym (le-ltb (turn (length m) m i) now (omega (arith, e)))))

  -- and after the last plane 0
  pub after_all : left ≡ 0 → replicate (length m) 0 ≡ table (length m) (λ j. precision_by (length m) m left now j)
  after_all e = ap (λ (x : ℕ). replicate (length m) x) (sym e) ∙ before_any (s.ended e)

  -- the walk over the marks, while a plane is in progress: they lie as the machine lays them
  module _ (some : 1 ≤ left) where
    laid : (c : Cfg) × Core (tiled s.N s.L s.sized) c m
    laid = subst (λ (x : List ℕ). (c : Cfg) × Core (tiled N L s.sized) c x) (sym s.marked) (core_after N L s.sized s.P s.fits.0 s.bits s.fits.1 (omega (arith, some, s.lefts)))

    pub walked_first : Walked m 0
    walked_first = record { within = omega arith; marked = λ h. at_0 (tiled N L s.sized) laid.0 m laid.1 (omega (arith, h, long)) }

    module _ (t : ℕ) (h : t < length m) (w : Walked m t) where
      in_table : t < all_of s.N
      in_table = omega (arith, h, long)

      after_mark : t + skip (get_or m t 0) < length m → get_or m (t + skip (get_or m t 0)) 0 ≡ 0 → ⊥
      after_mark k = after_block (tiled N L s.sized) laid.0 m laid.1 t in_table (w.marked h) (omega (arith, k, long))

      -- past a coefficient by itself, and its precision
      pub walked_one : get_or m t 0 ≤ 4 → Walked m (t + 1)
      walked_one a = record { within = omega (arith, h); marked = subst (λ (d : ℕ). t + d < length m → get_or m (t + d) 0 ≡ 0 → ⊥) (skip_1 (get_or m t 0) (omega (arith, a))) after_mark }

      pub by_new : get_or m t 0 ≤ 2 → down t ≡ down_to left now t
      by_new a = ap (λ (x : ℕ). down_to left now x) (turn_new (length m) m t (omega (arith, some_mark)) a)
        where
          some_mark : 1 ≤ get_or m t 0
          some_mark = go (get_or m t 0) refl
            where
              go : (k : ℕ) → get_or m t 0 ≡ k → 1 ≤ k
              go zero e = absurd (w.marked h e)
              go (suc k) e = omega arith

      pub by_old : 3 ≤ get_or m t 0 → get_or m t 0 ≤ 4 → down t ≡ down_to left (now - 2 * length m) t
      by_old a b = ap (λ (x : ℕ). down_to left now x) (turn_old (length m) m t a b) ∙ ap (λ (x : Bool). cond x (left - 1) left) (ahead (2 * length m) t now)

      -- past a row of a set, and the precision of all its places
      module _ (big : 5 ≤ get_or m t 0) where
        pub walked_row : Walked m (t + skip (get_or m t 0))
        walked_row = record { within = omega (arith, row_fits N L s.sized laid.0 m laid.1 t in_table big, long); marked = after_mark }

        pub by_head : get_or m t 0 ≤ 6 → down t ≡ down_to left (now - length m) t
        by_head b =
            ap (λ (x : ℕ). down_to left now x) (subst (λ (k : ℕ). turn k m t ≡ k + t) (sym long) (turn_head N L s.sized laid.0 m laid.1 t in_table big b))
            ∙ ap (λ (x : Bool). cond x (left - 1) left) (ahead (length m) t now)

        pub by_row : (d : ℕ) → d < skip (get_or m t 0) → down (t + d) ≡ down t
        by_row d k =
            ap (λ (x : ℕ). down_to left now x)
            (subst (λ (k : ℕ). turn k m (t + d) ≡ turn k m t) (sym long) (row_same N L s.sized laid.0 m laid.1 t d in_table big k (omega (arith, k, row_fits N L s.sized laid.0 m laid.1 t in_table big))))

      pub by_parent : 7 ≤ get_or m t 0 → (t / 4 < t) × (down t ≡ down (t / 4))
      by_parent a = (
        omega (arith, (row_of N L s.sized laid.0 m laid.1 t in_table a).3),
        ap (λ (x : ℕ). down_to left now x) (subst (λ (k : ℕ). turn k m t ≡ turn k m (t / 4)) (sym long) (turn_row N L s.sized laid.0 m laid.1 t in_table a)),
      )
