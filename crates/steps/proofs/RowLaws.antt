-- The rows of a set: what filling one does, how they follow each other, and that they are the members of a DESC or a GRAND.
use mathlib.Core.Path.{◌≡◌, refl, sym, ap, subst, ◌∙◌}
use mathlib.Core.Bool.{Bool, true, false, cond, ◌&&◌, ◌||◌, false≢true}
use mathlib.Core.Logic.{⊎_elim}
use mathlib.Core.List.{List, ◌++◌}
use Prim.Native.Nat.{ℕ, zero, suc, ◌+◌, ◌*◌, ◌-◌, ◌/◌, ◌^◌, ◌≤◌, ◌<◌}
use native.Mathlib.Omega.{arith}
use native.Mathlib.Nat.{pow-succ', mul_left_comm}
use native.Mathlib.Decide.{dec_lt}
use borrow.Author.Tests.{leb-true, ltb-true, le-leb, lt-leb, lt-ltb, le-ltb}
use borrow.Rule.Slice.PartMut.{mid_of, post_of, put_mid, mid_len, same_len_mid, take_put, drop_put}
use lib.Dec.{leb, ltb, eqb}
use lib.ListN.{length, get_or, take, replicate, length-replicate, get_or-replicate, get_or-append}
use lib.Seq.{get_or-take, get_or-drop, get_or-append-add, length-take-le}
use Rattle.sizes.specs.Sizes.{most_n, all_of, coarsest_of, side_fits, Sized}
use Rattle.sizes.specs.Tables.{table}
use Rattle.sizes.proofs.Laws.{both_left, both_right, both, side_most, all_most, coarsest_least, coarsest_four}
use Rattle.sizes.proofs.Tables.{table_is, table_ext}
use Rattle.tree.specs.Tree.{desc, grand, any_in}
use Rattle.tree.proofs.Lists.{or_left, or_right}
use Rattle.tree.proofs.Laws.{desc_low, grand_low}
use Rattle.nls.specs.Reading.{set_each}
use Rattle.nls.proofs.Booleans.{or_cases, same_bool}
use Rattle.nls.proofs.Machine.Cover.{Under, kid, far}
use Rattle.nls.proofs.Reading.Told.{under_ge}
use Rattle.nls.proofs.Precision.Noted.{each_length, each_plane}
use Rattle.nls.proofs.Precision.PlaneEnds.{in_desc_lem, in_grand_lem}
use Rattle.nls.proofs.Precision.Seen.{of_desc, of_grand}
use Rattle.nls.proofs.Precision.Rows.{room_four}
use Rattle.steps.specs.Rows.{Row, in_rows, rows_filled}

-- a part from q to e whose entries all become v
module _ (q e v : ℕ) (k ys : List ℕ) (h : q ≤ e) (g : e ≤ length k) (fills : ys ≡ replicate (length (mid_of q (e - q) k)) v) where
  long : length ys ≡ e - q
  long = ap length fills ∙ length-replicate (length (mid_of q (e - q) k)) v ∙ mid_len q e k g

  put_part : (i : ℕ) → get_or (put_mid q (e - q) k ys) i 0 ≡ cond (leb q i && ltb i e) v (get_or k i 0)
  put_part i = on (dec_lt i q) (dec_lt i e)
    where
      on : Dec (i < q) → Dec (i < e) → get_or (put_mid q (e - q) k ys) i 0 ≡ cond (leb q i && ltb i e) v (get_or k i 0)
      on (yes a) b =
          rw (lt-leb q i a)
          (sym (get_or-take q (put_mid q (e - q) k ys) i 0 a) ∙ ap (λ (l : List ℕ). get_or l i 0) (take_put q (e - q) k ys (omega arith)) ∙ get_or-take q k i 0 a)
      on (no a) (yes b) =
          let at : i ≡ length (take q k) + (i - q) = omega (arith, length-take-le q k (omega arith)) in
          let size : length (mid_of q (e - q) k) ≡ e - q = mid_len q e k g in
          rw (le-leb q i (omega arith), lt-ltb i e b)
          (ap (λ (j : ℕ). get_or (put_mid q (e - q) k ys) j 0) at
          ∙ get_or-append-add (take q k) (ys ++ post_of q (e - q) k) (i - q) 0
          ∙ get_or-append ys (post_of q (e - q) k) 0 (i - q) (omega (arith, long))
          ∙ ap (λ (l : List ℕ). get_or l (i - q) 0) fills
          ∙ get_or-replicate (length (mid_of q (e - q) k)) (i - q) v 0 (omega (arith, size)))
      on (no a) (no b) =
          let at : i ≡ e + (i - e) = omega arith in
          rw (le-leb q i (omega arith), le-ltb i e (omega arith))
          (ap (λ (j : ℕ). get_or (put_mid q (e - q) k ys) j 0) at
          ∙ sym (get_or-drop e (put_mid q (e - q) k ys) (i - e) 0)
          ∙ ap (λ (l : List ℕ). get_or l (i - e) 0) (drop_put q e k ys h g long)
          ∙ get_or-drop e k (i - e) 0
          ∙ ap (λ (j : ℕ). get_or k j 0) (sym at))

-- the rows of a row four times as long and as far are those below it
row_down : (n first size i : ℕ) → in_rows n (4 * first) (4 * size) i ≡ in_rows n first size (i / 4)
unfolding in_rows
row_down zero first size i = refl
row_down (suc n) first size i = λ t. same t || row_down n first size (i / 4) t
  where
    same : (leb (4 * first) i && ltb i (4 * first + 4 * size)) ≡ (leb first (i / 4) && ltb (i / 4) (first + size))
    same =
        same_bool (leb (4 * first) i && ltb i (4 * first + 4 * size)) (leb first (i / 4) && ltb (i / 4) (first + size))
        (λ e.
        let lo : 4 * first ≤ i = leb-true (4 * first) i (both_left (leb (4 * first) i) (ltb i (4 * first + 4 * size)) e) in
        let hi : i < 4 * first + 4 * size = ltb-true i (4 * first + 4 * size) (both_right (leb (4 * first) i) (ltb i (4 * first + 4 * size)) e) in
        both (le-leb first (i / 4) (omega arith)) (lt-ltb (i / 4) (first + size) (omega arith)))
        (λ e.
        let lo : first ≤ i / 4 = leb-true first (i / 4) (both_left (leb first (i / 4)) (ltb (i / 4) (first + size)) e) in
        let hi : i / 4 < first + size = ltb-true (i / 4) (first + size) (both_right (leb first (i / 4)) (ltb (i / 4) (first + size)) e) in
        both (le-leb (4 * first) i (omega arith)) (lt-ltb i (4 * first + 4 * size) (omega arith)))

-- none holds a place before the first
row_before : (n first size i : ℕ) → i < first → in_rows n first size i ≡ false
unfolding in_rows
row_before zero first size i h = refl
row_before (suc n) first size i h = rw (lt-leb first i h, row_before n first size (i / 4) (omega arith)) refl

-- ---- the loop: what is left to fill, from a row on, of the list as it is by then
pub record Filling (first size v : ℕ) (k₀ : List ℕ) (at wide : ℕ) (k : List ℕ) : Type 0 where
  pub same : length k ≡ length k₀
  pub row : Row (length k) at wide
  pub fuel : ℕ
  pub enough : length k ≤ fuel + at
  pub whole : rows_filled fuel at wide v k ≡ rows_filled (length k₀) first size v k₀

pub filling_first : (first size v : ℕ) (k : List ℕ) → Row (length k) first size → Filling first size v k first size k
filling_first first size v k r = record { same = refl; row = r; fuel = length k; enough = omega arith; whole = refl }

-- where the first row is past the end, nothing is left
filled : (n at wide v : ℕ) (k : List ℕ) → length k ≤ at → rows_filled n at wide v k ≡ k
unfolding rows_filled
filled n at wide v k h =
    sym (table_is (length k) (λ i. cond (in_rows n at wide i) v (get_or k i 0)) 0 k refl (λ i l. rw (row_before n at wide i (omega arith)) refl))

pub filling_last : {first size v : ℕ} {k₀ : List ℕ} (at wide : ℕ) (k : List ℕ) → Filling first size v k₀ at wide k → length k ≤ at → k ≡ rows_filled (length k₀) first size v k₀
filling_last {first} {size} {v} at wide k f h = sym (filled f.fuel at wide v k h) ∙ f.whole

-- a row ends within the table
pub row_ends : {I at wide : ℕ} → Row I at wide → at < I → at + wide ≤ I
row_ends {I} {at} {wide} r h = omega (arith, r.all, r.long, room_four r.power r.side at r.times r.far r.some (omega (arith, r.all)))

-- and the table is short
pub row_short : {I at wide : ℕ} → Row I at wide → I ≤ all_of most_n
row_short {I} {at} {wide} r = omega (arith, r.all, all_most r.side r.most)

row_next : {I at wide : ℕ} → Row I at wide → Row I (4 * at) (4 * wide)
row_next {I} {at} {wide} r =
    record {
      side = r.side;
      all = r.all;
      most = r.most;
      power = suc r.power;
      times = r.times;
      long = omega (arith, r.long, pow-succ' 4 r.power);
      far = omega (arith, r.far, ap (λ (x : ℕ). r.times * x) (pow-succ' 4 r.power), mul_left_comm r.times 4 (4 ^ r.power));
      some = omega (arith, r.some);
    }

-- one row is filled
one_more : (x y : Bool) (v w : ℕ) → cond y v (cond x v w) ≡ cond (x || y) v w
one_more true true v w = refl
one_more true false v w = refl
one_more false y v w = refl

module _ (at wide v : ℕ) (k ys : List ℕ) (g : at + wide ≤ length k) (fills : ys ≡ replicate (length (mid_of at (at + wide - at) k)) v) where
  same_long : length (put_mid at (at + wide - at) k ys) ≡ length k
  same_long = same_len_mid at (at + wide - at) k ys (ap length fills ∙ length-replicate (length (mid_of at (at + wide - at) k)) v)

  row_filled : (n : ℕ) → rows_filled n (4 * at) (4 * wide) v (put_mid at (at + wide - at) k ys) ≡ rows_filled (suc n) at wide v k
  unfolding rows_filled in_rows
  row_filled n =
      ap (λ (m : ℕ). table m (λ i. cond (in_rows n (4 * at) (4 * wide) i) v (get_or (put_mid at (at + wide - at) k ys) i 0))) same_long
      ∙ table_ext (length k) (λ i. cond (in_rows n (4 * at) (4 * wide) i) v (get_or (put_mid at (at + wide - at) k ys) i 0)) (λ i. cond ((leb at i && ltb i (at + wide)) || in_rows n at wide (i / 4)) v (get_or k i 0))
      (λ i l.
      (λ t. cond (row_down n at wide i t) v (put_part at (at + wide) v k ys (omega arith) g fills i t))
      ∙ one_more (leb at i && ltb i (at + wide)) (in_rows n at wide (i / 4)) v (get_or k i 0))

  pub filling_next : {first size : ℕ} {k₀ : List ℕ} → Filling first size v k₀ at wide k → at < length k
      → Filling first size v k₀ (4 * at) (4 * wide) (put_mid at (at + wide - at) k ys)
  filling_next {first} {size} {k₀} f h = on f.fuel f.enough f.whole
    where
      on : (n : ℕ) → length k ≤ n + at → rows_filled n at wide v k ≡ rows_filled (length k₀) first size v k₀
          → Filling first size v k₀ (4 * at) (4 * wide) (put_mid at (at + wide - at) k ys)
      on zero e w = absurd (omega arith)
      on (suc n) e w =
          record {
            same = same_long ∙ f.same;
            row = subst (λ (I : ℕ). Row I (4 * at) (4 * wide)) (sym same_long) (row_next f.row);
            fuel = n;
            enough = omega (arith, same_long, e, f.row.some);
            whole = row_filled n ∙ w;
          }

-- ---- the members of a DESC and of a GRAND
under_rows : (n g i : ℕ) → 1 ≤ g → i < n → Under g i → in_rows n (4 * g) 4 i ≡ true
unfolding in_rows
under_rows zero g i h l u = absurd (omega arith)
under_rows (suc n) g i h l (kid e) =
    or_left (leb (4 * g) i && ltb i (4 * g + 4)) (in_rows n (4 * g) 4 (i / 4)) (both (le-leb (4 * g) i (omega (arith, e))) (lt-ltb i (4 * g + 4) (omega (arith, e))))
under_rows (suc n) g i h l (far u) =
    or_right (leb (4 * g) i && ltb i (4 * g + 4)) (in_rows n (4 * g) 4 (i / 4)) (under_rows n g (i / 4) h (omega (arith, under_ge g (i / 4) u)) u)

rows_under : (n g i : ℕ) → in_rows n (4 * g) 4 i ≡ true → Under g i
unfolding in_rows
rows_under zero g i e = absurd (false≢true e)
rows_under (suc n) g i e =
    ⊎_elim
    (λ r.
    let lo : 4 * g ≤ i = leb-true (4 * g) i (both_left (leb (4 * g) i) (ltb i (4 * g + 4)) r) in
    let hi : i < 4 * g + 4 = ltb-true i (4 * g + 4) (both_right (leb (4 * g) i) (ltb i (4 * g + 4)) r) in
    kid (omega arith))
    (λ r. far (rows_under n g (i / 4) r))
    (or_cases (leb (4 * g) i && ltb i (4 * g + 4)) (in_rows n (4 * g) 4 (i / 4)) e)

-- entries that are set by a list of places, as a table
each_table : (l : List ℕ) (v : ℕ) (k : List ℕ) → set_each l v k ≡ table (length k) (λ i. cond (any_in (λ j. eqb j i) l) v (get_or k i 0))
each_table l v k = table_is (length k) (λ i. cond (any_in (λ j. eqb j i) l) v (get_or k i 0)) 0 (set_each l v k) (each_length l v k) (λ i h. each_plane l v k i h)

module _ (N L : ℕ) (z : Sized N L) (v : ℕ) (k : List ℕ) (long : length k ≡ all_of N) where
  pub desc_rows : (g : ℕ) → coarsest_of N L ≤ 4 * g → rows_filled (length k) (4 * g) 4 v k ≡ set_each (desc N L g) v k
  unfolding rows_filled
  desc_rows g h =
      table_ext (length k) (λ i. cond (in_rows (length k) (4 * g) 4 i) v (get_or k i 0)) (λ i. cond (any_in (λ j. eqb j i) (desc N L g)) v (get_or k i 0))
      (λ i l.
      ap (λ (x : Bool). cond x v (get_or k i 0))
      (same_bool (in_rows (length k) (4 * g) 4 i) (any_in (λ j. eqb j i) (desc N L g))
      (λ e. in_desc_lem N L z 0 g i h (omega arith) (rows_under (length k) g i e))
      (λ e. under_rows (length k) g i (omega (arith, coarsest_least N L z)) l (of_desc N L z 0 g i e))))
      ∙ sym (each_table (desc N L g) v k)

  pub grand_rows : (g : ℕ) → coarsest_of N L ≤ 4 * g → rows_filled (length k) (16 * g) 16 v k ≡ set_each (grand N L g) v k
  unfolding rows_filled
  grand_rows g h =
      table_ext (length k) (λ i. cond (in_rows (length k) (16 * g) 16 i) v (get_or k i 0)) (λ i. cond (any_in (λ j. eqb j i) (grand N L g)) v (get_or k i 0))
      (λ i l.
      ap (λ (x : Bool). cond x v (get_or k i 0))
      (up i
      ∙ same_bool (in_rows (length k) (4 * g) 4 (i / 4)) (any_in (λ j. eqb j i) (grand N L g))
      (λ e. in_grand_lem N L z 0 g i h (omega arith) (rows_under (length k) g (i / 4) e))
      (λ e. under_rows (length k) g (i / 4) (omega (arith, coarsest_least N L z)) (omega arith) (of_grand N L z 0 g i e))))
      ∙ sym (each_table (grand N L g) v k)
    where
      up : (i : ℕ) → in_rows (length k) (16 * g) 16 i ≡ in_rows (length k) (4 * g) 4 (i / 4)
      up i = ap (λ (x : ℕ). in_rows (length k) x 16 i) {x = 16 * g} {y = 4 * (4 * g)} (omega arith) ∙ row_down (length k) (4 * g) 4 i

  -- below the coarsest band there are none
  pub desc_rows_none : (g : ℕ) → 4 * g < coarsest_of N L → k ≡ set_each (desc N L g) v k
  unfolding set_each
  desc_rows_none g h = rw (desc_low N L g (omega (arith, h, coarsest_four N L z))) refl

  pub grand_rows_none : (g : ℕ) → 16 * g < 4 * coarsest_of N L → k ≡ set_each (grand N L g) v k
  unfolding set_each
  grand_rows_none g h = rw (grand_low N L g (omega (arith, h, coarsest_four N L z))) refl

-- their first rows
module _ (N L : ℕ) (fits : side_fits N ≡ true) (z : Sized N L) where
  pub desc_row : (I g : ℕ) → I ≡ all_of N → coarsest_of N L ≤ 4 * g → Row I (4 * g) 4
  desc_row I g e h = record { side = N; all = e; most = side_most N fits; power = 1; times = g; long = refl; far = omega arith; some = omega (arith, coarsest_least N L z) }

  pub grand_row : (I g : ℕ) → I ≡ all_of N → 4 * coarsest_of N L ≤ 16 * g → Row I (16 * g) 16
  grand_row I g e h = record { side = N; all = e; most = side_most N fits; power = 2; times = g; long = refl; far = omega arith; some = omega (arith, coarsest_least N L z) }
