-- By quads in linear order it is the transform of rows and columns.
use mathlib.Core.Path.{◌≡◌, refl, sym, ap, ◌∙◌, subst}
use mathlib.Core.Bool.{Bool, true, false}
use mathlib.Core.List.{List}
use Prim.Native.Nat.{ℕ, zero, suc, ◌+◌, ◌*◌, ◌-◌, ◌/◌, ◌%◌, ◌^◌, ◌≤◌, ◌<◌}
use native.Mathlib.Nat.{pow-succ', pow-le-pow_right}
use native.Mathlib.Omega.{arith}
use borrow.Author.Tests.{ltb-true, ltb-false, lt-ltb, le-ltb, eq-eqb, ne_eqb}
use lib.Dec.{ltb}
use lib.IntN.{ℤ, pos}
use lib.ListN.{get_or}
use lib.Pow.{high, low}
use Rattle.sizes.specs.Sizes.{all_of}
use Rattle.sizes.specs.Tables.{table}
use Rattle.sizes.proofs.Laws.{four}
use Rattle.sizes.proofs.Tables.{table_ext, table_at}
use Rattle.places.specs.Order.{interleaved, row_of, col_of, to_linear, to_raster, linearly, rasterly}
use Rattle.places.proofs.Laws as places
use Rattle.transform.specs.Transform as t
use Rattle.transform.specs.Transform.{Square, line, unline, rows, columns, level, unlevel, half_of, transformed, restored, of_samples, of_coefficients, coefficients_of, samples_of}
use Rattle.transform.specs.declared.blocks.Quad.{Quad}
use Rattle.coef.specs.Coef.{at}
use Rattle.transform.specs.Quads.{apart, joined, block, unblock, entry, bands, unbands, downs, ups}
use Rattle.transform.proofs.Levels.{by_band, bands_tl, bands_tr, bands_bl, bands_br, bands_past, unbands_near, unbands_past}

-- lines
module _ (h : ℕ) (x : ℕ → ℤ) where
  line_low : (i : ℕ) → i < h → line h x i ≡ t.low (x (2 * i)) (x (2 * i + 1))
  unfolding line
  line_low i l = rw (lt-ltb i h l)

  line_high : (i : ℕ) → i < h → line h x (h + i) ≡ t.high (x (2 * i)) (x (2 * i + 1))
  unfolding line
  line_high i l =
      let e : h + i - h ≡ i = omega arith in
      rw (le-ltb (h + i) h (omega arith), lt-ltb (h + i) (2 * h) (omega arith), e)

  line_past : (i : ℕ) → 2 * h ≤ i → line h x i ≡ x i
  unfolding line
  line_past i l = rw (le-ltb i h (omega arith), le-ltb i (2 * h) l)

  unline_first : (i : ℕ) → i < h → unline h x (2 * i) ≡ t.first (x i) (x (h + i))
  unfolding unline
  unline_first i l =
      let e : 2 * i / 2 ≡ i = omega arith in
      rw (lt-ltb (2 * i) (2 * h) (omega arith), e, eq-eqb (2 * i % 2) 0 (omega arith))

  unline_second : (i : ℕ) → i < h → unline h x (2 * i + 1) ≡ t.second (x i) (x (h + i))
  unfolding unline
  unline_second i l =
      let e : (2 * i + 1) / 2 ≡ i = omega arith in
      rw (lt-ltb (2 * i + 1) (2 * h) (omega arith), e, ne_eqb ((2 * i + 1) % 2) 0 (λ (z : (2 * i + 1) % 2 ≡ 0). omega arith))

  unline_past : (i : ℕ) → 2 * h ≤ i → unline h x i ≡ x i
  unfolding unline
  unline_past i l = rw (le-ltb i (2 * h) l)

-- rows and columns
module _ (change : ℕ → (ℕ → ℤ) → ℕ → ℤ) (h : ℕ) (S : Square) (r c : ℕ) where
  rows_near : r < 2 * h → rows change h S r c ≡ change h (λ (i : ℕ). S r i) c
  unfolding rows
  rows_near l = rw (lt-ltb r (2 * h) l)

  rows_past : 2 * h ≤ r → rows change h S r c ≡ S r c
  unfolding rows
  rows_past l = rw (le-ltb r (2 * h) l)

  columns_near : c < 2 * h → columns change h S r c ≡ change h (λ (i : ℕ). S i c) r
  unfolding columns
  columns_near l = rw (lt-ltb c (2 * h) l)

  columns_past : 2 * h ≤ c → columns change h S r c ≡ S r c
  unfolding columns
  columns_past l = rw (le-ltb c (2 * h) l)

-- one level of a square: block r, c goes to the place r, c of each quarter
module _ (h : ℕ) (S : Square) (r c : ℕ) (k : r < h) (l : c < h) where
  quad : Quad
  quad = apart (S (2 * r) (2 * c)) (S (2 * r) (2 * c + 1)) (S (2 * r + 1) (2 * c)) (S (2 * r + 1) (2 * c + 1))

  row_low : (q : ℕ) → q < 2 * h → rows line h S q c ≡ t.low (S q (2 * c)) (S q (2 * c + 1))
  row_low q b = rows_near line h S q c b ∙ line_low h (λ (i : ℕ). S q i) c l

  row_high : (q : ℕ) → q < 2 * h → rows line h S q (h + c) ≡ t.high (S q (2 * c)) (S q (2 * c + 1))
  row_high q b = rows_near line h S q (h + c) b ∙ line_high h (λ (i : ℕ). S q i) c l

  square_tl : level h S r c ≡ quad.tl
  unfolding quad apart
  square_tl =
      columns_near line h (rows line h S) r c (omega arith) ∙ line_low h (λ (i : ℕ). rows line h S i c) r k
      ∙ rw (row_low (2 * r) (omega arith), row_low (2 * r + 1) (omega arith))

  square_tr : level h S r (h + c) ≡ quad.tr
  unfolding quad apart
  square_tr =
      columns_near line h (rows line h S) r (h + c) (omega arith) ∙ line_low h (λ (i : ℕ). rows line h S i (h + c)) r k
      ∙ rw (row_high (2 * r) (omega arith), row_high (2 * r + 1) (omega arith))

  square_bl : level h S (h + r) c ≡ quad.bl
  unfolding quad apart
  square_bl =
      columns_near line h (rows line h S) (h + r) c (omega arith) ∙ line_high h (λ (i : ℕ). rows line h S i c) r k
      ∙ rw (row_low (2 * r) (omega arith), row_low (2 * r + 1) (omega arith))

  square_br : level h S (h + r) (h + c) ≡ quad.br
  unfolding quad apart
  square_br =
      columns_near line h (rows line h S) (h + r) (h + c) (omega arith) ∙ line_high h (λ (i : ℕ). rows line h S i (h + c)) r k
      ∙ rw (row_high (2 * r) (omega arith), row_high (2 * r + 1) (omega arith))

  -- and back
  unquad : Quad
  unquad = joined (S r c) (S r (h + c)) (S (h + r) c) (S (h + r) (h + c))

  col_first : (q : ℕ) → q < 2 * h → columns unline h S (2 * r) q ≡ t.first (S r q) (S (h + r) q)
  col_first q b = columns_near unline h S (2 * r) q b ∙ unline_first h (λ (i : ℕ). S i q) r k

  col_second : (q : ℕ) → q < 2 * h → columns unline h S (2 * r + 1) q ≡ t.second (S r q) (S (h + r) q)
  col_second q b = columns_near unline h S (2 * r + 1) q b ∙ unline_second h (λ (i : ℕ). S i q) r k

  unsquare_tl : unlevel h S (2 * r) (2 * c) ≡ unquad.tl
  unfolding unquad joined
  unsquare_tl =
      rows_near unline h (columns unline h S) (2 * r) (2 * c) (omega arith) ∙ unline_first h (λ (i : ℕ). columns unline h S (2 * r) i) c l
      ∙ rw (col_first c (omega arith), col_first (h + c) (omega arith))

  unsquare_tr : unlevel h S (2 * r) (2 * c + 1) ≡ unquad.tr
  unfolding unquad joined
  unsquare_tr =
      rows_near unline h (columns unline h S) (2 * r) (2 * c + 1) (omega arith) ∙ unline_second h (λ (i : ℕ). columns unline h S (2 * r) i) c l
      ∙ rw (col_first c (omega arith), col_first (h + c) (omega arith))

  unsquare_bl : unlevel h S (2 * r + 1) (2 * c) ≡ unquad.bl
  unfolding unquad joined
  unsquare_bl =
      rows_near unline h (columns unline h S) (2 * r + 1) (2 * c) (omega arith) ∙ unline_first h (λ (i : ℕ). columns unline h S (2 * r + 1) i) c l
      ∙ rw (col_second c (omega arith), col_second (h + c) (omega arith))

  unsquare_br : unlevel h S (2 * r + 1) (2 * c + 1) ≡ unquad.br
  unfolding unquad joined
  unsquare_br =
      rows_near unline h (columns unline h S) (2 * r + 1) (2 * c + 1) (omega arith) ∙ unline_second h (λ (i : ℕ). columns unline h S (2 * r + 1) i) c l
      ∙ rw (col_second c (omega arith), col_second (h + c) (omega arith))

-- outside the square of side 2h nothing changes
module _ (change : ℕ → (ℕ → ℤ) → ℕ → ℤ) (h : ℕ) (past : (x : ℕ → ℤ) (i : ℕ) → 2 * h ≤ i → change h x i ≡ x i) (S : Square) (r c : ℕ) where
  rows_out : (r < 2 * h → 2 * h ≤ c) → rows change h S r c ≡ S r c
  rows_out o = tell (ltb r (2 * h)) refl
    where
      tell : (b : Bool) → ltb r (2 * h) ≡ b → rows change h S r c ≡ S r c
      tell true e = rows_near change h S r c (ltb-true r (2 * h) e) ∙ past (λ (i : ℕ). S r i) c (o (ltb-true r (2 * h) e))
      tell false e = rows_past change h S r c (ltb-false r (2 * h) e)

  columns_out : (c < 2 * h → 2 * h ≤ r) → columns change h S r c ≡ S r c
  columns_out o = tell (ltb c (2 * h)) refl
    where
      tell : (b : Bool) → ltb c (2 * h) ≡ b → columns change h S r c ≡ S r c
      tell true e = columns_near change h S r c (ltb-true c (2 * h) e) ∙ past (λ (i : ℕ). S i c) r (o (ltb-true c (2 * h) e))
      tell false e = columns_past change h S r c (ltb-false c (2 * h) e)

-- the row and the column of a place that is not in the first 4^n
out_row : (N n i : ℕ) → n ≤ N → 4 ^ n ≤ i → i < 4 ^ N → row_of N i < 2 ^ n → 2 ^ n ≤ col_of N i
out_row N n i g a b k = tell (ltb (col_of N i) (2 ^ n)) refl
  where
    tell : (b : Bool) → ltb (col_of N i) (2 ^ n) ≡ b → 2 ^ n ≤ col_of N i
    tell true e =
        absurd (omega (arith, places.interleaved_again N i b, places.interleaved_spread N (row_of N i) (col_of N i), places.spread_longer n N (row_of N i) g k, places.spread_longer n N (col_of N i) g (ltb-true (col_of N i) (2 ^ n) e), places.spread_below n (row_of N i), places.spread_below n (col_of N i)))
    tell false e = ltb-false (col_of N i) (2 ^ n) e

out_col : (N n i : ℕ) → n ≤ N → 4 ^ n ≤ i → i < 4 ^ N → col_of N i < 2 ^ n → 2 ^ n ≤ row_of N i
out_col N n i g a b k = tell (ltb (row_of N i) (2 ^ n)) refl
  where
    tell : (b : Bool) → ltb (row_of N i) (2 ^ n) ≡ b → 2 ^ n ≤ row_of N i
    tell true e = absurd (omega (arith, out_row N n i g a b (ltb-true (row_of N i) (2 ^ n) e)))
    tell false e = ltb-false (row_of N i) (2 ^ n) e

-- the place k of quarter d, of 4^m entries
module _ (N m k : ℕ) (g : m < N) (l : k < 4 ^ m) where
  above : (d : ℕ) → (d * 4 ^ m + k) / 4 ^ m ≡ d
  above d = subst (λ (x : ℕ). (d * x + k) / x ≡ d) (four m) (high d (m + m) (omega (arith, four m)))

  below : (d : ℕ) → (d * 4 ^ m + k) % 4 ^ m ≡ k
  below d = subst (λ (x : ℕ). (d * x + k) % x ≡ k) (four m) (low d (m + m) (omega (arith, four m)))

  quarter_row : (d : ℕ) → d < 4 → row_of N (d * 4 ^ m + k) ≡ d / 2 * 2 ^ m + row_of N k
  unfolding row_of
  quarter_row d b =
      let e : row_of 1 d ≡ d / 2 = omega arith in
      let q = d * 4 ^ m + k in
      ap (λ (n : ℕ). row_of n q) {x = N} {y = m + (N - m)} (omega arith) ∙ places.row_parts m (N - m) q
      ∙ rw (above d, below d, places.row_longer 1 (N - m) d (omega arith) (omega arith), places.row_longer m N k (omega arith) l, e)

  quarter_col : (d : ℕ) → d < 4 → col_of N (d * 4 ^ m + k) ≡ d % 2 * 2 ^ m + col_of N k
  unfolding col_of
  quarter_col d b =
      let e : col_of 1 d ≡ d % 2 = omega arith in
      let q = d * 4 ^ m + k in
      ap (λ (n : ℕ). col_of n q) {x = N} {y = m + (N - m)} (omega arith) ∙ places.col_parts m (N - m) q
      ∙ rw (above d, below d, places.col_longer 1 (N - m) d (omega arith) (omega arith), places.col_longer m N k (omega arith) l, e)

  first_row : row_of N k < 2 ^ m
  first_row = omega (arith, places.row_longer m N k (omega arith) l, places.row_below m k)

  first_col : col_of N k < 2 ^ m
  first_col = omega (arith, places.col_longer m N k (omega arith) l, places.col_below m k)

-- an array in linear order and a square that hold the same
module _ (N m : ℕ) (g : m < N) (X : ℕ → ℤ) (S : Square) (a : (i : ℕ) → i < 4 ^ N → X i ≡ S (row_of N i) (col_of N i)) where
  room : 4 * 4 ^ m ≤ 4 ^ N
  room = omega (arith, pow-succ' 4 m, pow-le-pow_right {n = 4} (omega arith) {i = suc m} {j = N} (omega arith))

  module _ (k : ℕ) (l : k < 4 ^ m) where
    -- a block's entries
    of_child : (d : ℕ) → d < 4 → X (4 * k + d) ≡ S (2 * row_of N k + d / 2) (2 * col_of N k + d % 2)
    of_child d b =
        a (4 * k + d) (omega (arith, room))
        ∙ rw (places.child_row N k d (omega (arith, room)) b, places.child_col N k d (omega (arith, room)) b)

    of_block : block X k ≡ quad (2 ^ m) S (row_of N k) (col_of N k) (first_row N m k g l) (first_col N m k g l)
    unfolding block quad
    of_block =
        let r = row_of N k in let c = col_of N k in
        let z : (y : ℕ) → y + 0 ≡ y = λ y. omega arith in
        let e0 : X (4 * k) ≡ S (2 * r) (2 * c) = ap X (sym (z (4 * k))) ∙ of_child 0 (omega arith) ∙ rw (z (2 * r), z (2 * c)) in
        let e1 : X (4 * k + 1) ≡ S (2 * r) (2 * c + 1) = of_child 1 (omega arith) ∙ rw (z (2 * r)) in
        let e2 : X (4 * k + 2) ≡ S (2 * r + 1) (2 * c) = of_child 2 (omega arith) ∙ rw (z (2 * c)) in
        let e3 : X (4 * k + 3) ≡ S (2 * r + 1) (2 * c + 1) = of_child 3 (omega arith) in
        rw (e0, e1, e2, e3)

    -- its places in the quarters
    in_quarter : (d : ℕ) (T : Square) (i : ℕ) → d < 4 → i ≡ d * 4 ^ m + k → T (row_of N i) (col_of N i) ≡ T (d / 2 * 2 ^ m + row_of N k) (d % 2 * 2 ^ m + col_of N k)
    in_quarter d T i b e = rw (e, quarter_row N m k g l d b, quarter_col N m k g l d b)

    of_unblock : unblock (4 ^ m) X k ≡ unquad (2 ^ m) S (row_of N k) (col_of N k) (first_row N m k g l) (first_col N m k g l)
    unfolding unblock unquad
    of_unblock =
        let r = row_of N k in let c = col_of N k in let h = 2 ^ m in let M = 4 ^ m in
        let z : (y : ℕ) → 0 * h + y ≡ y = λ y. omega arith in
        let o : (y : ℕ) → 1 * h + y ≡ h + y = λ y. omega arith in
        let e1 : X (M + k) ≡ S r (h + c) = a (M + k) (omega (arith, room)) ∙ in_quarter 1 S (M + k) (omega arith) (omega arith) ∙ rw (z r, o c) in
        let e2 : X (2 * M + k) ≡ S (h + r) c = a (2 * M + k) (omega (arith, room)) ∙ in_quarter 2 S (2 * M + k) (omega arith) (omega arith) ∙ rw (o r, z c) in
        let e3 : X (3 * M + k) ≡ S (h + r) (h + c) = a (3 * M + k) (omega (arith, room)) ∙ in_quarter 3 S (3 * M + k) (omega arith) (omega arith) ∙ rw (o r, o c) in
        rw (a k (omega (arith, room)), e1, e2, e3)

  -- a level ahead, and one back, at a place of quarter d
  module _ (T : Square) (k : ℕ) (l : k < 4 ^ m) (i : ℕ) where
    at_tr : i ≡ 4 ^ m + k → T (row_of N i) (col_of N i) ≡ T (row_of N k) (2 ^ m + col_of N k)
    at_tr e =
        let z : 0 * 2 ^ m + row_of N k ≡ row_of N k = omega arith in
        let o : 1 * 2 ^ m + col_of N k ≡ 2 ^ m + col_of N k = omega arith in
        in_quarter k l 1 T i (omega arith) (omega arith) ∙ rw (z, o)

    at_bl : i ≡ 2 * 4 ^ m + k → T (row_of N i) (col_of N i) ≡ T (2 ^ m + row_of N k) (col_of N k)
    at_bl e =
        let o : 1 * 2 ^ m + row_of N k ≡ 2 ^ m + row_of N k = omega arith in
        let z : 0 * 2 ^ m + col_of N k ≡ col_of N k = omega arith in
        in_quarter k l 2 T i (omega arith) (omega arith) ∙ rw (o, z)

    at_br : i ≡ 3 * 4 ^ m + k → T (row_of N i) (col_of N i) ≡ T (2 ^ m + row_of N k) (2 ^ m + col_of N k)
    at_br e =
        let o : 1 * 2 ^ m + row_of N k ≡ 2 ^ m + row_of N k = omega arith in
        let z : 1 * 2 ^ m + col_of N k ≡ 2 ^ m + col_of N k = omega arith in
        in_quarter k l 3 T i (omega arith) (omega arith) ∙ rw (o, z)

  -- past the four quarters
  past_row : (i : ℕ) → 4 * 4 ^ m ≤ i → i < 4 ^ N → row_of N i < 2 * 2 ^ m → 2 * 2 ^ m ≤ col_of N i
  past_row i u b k =
      omega (arith, pow-succ' 2 m, out_row N (suc m) i (omega arith) (omega (arith, pow-succ' 4 m)) b (omega (arith, pow-succ' 2 m)))

  past_col : (i : ℕ) → 4 * 4 ^ m ≤ i → i < 4 ^ N → col_of N i < 2 * 2 ^ m → 2 * 2 ^ m ≤ row_of N i
  past_col i u b k =
      omega (arith, pow-succ' 2 m, out_col N (suc m) i (omega arith) (omega (arith, pow-succ' 4 m)) b (omega (arith, pow-succ' 2 m)))

  pub agree_level : (i : ℕ) → i < 4 ^ N → bands (4 ^ m) X i ≡ level (2 ^ m) S (row_of N i) (col_of N i)
  agree_level i b =
      let T = level (2 ^ m) S in
      by_band {P = bands (4 ^ m) X i ≡ level (2 ^ m) S (row_of N i) (col_of N i)} (4 ^ m) i
      (λ u. bands_tl (4 ^ m) X i u ∙ ap (λ (v : Quad). v.tl) (of_block i u) ∙ sym (square_tl (2 ^ m) S (row_of N i) (col_of N i) (first_row N m i g u) (first_col N m i g u)))
      (λ v u.
      let k = i - 4 ^ m in
      let l : k < 4 ^ m = omega arith in
      bands_tr (4 ^ m) X i v u ∙ ap (λ (q : Quad). q.tr) (of_block k l)
      ∙ sym (at_tr T k l i (omega arith) ∙ square_tr (2 ^ m) S (row_of N k) (col_of N k) (first_row N m k g l) (first_col N m k g l)))
      (λ v u.
      let k = i - 2 * 4 ^ m in
      let l : k < 4 ^ m = omega arith in
      bands_bl (4 ^ m) X i v u ∙ ap (λ (q : Quad). q.bl) (of_block k l)
      ∙ sym (at_bl T k l i (omega arith) ∙ square_bl (2 ^ m) S (row_of N k) (col_of N k) (first_row N m k g l) (first_col N m k g l)))
      (λ v u.
      let k = i - 3 * 4 ^ m in
      let l : k < 4 ^ m = omega arith in
      bands_br (4 ^ m) X i v u ∙ ap (λ (q : Quad). q.br) (of_block k l)
      ∙ sym (at_br T k l i (omega arith) ∙ square_br (2 ^ m) S (row_of N k) (col_of N k) (first_row N m k g l) (first_col N m k g l)))
      (λ u.
      bands_past (4 ^ m) X i u ∙ a i b
      ∙ sym (columns_out line (2 ^ m) (line_past (2 ^ m)) (rows line (2 ^ m) S) (row_of N i) (col_of N i) (past_col i u b)
      ∙ rows_out line (2 ^ m) (line_past (2 ^ m)) S (row_of N i) (col_of N i) (past_row i u b)))

  -- back
  of_entry : (k : ℕ) (l : k < 4 ^ m) (d : ℕ) → d < 4 → entry (unblock (4 ^ m) X k) d ≡ unlevel (2 ^ m) S (2 * row_of N k + d / 2) (2 * col_of N k + d % 2)
  unfolding entry
  of_entry k l zero b =
      let z : (y : ℕ) → y + 0 ≡ y = λ y. omega arith in
      ap (λ (q : Quad). q.tl) (of_unblock k l) ∙ sym (rw (z (2 * row_of N k), z (2 * col_of N k)) (unsquare_tl (2 ^ m) S (row_of N k) (col_of N k) (first_row N m k g l) (first_col N m k g l)))
  of_entry k l (suc zero) b =
      let z : (y : ℕ) → y + 0 ≡ y = λ y. omega arith in
      ap (λ (q : Quad). q.tr) (of_unblock k l) ∙ sym (rw (z (2 * row_of N k)) (unsquare_tr (2 ^ m) S (row_of N k) (col_of N k) (first_row N m k g l) (first_col N m k g l)))
  of_entry k l (suc (suc zero)) b =
      let z : (y : ℕ) → y + 0 ≡ y = λ y. omega arith in
      ap (λ (q : Quad). q.bl) (of_unblock k l) ∙ sym (rw (z (2 * col_of N k)) (unsquare_bl (2 ^ m) S (row_of N k) (col_of N k) (first_row N m k g l) (first_col N m k g l)))
  of_entry k l (suc (suc (suc zero))) b =
      ap (λ (q : Quad). q.br) (of_unblock k l) ∙ sym (unsquare_br (2 ^ m) S (row_of N k) (col_of N k) (first_row N m k g l) (first_col N m k g l))
  of_entry k l (suc (suc (suc (suc d)))) b = absurd (omega arith)

  pub agree_unlevel : (i : ℕ) → i < 4 ^ N → unbands (4 ^ m) X i ≡ unlevel (2 ^ m) S (row_of N i) (col_of N i)
  agree_unlevel i b = tell (ltb i (4 * 4 ^ m)) refl
    where
      tell : (t : Bool) → ltb i (4 * 4 ^ m) ≡ t → unbands (4 ^ m) X i ≡ unlevel (2 ^ m) S (row_of N i) (col_of N i)
      tell true e =
          let u = ltb-true i (4 * 4 ^ m) e in
          let k = i / 4 in
          let l : k < 4 ^ m = omega arith in
          let d : i % 4 < 4 = omega arith in
          let s : i ≡ 4 * k + i % 4 = omega arith in
          let r : row_of N i ≡ 2 * row_of N k + i % 4 / 2 = ap (row_of N) s ∙ places.child_row N k (i % 4) (omega (arith, room)) d in
          let c : col_of N i ≡ 2 * col_of N k + i % 4 % 2 = ap (col_of N) s ∙ places.child_col N k (i % 4) (omega (arith, room)) d in
          unbands_near (4 ^ m) X i u ∙ of_entry k l (i % 4) d ∙ sym (rw (r, c))
      tell false e =
          let u = ltb-false i (4 * 4 ^ m) e in
          unbands_past (4 ^ m) X i u ∙ a i b
          ∙ sym (rows_out unline (2 ^ m) (unline_past (2 ^ m)) (columns unline (2 ^ m) S) (row_of N i) (col_of N i) (past_row i u b)
          ∙ columns_out unline (2 ^ m) (unline_past (2 ^ m)) S (row_of N i) (col_of N i) (past_col i u b))

-- all levels
pub agree_transformed : (N j : ℕ) → j ≤ N → (X : ℕ → ℤ) (S : Square) → ((i : ℕ) → i < 4 ^ N → X i ≡ S (row_of N i) (col_of N i)) → (i : ℕ) → i < 4 ^ N → downs N j X i ≡ transformed N j S (row_of N i) (col_of N i)
unfolding downs transformed
agree_transformed N zero g X S a i b = a i b
agree_transformed N (suc j) g X S a i b =
    agree_level N (N - suc j) (omega arith) (downs N j X) (transformed N j S) (agree_transformed N j (omega arith) X S a) i b

pub agree_restored : (N j : ℕ) → j ≤ N → (X : ℕ → ℤ) (S : Square) → ((i : ℕ) → i < 4 ^ N → X i ≡ S (row_of N i) (col_of N i)) → (i : ℕ) → i < 4 ^ N → ups N j X i ≡ restored N j S (row_of N i) (col_of N i)
unfolding ups restored
agree_restored N zero g X S a i b = a i b
agree_restored N (suc j) g X S a i b =
    agree_restored N j (omega arith) (unbands (4 ^ (N - suc j)) X) (unlevel (half_of N j) S) (agree_unlevel N (N - suc j) (omega arith) X S a) i b

-- over lists
module _ (N L : ℕ) (g : L ≤ N) where
  pub coefficients_are : (A : List ℤ) → coefficients_of N L A ≡ table (all_of N) (downs N L (at (linearly N A)))
  unfolding coefficients_of of_samples to_raster
  coefficients_are A =
      table_ext (all_of N) (λ q. transformed N L (of_samples N A) (row_of N q) (col_of N q)) (downs N L (at (linearly N A)))
      (λ i b. sym (agree_transformed N L g (at (linearly N A)) (of_samples N A) (places.linearly_at N A) i b))

  pub samples_are : (C : List ℤ) → samples_of N L C ≡ rasterly N (table (all_of N) (ups N L (at C)))
  unfolding samples_of of_coefficients to_linear rasterly
  samples_are C =
      table_ext (all_of N) (λ p. restored N L (of_coefficients N C) (p / 2 ^ N) (p % 2 ^ N)) (λ p. get_or (table (all_of N) (ups N L (at C))) (to_linear N p) (pos 0))
      (λ p b.
      let i = interleaved N (p / 2 ^ N) (p % 2 ^ N) in
      let l = places.interleaved_below N (p / 2 ^ N) (p % 2 ^ N) in
      sym (table_at (all_of N) (ups N L (at C)) i (pos 0) l
      ∙ agree_restored N L g (at C) (of_coefficients N C) (λ k m. ap (λ (x : ℕ). at C x) (sym (places.interleaved_again N k m))) i l
      ∙ rw (places.row_interleaved N (p / 2 ^ N) (p % 2 ^ N) (places.raster_row N p b), places.col_interleaved N (p / 2 ^ N) (p % 2 ^ N) (places.raster_col N p))))
