-- The text of lines: of an append, of one line; and what is left of a text while it is put, turn by turn.
use mathlib.Core.Path.{◌≡◌, refl, sym, ap, ◌∙◌}
use mathlib.Core.List.{List, [], ◌∷◌, ◌++◌, map, append-nil, append_assoc}
use Prim.Native.Nat.{ℕ, zero, suc, ◌+◌, ◌-◌, ◌≤◌, ◌<◌}
use native.Mathlib.Numerals.{add-one}
use native.Mathlib.Omega.{arith}
use lib.IntN.{ℤ, pos}
use lib.ListN.{length, get_or, take, drop, drop_of_length-le}
use lib.Seq.{drop-cons, drop-drop, take_at, drop_at}
use Rattle.decimal.specs.Decimal.{signed_decimal}
use Rattle.figures.specs.Figures.{figures_of}
use Rattle.show.specs.Text.{Word, number, space, newline, words_after, line_text, text_of, plane_line, plane_lines, row_lines}
use Rattle.show.specs.Putting.{Puts}
use Rattle.show.proofs.Puts.{Leaves, leaves_on}

pub text_append : (a b : List (List Word)) → text_of (a ++ b) ≡ text_of a ++ text_of b
unfolding text_of
text_append [] b = refl
text_append (line ∷ a) b =
    ap (λ (s : List ℕ). line_text line ++ s) (text_append a b) ∙ sym (append_assoc (line_text line) (text_of a) (text_of b))

pub text_one : (line : List Word) → text_of (line ∷ []) ≡ line_text line
unfolding text_of
text_one line = append-nil (line_text line)

-- ---- what is left of a text, turn by turn

module _ {o₀ whole o p : List ℕ} {at₀ at end : ℕ} where
  -- of the numbers of a row, from the i-th on
  pub leaves_number : (row : List ℤ) (i : ℕ) → i < length row → Leaves o₀ at₀ whole o at (words_after (map number (drop i row)))
      → Puts o at (space ∷ signed_decimal (get_or row i (pos 0))) p end → Leaves o₀ at₀ whole p end (words_after (map number (drop (i + 1) row)))
  unfolding words_after
  leaves_number row i h l a =
      let here : Leaves o₀ at₀ whole o at (words_after (map number (get_or row i (pos 0) ∷ drop (suc i) row))) = rw (drop-cons row i (pos 0) h) at l in
      rw add-one (leaves_on {s = space ∷ signed_decimal (get_or row i (pos 0))} here a)

  -- of the rows of a picture
  pub leaves_row : (side left from : ℕ) (raster : List ℤ) → 0 < left → Leaves o₀ at₀ whole o at (text_of (row_lines side left (drop from raster)))
      → Puts o at (line_text (map number (take side (drop from raster)))) p end → Leaves o₀ at₀ whole p end (text_of (row_lines side (left - 1) (drop (from + side) raster)))
  unfolding text_of row_lines
  leaves_row side zero from raster h l a = absurd (omega arith)
  leaves_row side (suc k) from raster h l a =
      let e : suc k - 1 ≡ k = omega arith in
      rw (e, ← drop-drop side from raster) (leaves_on l a)

  -- the same, of rows of which k are put
  pub leaves_chunk : (side k : ℕ) (row rest : List ℤ) → length row ≡ side → 0 < side - k → Leaves o₀ at₀ whole o at (text_of (row_lines side (side - k) (row ++ rest)))
      → Puts o at (line_text (map number row)) p end → Leaves o₀ at₀ whole p end (text_of (row_lines side (side - k - 1) rest))
  leaves_chunk side k row rest e h l a =
      let first = take_at row rest side e in
      let behind : drop (0 + side) (row ++ rest) ≡ rest = drop_at row rest (0 + side) (omega (arith, e)) in
      let next = leaves_row side (side - k) 0 (row ++ rest) h l (rw first a) in
      rw behind at next

  -- of the lines of the finished planes
  pub leaves_plane : (N L : ℕ) (A : List ℤ) (b left : ℕ) → 0 < left → Leaves o₀ at₀ whole o at (text_of (plane_lines N L A b left))
      → Puts o at (line_text (plane_line (b - 1) (figures_of N L A (b - 1)))) p end → Leaves o₀ at₀ whole p end (text_of (plane_lines N L A (b - 1) (left - 1)))
  unfolding text_of plane_lines
  leaves_plane N L A b zero h l a = absurd (omega arith)
  leaves_plane N L A b (suc k) h l a =
      let e : suc k - 1 ≡ k = omega arith in
      rw e (leaves_on l a)

-- ---- nothing is left

pub no_numbers : (row : List ℤ) (i : ℕ) → length row ≤ i → words_after (map number (drop i row)) ≡ newline ∷ []
unfolding words_after
no_numbers row i h = rw (drop_of_length-le row h)

pub no_rows : (side left : ℕ) (A : List ℤ) → left ≤ 0 → text_of (row_lines side left A) ≡ []
unfolding text_of row_lines
no_rows side zero A h = refl
no_rows side (suc k) A h = absurd (omega arith)

pub no_planes : (N L : ℕ) (A : List ℤ) (b left : ℕ) → left ≤ 0 → text_of (plane_lines N L A b left) ≡ []
unfolding text_of plane_lines
no_planes N L A b zero h = refl
no_planes N L A b (suc k) h = absurd (omega arith)

-- a row by its first number
pub row_text : (row : List ℤ) → 1 ≤ length row → line_text (map number row) ≡ signed_decimal (get_or row 0 (pos 0)) ++ words_after (map number (drop 1 row))
unfolding line_text
row_text [] h = absurd (omega arith)
row_text (z ∷ row) h = refl
