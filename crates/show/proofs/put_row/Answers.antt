use mathlib.Core.Path.{sym, ap}
use Prim.Native.Nat.{ℕ}
use native.Mathlib.Omega.{arith}
use mathlib.Core.List.{List, map}
use lib.IntN.{ℤ, pos}
use lib.ListN.{length, get_or, length-drop}
use Rattle.coef.proofs.Held.{read_back}
use Rattle.decimal.specs.Decimal.{signed_decimal}
use Rattle.show.specs.Text.{number, words_after}
use Rattle.show.proofs.Puts.{puts_then, puts_as}
use Rattle.show.proofs.Lines.{row_text}
use Rattle.show.proofs.Laws.{rest_part}
use Rattle.show.proofs.put_row.Goals as goal

-- TODO
-- part-put-row-behind-start : tie.Need-slice-bounds-put-row-behind-start
-- part-put-row-behind-start c = search rules

-- TODO
-- part-put-row-behind-end : tie.Need-slice-bounds-put-row-behind-end
-- part-put-row-behind-end c = search rules

pub put_row_behind-requires : goal.put_row_behind-requires
put_row_behind-requires c = let row = c.args.row.now in
    (omega arith, omega (arith, ap {B = ℕ} length (rest_part row), length-drop 1 row))

pub returns : goal.returns
returns c = let row = c.args.row.now in
    let own = read_back (get_or row 0 (pos 0)) c.x-1.given in (
      puts_as (sym (row_text row c.requires.1))
          (puts_then (puts_as (ap signed_decimal own) c.put_signed-first.ensures.0) (puts_as (ap {B = List ℕ} (λ (s : List ℤ). words_after (map number s)) (rest_part row)) c.put_row_behind.ensures.0)),
      omega arith,
    )
