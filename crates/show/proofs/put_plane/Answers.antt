use native.Mathlib.Omega.{arith}
use Rattle.show.proofs.Puts.{puts_then}
use Rattle.show.specs.Text.{line_text, words_after, plane_line}
use Rattle.show.proofs.put_plane.Goals as goal

-- TODO
-- slice-aggregate-put-letters : tie.Need-slice-aggregate-put-letters
-- slice-aggregate-put-letters c = search rules

pub put_letters-word-requires : goal.put_letters-word-requires
put_letters-word-requires c = (omega arith, omega arith)

pub put_columns-requires : goal.put_columns-requires
put_columns-requires c = omega (arith, c.put_letters-word.ensures.ends)

pub returns : goal.returns
unfolding line_text words_after plane_line
returns c = (puts_then c.put_letters-word.ensures c.put_columns.ensures.0, omega (arith, c.put_letters-word.ensures.ends))
