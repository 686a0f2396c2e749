use native.Mathlib.Omega.{arith}
use Rattle.show.specs.Text.{line_text, words_after, too_large_line}
use Rattle.show.proofs.put_large.Goals as goal

-- TODO
-- slice-aggregate-put-letters : tie.Need-slice-aggregate-put-letters
-- slice-aggregate-put-letters c = search rules

pub put_letters-requires : goal.put_letters-requires
put_letters-requires c = (omega arith, omega arith)

pub returns : goal.returns
unfolding line_text words_after too_large_line
returns c = (c.put_letters.ensures, omega (arith, c.put_letters.ensures.ends))
