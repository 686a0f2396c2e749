use native.Mathlib.Omega.{arith}
use Rattle.show.proofs.Puts.{puts_then}
use Rattle.decimal.specs.Decimal.{digits_up_to, decimal}
use Rattle.show.specs.Text.{line_text, words_after, first_line}
use Rattle.show.proofs.put_first.Goals as goal

-- TODO
-- slice-aggregate-put-letters : tie.Need-slice-aggregate-put-letters
-- slice-aggregate-put-letters c = search rules

pub put_letters-word-requires : goal.put_letters-word-requires
put_letters-word-requires c = (omega arith, omega arith)

pub put_number-n-requires : goal.put_number-n-requires
put_number-n-requires c = omega (arith, c.put_letters-word.ensures.ends)

pub put_number-l-requires : goal.put_number-l-requires
put_number-l-requires c = omega (arith, c.put_letters-word.ensures.ends)

pub put_number-p-requires : goal.put_number-p-requires
put_number-p-requires c = omega (arith, c.put_letters-word.ensures.ends)

pub put_number-declared-requires : goal.put_number-declared-requires
put_number-declared-requires c = omega (arith, c.put_letters-word.ensures.ends)

pub put_number-used-requires : goal.put_number-used-requires
put_number-used-requires c = omega (arith, c.put_letters-word.ensures.ends)

pub put_ending-ending-requires : goal.put_ending-ending-requires
put_ending-ending-requires c = omega (arith, c.put_letters-word.ensures.ends)

pub put_byte-requires : goal.put_byte-requires
put_byte-requires c = omega (arith, c.put_letters-word.ensures.ends)

pub returns : goal.returns
unfolding line_text words_after first_line decimal digits_up_to
returns c = (
  puts_then c.put_letters-word.ensures (puts_then c.put_number-n.ensures.0 (puts_then c.put_number-l.ensures.0 (puts_then c.put_number-p.ensures.0
      (puts_then c.put_number-declared.ensures.0 (puts_then c.put_number-used.ensures.0 (puts_then c.put_ending-ending.ensures.0 c.put_byte.ensures)))))),
  omega (arith, c.put_letters-word.ensures.ends, c.put_byte.ensures.ends),
)
