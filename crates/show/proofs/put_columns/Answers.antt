use native.Mathlib.Omega.{arith}
use Rattle.show.proofs.Puts.{puts_then}
use Rattle.show.proofs.put_columns.Goals as goal

pub returns : goal.returns
returns c = (
  puts_then c.put_number-first.ensures.0 (puts_then c.put_number-second.ensures.0 (puts_then c.put_number-third.ensures.0 (puts_then c.put_number-fourth.ensures.0 c.put_byte.ensures))),
  omega (arith, c.put_byte.ensures.ends),
)
