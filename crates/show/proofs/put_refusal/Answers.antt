use mathlib.Core.Path.{ap}
use Prim.Native.Nat.{ℕ}
use native.Mathlib.Omega.{arith}
use Rattle.show.proofs.Puts.{puts_then, puts_as}
use mathlib.Core.List.{List, ◌∷◌}
use Rattle.decimal.specs.Decimal.{decimal}
use Rattle.show.specs.Text.{space, line_text, words_after, refused_line}
use Rattle.show.proofs.put_refusal.Goals as goal

-- TODO
-- slice-aggregate-put-letters : tie.Need-slice-aggregate-put-letters
-- slice-aggregate-put-letters c = search rules

pub put_letters-word-requires : goal.put_letters-word-requires
put_letters-word-requires c = (omega arith, omega arith)

pub put_number-number-requires : goal.put_number-number-requires
put_number-number-requires c = omega (arith, c.put_letters-word.ensures.ends)

pub put_number-place-requires : goal.put_number-place-requires
put_number-place-requires c = omega (arith, c.put_letters-word.ensures.ends)

pub put_byte-requires : goal.put_byte-requires
put_byte-requires c = omega (arith, c.put_letters-word.ensures.ends)

pub returns : goal.returns
unfolding line_text words_after refused_line
returns c = (
  puts_then c.put_letters-word.ensures
      (puts_then (puts_as (ap {B = List ℕ} (λ (x : ℕ). space ∷ decimal x) c.number.ensures) c.put_number-number.ensures.0)
      (puts_then (puts_as (ap {B = List ℕ} (λ (x : ℕ). space ∷ decimal x) c.place.ensures) c.put_number-place.ensures.0) c.put_byte.ensures)),
  omega (arith, c.put_letters-word.ensures.ends, c.put_byte.ensures.ends),
)
