use mathlib.Core.Path.{ap}
use mathlib.Core.List.{List, ◌∷◌}
use Prim.Native.Nat.{ℕ}
use native.Mathlib.Omega.{arith}
use lib.IntN.{pos, ℤ}
use lib.ListN.{get_or}
use Rattle.coef.proofs.Held.{read_back}
use Rattle.decimal.specs.Decimal.{signed_decimal}
use Rattle.show.specs.Text.{space}
use Rattle.show.proofs.Puts.{puts_as, leaves_put}
use Rattle.show.proofs.Lines.{leaves_number, no_numbers}
use Rattle.show.proofs.put_row_behind.Goals as goal

pub loop-x-preserved : goal.loop-x-preserved
loop-x-preserved c = let row = c.args.row.now in
    let i = c.loop-x.x-index in
    let own = read_back (get_or row i (pos 0)) (omega arith) in (
      omega arith,
      leaves_number row i c.loop-x-test.true c.loop-x.invariant.1 (puts_as (ap {B = List ℕ} (λ (z : ℤ). space ∷ signed_decimal z) own) c.put_next-end.ensures.0),
    )

pub returns : goal.returns
returns c = (
  leaves_put (rw (no_numbers c.args.row.now c.loop-x.x-index c.loop-x-test.false) at c.loop-x.invariant.1) c.put_byte.ensures,
  omega (arith, c.put_byte.ensures.ends),
)
