use mathlib.Core.Path.{ap}
use Prim.Native.Nat.{ℕ, ◌+◌}
use native.Mathlib.Omega.{arith}
use Rattle.show.proofs.Puts.{puts_behind}
use Rattle.decimal.specs.Decimal.{decimal}
use Rattle.decimal.proofs.Laws.{decimal_most}
use Rattle.show.specs.Putting.{Puts}
use Rattle.show.proofs.put_number.Goals as goal

pub overflow_add-result-2 : goal.overflow_add-result-2
overflow_add-result-2 c = omega (arith, decimal_most c.args.x c.ranges.x.fits, c.put-length.ensures.0)

pub returns : goal.returns
returns c = let a = c.args in
    let p : Puts c.store.new.out (a.at + 1) (decimal a.x) c.put-length.new.out (a.at + 1 + c.put-length.result) =
    record { stored = c.put-length.ensures.1; ends = ap (λ (k : ℕ). a.at + 1 + k) c.put-length.ensures.0 } in
    (puts_behind c.store.ensures p, omega (arith, decimal_most a.x c.ranges.x.fits, c.put-length.ensures.0))
