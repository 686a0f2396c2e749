use native.Mathlib.Omega.{arith}
use mathlib.Core.Path.{◌≡◌, ◌∙◌, ap}
use mathlib.Core.List.{List}
use Prim.Native.Nat.{ℕ, ◌+◌}
use lib.Seq.{sets}
use Rattle.decimal.specs.Decimal.{decimal}
use Rattle.decimal.proofs.put.Goals as goal

pub returns : goal.returns
returns c = let a = c.args in
    let e : a.at + 0 ≡ a.at = omega arith in
    (c.put_behind.ensures.0, c.put_behind.ensures.1 ∙ ap {B = List ℕ} (λ (i : ℕ). sets a.out.now i (decimal a.x)) e)
