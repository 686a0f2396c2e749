use mathlib.Core.Path.{◌≡◌, ap, ◌∙◌}
use Prim.Native.Nat.{ℕ, ◌+◌}
use native.Mathlib.Omega.{arith}
use lib.IntN.{ℤ}
use lib.ListN.{length}
use lib.Seq.{sets}
use mir.Facts.{to_z-of_z}
use mathlib.Core.List.{List}
use Rattle.decimal.specs.Decimal.{signed_decimal}
use Rattle.show.proofs.Laws.{signed_short}
use Rattle.show.proofs.put_signed.Goals as goal

pub overflow_add-result : goal.overflow_add-result
overflow_add-result c = let e : c.put_signed-length.result ≡ length (signed_decimal c.args.x) =
    c.put_signed-length.ensures.0 ∙ ap {B = ℕ} (λ (z : ℤ). length (signed_decimal z)) (to_z-of_z c.ranges.x) in
    omega (arith, e, signed_short c.args.x c.ranges.x)

pub returns : goal.returns
returns c = let a = c.args in
    let own = to_z-of_z c.ranges.x in
    let e : c.put_signed-length.result ≡ length (signed_decimal a.x) = c.put_signed-length.ensures.0 ∙ ap {B = ℕ} (λ (z : ℤ). length (signed_decimal z)) own in (
      record {
        stored = c.put_signed-length.ensures.1 ∙ ap {B = List ℕ} (λ (z : ℤ). sets a.out.now a.at (signed_decimal z)) own;
        ends = ap (λ (k : ℕ). a.at + k) e;
      },
      omega (arith, e, signed_short a.x c.ranges.x),
    )
