use mir.Facts.{to_z-of_z}
use Rattle.coef.specs.Coef.{magnitude, negative}
use native.Mathlib.Omega.{arith}
use mathlib.Core.Path.{◌≡◌, sym, ◌∙◌, ap}
use mathlib.Core.Bool.{true, false}
use Prim.Native.Nat.{◌+◌}
use Rattle.decimal.proofs.Laws.{decimal_most, signed_below, signed_above, sign_put}
use Rattle.decimal.proofs.put_signed.Goals as goal

pub overflow_add-result : goal.overflow_add-result
overflow_add-result c = omega (arith, decimal_most c.magnitude.result c.magnitude.type_inv, c.put_behind.ensures.0)

pub returns-then-is_negative : goal.returns-then-is_negative
returns-then-is_negative c = let a = c.args in
    let own = to_z-of_z c.ranges.x in
    let below : negative a.x ≡ true = ap negative (sym own) ∙ sym c.is_negative.ensures ∙ c.if-is_negative.true in
    let size : c.magnitude.result ≡ magnitude a.x = c.magnitude.ensures ∙ ap magnitude own in (
      rw (signed_below a.x below, ← size) (omega (arith, c.put_behind.ensures.0)),
      sign_put a.out.now c.put_at.new.out c.put_behind.new.out a.at _ _ a.x c.put_at.ensures (rw size at c.put_behind.ensures.1) (omega arith) (omega arith) below,
    )

pub returns : goal.returns
returns c = let a = c.args in
    let own = to_z-of_z c.ranges.x in
    let above : negative a.x ≡ false = ap negative (sym own) ∙ sym c.is_negative.ensures ∙ c.if-is_negative.false in
    let size : c.magnitude-2.result ≡ magnitude a.x = c.magnitude-2.ensures ∙ ap magnitude own in
    let e : a.at + 0 ≡ a.at = omega arith in
    rw (signed_above a.x above, ← size) (c.put_behind-2.ensures.0, c.put_behind-2.ensures.1 ∙ rw e)
