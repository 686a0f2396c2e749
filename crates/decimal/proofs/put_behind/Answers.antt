use mathlib.Core.Path.{◌∙◌}
use Prim.Native.Nat.{◌+◌}
use native.Mathlib.Omega.{arith}
use Rattle.decimal.proofs.Laws.{length_large, decimal_least, decimal_most, last_put, only_put}
use Rattle.decimal.proofs.put_behind.Goals as goal

pub overflow_sub-k : goal.overflow_sub-k
overflow_sub-k c = omega (arith, decimal_least c.loop-left.left)

pub overflow_add-before : goal.overflow_add-before
overflow_add-before c = omega (arith, decimal_most c.args.x c.ranges.x.fits, c.count-digits.ensures)

pub loop-left-preserved : goal.loop-left-preserved
loop-left-preserved c = let a = c.args in
    let left = c.loop-left.left in
    let few = length_large left (omega arith) in (
      c.put_at.auto.out ∙ c.loop-left.invariant.0,
      omega (arith, few),
      omega arith,
      last_put c.loop-left.out c.put_at.new.out (a.at + a.before) left _ _ c.put_at.ensures (omega arith) (omega (arith, few)) c.figure_of.ensures ∙ c.loop-left.invariant.3,
    )

pub shape_of-out : goal.shape_of-out
shape_of-out c = c.put_at-2.auto.out ∙ c.loop-left.invariant.0

pub returns : goal.returns
returns c = let a = c.args in (
  c.count-digits.ensures,
  only_put c.loop-left.out c.put_at-2.new.out (a.at + a.before) c.loop-left.left _ _ c.put_at-2.ensures (omega arith) (omega arith) c.figure_of-2.ensures ∙ c.loop-left.invariant.3,
)
