use mathlib.Core.Path.{◌≡◌}
use Prim.Native.Nat.{◌*◌}
use Rattle.coef.specs.Coef.{at}
use Rattle.transform.specs.Quads.{onward, unbands}
use Rattle.transform.proofs.blocks.level_up.Given as goal

abbrev pub invariant-loop-k : goal.invariant-loop-k
invariant-loop-k l = at l.work ≡ onward (4 * l.k) (at l.initial.work) (onward (4 * l.quarter) (unbands l.quarter (onward l.quarter (at l.initial.work) (at l.from))) (at l.initial.work))
