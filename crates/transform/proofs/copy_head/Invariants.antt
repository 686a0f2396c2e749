use mathlib.Core.Path.{◌≡◌}
use Rattle.coef.specs.Coef.{at}
use Rattle.transform.specs.Quads.{onward}
use Rattle.transform.proofs.copy_head.Given as goal

abbrev pub invariant-loop-i : goal.invariant-loop-i
invariant-loop-i l = at l.to ≡ onward l.i (at l.from) (at l.initial.to)
