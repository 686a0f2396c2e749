use mathlib.Core.Path.{◌≡◌}
use Rattle.coef.specs.Coef.{at}
use Rattle.transform.specs.Quads.{onward, bands}
use Rattle.transform.proofs.Arrays.{filled}
use Rattle.transform.proofs.blocks.level_down.Given as goal

abbrev pub invariant-loop-k : goal.invariant-loop-k
invariant-loop-k l = (at l.work ≡ onward l.k (bands l.quarter (at l.initial.work)) (at l.initial.work)) × (at l.out ≡ filled l.quarter l.k l.k l.k (bands l.quarter (at l.initial.work)) (at l.initial.out))
