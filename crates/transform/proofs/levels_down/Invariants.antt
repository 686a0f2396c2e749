use mathlib.Core.Path.{◌≡◌}
use Prim.Native.Nat.{◌-◌, ◌^◌}
use Rattle.coef.specs.Coef.{at}
use Rattle.transform.proofs.Runs.{Down}
use Rattle.transform.proofs.levels_down.Given as goal

abbrev pub invariant-loop : goal.invariant-loop
invariant-loop l = (l.quarter ≡ 4 ^ (l.n - l.counter)) × Down l.n l.counter (at l.initial.work) (at l.work) (at l.out)
