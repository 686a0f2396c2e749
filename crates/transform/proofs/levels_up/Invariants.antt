use mathlib.Core.Path.{◌≡◌}
use Prim.Native.Nat.{ℕ, ◌+◌, ◌*◌, ◌-◌, ◌^◌, ◌≤◌, ◌<◌}
use lib.IntN.{nat_abs}
use Rattle.coef.specs.Coef.{at}
use Rattle.transform.specs.Quads.{onward, ups}
use Rattle.transform.proofs.levels_up.Given as goal

abbrev pub invariant-loop : goal.invariant-loop
invariant-loop l = (l.quarter ≡ 4 ^ (l.n - (l.l - l.counter))) × (ups l.n (l.l - l.counter) (onward l.quarter (at l.work) (at l.from)) ≡ ups l.n l.l (at l.from)) × ((i : ℕ) → i < l.quarter → nat_abs (at l.work i) ≤ 16777215 + l.counter * 20971520)
