use mathlib.Core.Path.{◌≡◌}
use Prim.Native.Nat.{◌≤◌, ◌/◌}
use lib.ListN.{length}
use Rattle.tree.specs.Filling.{children_table, filled_from}
use Rattle.tree.proofs.fill_last.Given as goal

abbrev pub invariant-loop-i : goal.invariant-loop-i
invariant-loop-i l = (length l.coefs / 16 ≤ l.i) × (l.desc ≡ filled_from l.i (children_table l.coefs) l.initial.desc)
