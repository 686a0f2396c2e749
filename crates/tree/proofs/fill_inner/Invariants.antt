use mathlib.Core.Path.{◌≡◌}
use Prim.Native.Nat.{◌≤◌, ◌/◌}
use Rattle.sizes.specs.Sizes.{all_of, coarsest_of}
use Rattle.tree.specs.Summaries.{desc_table, grand_table}
use Rattle.tree.specs.Filling.{filled_from}
use Rattle.tree.proofs.fill_inner.Given as goal

abbrev pub invariant-loop-i : goal.invariant-loop-i
invariant-loop-i l =
    (l.low ≡ coarsest_of l.n l.l / 4) × (l.low ≤ l.i) × (l.i ≤ all_of l.n / 16)
    × (l.desc ≡ filled_from l.i (desc_table l.n l.l l.coefs) l.initial.desc) × (l.grand ≡ filled_from l.i (grand_table l.n l.l l.coefs) l.initial.grand)
