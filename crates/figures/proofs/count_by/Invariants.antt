use Prim.Native.Nat.{ℕ, ◌≤◌}
use mathlib.Core.Path.{◌≡◌}
use lib.Dec.{leb}
use Rattle.nls.specs.Parts.{count_to}
use Rattle.figures.specs.Tables.{AllSized}
use Rattle.figures.proofs.count_by.Given as goal

abbrev pub invariant-loop-x : goal.invariant-loop-x
invariant-loop-x g l =
    record {
      few : l.count ≤ l.x-index;
      all : (d : _) (x : ℕ → ℕ) → AllSized (goal.F-post g l.size) l.entries d x → l.count ≡ count_to l.x-index (λ i. leb l.level (x i));
    }
