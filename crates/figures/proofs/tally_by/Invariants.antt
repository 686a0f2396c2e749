use Prim.Native.Nat.{ℕ, ◌≤◌}
use mathlib.Core.Path.{◌≡◌}
use lib.ListN.{get_or}
use Rattle.figures.specs.Tables.{tally_of, AllSized}
use Rattle.figures.proofs.tally_by.Given as goal

abbrev pub invariant-loop-x : goal.invariant-loop-x
invariant-loop-x g l =
    record {
      few : (z : ℕ) → get_or l.counts z 0 ≤ l.x-index;
      all : (d : _) (x : ℕ → ℕ) → AllSized (goal.F-post g l.size) l.entries d x → l.counts ≡ tally_of l.x-index x;
    }
