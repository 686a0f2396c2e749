use mathlib.Core.Path.{◌≡◌}
use Prim.Native.Nat.{◌<◌}
use lib.ListN.{length}
use Rattle.nls.specs.Scan.{settle, moves_left}
use Rattle.moves.specs.Stands.{state_of}
use Rattle.moves.proofs.rest.Given as goal

abbrev pub invariant-loop-next : goal.invariant-loop-next
invariant-loop-next l = record {
  same : settle (length l.marks) (state_of l.stand l.marks) ≡ settle (length l.initial.marks) (state_of l.initial.stand l.initial.marks);
  known : l.stand.pass < 3;
}

abbrev pub decreases-loop-next : goal.decreases-loop-next
decreases-loop-next l = moves_left (length l.marks) (state_of l.stand l.marks)
