use Prim.Native.Nat.{◌+◌, ◌-◌, ◌≤◌}
use Rattle.walk.specs.Visits.{scan_of}
use Rattle.walk.proofs.Turns.{Carries}
use Rattle.encoder.specs.Writing.{writer, st}
use Rattle.encoder.proofs.WriteTurns.{Fit}
use Rattle.encoder.proofs.writing.go_on.Given as goal

abbrev pub invariant-loop-place : goal.invariant-loop-place
invariant-loop-place l =
    Fit l.initial.marks l.initial.out l.marks l.out l.budget l.n × Carries (scan_of (writer l.src.coefs.now l.src.desc.now l.src.grand.now l.budget) l.all) l.turn l.initial.place (st l.initial.marks l.initial.out l.initial.n) l.turn l.place (st l.marks l.out l.n)

abbrev pub decreases-loop-place : goal.decreases-loop-place
decreases-loop-place l =
    (l.all - l.place) + (l.budget - l.n)

abbrev pub invariant-scan : goal.invariant-scan
invariant-scan l =
    Fit l.initial.marks l.initial.out l.marks l.out l.budget l.n × Carries (scan_of (writer l.src.coefs.now l.src.desc.now l.src.grand.now l.budget) l.all) l.initial.turn l.initial.place (st l.initial.marks l.initial.out l.initial.n) l.turn l.place (st l.marks l.out l.n) × (l.turn ≤ l.initial.turn)

abbrev pub decreases-scan : goal.decreases-scan
decreases-scan l =
    l.turn
