use Prim.Native.Nat.{◌+◌, ◌-◌, ◌≤◌}
use mathlib.Core.Path.{◌≡◌}
use mathlib.Core.Bool.{false}
use Rattle.walk.specs.Visits.{scan_of}
use Rattle.walk.proofs.Turns.{Carries}
use Rattle.reading.specs.Reading.{reader, st}
use Rattle.reading.proofs.ReadTurns.{Fit}
use Rattle.reading.proofs.go_on.Given as goal

abbrev pub invariant-loop-place : goal.invariant-loop-place
invariant-loop-place l = (l.left ≡ 0) × (l.stop ≡ 0) × (l.bad ≡ false) × Fit l.initial.marks l.initial.values l.marks l.values l.usable l.n × Carries (scan_of (reader l.body l.usable l.all l.coarsest l.top) l.all) l.turn l.initial.place (st l.initial.marks l.initial.values l.initial.n) l.turn l.place (st l.marks l.values l.n)

abbrev pub decreases-loop-place : goal.decreases-loop-place
decreases-loop-place l = (l.all - l.place) + (l.usable - l.n)

abbrev pub invariant-scan : goal.invariant-scan
invariant-scan l = (l.left ≡ 0) × (l.stop ≡ 0) × (l.bad ≡ false) × Fit l.initial.marks l.initial.values l.marks l.values l.usable l.n × (l.turn ≤ l.initial.turn) × Carries (scan_of (reader l.body l.usable l.all l.coarsest l.top) l.all) l.initial.turn l.initial.place (st l.initial.marks l.initial.values l.initial.n) l.turn l.place (st l.marks l.values l.n)

abbrev pub decreases-scan : goal.decreases-scan
decreases-scan l = l.turn
