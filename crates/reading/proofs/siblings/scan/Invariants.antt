use Prim.Native.Nat.{◌*◌, ◌≤◌}
use Rattle.walk.specs.Scans.{planes, left_of, Resumes, left_at, pass_at}
use Rattle.walk.specs.Visits.{scan_of}
use Rattle.reading.specs.Reading.{reader, st}
use Rattle.reading.proofs.ReadTurns.{Fit}
use Rattle.reading.proofs.siblings.scan.Given as goal

abbrev pub invariant-loop-turn : goal.invariant-loop-turn
invariant-loop-turn l = Fit l.initial.marks l.initial.values l.marks l.values l.frame.usable l.n × (l.turn ≤ 3 * l.frame.top) × Resumes (scan_of (reader l.body l.frame.usable l.frame.all l.frame.coarsest l.frame.top) l.frame.all) (left_at l.turn) (pass_at l.turn) 0 (st l.marks l.values l.n) (planes (scan_of (reader l.body l.frame.usable l.frame.all l.frame.coarsest l.frame.top) l.frame.all) l.frame.top (st l.initial.marks l.initial.values 0)) (left_of (scan_of (reader l.body l.frame.usable l.frame.all l.frame.coarsest l.frame.top) l.frame.all) l.frame.top (st l.initial.marks l.initial.values 0))

abbrev pub decreases-loop-turn : goal.decreases-loop-turn
decreases-loop-turn l = l.turn
