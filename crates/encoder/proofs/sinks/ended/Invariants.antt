use Rattle.encoder.specs.Sinks.{SameHeld}
use Rattle.encoder.proofs.sinks.ended.Given as goal

abbrev pub invariant-loop-t : goal.invariant-loop-t
invariant-loop-t l = SameHeld l.initial.out l.initial.t l.out l.t

abbrev pub decreases-loop-t : goal.decreases-loop-t
decreases-loop-t l = l.t.n
