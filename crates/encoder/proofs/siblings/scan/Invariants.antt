use Rattle.encoder.proofs.SiblingTurns.{Passing}
use Rattle.encoder.proofs.siblings.scan.Given as goal

abbrev pub invariant-loop-turn : goal.invariant-loop-turn
invariant-loop-turn l =
    Passing l.src.coefs.now l.src.desc.now l.src.grand.now l.all l.budget l.count l.initial.marks l.initial.out l.marks l.out l.s l.turn

abbrev pub decreases-loop-turn : goal.decreases-loop-turn
decreases-loop-turn l = l.turn
