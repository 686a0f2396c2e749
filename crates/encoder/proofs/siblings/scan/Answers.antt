use Rattle.encoder.proofs.SiblingTurns.{first_pass, passed, left_there, all_passed}
use Rattle.encoder.proofs.siblings.scan.Goals as goal

pub loop-turn-init : goal.loop-turn-init
loop-turn-init c = first_pass _ _ _ _ _ _ _ _ c.requires.3

pub returns-then-place-all : goal.returns-then-place-all
returns-then-place-all c = left_there _ _ _ _ _ _ _ _ _ _ _ _ c.loop-turn.invariant c.loop-turn-test.true _ _ _ _ c.pass_on-r.ensures _ _ c.ended-n.ensures

pub loop-turn-preserved : goal.loop-turn-preserved
loop-turn-preserved c = passed _ _ _ _ _ _ _ _ _ _ _ _ c.loop-turn.invariant c.loop-turn-test.true _ _ _ _ c.pass_on-r.ensures c.if-place-all.false c.pass_on-r.auto.marks c.pass_on-r.auto.out

pub returns : goal.returns
returns c = all_passed _ _ _ _ _ _ _ _ _ _ _ _ c.loop-turn.invariant _ _ c.ended-n-2.ensures
