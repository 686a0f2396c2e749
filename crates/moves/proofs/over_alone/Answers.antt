use native.Mathlib.Omega.{arith}
use lib.ListN.{length}
use Rattle.moves.proofs.Looks.{passed_on, alone_one}
use Rattle.moves.proofs.over_alone.Goals as goal

pub loop-at-preserved : goal.loop-at-preserved
loop-at-preserved c = passed_on c.loop-at.invariant (alone_one (length c.args.marks.now) c.loop-at.at c.args.marks.now (omega arith) (omega arith))
