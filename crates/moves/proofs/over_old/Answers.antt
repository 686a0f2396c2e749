use mathlib.Core.Path.{refl, sym, ◌∙◌}
use native.Mathlib.Omega.{arith}
use lib.ListN.{length}
use Rattle.marking.proofs.Laws.{four_told}
use Rattle.nls.specs.Marks.{MSP}
use Rattle.moves.proofs.Looks.{passed_on, old_one, old_four}
use Rattle.moves.proofs.over_old.Goals as goal

pub loop-at-preserved : goal.loop-at-preserved
loop-at-preserved c =
    let e = sym c.same_four.ensures ∙ c.loop-at-test.true in
    ((four_told c.args.marks.now c.loop-at.at MSP e).0, passed_on c.loop-at.invariant.1 (old_four (length c.args.marks.now) c.loop-at.at c.args.marks.now refl e))

pub loop-i-preserved : goal.loop-i-preserved
loop-i-preserved c = passed_on c.loop-i.invariant (old_one (length c.args.marks.now) c.loop-i.i c.args.marks.now (omega arith) c.if-marks-i-ne-MSP.false)
