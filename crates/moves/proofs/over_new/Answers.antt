use mathlib.Core.Path.{sym, ◌∙◌}
use native.Mathlib.Omega.{arith}
use lib.ListN.{length}
use Rattle.marking.proofs.Laws.{four_told}
use Rattle.nls.specs.Marks.{MNP}
use Rattle.moves.proofs.Looks.{passed_on, new_one, new_four}
use Rattle.moves.proofs.over_new.Goals as goal

pub loop-marks-preserved : goal.loop-marks-preserved
loop-marks-preserved c =
    let l = c.loop-marks in
    let e = sym c.same_four.ensures ∙ c.loop-marks-test.true in
    (omega (arith, c.set_four.auto.marks, (four_told l.marks l.at MNP e).0), passed_on l.invariant.1 (new_four (length c.args.marks.now) l.at l.marks l.invariant.1.long _ c.set_four.ensures e))

pub loop-i-preserved : goal.loop-i-preserved
loop-i-preserved c =
    let l = c.loop-i in
    passed_on l.invariant (new_one l.i l.marks c.is_new.result _ (c.is_new.ensures.value, c.is_new.ensures.marks_after) (length c.args.marks.now) c.if-not-is_new.false (omega (arith, l.invariant.long)))
