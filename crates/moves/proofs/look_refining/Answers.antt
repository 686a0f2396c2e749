use mathlib.Core.Path.{◌≡◌}
use lib.ListN.{length}
use Rattle.moves.proofs.Looks.{IsNew, refining_end, refining_rests, refining_over, refining_goes, new_same}
use Rattle.moves.proofs.look_refining.Goals as goal

pub returns-then-marks-from : goal.returns-then-marks-from
returns-then-marks-from c = rw c.at.ensures (refining_end (length c.args.marks.now) c.args.from.place c.args.marks.now c.args.from.left c.requires.1 c.if-marks-from.true)

pub returns-then-marks-from-eq-MSP : goal.returns-then-marks-from-eq-MSP
returns-then-marks-from-eq-MSP c = refining_rests (length c.args.marks.now) c.args.from.place c.args.marks.now c.args.from.left c.requires.1 c.if-marks-from.false c.if-marks-from-eq-MSP.true

pub returns-then-is_new : goal.returns-then-is_new
returns-then-is_new c = rw c.at-then-is_new.ensures (refining_over (length c.args.marks.now) c.args.from.place c.args.marks.now c.args.from.left _ _ _ _ (rw c.is_new.auto.marks at c.over_new.ensures) (c.is_new.ensures.value, c.is_new.ensures.marks_after) c.if-is_new.true c.requires.1 c.if-marks-from.false)

pub returns : goal.returns
returns c =
    let u : IsNew c.args.marks.now c.args.from.place c.is_new.result c.is_new.new.marks = (c.is_new.ensures.value, c.is_new.ensures.marks_after) in
    let same : c.is_new.new.marks ≡ c.args.marks.now = new_same c.args.from.place c.args.marks.now c.is_new.result c.is_new.new.marks u c.if-is_new.false in
    rw c.at-2.ensures (refining_goes (length c.args.marks.now) c.args.from.place c.args.marks.now c.args.from.left _ _ _ (rw same at c.behind.ensures) u c.if-is_new.false c.requires.1 c.if-marks-from.false c.if-marks-from-eq-MSP.false)
