use lib.ListN.{length}
use Rattle.moves.proofs.Looks.{pixels_end, pixels_rests, pixels_over, pixels_goes}
use Rattle.moves.proofs.look_pixels.Goals as goal

pub returns-then-marks-from : goal.returns-then-marks-from
returns-then-marks-from c = rw c.at.ensures (pixels_end (length c.args.marks.now) c.args.from.place c.args.marks.now c.args.from.left c.requires.1 c.if-marks-from.true)

pub returns-then-mark-eq-MIP : goal.returns-then-mark-eq-MIP
returns-then-mark-eq-MIP c = pixels_rests (length c.args.marks.now) c.args.from.place c.args.marks.now c.args.from.left c.requires.1 c.if-marks-from.false c.if-mark-eq-MIP.true

pub returns-then-mark-eq-MSP : goal.returns-then-mark-eq-MSP
returns-then-mark-eq-MSP c = rw c.at-then-mark-eq-MSP.ensures (pixels_over (length c.args.marks.now) c.args.from.place c.args.marks.now c.args.from.left _ c.over_old.ensures c.requires.1 c.if-marks-from.false c.if-mark-eq-MSP.true)

pub returns : goal.returns
returns c = rw c.at-2.ensures (pixels_goes (length c.args.marks.now) c.args.from.place c.args.marks.now c.args.from.left _ c.behind.ensures c.requires.1 c.if-marks-from.false c.if-mark-eq-MIP.false)
