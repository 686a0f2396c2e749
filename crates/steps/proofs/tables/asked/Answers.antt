use Rattle.steps.proofs.ValueLaws.{asked_over, asked_sign, asked_past, asked_pixel, asked_pixel_none, asked_desc, asked_grand, asked_child, asked_set_none, asked_more, asked_more_none}
use lib.ListN.{length}
use native.Mathlib.Omega.{arith}
use Rattle.steps.proofs.tables.asked.Goals as goal

pub returns-then-at-eq0 : goal.returns-then-at-eq0
returns-then-at-eq0 c = asked_over (length c.args.marks.now) c.args.at.place c.args.marks.now c.args.at.left c.args.at.pass c.args.at.pending c.if-at-eq0.true

pub returns-then-at : goal.returns-then-at
returns-then-at c = asked_sign (length c.args.marks.now) c.args.at.place c.args.marks.now c.args.at.left c.args.at.pass c.args.at.pending c.if-at-eq0.false c.if-at.true

pub returns-then-marks-place : goal.returns-then-marks-place
returns-then-marks-place c = asked_past (length c.args.marks.now) c.args.at.place c.args.marks.now c.args.at.left c.args.at.pass c.args.at.pending c.if-at-eq0.false c.if-at.false c.if-marks-place.true

pub returns-in-0 : goal.returns-in-0
returns-in-0 c = asked_pixel (length c.args.marks.now) c.args.at.place c.args.marks.now c.args.at.left c.args.at.pass c.args.at.pending c.if-at-eq0.false c.if-at.false c.if-marks-place.false c.in-0.is c.if-mark-eq-MIP.true

pub returns-in-1 : goal.returns-in-1
returns-in-1 c = asked_desc (length c.args.marks.now) c.args.at.place c.args.marks.now c.args.at.left c.args.at.pass c.args.at.pending c.if-at-eq0.false c.if-at.false c.if-marks-place.false c.in-1.is c.if-mark-eq-MD.true

pub returns-in-1-2 : goal.returns-in-1-2
returns-in-1-2 c = asked_grand (length c.args.marks.now) c.args.at.place c.args.marks.now c.args.at.left c.args.at.pass c.args.at.pending c.if-at-eq0.false c.if-at.false c.if-marks-place.false c.in-1.is c.if-mark-eq-MD.false c.if-mark-eq-MG.true

pub returns-in-1-3 : goal.returns-in-1-3
returns-in-1-3 c = asked_child (length c.args.marks.now) c.args.at.place c.args.marks.now c.args.at.left c.args.at.pass c.args.at.pending c.if-at-eq0.false c.if-at.false c.if-marks-place.false c.in-1.is c.if-mark-eq-MD.false c.if-mark-eq-MG.false c.if-mark-eq-MCP.true

pub returns-in-0-2 : goal.returns-in-0-2
returns-in-0-2 c = asked_pixel_none (length c.args.marks.now) c.args.at.place c.args.marks.now c.args.at.left c.args.at.pass c.args.at.pending c.if-at-eq0.false c.if-at.false c.if-marks-place.false c.in-0.is c.if-mark-eq-MIP.false

pub returns-in-0-2-2 : goal.returns-in-0-2-2
returns-in-0-2-2 c = asked_set_none (length c.args.marks.now) c.args.at.place c.args.marks.now c.args.at.left c.args.at.pass c.args.at.pending c.if-at-eq0.false c.if-at.false c.if-marks-place.false c.in-1.is c.if-mark-eq-MD.false c.if-mark-eq-MG.false c.if-mark-eq-MCP.false

pub returns-in_default : goal.returns-in_default
returns-in_default c = asked_more (length c.args.marks.now) c.args.at.place c.args.marks.now c.args.at.left c.args.at.pass c.args.at.pending c.if-at-eq0.false c.if-at.false c.if-marks-place.false (λ e. omega (arith, e)) (λ e. omega (arith, e)) c.if-mark-eq-MSP.true

pub returns-in_default-2 : goal.returns-in_default-2
returns-in_default-2 c = asked_more_none (length c.args.marks.now) c.args.at.place c.args.marks.now c.args.at.left c.args.at.pass c.args.at.pending c.if-at-eq0.false c.if-at.false c.if-marks-place.false (λ e. omega (arith, e)) (λ e. omega (arith, e)) c.if-mark-eq-MSP.false
