use borrow.Author.Tests.{le-leb, lt-leb}
use Rattle.refusals.specs.Checks.{first_failing}
use Rattle.room.specs.Room.{room_in}
use Rattle.room.proofs.check_tables.Goals as goal

pub returns-then-values-all : goal.returns-then-values-all
unfolding first_failing room_in
returns-then-values-all c = rw (lt-leb _ _ c.if-values-all.true)

pub returns-then-precisions-all : goal.returns-then-precisions-all
unfolding first_failing room_in
returns-then-precisions-all c = rw (le-leb _ _ c.if-values-all.false, lt-leb _ _ c.if-precisions-all.true)

pub returns-then-marks-all : goal.returns-then-marks-all
unfolding first_failing room_in
returns-then-marks-all c = rw (le-leb _ _ c.if-values-all.false, le-leb _ _ c.if-precisions-all.false, lt-leb _ _ c.if-marks-all.true)

pub returns : goal.returns
unfolding first_failing room_in
returns c = rw (le-leb _ _ c.if-values-all.false, le-leb _ _ c.if-precisions-all.false, le-leb _ _ c.if-marks-all.false)
