use native.Mathlib.Omega.{arith}
use lib.ListN.{length}
use Rattle.moves.proofs.Looks.{behind_set, sets_end, sets_over, sets_rests, sets_goes}
use Rattle.moves.proofs.look_sets.Goals as goal

pub returns-then-marks-from : goal.returns-then-marks-from
returns-then-marks-from c = rw c.at.ensures (sets_end (length c.args.marks.now) c.args.from.place c.args.marks.now c.args.from.left c.requires.1 c.if-marks-from.true)

pub returns-then-mark-lt-MCP : goal.returns-then-mark-lt-MCP
returns-then-mark-lt-MCP c = rw c.at-then-mark-lt-MCP.ensures (sets_over (length c.args.marks.now) c.args.from.place c.args.marks.now c.args.from.left _ c.over_alone.ensures c.requires.1 c.if-marks-from.false c.if-mark-lt-MCP.true)

pub returns-then-mark-eq-MCP : goal.returns-then-mark-eq-MCP
returns-then-mark-eq-MCP c = sets_rests (length c.args.marks.now) c.args.from.place c.args.marks.now c.args.from.left c.requires.1 c.if-marks-from.false c.if-mark-lt-MCP.false (omega (arith, c.then-mark-eq-MCP.either))

pub returns : goal.returns
returns c = rw c.at-2.ensures (sets_goes (length c.args.marks.now) c.args.from.place c.args.marks.now c.args.from.left _ (behind_set _ _ _ _ c.behind.ensures c.if-mark-lt-MCP.false c.if-mark-eq-MCP.false) c.requires.1 c.if-marks-from.false c.if-mark-eq-MD.false c.if-mark-eq-MG.false c.if-mark-eq-MCP.false)
