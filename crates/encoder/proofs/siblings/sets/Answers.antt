use native.Mathlib.Omega.{arith}
use lib.ListN.{get_or}
use Rattle.marking.proofs.Laws.{set_skip_in}
use Rattle.encoder.proofs.SiblingSteps.{leave, skip_sets, skip_low_sets}
use Rattle.encoder.proofs.siblings.sets.Goals as goal

pub returns-then-mark-lt-MCP : goal.returns-then-mark-lt-MCP
returns-then-mark-lt-MCP c = rw c.goes.ensures (skip_low_sets _ _ _ _ _ _ _ _ _ _ _ c.requires.0 c.if-mark-lt-MCP.true)

pub returns-then-limits-s : goal.returns-then-limits-s
returns-then-limits-s c = rw c.rests.ensures (leave _ _ _ _ _ _ _ _ _ _ _ c.requires.0 1)

pub returns-then-limits-s-2 : goal.returns-then-limits-s-2
returns-then-limits-s-2 c = rw c.rests-then-limits-s-2.ensures (leave _ _ _ _ _ _ _ _ _ _ _ c.requires.0 1)

pub returns-then-mark-eq-MCP : goal.returns-then-mark-eq-MCP
returns-then-mark-eq-MCP c = rw c.rests-then-mark-eq-MCP.ensures (leave _ _ _ _ _ _ _ _ _ _ _ c.requires.0 1)

pub overflow_add-place-2 : goal.overflow_add-place-2
overflow_add-place-2 c = omega (arith, set_skip_in (get_or c.args.marks.now c.args.place 0), c.set_skip.ensures)

pub returns : goal.returns
returns c = rw c.goes-2.ensures (skip_sets _ _ _ _ _ _ _ _ _ _ _ c.requires.0 _ c.if-mark-eq-MCP.false c.if-mark-eq-MD.false c.if-mark-eq-MG.false c.set_skip.ensures)
