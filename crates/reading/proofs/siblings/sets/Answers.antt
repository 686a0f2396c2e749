use native.Mathlib.Omega.{arith}
use lib.ListN.{get_or}
use Rattle.marking.proofs.Laws.{set_skip_in}
use Rattle.reading.proofs.SiblingSteps.{stays, skips_own, skips_set}
use Rattle.reading.proofs.siblings.sets.Goals as goal

pub returns-then-mark-lt-MCP : goal.returns-then-mark-lt-MCP
returns-then-mark-lt-MCP c = rw c.goes.ensures (skips_own _ _ _ _ _ _ _ _ _ _ _ c.requires.0 c.if-mark-lt-MCP.true)

pub returns-then-sweep-n : goal.returns-then-sweep-n
returns-then-sweep-n c = rw c.rests.ensures (stays _ _ _ _ _ _ _ _ _ _ _ c.requires.0 _)

pub returns-then-sweep-n-2 : goal.returns-then-sweep-n-2
returns-then-sweep-n-2 c = rw c.rests-then-sweep-n-2.ensures (stays _ _ _ _ _ _ _ _ _ _ _ c.requires.0 _)

pub returns-then-mark-eq-MCP : goal.returns-then-mark-eq-MCP
returns-then-mark-eq-MCP c = rw c.rests-then-mark-eq-MCP.ensures (stays _ _ _ _ _ _ _ _ _ _ _ c.requires.0 _)

pub overflow_add-next : goal.overflow_add-next
overflow_add-next c = omega (arith, set_skip_in (get_or c.args.marks.now c.args.place 0), c.set_skip.ensures, c.requires.0.near, c.requires.0.below)

pub returns : goal.returns
returns c = rw c.goes-2.ensures (skips_set _ _ _ _ _ _ _ _ _ _ _ c.requires.0 _ c.if-mark-eq-MCP.false c.if-mark-eq-MD.false c.if-mark-eq-MG.false c.set_skip.ensures)
