use native.Mathlib.Omega.{arith}
use lib.ListN.{get_or}
use Rattle.marking.proofs.Laws.{set_skip_in}
use Rattle.encoder.proofs.WriteLaws.{set_one, set_desc, set_grand, set_skip}
use Rattle.encoder.proofs.writing.sets.Goals as goal

pub returns-then-mark-eq-MCP : goal.returns-then-mark-eq-MCP
returns-then-mark-eq-MCP c = set_one _ _ _ _ _ _ _ _ _ _ _ _ _ c.if-mark-eq-MCP.true c.coefficient.ensures

pub returns-then-mark-eq-MD : goal.returns-then-mark-eq-MD
returns-then-mark-eq-MD c = set_desc _ _ _ _ _ _ _ _ _ _ _ _ _ c.if-mark-eq-MCP.false c.if-mark-eq-MD.true c.test_desc.ensures

pub returns-then-mark-eq-MG : goal.returns-then-mark-eq-MG
returns-then-mark-eq-MG c = set_grand _ _ _ _ _ _ _ c.args.marks.now c.args.out.now _ _ _ _ c.if-mark-eq-MCP.false c.if-mark-eq-MD.false c.if-mark-eq-MG.true c.test_grand.ensures

pub overflow_add-next : goal.overflow_add-next
overflow_add-next c = omega (arith, set_skip_in (get_or c.args.marks.now c.args.place 0), c.set_skip.ensures)

pub returns : goal.returns
returns c = set_skip _ _ _ _ _ _ _ _ _ _ _ c.if-mark-eq-MCP.false c.if-mark-eq-MD.false c.if-mark-eq-MG.false c.set_skip.ensures (omega arith)
