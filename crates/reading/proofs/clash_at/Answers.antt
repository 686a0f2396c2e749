use Rattle.reading.proofs.ReadLaws.{at_1, at_2, at_3, at_4}
use Rattle.reading.proofs.clash_at.Goals as goal

pub returns-then-mark-eq-MCP : goal.returns-then-mark-eq-MCP
returns-then-mark-eq-MCP c = at_1 _ _ _ _ _ _ _ _ c.if-mark-eq-MCP.true c.child_clash.ensures

pub returns-then-mark-eq-MD : goal.returns-then-mark-eq-MD
returns-then-mark-eq-MD c = at_2 _ _ _ _ _ _ _ c.if-mark-eq-MCP.false _ c.if-mark-eq-MD.true c.desc_clash.ensures

pub returns-then-mark-eq-MG : goal.returns-then-mark-eq-MG
returns-then-mark-eq-MG c = at_3 _ _ _ _ _ _ _ c.if-mark-eq-MCP.false c.if-mark-eq-MD.false _ c.if-mark-eq-MG.true c.grand_clash.ensures

pub returns : goal.returns
returns c = at_4 _ _ _ _ _ _ _ c.if-mark-eq-MCP.false c.if-mark-eq-MD.false c.if-mark-eq-MG.false
