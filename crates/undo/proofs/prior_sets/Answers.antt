use Rattle.undo.proofs.Steps.{sets_inside, sets_desc, sets_grand, sets_start}
use Rattle.undo.proofs.prior_sets.Goals as goal

pub returns-then-place-ne0 : goal.returns-then-place-ne0
returns-then-place-ne0 c = λ planes big. sets_inside _ _ planes big _ _ _ _ _ c.if-place-ne0.true (rw c.at.ensures at c.unasked.ensures.value) (rw c.at.ensures at c.unasked.ensures.marks_after)

pub returns-then-marks-place-eq-MCP : goal.returns-then-marks-place-eq-MCP
returns-then-marks-place-eq-MCP c = λ planes big. rw c.at-then-marks-place-eq-MCP.ensures (sets_desc _ _ planes big _ _ _ c.if-place-ne0.false _ c.if-marks-place-eq-MCP.true c.join_desc.ensures)

pub returns-then-four_descs : goal.returns-then-four_descs
returns-then-four_descs c = λ planes big. rw c.at-then-four_descs.ensures (sets_grand _ _ planes big _ _ _ c.if-place-ne0.false c.if-marks-place-eq-MCP.false _ _ c.four_descs.ensures c.if-four_descs.true c.join_grand.ensures)

pub returns-then-place-eq0 : goal.returns-then-place-eq0
returns-then-place-eq0 c = λ planes big. rw c.at-then-place-eq0.ensures (sets_start _ _ planes big _ _ _ c.if-place-ne0.false c.if-marks-place-eq-MCP.false _ c.four_descs.ensures c.if-four_descs.false c.if-place-eq0.true)
