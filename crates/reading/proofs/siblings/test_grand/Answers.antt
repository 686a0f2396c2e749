use mathlib.Core.Path.{sym, ◌∙◌}
use Rattle.reading.proofs.SiblingSteps.{stays, grand_none, grand_so}
use Rattle.reading.proofs.siblings.test_grand.Goals as goal

pub returns-then-grand_clash : goal.returns-then-grand_clash
returns-then-grand_clash c = rw c.rests.ensures (stays _ _ _ _ _ _ _ _ _ _ _ c.requires.0 _)

pub returns-then-window-lt32768 : goal.returns-then-window-lt32768
returns-then-window-lt32768 c = rw c.goes.ensures (grand_none _ _ _ _ _ _ _ _ _ _ _ c.requires.0 _ c.window.ensures c.requires.2 c.requires.3 c.if-window-lt32768.true (sym c.grand_clash.ensures ∙ c.if-grand_clash.false))

pub returns : goal.returns
returns c = rw c.goes-2.ensures (grand_so _ _ _ _ _ _ _ _ _ _ _ c.requires.0 c.requires.3 _ c.window.ensures c.requires.2 c.if-window-lt32768.false _ c.split_grand.ensures)
