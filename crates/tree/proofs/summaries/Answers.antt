use mathlib.Core.Path.{sym, ◌∙◌}
use lib.ListN.{length}
use Rattle.tree.proofs.Checks.{fill_well, ready}
use Rattle.tree.proofs.summaries.Goals as goal

-- the checks hold, so those of `fill` do
pub returns-clause-answer : goal.returns-clause-answer
returns-clause-answer c = let a = c.args in
    let first = c.check.ensures in
    let done = c.in_ok-check.was in
    c.fill.ensures.answer ∙ fill_well a.n a.l a.coefs.now (length a.desc.now) (length a.grand.now) (ready a.n a.l a.coefs.now (length a.desc.now) (length a.grand.now) first done) ∙ sym done ∙ first
