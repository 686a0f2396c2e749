use mathlib.Core.Path.{ap, ◌∙◌}
use lib.ListN.{length}
use Rattle.refusals.specs.Checks.{first_failing}
use Rattle.tree.specs.Summaries.{desc_table, grand_table, summary_checks}
use Rattle.ctxp.specs.Answers.{of_outcome}
use Rattle.ctxp.proofs.Laws.{answers_by, lent_by}
use Rattle.ctxp.proofs.txp_summaries.Goals as goal

pub returns : goal.returns
returns c = let e = c.summaries-done in
    let a = c.args in
    let s = first_failing (summary_checks a.n a.l a.coefs.now (length a.desc.now) (length a.grand.now)) in record { answer = answers_by c.put.result _ (c.of_outcome.ensures ∙ ap of_outcome e.ensures.answer) c.put.ensures; descs = lent_by e.result s (desc_table a.n a.l a.coefs.now) a.desc.now e.ensures.answer e.ensures.descs; grands = lent_by e.result s (grand_table a.n a.l a.coefs.now) a.grand.now e.ensures.answer e.ensures.grands }
