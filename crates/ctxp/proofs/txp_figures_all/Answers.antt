use mathlib.Core.Path.{ap, ◌∙◌}
use lib.ListN.{length}
use Rattle.refusals.specs.Checks.{first_failing}
use Rattle.tree.specs.Summaries.{desc_table, grand_table}
use Rattle.figures.specs.Figures.{all_figures, all_figures_checks}
use Rattle.ctxp.specs.Answers.{of_outcome}
use Rattle.ctxp.proofs.Laws.{answers_by, lent_by}
use Rattle.ctxp.proofs.txp_figures_all.Goals as goal

pub returns : goal.returns
returns c = let e = c.figures_of_all-done in
    let a = c.args in
    let s = first_failing (all_figures_checks a.n a.l a.values.now (length a.desc.now) (length a.grand.now) (length a.out.now)) in record { answer = answers_by c.put.result _ (c.of_outcome.ensures ∙ ap of_outcome e.ensures.answer) c.put.ensures; descs = lent_by e.result s (desc_table a.n a.l a.values.now) a.desc.now e.ensures.answer e.ensures.descs; grands = lent_by e.result s (grand_table a.n a.l a.values.now) a.grand.now e.ensures.answer e.ensures.grands; outs = lent_by e.result s (all_figures a.n a.l a.values.now) a.out.now e.ensures.answer e.ensures.outs }
