use mathlib.Core.Path.{ap, ◌∙◌}
use lib.ListN.{length}
use Rattle.refusals.specs.Checks.{first_failing}
use Rattle.figures.specs.Figures.{figures_of, figures_checks, outcome_of}
use Rattle.tree.specs.Summaries.{desc_table, grand_table}
use Rattle.ctxp.specs.Answers.{of_figures}
use Rattle.ctxp.proofs.Laws.{answers_by, lent_by, figures_ends}
use Rattle.ctxp.proofs.txp_figures.Goals as goal

pub returns : goal.returns
returns c = let e = c.figures_of-done in
    let a = c.args in
    let s = first_failing (figures_checks a.n a.l a.values.now (length a.desc.now) (length a.grand.now) a.plane) in
    let o = figures_ends (figures_of a.n a.l a.values.now a.plane) s e.ensures.answer in record { answer = answers_by c.put.result _ (c.of_figures.ensures ∙ ap of_figures e.ensures.answer) c.put.ensures; descs = lent_by (outcome_of e.result) s (desc_table a.n a.l a.values.now) a.desc.now o e.ensures.descs; grands = lent_by (outcome_of e.result) s (grand_table a.n a.l a.values.now) a.grand.now o e.ensures.grands }
