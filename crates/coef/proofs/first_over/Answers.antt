use borrow.Author.Tests.{eqb-true}
use Rattle.std.proofs.Common.{sym, ◌∙◌, length}
use Rattle.coef.specs.Coef.{first_over}
use Rattle.coef.proofs.first_over.Goals as goal

pub returns-then-all_within : goal.returns-then-all_within
returns-then-all_within c = let a = c.args.a.now in
    sym (eqb-true (first_over a) (length a) (sym c.all_within.ensures ∙ c.if-all_within.true))
