use mathlib.Core.Path.{sym, ◌∙◌}
use Rattle.coef.proofs.Held.{lt_zero, neg_sfits, neg_is, neg_cast, pos_cast}
use Rattle.coef.proofs.negated_if_below.Goals as goal

pub overflow_sub-result : goal.overflow_sub-result
overflow_sub-result c = neg_sfits c.args.x c.ranges.x c.requires

pub overflow_cast-result : goal.overflow_cast-result
overflow_cast-result c = neg_cast c.args.x c.ranges.x c.requires (sym (lt_zero c.args.x c.ranges.x) ∙ c.if-x-lt0.true)

pub returns-then-x-lt0 : goal.returns-then-x-lt0
returns-then-x-lt0 c = neg_is c.args.x c.ranges.x c.requires

pub overflow_cast-result-2 : goal.overflow_cast-result-2
overflow_cast-result-2 c = pos_cast c.args.x c.ranges.x (sym (lt_zero c.args.x c.ranges.x) ∙ c.if-x-lt0.false)
