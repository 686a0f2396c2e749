use native.Mathlib.Omega.{arith}
use Rattle.decoder.specs.Rules.{rule_of}
use Rattle.decoder.proofs.RuleLaws.{added_most, size_none, size_some}
use Rattle.decoder.proofs.rule.size_by.Goals as goal

pub returns-then-size-eq0 : goal.returns-then-size-eq0
returns-then-size-eq0 c = size_none (rule_of c.args.rule) c.args.k c.args.size c.if-size-eq0.true

pub overflow_add-result : goal.overflow_add-result
overflow_add-result c = let a = c.args in
    omega (arith, c.requires.0, added_most a.rule a.k c.added-more.result c.requires.1 c.added-more.ensures)

pub returns : goal.returns
returns c = let a = c.args in
    size_some (rule_of a.rule) a.k a.size c.added-more.result c.if-size-eq0.false c.added-more.ensures
