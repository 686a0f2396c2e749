use mathlib.Core.Path.{◌∙◌}
use mathlib.Core.Bool.{true, false}
use Prim.Native.Nat.{◌%◌, ◌≤◌}
use native.Mathlib.Omega.{arith}
use borrow.Author.Tests.{eq-eqb, ne_eqb}
use Rattle.sizes.specs.Sizes.{limit}
use Rattle.coef.proofs.Held.{sign_fits, sign_plus, sign_minus}
use Rattle.decoder.specs.Rules.{rule_of}
use Rattle.decoder.proofs.RuleLaws.{rule_between}
use Rattle.decoder.proofs.FinishLaws.{size_in, shown_in, undone}
use Rattle.decoder.proofs.finish.value_at.Goals as goal

pub size_by-size-requires : goal.size_by-size-requires
size_by-size-requires c = (size_in (rule_of c.args.rule) c.args.code c.args.k c.requires.1 (rule_between c.args.rule), c.requires.0)

pub overflow_cast-value : goal.overflow_cast-value
overflow_cast-value c =
    let within : c.size_by-size.result ≤ limit = let a = c.args in omega (arith, c.size_by-size.ensures, shown_in (rule_of a.rule) a.code a.k c.requires.1) in
    record { sfits = omega (arith, within) }

pub overflow_sub-result : goal.overflow_sub-result
overflow_sub-result c =
    let within : c.size_by-size.result ≤ limit = let a = c.args in omega (arith, c.size_by-size.ensures, shown_in (rule_of a.rule) a.code a.k c.requires.1) in
    sign_fits c.size_by-size.result (within)

pub returns-then-code-eq1 : goal.returns-then-code-eq1
returns-then-code-eq1 c =
    let within : c.size_by-size.result ≤ limit = let a = c.args in omega (arith, c.size_by-size.ensures, shown_in (rule_of a.rule) a.code a.k c.requires.1) in
    let a = c.args in
    sign_minus c.size_by-size.result (within)
    ∙ undone (rule_of a.rule) a.code a.k true c.size_by-size.result (eq-eqb (a.code % 2) 1 c.if-code-eq1.true) c.size_by-size.ensures

pub returns : goal.returns
returns c =
    let within : c.size_by-size.result ≤ limit = let a = c.args in omega (arith, c.size_by-size.ensures, shown_in (rule_of a.rule) a.code a.k c.requires.1) in
    let a = c.args in
    sign_plus c.size_by-size.result (within)
    ∙ undone (rule_of a.rule) a.code a.k false c.size_by-size.result (ne_eqb (a.code % 2) 1 c.if-code-eq1.false) c.size_by-size.ensures
