use mathlib.Core.Path.{◌≡◌, sym, ap, ◌∙◌}
use mir.Val.{to_z, of_z}
use mir.Syntax.{w32}
use borrow.Author.Rules.{rules}
use Rattle.std.specs.Prelude.{Some, None}
use Rattle.coef.specs.Coef.{joined_of, Joined}
use Rattle.ctxp.specs.Lent.{signed_of, joined_in}
use Rattle.ctxp.specs.Answers.{of_joined}
use Rattle.ctxp.specs.Inner.{entries}
use Rattle.ctxp.proofs.Laws.{answers_by}
use Rattle.ctxp.proofs.txp_join.Goals as goal

pub returns-in-Some : goal.returns-in-Some
returns-in-Some c = let a = c.args in
    let g : joined_of (signed_of a.negative a.magnitude) ≡ Some c.in-Some.x = sym c.join_of.ensures ∙ c.in-Some.is in
    let h : to_z w32 (of_z w32 c.in-Some.x) ≡ c.in-Some.x = search rules in
    record { answer = answers_by c.put.result _ (ap entries c.nothing.ensures ∙ sym (ap of_joined g)) c.put.ensures; joined = h ∙ sym (ap (λ (j : Joined). joined_in j a.to.now) g) }

pub returns-in-None : goal.returns-in-None
returns-in-None c = let a = c.args in
    let g : joined_of (signed_of a.negative a.magnitude) ≡ None = sym c.join_of.ensures ∙ c.in-None.is in
    record { answer = answers_by c.put-in-None.result _ (c.too_large.ensures ∙ sym (ap of_joined g)) c.put-in-None.ensures; joined = sym (ap (λ (j : Joined). joined_in j a.to.now) g) }
