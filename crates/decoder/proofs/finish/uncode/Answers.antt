use mathlib.Core.Path.{◌≡◌, refl, ap, ◌∙◌}
use mathlib.Core.List.{List}
use native.Mathlib.Omega.{arith}
use native.Mathlib.Numerals.{add-one}
use lib.IntN.{ℤ, pos}
use lib.ListN.{length, get_or}
use mir.Facts.{to_z-of_z}
use mir.Syntax.{w32}
use mir.Val.{SFits, to_z, of_z}
use Rattle.sizes.specs.Tables.{table}
use Rattle.sizes.proofs.Tables.{fill_step}
use Rattle.coef.specs.Coef.{at, negative}
use Rattle.coef.proofs.Held.{pos_cast}
use Rattle.nls.specs.Reading.{value_by}
use Rattle.decoder.specs.Finishing.{plain_of}
use Rattle.decoder.specs.Rules.{rule_of}
use Rattle.decoder.proofs.FinishLaws.{not_yet, whole}
use Rattle.decoder.proofs.finish.uncode.Goals as goal

pub loop-i-init : goal.loop-i-init
loop-i-init c = unfold table in refl

pub overflow_cast-value : goal.overflow_cast-value
overflow_cast-value c =
    let code_is : at c.loop-i.values c.loop-i.i ≡ at c.args.values.now c.loop-i.i = let a = c.args in let l = c.loop-i in ap (λ (x : List ℤ). at x l.i) l.invariant ∙ not_yet l.i (λ k. value_by (rule_of a.rule) (get_or a.precisions.now k 0) (plain_of (at a.values.now k))) a.values.now (pos 0) in
    let l = c.loop-i in
    pos_cast (at l.values l.i) (record { sfits = omega arith }) (ap (λ (z : ℤ). negative z) (code_is) ∙ (c.requires.1 l.i c.loop-i-test.true).0)

pub value_at-requires : goal.value_at-requires
value_at-requires c =
    let code_is : at c.loop-i.values c.loop-i.i ≡ at c.args.values.now c.loop-i.i = let a = c.args in let l = c.loop-i in ap (λ (x : List ℤ). at x l.i) l.invariant ∙ not_yet l.i (λ k. value_by (rule_of a.rule) (get_or a.precisions.now k 0) (plain_of (at a.values.now k))) a.values.now (pos 0) in
    let code_so : to_z w32 (of_z w32 (at c.loop-i.values c.loop-i.i)) ≡ at c.args.values.now c.loop-i.i = let l = c.loop-i in let f : SFits w32 (at l.values l.i) = record { sfits = omega arith } in to_z-of_z f ∙ code_is in
    let l = c.loop-i in
    let u = c.requires.1 l.i c.loop-i-test.true in
    rw (code_so) (u.1, u.2)

pub loop-i-preserved : goal.loop-i-preserved
loop-i-preserved c =
    let code_is : at c.loop-i.values c.loop-i.i ≡ at c.args.values.now c.loop-i.i = let a = c.args in let l = c.loop-i in ap (λ (x : List ℤ). at x l.i) l.invariant ∙ not_yet l.i (λ k. value_by (rule_of a.rule) (get_or a.precisions.now k 0) (plain_of (at a.values.now k))) a.values.now (pos 0) in
    let code_so : to_z w32 (of_z w32 (at c.loop-i.values c.loop-i.i)) ≡ at c.args.values.now c.loop-i.i = let l = c.loop-i in let f : SFits w32 (at l.values l.i) = record { sfits = omega arith } in to_z-of_z f ∙ code_is in
    let a = c.args in
    let l = c.loop-i in
    let f : SFits w32 c.value_at.result = record { sfits = c.value_at.type_inv } in
    let v : to_z w32 (of_z w32 c.value_at.result) ≡ value_by (rule_of a.rule) (get_or a.precisions.now l.i 0) (plain_of (at a.values.now l.i)) =
    to_z-of_z f ∙ c.value_at.ensures ∙ rw (code_so) in
    rw (l.invariant, add-one l.i) (fill_step l.i (λ k. value_by (rule_of a.rule) (get_or a.precisions.now k 0) (plain_of (at a.values.now k))) a.values.now (to_z w32 (of_z w32 c.value_at.result)) (omega arith) v)

pub returns : goal.returns
returns c = let a = c.args in
    let l = c.loop-i in
    let e : l.i ≡ length a.values.now = omega arith in
    l.invariant ∙ rw e (whole (length a.values.now) _ a.values.now refl)
