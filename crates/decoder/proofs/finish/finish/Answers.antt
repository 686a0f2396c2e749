use mathlib.Core.Path.{◌≡◌, sym, ap, subst, ◌∙◌}
use mathlib.Core.List.{List}
use Prim.Native.Nat.{ℕ, ◌<◌}
use native.Mathlib.Omega.{arith}
use lib.ListN.{length, get_or}
use Rattle.sizes.specs.Tables.{table}
use Rattle.sizes.proofs.Tables.{table_at, table_ext}
use Rattle.coef.specs.Coef.{at}
use Rattle.nls.specs.Reading.{value_by}
use Rattle.nls.specs.Turns.{precision_by}
use Rattle.decoder.specs.Finishing.{plain_of, Uncodes}
use Rattle.decoder.specs.Rules.{rule_of}
use Rattle.decoder.proofs.RuleLaws.{rule_between}
use Rattle.decoder.proofs.StoodLaws.{undone}
use Rattle.decoder.proofs.finish.finish.Goals as goal
use Rattle.decoder.proofs.finish.finish.Goals.{After-precise}

-- each precision, once they are made
made : (c : After-precise) (i : ℕ) → i < length c.args.marks.now
    → get_or c.precise.new.precisions i 0 ≡ precision_by (length c.args.marks.now) c.args.marks.now c.args.left c.args.stop i
made c i h = ap (λ (l : List ℕ). get_or l i 0) c.precise.ensures ∙ table_at _ _ i 0 h

pub precise-requires : goal.precise-requires
precise-requires c = (c.requires.1, c.requires.2.0)

pub uncode-requires : goal.uncode-requires
uncode-requires c = let a = c.args in (
  c.requires.0 ∙ sym (c.precise.auto.precisions ∙ c.requires.1),
  λ i h. subst (λ (k : ℕ). Uncodes (rule_of a.rule) (at a.values.now i) k) (sym (made (goal.at.uncode-requires c).After-precise i (omega (arith, h, c.requires.0)))) (undone c.requires.2.0 a.values.now c.requires.2.1 (rule_of a.rule) (rule_between a.rule) i (omega (arith, h, c.requires.0))),
)

pub returns : goal.returns
returns c = let a = c.args in record {
  values_after = c.uncode.ensures
      ∙ ap (λ (n : ℕ). table n (λ i. value_by (rule_of a.rule) (get_or c.precise.new.precisions i 0) (plain_of (at a.values.now i)))) c.requires.0
      ∙ table_ext (length a.marks.now) _ _ (λ i h. ap (λ (k : ℕ). value_by (rule_of a.rule) k (plain_of (at a.values.now i))) (made (goal.at.returns c).After-precise i h));
  precisions_after = c.precise.ensures;
}
