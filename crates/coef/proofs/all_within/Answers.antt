use mathlib.Core.Bool.{and_assoc, and-true}
use lib.Dec.{eqb-zero-suc, eqb-suc-suc}
use Rattle.std.proofs.Common.{rules, ◌≡◌, ap, sym, ◌∙◌, suc, Bool, true, false, ◌&&◌, cond, eqb, length, List, [], ◌∷◌, ℤ}
use Rattle.std.specs.List.{fold}
use Rattle.std.proofs.lemmas.Iterator.{YieldsList-from_slice}
use Rattle.std.proofs.lemmas.Iterator.Consumers.{fold_from_yields_List}
use Rattle.coef.specs.Coef.{within, first_over}
use Rattle.coef.proofs.all_within.Goals as goal

-- the fold over each coefficient's test
folded : (A : List ℤ) (t : Bool) → fold (λ b z. b && within z) t A ≡ t && eqb (first_over A) (length A)
unfolding first_over
folded [] t = sym (and-true t)
folded (z ∷ A) t = folded A (t && within z) ∙ and_assoc t (within z) (eqb (first_over A) (length A)) ∙ ap (λ (b : Bool). t && b) (tell (within z))
  where
    tell : (s : Bool) → s && eqb (first_over A) (length A) ≡ eqb (cond s (suc (first_over A)) 0) (suc (length A))
    tell true = sym (eqb-suc-suc (first_over A) (length A))
    tell false = sym (eqb-zero-suc (length A))

pub returns : goal.returns
returns c =
    fold_from_yields_List _ (λ b z. b && within z) true c.fold.result c.fold.ensures.ran (YieldsList-from_slice c.args.a.now cc) (λ a x b q k. search rules)
    ∙ folded c.args.a.now true
