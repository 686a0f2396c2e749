use Rattle.std.proofs.Common.{rules, ◌≡◌, refl, ℕ, suc, ◌+◌, Bool, true, false, not, cond, length, List, ℤ, arith}
use Rattle.std.specs.List.{position_or_len}
use Rattle.std.proofs.lemmas.Iterator.{YieldsList-from_slice}
use Rattle.std.proofs.lemmas.Iterator.Search.{position_from_yields_List}
use Rattle.std.proofs.lemmas.List.Recursion.{is_position_or_len}
use Rattle.coef.proofs.Laws.{place_or_length}
use Rattle.transform.specs.Answers.{is_sample, first_outside}
use Rattle.transform.proofs.Outside.{outside_le}
use Rattle.transform.proofs.first_outside.Goals as goal

-- the first place outside, as `position` counts
placed : (A : List ℤ) → first_outside A ≡ position_or_len (λ z. not (is_sample z)) A
unfolding first_outside
placed A = is_position_or_len first_outside (λ z. not (is_sample z)) refl (λ z rest. tell (is_sample z) (first_outside rest)) A
  where
    tell : (t : Bool) (n : ℕ) → cond t (suc n) 0 ≡ cond (not t) 0 (1 + n)
    tell true n = omega arith
    tell false n = refl

pub returns : goal.returns
returns c = let a = c.args.a.now in
    let found = position_from_yields_List (λ z. not (is_sample z)) _ _ c.position.result c.position.ensures.ran (YieldsList-from_slice a cc) (λ x b q k. search rules) in
    rw (c.unwrap_or.ensures, found, ← (placed a)) (place_or_length (first_outside a) (length a) (outside_le a))
