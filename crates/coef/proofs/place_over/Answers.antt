use Rattle.std.proofs.Common.{rules, ◌≡◌, refl, ℕ, suc, ◌+◌, Bool, true, false, not, cond, length, List, ℤ, arith}
use Rattle.std.specs.List.{position_or_len}
use Rattle.std.proofs.lemmas.Iterator.{YieldsList-from_slice}
use Rattle.std.proofs.lemmas.Iterator.Search.{position_from_yields_List}
use Rattle.std.proofs.lemmas.List.Recursion.{is_position_or_len}
use Rattle.coef.specs.Coef.{within, first_over}
use Rattle.coef.proofs.Laws.{first_le, place_or_length}
use Rattle.coef.proofs.place_over.Goals as goal

-- the first place over the limit, as `position` counts
placed : (A : List ℤ) → first_over A ≡ position_or_len (λ z. not (within z)) A
unfolding first_over
placed A = is_position_or_len first_over (λ z. not (within z)) refl (λ z rest. tell (within z) (first_over rest)) A
  where
    tell : (t : Bool) (n : ℕ) → cond t (suc n) 0 ≡ cond (not t) 0 (1 + n)
    tell true n = omega arith
    tell false n = refl

pub returns : goal.returns
returns c = let a = c.args.a.now in
    let found = position_from_yields_List (λ z. not (within z)) _ _ c.position.result c.position.ensures.ran (YieldsList-from_slice a cc) (λ x b q k. search rules) in
    rw (c.unwrap_or.ensures, found, ← (placed a)) (place_or_length (first_over a) (length a) (first_le a))
