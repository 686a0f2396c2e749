-- How a list of checks answers, and what a lent table holds for each answer.
use mathlib.Core.Path.{◌≡◌, refl, sym, ap, ◌∙◌}
use mathlib.Core.Bool.{Bool, true, false, cond}
use mathlib.Core.List.{List, [], ◌∷◌, ◌++◌, map}
use Prim.Native.Nat.{ℕ}
use native.Mathlib.Omega.{arith}
use lib.Dec.{eqb}
use lib.ListN.{length, drop}
use Rattle.std.specs.Prelude.{Result, Ok, Err, IsErrAnd}
use Rattle.std.proofs.lemmas.Result.{err_from_is_err_and}
use Rattle.refusals.specs.Refusals.{number_of}
use Rattle.refusals.specs.Checks.{Check, need, first_failing, lent_after, Outcome}
use Rattle.refusals.specs.declared.Refusal.{Refusal}

-- the numbers for no of some checks, in their order: `Orders` of each crate says them of its lists of checks
abbrev pub numbers_of : List Check → List ℕ
numbers_of checks = map (λ (c : Check). number_of c.otherwise) checks

-- the same checks, but that number 1 asks `fits`
abbrev pub side_asks : Bool → List Check → List Check
side_asks fits checks = map (λ (c : Check). need (cond (eqb (number_of c.otherwise) 1) fits c.holds) c.otherwise) checks

-- a check that holds leaves the answer to the others; one that fails is the answer
pub first_holds : (t : Bool) (why : Refusal) (rest : List Check) → t ≡ true → first_failing (need t why ∷ rest) ≡ first_failing rest
unfolding first_failing
first_holds t why rest e = rw e

pub first_fails : (t : Bool) (why : Refusal) (rest : List Check) → t ≡ false → first_failing (need t why ∷ rest) ≡ Err why
unfolding first_failing
first_fails t why rest e = rw e

pub first_none : first_failing [] ≡ Ok tt
unfolding first_failing
first_none = refl

-- every check of a list holds
unfoldable pub AllHold : List Check → Type 0
AllHold [] = Unit {0}
AllHold (check ∷ rest) = (check.holds ≡ true) × AllHold rest

-- the answer is `Done` exactly if every check holds
pub passed : (checks : List Check) → first_failing checks ≡ Ok tt → AllHold checks
unfolding AllHold
passed [] e = tt
passed (check ∷ rest) e = tell check.holds refl (λ f. passed rest f)
  where
    tell : (t : Bool) → check.holds ≡ t → (first_failing rest ≡ Ok tt → AllHold rest) → (check.holds ≡ true) × AllHold rest
    tell true h more = (h, more (sym (first_holds check.holds check.otherwise rest h) ∙ e))
    tell false h more =
        let f : Err check.otherwise ≡ Ok tt = sym (first_fails check.holds check.otherwise rest h) ∙ e in
        let z : ◌≡◌ {A = ℕ} 0 1 = cc in
        absurd (omega arith)

pub all_pass : (checks : List Check) → AllHold checks → first_failing checks ≡ Ok tt
unfolding AllHold
all_pass [] e = first_none
all_pass (check ∷ rest) e = first_holds check.holds check.otherwise rest e.0 ∙ all_pass rest e.1

-- two lists of checks, one after the other
pub first_then_done : (checks more : List Check) → first_failing checks ≡ Ok tt → first_failing (checks ++ more) ≡ first_failing more
unfolding AllHold
first_then_done [] more e = refl
first_then_done (check ∷ rest) more e =
    let h = passed (check ∷ rest) e in
    first_holds check.holds check.otherwise (rest ++ more) h.0 ∙ first_then_done rest more (all_pass rest h.1)

pub first_then_refused : (checks more : List Check) (why : Refusal) → first_failing checks ≡ Err why → first_failing (checks ++ more) ≡ Err why
first_then_refused [] more why e =
    let f : (Ok tt) ≡ Err why = sym first_none ∙ e in
    let z : ◌≡◌ {A = ℕ} 0 1 = cc in
    absurd (omega arith)
first_then_refused (check ∷ rest) more why e = tell check.holds refl (λ f. first_then_refused rest more why f)
  where
    tell : (t : Bool) → check.holds ≡ t → (first_failing rest ≡ Err why → first_failing (rest ++ more) ≡ Err why) → first_failing (check ∷ (rest ++ more)) ≡ Err why
    tell true h later =
        first_holds check.holds check.otherwise (rest ++ more) h ∙ later (sym (first_holds check.holds check.otherwise rest h) ∙ e)
    tell false h later =
        first_fails check.holds check.otherwise (rest ++ more) h ∙ sym (first_fails check.holds check.otherwise rest h) ∙ e

-- what leaves a function at a `?` is the refusal that came there
pub left_by : {T : Type 0} {answer : Result T Refusal} {why : Refusal} → IsErrAnd answer (λ e. e ≡ why) → answer ≡ Err why
left_by {T} {answer} is =
    let p = err_from_is_err_and answer is in p.1 ∙ ap (λ (e : Refusal). Err e) p.2

-- the same by the outcome of the first list
module _ (first more : List Check) {r : Outcome} (is : r ≡ first_failing first) where
  pub refused_first : (why : Refusal) → r ≡ Err why → Err why ≡ first_failing (first ++ more)
  refused_first why e = sym (first_then_refused first more why (sym is ∙ e))

  -- what leaves a function at a `?` behind these checks
  pub passed_on : {answer : Outcome} {why : Refusal} → IsErrAnd answer (λ e. e ≡ why) → r ≡ Err why → answer ≡ first_failing (first ++ more)
  passed_on {answer} {why} left was = left_by left ∙ refused_first why was

  pub then_more : r ≡ Ok tt → {w : Outcome} → w ≡ first_failing more → w ≡ first_failing (first ++ more)
  then_more e v = v ∙ sym (first_then_done first more (sym is ∙ e))

-- a lent table after a call that is done, and after one that is refused
module _ {A : Type 0} (answer : Outcome) (own held : List A) where
  pub lent_done : answer ≡ Ok tt → lent_after answer own held ≡ own ++ drop (length own) held
  lent_done e = rw e

  pub lent_refused : (why : Refusal) → answer ≡ Err why → lent_after answer own held ≡ held
  lent_refused why e = rw e
