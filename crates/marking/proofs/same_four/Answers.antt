use mathlib.Core.Path.{◌≡◌, sym, ◌∙◌}
use mathlib.Core.Bool.{true}
use Prim.Native.Nat.{◌+◌, ◌-◌}
use native.Mathlib.Omega.{arith}
use borrow.Author.Rules.{rules}
use borrow.Author.Tests.{leb-true}
use lib.Dec.{leb, eqb}
use lib.ListN.{length, take, drop}
use Rattle.std.specs.List.{list_all}
use Rattle.std.proofs.lemmas.Iterator.{YieldsList-from_slice}
use Rattle.std.proofs.lemmas.Iterator.Search.{all_from_yields_List}
use Rattle.marking.proofs.Laws.{all_four}
use Rattle.marking.proofs.same_four.Goals as goal

pub returns : goal.returns
returns c =
    let a = c.args in
    let inside : leb (a.place + 4) (length a.marks.now) ≡ true = sym c.four_in.ensures ∙ c.if-not-four_in.false in
    let all : c.all.result ≡ list_all (λ x. eqb x a.mark) (take (a.place + 4 - a.place) (drop a.place a.marks.now)) =
    all_from_yields_List (λ x. eqb x a.mark) _ _ c.all.result c.all.ensures.ran (YieldsList-from_slice (take (a.place + 4 - a.place) (drop a.place a.marks.now)) (search rules)) (λ x b q k. search rules) in
    rw inside
    (all ∙ all_four a.marks.now a.place (a.place + 4 - a.place) a.mark (omega arith) (leb-true (a.place + 4) (length a.marks.now) inside))
