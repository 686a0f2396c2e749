use mathlib.Core.Path.{◌≡◌, sym, ◌∙◌}
use mathlib.Core.Bool.{true}
use Prim.Native.Nat.{◌+◌}
use native.Mathlib.Omega.{arith}
use borrow.Author.Tests.{leb-true}
use lib.Dec.{leb}
use lib.ListN.{length}
use Rattle.marking.proofs.Laws.{four_filled}
use Rattle.marking.proofs.set_four.Goals as goal

pub returns-then-four_in : goal.returns-then-four_in
returns-then-four_in c =
    let a = c.args in
    let inside : leb (a.place + 4) (length a.marks.now) ≡ true = sym c.four_in.ensures ∙ c.if-four_in.true in
    rw inside
    (four_filled a.marks.now c.fill.new.self a.place _ a.mark (omega arith) (leb-true (a.place + 4) (length a.marks.now) inside) (c.fill.ensures.after (λ y e. e)))
