use mathlib.Core.Path.{◌≡◌, sym, ap, ◌∙◌}
use Prim.Native.Nat.{ℕ}
use Rattle.refusals.specs.Checks.{first_failing}
use Rattle.refusals.proofs.Laws.{passed_on, then_more}
use Rattle.sizes.specs.Sizes.{all_of}
use Rattle.room.specs.Room.{worst_checks, table_checks}
use Rattle.room.proofs.Laws.{worst_ready}
use Rattle.room.proofs.check_decode.Goals as goal

pub returns : goal.returns
returns c = let a = c.args in
    let done = c.in_ok-check_worst.was in
    let first = c.check_worst.ensures in
    let all : c.all_of.result ≡ all_of a.n = c.all_of.ensures ∙ rw (worst_ready a.n a.l a.p (sym done ∙ first)).0 in
    then_more (worst_checks a.n a.l a.p) _ first done
    (c.check_tables.ensures ∙ ap (λ (x : ℕ). first_failing (table_checks x a.values a.precisions a.marks)) all)

pub returns-in_err-check_worst : goal.returns-in_err-check_worst
returns-in_err-check_worst c = let a = c.args in
    passed_on (worst_checks a.n a.l a.p) _ c.check_worst.ensures c.from_residual.ensures.1 c.in_err-check_worst.was
