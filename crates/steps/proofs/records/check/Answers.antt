use mathlib.Core.Path.{◌≡◌, sym, ap, ◌∙◌}
use mathlib.Core.Bool.{true, ◌&&◌}
use Prim.Native.Nat.{ℕ}
use borrow.Author.Tests.{le-leb, lt-leb}
use lib.Dec.{leb}
use Rattle.refusals.specs.Checks.{first_failing}
use Rattle.refusals.specs.declared.Refusal.TheVariants as refusal
use Rattle.refusals.proofs.Laws.{first_holds, first_fails}
use Rattle.sizes.specs.Sizes.{all_of}
use Rattle.sizes.proofs.Laws.{both}
use Rattle.room.specs.Room.{table_checks}
use Rattle.steps.specs.Records.{in_range}
use Rattle.steps.proofs.RecordLaws.{range_sizes}
use Rattle.steps.proofs.records.check.Goals as goal

pub returns-then-not-in_range : goal.returns-then-not-in_range
returns-then-not-in_range c = let a = c.args in
    sym (first_fails (in_range a.dial && leb a.dial.used a.most) refusal.Record _ (rw (sym c.in_range.ensures, c.if-not-in_range.true)))

pub returns-then-most-dial : goal.returns-then-most-dial
returns-then-most-dial c =
    let range_so : in_range c.args.dial ≡ true = sym c.in_range.ensures ∙ c.if-not-in_range.false in
    let a = c.args in
    sym (first_fails (in_range a.dial && leb a.dial.used a.most) refusal.Record _ (rw (range_so) (lt-leb a.dial.used a.most c.if-most-dial.true)))

pub returns : goal.returns
returns c =
    let range_so : in_range c.args.dial ≡ true = sym c.in_range.ensures ∙ c.if-not-in_range.false in
    let a = c.args in
    let range = range_so in
    let all : c.all_of.result ≡ all_of a.dial.n = c.all_of.ensures ∙ rw (range_sizes a.dial range).0 in
    c.check_tables.ensures ∙ ap (λ (x : ℕ). first_failing (table_checks x a.values a.precisions a.marks)) all
    ∙ sym (first_holds (in_range a.dial && leb a.dial.used a.most) refusal.Record _ (both range (le-leb a.dial.used a.most c.if-most-dial.false)))
