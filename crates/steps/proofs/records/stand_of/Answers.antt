use mathlib.Core.Path.{◌≡◌, sym, ◌∙◌}
use mathlib.Core.Bool.{false}
use native.Mathlib.Omega.{arith}
use Rattle.steps.specs.Records.{is_end, stand_in}
use Rattle.steps.proofs.RecordLaws.{range_sizes, range_within}
use Rattle.steps.proofs.records.stand_of.Goals as goal

pub is_end-requires : goal.is_end-requires
is_end-requires c = (range_sizes c.args.dial c.requires).0

pub returns-then-is_end : goal.returns-then-is_end
unfolding stand_in
returns-then-is_end c = rw (sym c.is_end.ensures, c.if-is_end.true)

pub overflow_add-result : goal.overflow_add-result
overflow_add-result c =
    let not_end : is_end c.args.dial ≡ false = sym c.is_end.ensures ∙ c.if-is_end.false in
    record { fits = omega (arith, (range_within c.args.dial c.requires (not_end)).0, (range_sizes c.args.dial c.requires).2) }

pub returns : goal.returns
unfolding stand_in
returns c =
    let not_end : is_end c.args.dial ≡ false = sym c.is_end.ensures ∙ c.if-is_end.false in
    rw (not_end)
