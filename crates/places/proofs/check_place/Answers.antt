use mathlib.Core.Path.{◌≡◌, sym, ◌∙◌}
use mathlib.Core.Bool.{true}
use native.Mathlib.Omega.{arith}
use borrow.Author.Tests.{lt-ltb, le-ltb}
use Rattle.refusals.specs.Checks.{first_failing}
use Rattle.sizes.specs.Sizes.{all_of, side_fits}
use Rattle.places.proofs.check_place.Goals as goal

pub returns-then-place-all_of : goal.returns-then-place-all_of
unfolding first_failing
returns-then-place-all_of c = let n = c.args.n in
    let e : side_fits n ≡ true = sym c.side_fits.ensures ∙ c.if-side_fits.true in
    let all = rw e at c.all_of.ensures in
    rw (e, lt-ltb c.args.place (all_of n) (omega arith))

pub returns-then-side_fits : goal.returns-then-side_fits
unfolding first_failing
returns-then-side_fits c = let n = c.args.n in
    let e : side_fits n ≡ true = sym c.side_fits.ensures ∙ c.if-side_fits.true in
    let all = rw e at c.all_of.ensures in
    rw (e, le-ltb c.args.place (all_of n) (omega arith))

pub returns : goal.returns
unfolding first_failing
returns c = rw (sym c.side_fits.ensures ∙ c.if-side_fits.false)
