use mathlib.Core.Path.{◌≡◌, sym, ◌∙◌}
use mathlib.Core.Bool.{true}
use native.Mathlib.Omega.{arith}
use borrow.Author.Tests.{eq-eqb, ne_eqb, le-leb, lt-leb}
use Rattle.refusals.specs.Checks.{first_failing}
use Rattle.sizes.specs.Sizes.{all_of, side_fits}
use Rattle.places.proofs.check_arrays.Goals as goal

pub returns-then-input-all : goal.returns-then-input-all
unfolding first_failing
returns-then-input-all c = let a = c.args in
    let e : side_fits a.n ≡ true = sym c.side_fits.ensures ∙ c.if-side_fits.true in
    let all = rw e at c.all_of-all.ensures in
    rw (e, ne_eqb a.input (all_of a.n) (λ s. c.if-input-all.true (s ∙ sym all)))

pub returns-then-output-all : goal.returns-then-output-all
unfolding first_failing
returns-then-output-all c = let a = c.args in
    let e : side_fits a.n ≡ true = sym c.side_fits.ensures ∙ c.if-side_fits.true in
    let all = rw e at c.all_of-all.ensures in
    rw (e, eq-eqb a.input (all_of a.n) (omega arith), lt-leb (all_of a.n) a.output (omega arith))

pub returns-then-side_fits : goal.returns-then-side_fits
unfolding first_failing
returns-then-side_fits c = let a = c.args in
    let e : side_fits a.n ≡ true = sym c.side_fits.ensures ∙ c.if-side_fits.true in
    let all = rw e at c.all_of-all.ensures in
    rw (e, eq-eqb a.input (all_of a.n) (omega arith), le-leb (all_of a.n) a.output (omega arith))

pub returns : goal.returns
unfolding first_failing
returns c = rw (sym c.side_fits.ensures ∙ c.if-side_fits.false)
