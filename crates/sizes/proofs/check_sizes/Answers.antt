use mathlib.Core.Path.{◌≡◌, sym, ◌∙◌}
use mathlib.Core.Bool.{true}
use native.Mathlib.Omega.{arith}
use Rattle.sizes.specs.Sizes.{side_fits, levels_fit, all_of}
use Rattle.sizes.proofs.Checks.{no_side, no_levels, no_length, sizes_well}
use Rattle.sizes.proofs.check_sizes.Goals as goal

pub returns-then-not-side_fits : goal.returns-then-not-side_fits
returns-then-not-side_fits c = let a = c.args in
    no_side a.n a.l a.count (sym c.side_fits.ensures ∙ c.if-not-side_fits.true)

pub returns-then-not-levels_fit : goal.returns-then-not-levels_fit
returns-then-not-levels_fit c =
    let side_so : side_fits c.args.n ≡ true = sym c.side_fits.ensures ∙ c.if-not-side_fits.false in
    let a = c.args in
    no_levels a.n a.l a.count (side_so) (sym c.levels_fit.ensures ∙ c.if-not-levels_fit.true)

pub returns-then-count-all_of : goal.returns-then-count-all_of
returns-then-count-all_of c =
    let side_so : side_fits c.args.n ≡ true = sym c.side_fits.ensures ∙ c.if-not-side_fits.false in
    let all_so : c.all_of.result ≡ all_of c.args.n = c.all_of.ensures ∙ rw (side_so) in
    let side_so : side_fits c.args.n ≡ true = sym c.side_fits.ensures ∙ c.if-not-side_fits.false in
    let levels_so : levels_fit c.args.n c.args.l ≡ true = sym c.levels_fit.ensures ∙ c.if-not-levels_fit.false in
    let a = c.args in
    let e = all_so in
    no_length a.n a.l a.count (side_so) (levels_so) (λ w. omega (arith, e, w, c.if-count-all_of.true))

pub returns : goal.returns
returns c =
    let side_so : side_fits c.args.n ≡ true = sym c.side_fits.ensures ∙ c.if-not-side_fits.false in
    let levels_so : levels_fit c.args.n c.args.l ≡ true = sym c.levels_fit.ensures ∙ c.if-not-levels_fit.false in
    let side_so : side_fits c.args.n ≡ true = sym c.side_fits.ensures ∙ c.if-not-side_fits.false in
    let all_so : c.all_of.result ≡ all_of c.args.n = c.all_of.ensures ∙ rw (side_so) in
    let a = c.args in
    sizes_well a.n a.l a.count (side_so) (levels_so) (omega (arith, all_so, c.if-count-all_of.false))
