use Rattle.reading.proofs.FourValues.{mask₀, mask, level_low, more_four, no_more}
use native.Mathlib.Omega.{arith}
use lib.Dec.{lit<}
use lib.ListN.{length-set}
use Rattle.reading.proofs.values.refined_four.Goals as goal

pub grown-requires : goal.grown-requires
grown-requires c = (mask₀ c.args.rows.now c.requires.1 c.args.a c.requires.3, level_low c.args.b c.requires.2)

pub grown-requires-2 : goal.grown-requires-2
grown-requires-2 c = (mask c.args.rows.now c.requires.1 c.args.a c.requires.3 1 (lit< tt), level_low c.args.b c.requires.2)

pub bounds-values-place-2 : goal.bounds-values-place-2
bounds-values-place-2 c = simp length-set (omega (arith, c.requires.0))

pub grown-requires-3 : goal.grown-requires-3
grown-requires-3 c = (mask c.args.rows.now c.requires.1 c.args.a c.requires.3 2 (lit< tt), level_low c.args.b c.requires.2)

pub bounds-values-place-3 : goal.bounds-values-place-3
bounds-values-place-3 c = simp length-set (omega (arith, c.requires.0))

pub grown-requires-4 : goal.grown-requires-4
grown-requires-4 c = (mask c.args.rows.now c.requires.1 c.args.a c.requires.3 3 (lit< tt), level_low c.args.b c.requires.2)

pub returns : goal.returns
returns c = record { values_after = more_four c.args.rows.now c.requires.1 c.args.b c.requires.2 c.args.a c.requires.3 c.args.values.now c.args.place c.grown.result c.grown-2.result c.grown-3.result c.grown-4.result (record { fits = c.grown.type_inv; held = c.v0-1.given; is = c.grown.ensures }) (record { fits = c.grown-2.type_inv; held = c.v1-1.given; is = c.grown-2.ensures }) (record { fits = c.grown-3.type_inv; held = c.v2-1.given; is = c.grown-3.ensures }) (record { fits = c.grown-4.type_inv; held = c.v3-1.given; is = c.grown-4.ensures }); fixed = record { first = no_more _ _ c.v0-1.given; second = no_more _ _ c.v1-1.given; third = no_more _ _ c.v2-1.given; fourth = no_more _ _ c.v3-1.given } }
