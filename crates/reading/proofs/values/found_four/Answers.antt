use Rattle.reading.proofs.FourValues.{mask₀, mask, code_low, found_four_lem}
use lib.ListN.{length-set}
use native.Mathlib.Omega.{arith}
use lib.Dec.{lit<}
use Rattle.reading.proofs.values.found_four.Goals as goal

pub chosen-requires : goal.chosen-requires
chosen-requires c = (mask₀ c.args.rows.now c.requires.1 c.args.a c.requires.3, code_low c.args.b c.requires.2 _)

pub chosen-requires-2 : goal.chosen-requires-2
chosen-requires-2 c = (mask c.args.rows.now c.requires.1 c.args.a c.requires.3 1 (lit< tt), code_low c.args.b c.requires.2 _)

pub bounds-values-place-2 : goal.bounds-values-place-2
bounds-values-place-2 c = simp length-set (omega (arith, c.requires.0))

pub chosen-requires-3 : goal.chosen-requires-3
chosen-requires-3 c = (mask c.args.rows.now c.requires.1 c.args.a c.requires.3 2 (lit< tt), code_low c.args.b c.requires.2 _)

pub bounds-values-place-3 : goal.bounds-values-place-3
bounds-values-place-3 c = simp length-set (omega (arith, c.requires.0))

pub chosen-requires-4 : goal.chosen-requires-4
chosen-requires-4 c = (mask c.args.rows.now c.requires.1 c.args.a c.requires.3 3 (lit< tt), code_low c.args.b c.requires.2 _)

pub returns : goal.returns
returns c = found_four_lem c.args.rows.now c.requires.1 c.args.b c.requires.2 c.args.a c.requires.3 c.args.values.now c.args.place c.chosen.result c.chosen-2.result c.chosen-3.result c.chosen-4.result c.args.s c.requires.4 (record { fits = c.chosen.type_inv; held = c.v0-1.given; is = c.chosen.ensures }) (record { fits = c.chosen-2.type_inv; held = c.v1-1.given; is = c.chosen-2.ensures }) (record { fits = c.chosen-3.type_inv; held = c.v2-1.given; is = c.chosen-3.ensures }) (record { fits = c.chosen-4.type_inv; held = c.v3-1.given; is = c.chosen-4.ensures })
