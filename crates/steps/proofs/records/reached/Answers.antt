use native.Mathlib.Nat.{one-le-pow}
use native.Mathlib.Omega.{arith}
use Rattle.reading.proofs.ValueLaws.{level_one}
use Rattle.decoder.proofs.Endings.{ending_said}
use Rattle.steps.proofs.records.reached.Goals as goal

pub overflow_sub-result-2 : goal.overflow_sub-result-2
overflow_sub-result-2 c = omega (arith, level_one c.args.left (omega (arith, c.requires)), one-le-pow c.args.left 2 (omega arith))

pub returns : goal.returns
returns c = let a = c.args in
    let e = level_one a.left (omega (arith, c.requires)) in
    rw (e, ending_said a.declared a.body.now a.used a.left c.ending_of.result c.read.result c.ending_of.ensures c.read.ensures)
