use Rattle.steps.proofs.ValueLaws.{found_fits, found_is}
use native.Mathlib.Omega.{arith}
use Rattle.steps.proofs.tables.found.Goals as goal

pub overflow_add-b : goal.overflow_add-b
overflow_add-b c = found_fits c.args.b (omega (arith, c.requires))

pub returns : goal.returns
returns c = found_is c.args.b (omega (arith, c.requires)) c.args.negative _ c.value_of.ensures (record { sfits = c.value_of.type_inv })
