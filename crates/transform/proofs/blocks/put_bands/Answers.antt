use native.Mathlib.Omega.{arith}
use lib.ListN.{length-set}
use Rattle.transform.proofs.blocks.put_bands.Goals as goal

pub bounds-out-quarter-2 : goal.bounds-out-quarter-2
bounds-out-quarter-2 c = simp length-set (omega arith)

pub bounds-out-quarter-3 : goal.bounds-out-quarter-3
bounds-out-quarter-3 c = simp length-set (omega arith)
