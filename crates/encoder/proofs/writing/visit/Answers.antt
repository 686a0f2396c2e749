use native.Mathlib.Omega.{arith}
use Rattle.encoder.proofs.WriteLaws.{visited_pixels, visited_sets, visited_refining}
use Rattle.encoder.proofs.writing.visit.Goals as goal

pub returns-in-0 : goal.returns-in-0
returns-in-0 c = visited_pixels _ _ _ _ _ _ _ _ _ _ _ _ _ _ c.in-0.is c.pixel.ensures

pub returns-in-1 : goal.returns-in-1
returns-in-1 c = visited_sets _ _ _ _ _ _ _ _ _ _ _ _ _ _ (omega (arith, c.in-1.is)) c.in-1.is c.sets.ensures

pub returns-in_default : goal.returns-in_default
returns-in_default c = visited_refining _ _ _ _ _ _ _ _ _ _ _ _ _ _ (omega arith) (omega arith) c.refine.ensures
