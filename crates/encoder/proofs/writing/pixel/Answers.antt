use native.Mathlib.Omega.{arith}
use lib.ListN.{get_or}
use Rattle.marking.proofs.Laws.{skip_in}
use Rattle.encoder.proofs.WriteLaws.{pixel_own, pixel_skip}
use Rattle.encoder.proofs.writing.pixel.Goals as goal

pub returns-then-mark-eq-MIP : goal.returns-then-mark-eq-MIP
returns-then-mark-eq-MIP c = pixel_own _ _ _ _ _ _ _ _ _ _ c.if-mark-eq-MIP.true c.coefficient.ensures

pub overflow_add-next : goal.overflow_add-next
overflow_add-next c = omega (arith, skip_in (get_or c.args.marks.now c.args.place 0), c.skip.ensures)

pub returns : goal.returns
returns c = pixel_skip _ _ _ _ _ _ _ _ c.if-mark-eq-MIP.false c.skip.ensures (omega arith)
