use native.Mathlib.Omega.{arith}
use Rattle.marking.proofs.Laws.{four_filled}
use Rattle.marking.proofs.four_alone.Goals as goal

pub returns-then-place-marks : goal.returns-then-place-marks
returns-then-place-marks c = four_filled c.args.marks.now c.fill.new.self c.args.place _ 4 (omega arith) (omega arith) (c.fill.ensures.after (λ y e. e))

pub returns : goal.returns
returns c = cc
