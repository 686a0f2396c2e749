use Rattle.walk.proofs.Turns.{resume_all}
use Rattle.reading.proofs.run.Goals as goal

pub returns-then-frame-lt128 : goal.returns-then-frame-lt128
returns-then-frame-lt128 c = c.go_on.ensures _ _ (resume_all _ _ _)

pub returns : goal.returns
returns c = c.go_on-2.ensures _ _ c.scan-r.ensures.0
