use native.Mathlib.Omega.{arith}
use lib.ListN.{get_or}
use Rattle.marking.proofs.Laws.{skip_in}
use Rattle.moves.proofs.Looks.{behind_known, behind_all}
use Rattle.moves.proofs.behind.Goals as goal

pub overflow_add-result : goal.overflow_add-result
overflow_add-result c = omega (arith, c.skip.ensures, skip_in (get_or c.args.marks.now c.args.place 0))

pub returns-then-mark-lt-CODES_END : goal.returns-then-mark-lt-CODES_END
returns-then-mark-lt-CODES_END c = behind_known _ _ _ _ c.skip.ensures c.if-mark-lt-CODES_END.true

pub returns : goal.returns
returns c = behind_all _ _ _ c.if-mark-lt-CODES_END.false c.requires.0 c.requires.1
