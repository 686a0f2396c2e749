use mathlib.Core.Path.{ap}
use Rattle.ctxp.specs.Inner.{entries}
use Rattle.ctxp.proofs.Laws.{answers_by}
use Rattle.ctxp.proofs.txp_put_bit.Goals as goal

pub returns : goal.returns
returns c = record { answer = answers_by c.put-2.result _ (ap entries c.nothing.ensures) c.put-2.ensures; written = c.put.ensures }
