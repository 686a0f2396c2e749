use mathlib.Core.Bool.{Bool}
use mathlib.Core.Path.{ap, ◌∙◌}
use Rattle.bits.specs.Bits.{digit}
use Rattle.ctxp.specs.Answers.{of_value}
use Rattle.ctxp.proofs.Laws.{answers_by}
use Rattle.ctxp.proofs.txp_bit.Goals as goal

pub returns : goal.returns
returns c = answers_by c.put.result _ (c.of_bool.ensures ∙ ap (λ (t : Bool). of_value (digit t)) c.bit_of-done.ensures) c.put.ensures
