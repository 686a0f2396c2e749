use mathlib.Core.Path.{sym, ◌∙◌}
use Rattle.marking.proofs.Laws.{set_skip_low, set_skip_high}
use Rattle.marking.proofs.set_skip.Goals as goal

pub returns-then-mark-lt-MD : goal.returns-then-mark-lt-MD
returns-then-mark-lt-MD c = sym (set_skip_low _ c.if-mark-lt-MD.true)

pub returns : goal.returns
returns c = c.skip.ensures ∙ sym (set_skip_high _ c.if-mark-lt-MD.false)
