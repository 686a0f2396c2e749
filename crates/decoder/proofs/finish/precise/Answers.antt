use mathlib.Core.Path.{ap, ◌∙◌}
use Prim.Native.Nat.{ℕ}
use native.Mathlib.Omega.{arith}
use lib.ListN.{replicate}
use Rattle.decoder.proofs.StoodLaws.{left_fits, before_any, after_all}
use Rattle.decoder.proofs.finish.precise.Goals as goal

pub returns-then-left-eq0 : goal.returns-then-left-eq0
returns-then-left-eq0 c = c.fill.ensures.after (λ y e. e) ∙ ap (λ (n : ℕ). replicate n 0) c.requires.0 ∙ after_all c.requires.1 c.if-left-eq0.true

pub overflow_cast-left : goal.overflow_cast-left
overflow_cast-left c = record { fits = omega (arith, left_fits c.requires.1) }

pub returns-then-stop-eq0 : goal.returns-then-stop-eq0
returns-then-stop-eq0 c = c.fill-then-stop-eq0.ensures.after (λ y e. e) ∙ ap (λ (n : ℕ). replicate n c.args.left) c.requires.0 ∙ before_any c.requires.1 c.if-stop-eq0.true
