use mathlib.Core.Path.{ap, ◌∙◌}
use lib.IntN.{ℤ, pos}
use lib.ListN.{get_or}
use Rattle.coef.specs.Coef.{negative}
use Rattle.coef.proofs.Held.{read_back}
use Rattle.encoder.proofs.writing.negative_at.Goals as goal

pub returns : goal.returns
returns c = c.is_negative.ensures ∙ ap (λ (z : ℤ). negative z) (read_back (get_or c.args.coefs.now c.args.place (pos 0)) c.z-1.given)
