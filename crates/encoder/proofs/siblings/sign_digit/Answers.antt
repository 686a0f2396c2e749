use mathlib.Core.Path.{ap, ◌∙◌}
use mathlib.Core.Bool.{Bool}
use mir.Val.{bool_byte}
use lib.IntN.{ℤ, pos}
use lib.ListN.{get_or}
use Rattle.bits.proofs.Laws.{as_digit}
use Rattle.coef.specs.Coef.{negative, at}
use Rattle.coef.proofs.Held.{read_back}
use Rattle.encoder.proofs.siblings.sign_digit.Goals as goal

pub returns : goal.returns
returns c = let a = c.args in
    ap (λ (t : Bool). bool_byte t) (c.is_negative.ensures ∙ ap (λ (z : ℤ). negative z) (read_back (get_or a.coefs.now a.place (pos 0)) c.z-1.given))
    ∙ as_digit (negative (at a.coefs.now a.place))
