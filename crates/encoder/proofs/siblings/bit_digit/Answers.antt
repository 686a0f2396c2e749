use Prim.Native.Nat.{ℕ, ◌/◌, ◌%◌, ◌^◌}
use mathlib.Core.Path.{ap, ◌∙◌}
use lib.IntN.{ℤ, pos}
use lib.ListN.{get_or}
use Rattle.coef.specs.Coef.{magnitude, mag_at}
use Rattle.coef.proofs.Held.{read_back}
use Rattle.encoder.proofs.SiblingSteps.{digit_of}
use Rattle.encoder.proofs.siblings.bit_digit.Goals as goal

pub returns : goal.returns
returns c = let a = c.args in
    ap (λ (k : ℕ). k / 2 ^ a.b % 2) (c.magnitude.ensures ∙ ap (λ (z : ℤ). magnitude z) (read_back (get_or a.coefs.now a.place (pos 0)) c.z-1.given))
    ∙ digit_of (mag_at a.coefs.now a.place) a.b
