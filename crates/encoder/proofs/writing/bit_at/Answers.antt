use mathlib.Core.Path.{ap, ◌∙◌}
use Prim.Native.Nat.{ℕ}
use lib.IntN.{ℤ, pos}
use lib.ListN.{get_or}
use Rattle.bits.specs.Bits.{bit}
use Rattle.coef.specs.Coef.{magnitude}
use Rattle.coef.proofs.Held.{read_back}
use Rattle.encoder.proofs.writing.bit_at.Goals as goal

pub returns : goal.returns
returns c = c.bit_of.ensures
    ∙ ap (λ (k : ℕ). bit k c.args.b) (c.magnitude.ensures ∙ ap (λ (z : ℤ). magnitude z) (read_back (get_or c.args.coefs.now c.args.place (pos 0)) c.z-1.given))
