use mathlib.Core.Path.{◌≡◌}
use native.Mathlib.Omega.{arith}
use Rattle.fours.specs.Words.{key}
use Rattle.fours.proofs.Laws.{key_lt}
use Rattle.encoder.specs.Siblings.{bits_at, signs_at}
use Rattle.encoder.proofs.SiblingSteps.{bits_few, signs_few}
use Rattle.encoder.proofs.siblings.key_of.Goals as goal

pub overflow_add-result : goal.overflow_add-result
overflow_add-result c = let a = c.args in
    let e : key a.k c.four_bits-x.result c.four_signs-minus.result ≡ key a.k (bits_at a.coefs.now a.b a.place) (signs_at a.coefs.now a.place) = λ i. key a.k (c.four_bits-x.ensures i) (c.four_signs-minus.ensures i) in
    omega (arith, e, key_lt a.k (bits_at a.coefs.now a.b a.place) (signs_at a.coefs.now a.place) c.requires.3 (bits_few a.coefs.now a.b a.place) (signs_few a.coefs.now a.place))
