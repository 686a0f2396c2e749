use Prim.Native.Nat.{◌+◌, ◌*◌, ◌<◌}
use native.Mathlib.Omega.{arith}
use Rattle.coef.specs.Coef.{negative, at}
use Rattle.encoder.proofs.SiblingSteps.{four_digits}
use Rattle.encoder.proofs.siblings.four_signs.Goals as goal

pub overflow_mul-result : goal.overflow_mul-result
overflow_mul-result c =
    let all_four : c.sign_digit-x0.result + 2 * c.sign_digit-x1.result + 4 * c.sign_digit-x2.result + 8 * c.sign_digit-x3.result < 16 = let a = c.args in four_digits _ _ _ _ (negative (at a.coefs.now a.place)) (negative (at a.coefs.now (a.place + 1))) (negative (at a.coefs.now (a.place + 2))) (negative (at a.coefs.now (a.place + 3))) c.sign_digit-x0.ensures c.sign_digit-x1.ensures c.sign_digit-x2.ensures c.sign_digit-x3.ensures in
    omega (arith, all_four)

pub overflow_add-result : goal.overflow_add-result
overflow_add-result c =
    let all_four : c.sign_digit-x0.result + 2 * c.sign_digit-x1.result + 4 * c.sign_digit-x2.result + 8 * c.sign_digit-x3.result < 16 = let a = c.args in four_digits _ _ _ _ (negative (at a.coefs.now a.place)) (negative (at a.coefs.now (a.place + 1))) (negative (at a.coefs.now (a.place + 2))) (negative (at a.coefs.now (a.place + 3))) c.sign_digit-x0.ensures c.sign_digit-x1.ensures c.sign_digit-x2.ensures c.sign_digit-x3.ensures in
    omega (arith, all_four)

pub overflow_mul-result-2 : goal.overflow_mul-result-2
overflow_mul-result-2 c =
    let all_four : c.sign_digit-x0.result + 2 * c.sign_digit-x1.result + 4 * c.sign_digit-x2.result + 8 * c.sign_digit-x3.result < 16 = let a = c.args in four_digits _ _ _ _ (negative (at a.coefs.now a.place)) (negative (at a.coefs.now (a.place + 1))) (negative (at a.coefs.now (a.place + 2))) (negative (at a.coefs.now (a.place + 3))) c.sign_digit-x0.ensures c.sign_digit-x1.ensures c.sign_digit-x2.ensures c.sign_digit-x3.ensures in
    omega (arith, all_four)

pub overflow_add-result-2 : goal.overflow_add-result-2
overflow_add-result-2 c =
    let all_four : c.sign_digit-x0.result + 2 * c.sign_digit-x1.result + 4 * c.sign_digit-x2.result + 8 * c.sign_digit-x3.result < 16 = let a = c.args in four_digits _ _ _ _ (negative (at a.coefs.now a.place)) (negative (at a.coefs.now (a.place + 1))) (negative (at a.coefs.now (a.place + 2))) (negative (at a.coefs.now (a.place + 3))) c.sign_digit-x0.ensures c.sign_digit-x1.ensures c.sign_digit-x2.ensures c.sign_digit-x3.ensures in
    omega (arith, all_four)

pub overflow_mul-result-3 : goal.overflow_mul-result-3
overflow_mul-result-3 c =
    let all_four : c.sign_digit-x0.result + 2 * c.sign_digit-x1.result + 4 * c.sign_digit-x2.result + 8 * c.sign_digit-x3.result < 16 = let a = c.args in four_digits _ _ _ _ (negative (at a.coefs.now a.place)) (negative (at a.coefs.now (a.place + 1))) (negative (at a.coefs.now (a.place + 2))) (negative (at a.coefs.now (a.place + 3))) c.sign_digit-x0.ensures c.sign_digit-x1.ensures c.sign_digit-x2.ensures c.sign_digit-x3.ensures in
    omega (arith, all_four)

pub overflow_add-result-3 : goal.overflow_add-result-3
overflow_add-result-3 c =
    let all_four : c.sign_digit-x0.result + 2 * c.sign_digit-x1.result + 4 * c.sign_digit-x2.result + 8 * c.sign_digit-x3.result < 16 = let a = c.args in four_digits _ _ _ _ (negative (at a.coefs.now a.place)) (negative (at a.coefs.now (a.place + 1))) (negative (at a.coefs.now (a.place + 2))) (negative (at a.coefs.now (a.place + 3))) c.sign_digit-x0.ensures c.sign_digit-x1.ensures c.sign_digit-x2.ensures c.sign_digit-x3.ensures in
    omega (arith, all_four)
