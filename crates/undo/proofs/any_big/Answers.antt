use Prim.Native.Nat.{◌+◌, ◌*◌, ◌^◌}
use mathlib.Core.Path.{◌≡◌}
use native.Mathlib.Nat.{mod-eq_of_lt}
use native.Mathlib.Omega.{arith}
use borrow.Author.Rules.{rules}
use lib.Pow.{pow-lt}
use Rattle.coef.specs.Coef.{at}
use Rattle.coef.proofs.Held.{read_back}
use Rattle.undo.proofs.Runs.{four_reach}
use Rattle.undo.proofs.any_big.Goals as goal

pub returns : goal.returns
returns c = let b = c.args.left in
    let i = c.args.place in
    let v = c.args.values.now in
    let e : 1 * 2 ^ b ≡ 2 ^ b = omega arith in
    rw (e, mod-eq_of_lt (pow-lt {i = b} {j = 32} (omega arith)), c.magnitude.ensures, c.magnitude-2.ensures, c.magnitude-3.ensures, c.magnitude-4.ensures, read_back (at v i) (search rules), read_back (at v (i + 1)) (search rules), read_back (at v (i + 2)) (search rules), read_back (at v (i + 3)) (search rules)) (four_reach b _ _ _ _)
