use mathlib.Core.Path.{◌≡◌}
use Prim.Native.Nat.{◌*◌, ◌^◌}
use native.Mathlib.Omega.{arith}
use native.Mathlib.Nat.{mod-eq_of_lt}
use lib.Pow.{pow-lt}
use Rattle.show.proofs.side_of.Goals as goal

pub returns : goal.returns
returns c = let n = c.args.n in
    let e : 1 * 2 ^ n ≡ 2 ^ n = omega arith in
    rw e (mod-eq_of_lt (pow-lt {i = n} {j = 64} (omega arith)))
