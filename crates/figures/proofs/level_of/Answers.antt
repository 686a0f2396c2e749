use mathlib.Core.Path.{◌≡◌}
use Prim.Native.Nat.{◌*◌, ◌^◌}
use native.Mathlib.Nat.{mod-eq_of_lt}
use native.Mathlib.Omega.{arith}
use lib.Pow.{pow-lt}
use Rattle.figures.proofs.level_of.Goals as goal

pub returns : goal.returns
returns c = let b = c.args.plane in
    let e : 1 * 2 ^ b ≡ 2 ^ b = omega arith in
    rw e (mod-eq_of_lt (pow-lt {i = b} {j = 32} (omega arith)))
