use mathlib.Core.Path.{◌≡◌}
use Prim.Native.Nat.{◌*◌, ◌^◌}
use native.Mathlib.Nat.{mod-eq_of_lt}
use native.Mathlib.Omega.{arith}
use lib.Pow.{pow_mono}
use Rattle.places.proofs.side_of.Goals as goal

pub returns : goal.returns
returns c = let e : 1 * 2 ^ c.args.n ≡ 2 ^ c.args.n = omega arith in
    rw e (mod-eq_of_lt (omega (arith, pow_mono {i = c.args.n} {j = 16} c.requires)))
