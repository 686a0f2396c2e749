use mathlib.Core.Path.{◌≡◌}
use Prim.Native.Nat.{◌+◌, ◌*◌, ◌^◌}
use native.Mathlib.Nat.{mod-eq_of_lt}
use native.Mathlib.Omega.{arith}
use Rattle.sizes.proofs.Laws.{four, all_most}
use Rattle.sizes.proofs.four_to.Goals as goal

pub returns : goal.returns
returns c = let e : 1 * 2 ^ (c.args.k + c.args.k) ≡ 4 ^ c.args.k = omega (arith, four c.args.k) in rw e (mod-eq_of_lt (omega (arith, all_most c.args.k c.requires)))
