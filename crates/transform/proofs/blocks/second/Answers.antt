use mathlib.Core.Path.{◌≡◌}
use native.Mathlib.Omega.{arith}
use Rattle.transform.specs.Transform.{first}
use Rattle.transform.proofs.Held.{still, bare, second_fits, second_held}
use Rattle.transform.proofs.blocks.second.Goals as goal

pub first-requires : goal.first-requires
first-requires c = (still c.args.l 268435456 c.requires.0 (omega arith), still c.args.h 268435456 c.requires.1 (omega arith))

pub overflow_sub-result : goal.overflow_sub-result
overflow_sub-result c =
    let told : c.first.result ≡ first c.args.l c.args.h = bare first c.first.result c.args.l c.args.h (omega (arith, c.requires.0)) (omega (arith, c.requires.1)) c.first.ensures in
    second_fits c.args.l c.args.h c.requires.0 c.requires.1 c.first.result (told)

pub returns : goal.returns
returns c =
    let told : c.first.result ≡ first c.args.l c.args.h = bare first c.first.result c.args.l c.args.h (omega (arith, c.requires.0)) (omega (arith, c.requires.1)) c.first.ensures in
    second_held c.args.l c.args.h c.requires.0 c.requires.1 c.first.result (told)
