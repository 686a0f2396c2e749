use mathlib.Core.Path.{ap}
use mir.Facts.{to_z-of_z}
use borrow.Author.Tests.{lt-leb, le-leb}
use Rattle.std.specs.Prelude.{Some}
use Rattle.coef.proofs.Held.{signed_fits}
use Rattle.coef.proofs.join_of.Goals as goal

pub returns-then-size-le-LIMIT : goal.returns-then-size-le-LIMIT
returns-then-size-le-LIMIT c = rw (le-leb _ _ c.if-size-le-LIMIT.true, c.with_sign.ensures)
    (ap Some (to_z-of_z (signed_fits c.args.s.negative c.args.s.magnitude c.if-size-le-LIMIT.true)))

pub returns : goal.returns
returns c = rw (lt-leb _ _ c.if-size-le-LIMIT.false)
