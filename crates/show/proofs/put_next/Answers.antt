use mathlib.Core.Path.{ap}
use native.Mathlib.Omega.{arith}
use Rattle.show.proofs.Puts.{puts_as, puts_behind}
use mir.Facts.{to_z-of_z}
use Rattle.decimal.specs.Decimal.{signed_decimal}
use Rattle.show.proofs.put_next.Goals as goal

pub returns : goal.returns
returns c = (puts_behind c.store.ensures (puts_as (ap signed_decimal (to_z-of_z c.ranges.x)) c.put_signed.ensures.0), omega arith)
