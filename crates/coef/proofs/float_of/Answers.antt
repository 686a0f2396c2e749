use mathlib.Core.Path.{◌≡◌, sym, ◌∙◌}
use mathlib.Core.Bool.{true, false}
use mir.Facts.{to_z-of_z}
use Rattle.coef.specs.Coef.{within}
use Rattle.coef.proofs.Held.{in_float_lem}
use Rattle.coef.proofs.Laws.{within_le, exact}
use Rattle.coef.proofs.float_of.Goals as goal

pub int_to_float-result : goal.int_to_float-result
int_to_float-result c = let x = c.args.x in
    let e = to_z-of_z c.ranges.x in
    let w : within x ≡ true = rw e at (sym c.is_within.ensures ∙ c.if-is_within.true) in
    rw e (in_float_lem x (within_le x w))

pub returns-then-is_within : goal.returns-then-is_within
returns-then-is_within c = let x = c.args.x in
    let e = to_z-of_z c.ranges.x in
    let w : within x ≡ true = rw e at (sym c.is_within.ensures ∙ c.if-is_within.true) in
    rw e (rw w, exact x (within_le x w))

pub returns : goal.returns
returns c = let x = c.args.x in
    let e = to_z-of_z c.ranges.x in
    let w : within x ≡ false = rw e at (sym c.is_within.ensures ∙ c.if-is_within.false) in
    (rw w, tt)
