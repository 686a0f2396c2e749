use mathlib.Core.Path.{◌≡◌, sym, ◌∙◌, ap}
use mathlib.Core.Bool.{Bool, true}
use Prim.Native.Nat.{ℕ}
use native.Mathlib.Omega.{arith}
use mir.Facts.{to_z-of_z}
use Rattle.std.specs.Prelude.{Some}
use Rattle.coef.specs.Coef.{negative, magnitude, within}
use Rattle.coef.proofs.Held.{lt_zero}
use Rattle.coef.proofs.Laws.{within_le}
use Rattle.coef.proofs.part_of.Goals as goal

pub returns-then-not-is_within : goal.returns-then-not-is_within
returns-then-not-is_within c =
    let told : c.is_within.result ≡ within c.args.x = c.is_within.ensures ∙ ap within (to_z-of_z c.ranges.x) in
    rw (sym (told) ∙ c.if-not-is_within.true)

pub negated_if_below-size-requires : goal.negated_if_below-size-requires
negated_if_below-size-requires c =
    let told : c.is_within.result ≡ within c.args.x = c.is_within.ensures ∙ ap within (to_z-of_z c.ranges.x) in
    let x = c.args.x in
    rw (to_z-of_z c.ranges.x) (omega (arith, within_le x (sym (told) ∙ c.if-not-is_within.false)))

pub returns : goal.returns
returns c =
    let told : c.is_within.result ≡ within c.args.x = c.is_within.ensures ∙ ap within (to_z-of_z c.ranges.x) in
    let x = c.args.x in
    let f = c.ranges.x in
    let m = c.negated_if_below-size.result in
    let e : m ≡ magnitude x = c.negated_if_below-size.ensures ∙ ap magnitude (to_z-of_z f) in
    let w : within x ≡ true = sym (told) ∙ c.if-not-is_within.false in
    rw w
    (ap (λ (n : Bool). Some (record { negative = n; magnitude = m })) (lt_zero x f) ∙ ap (λ (k : ℕ). Some (record { negative = negative x; magnitude = k })) e)
