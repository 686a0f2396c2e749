use mathlib.Core.Path.{◌≡◌, sym, subst}
use Prim.Native.Nat.{◌≤◌}
use native.Mathlib.Omega.{arith}
use lib.IntN.{ℤ, nat_abs}
use mir.Syntax.{w32}
use mir.Val.{to_z, of_z}
use Rattle.transform.specs.Transform.{first, second}
use Rattle.transform.specs.Quads.{joined}
use Rattle.transform.proofs.Range.{first_size, second_size}
use Rattle.transform.proofs.Held.{still, bare, told}
use Rattle.transform.proofs.blocks.joined.Goals as goal

-- the four numbers of the columns
record Columns (a b c d upper lower over under : ℤ) : Type 0 where
  up : upper ≡ first a c
  lo : lower ≡ second a c
  ov : over ≡ first b d
  un : under ≡ second b d
  up_size : nat_abs upper ≤ 268435456
  lo_size : nat_abs lower ≤ 268435456
  ov_size : nat_abs over ≤ 268435456
  un_size : nat_abs under ≤ 268435456

-- two numbers as a callee is told of them
both : (y z : ℤ) → nat_abs y ≤ 268435456 → nat_abs z ≤ 268435456 → (nat_abs (to_z w32 (of_z w32 y)) ≤ 268435456) × (nat_abs (to_z w32 (of_z w32 z)) ≤ 268435456)
both y z h k = (still y 268435456 h (omega arith), still z 268435456 k (omega arith))

pub first-upper-requires : goal.first-upper-requires
first-upper-requires c = let a = c.args in
    let g = c.requires in
    both a.a a.c (omega (arith, g.0)) (omega (arith, g.2))

pub second-lower-requires : goal.second-lower-requires
second-lower-requires c = let a = c.args in
    let g = c.requires in
    both a.a a.c (omega (arith, g.0)) (omega (arith, g.2))

pub first-over-requires : goal.first-over-requires
first-over-requires c = let a = c.args in
    let g = c.requires in
    both a.b a.d (omega (arith, g.1)) (omega (arith, g.3))

pub second-under-requires : goal.second-under-requires
second-under-requires c = let a = c.args in
    let g = c.requires in
    both a.b a.d (omega (arith, g.1)) (omega (arith, g.3))

pub first-requires : goal.first-requires
first-requires c =
    let columns : let a = c.args in Columns a.a a.b a.c a.d c.first-upper.result c.second-lower.result c.first-over.result c.second-under.result = let a = c.args in let g = c.requires in let e = bare first c.first-upper.result a.a a.c (omega (arith, g.0)) (omega (arith, g.2)) c.first-upper.ensures in let f = bare second c.second-lower.result a.a a.c (omega (arith, g.0)) (omega (arith, g.2)) c.second-lower.ensures in let h = bare first c.first-over.result a.b a.d (omega (arith, g.1)) (omega (arith, g.3)) c.first-over.ensures in let k = bare second c.second-under.result a.b a.d (omega (arith, g.1)) (omega (arith, g.3)) c.second-under.ensures in record { up = e; lo = f; ov = h; un = k; up_size = subst (λ (z : ℤ). nat_abs z ≤ 268435456) (sym e) (omega (arith, first_size a.a a.c, g.0, g.2)); lo_size = subst (λ (z : ℤ). nat_abs z ≤ 268435456) (sym f) (omega (arith, second_size a.a a.c, g.0, g.2)); ov_size = subst (λ (z : ℤ). nat_abs z ≤ 268435456) (sym h) (omega (arith, first_size a.b a.d, g.1, g.3)); un_size = subst (λ (z : ℤ). nat_abs z ≤ 268435456) (sym k) (omega (arith, second_size a.b a.d, g.1, g.3)) } in
    both c.first-upper.result c.first-over.result (columns).up_size (columns).ov_size

pub second-requires : goal.second-requires
second-requires c =
    let columns : let a = c.args in Columns a.a a.b a.c a.d c.first-upper.result c.second-lower.result c.first-over.result c.second-under.result = let a = c.args in let g = c.requires in let e = bare first c.first-upper.result a.a a.c (omega (arith, g.0)) (omega (arith, g.2)) c.first-upper.ensures in let f = bare second c.second-lower.result a.a a.c (omega (arith, g.0)) (omega (arith, g.2)) c.second-lower.ensures in let h = bare first c.first-over.result a.b a.d (omega (arith, g.1)) (omega (arith, g.3)) c.first-over.ensures in let k = bare second c.second-under.result a.b a.d (omega (arith, g.1)) (omega (arith, g.3)) c.second-under.ensures in record { up = e; lo = f; ov = h; un = k; up_size = subst (λ (z : ℤ). nat_abs z ≤ 268435456) (sym e) (omega (arith, first_size a.a a.c, g.0, g.2)); lo_size = subst (λ (z : ℤ). nat_abs z ≤ 268435456) (sym f) (omega (arith, second_size a.a a.c, g.0, g.2)); ov_size = subst (λ (z : ℤ). nat_abs z ≤ 268435456) (sym h) (omega (arith, first_size a.b a.d, g.1, g.3)); un_size = subst (λ (z : ℤ). nat_abs z ≤ 268435456) (sym k) (omega (arith, second_size a.b a.d, g.1, g.3)) } in
    both c.first-upper.result c.first-over.result (columns).up_size (columns).ov_size

pub first-requires-2 : goal.first-requires-2
first-requires-2 c =
    let columns : let a = c.args in Columns a.a a.b a.c a.d c.first-upper.result c.second-lower.result c.first-over.result c.second-under.result = let a = c.args in let g = c.requires in let e = bare first c.first-upper.result a.a a.c (omega (arith, g.0)) (omega (arith, g.2)) c.first-upper.ensures in let f = bare second c.second-lower.result a.a a.c (omega (arith, g.0)) (omega (arith, g.2)) c.second-lower.ensures in let h = bare first c.first-over.result a.b a.d (omega (arith, g.1)) (omega (arith, g.3)) c.first-over.ensures in let k = bare second c.second-under.result a.b a.d (omega (arith, g.1)) (omega (arith, g.3)) c.second-under.ensures in record { up = e; lo = f; ov = h; un = k; up_size = subst (λ (z : ℤ). nat_abs z ≤ 268435456) (sym e) (omega (arith, first_size a.a a.c, g.0, g.2)); lo_size = subst (λ (z : ℤ). nat_abs z ≤ 268435456) (sym f) (omega (arith, second_size a.a a.c, g.0, g.2)); ov_size = subst (λ (z : ℤ). nat_abs z ≤ 268435456) (sym h) (omega (arith, first_size a.b a.d, g.1, g.3)); un_size = subst (λ (z : ℤ). nat_abs z ≤ 268435456) (sym k) (omega (arith, second_size a.b a.d, g.1, g.3)) } in
    both c.second-lower.result c.second-under.result (columns).lo_size (columns).un_size

pub second-requires-2 : goal.second-requires-2
second-requires-2 c =
    let columns : let a = c.args in Columns a.a a.b a.c a.d c.first-upper.result c.second-lower.result c.first-over.result c.second-under.result = let a = c.args in let g = c.requires in let e = bare first c.first-upper.result a.a a.c (omega (arith, g.0)) (omega (arith, g.2)) c.first-upper.ensures in let f = bare second c.second-lower.result a.a a.c (omega (arith, g.0)) (omega (arith, g.2)) c.second-lower.ensures in let h = bare first c.first-over.result a.b a.d (omega (arith, g.1)) (omega (arith, g.3)) c.first-over.ensures in let k = bare second c.second-under.result a.b a.d (omega (arith, g.1)) (omega (arith, g.3)) c.second-under.ensures in record { up = e; lo = f; ov = h; un = k; up_size = subst (λ (z : ℤ). nat_abs z ≤ 268435456) (sym e) (omega (arith, first_size a.a a.c, g.0, g.2)); lo_size = subst (λ (z : ℤ). nat_abs z ≤ 268435456) (sym f) (omega (arith, second_size a.a a.c, g.0, g.2)); ov_size = subst (λ (z : ℤ). nat_abs z ≤ 268435456) (sym h) (omega (arith, first_size a.b a.d, g.1, g.3)); un_size = subst (λ (z : ℤ). nat_abs z ≤ 268435456) (sym k) (omega (arith, second_size a.b a.d, g.1, g.3)) } in
    both c.second-lower.result c.second-under.result (columns).lo_size (columns).un_size

pub returns : goal.returns
unfolding joined
returns c =
    let columns : let a = c.args in Columns a.a a.b a.c a.d c.first-upper.result c.second-lower.result c.first-over.result c.second-under.result = let a = c.args in let g = c.requires in let e = bare first c.first-upper.result a.a a.c (omega (arith, g.0)) (omega (arith, g.2)) c.first-upper.ensures in let f = bare second c.second-lower.result a.a a.c (omega (arith, g.0)) (omega (arith, g.2)) c.second-lower.ensures in let h = bare first c.first-over.result a.b a.d (omega (arith, g.1)) (omega (arith, g.3)) c.first-over.ensures in let k = bare second c.second-under.result a.b a.d (omega (arith, g.1)) (omega (arith, g.3)) c.second-under.ensures in record { up = e; lo = f; ov = h; un = k; up_size = subst (λ (z : ℤ). nat_abs z ≤ 268435456) (sym e) (omega (arith, first_size a.a a.c, g.0, g.2)); lo_size = subst (λ (z : ℤ). nat_abs z ≤ 268435456) (sym f) (omega (arith, second_size a.a a.c, g.0, g.2)); ov_size = subst (λ (z : ℤ). nat_abs z ≤ 268435456) (sym h) (omega (arith, first_size a.b a.d, g.1, g.3)); un_size = subst (λ (z : ℤ). nat_abs z ≤ 268435456) (sym k) (omega (arith, second_size a.b a.d, g.1, g.3)) } in
    let a = c.args in
    let g = c.requires in
    let w = columns in
    let up = first a.a a.c in let lo = second a.a a.c in let ov = first a.b a.d in let un = second a.b a.d in
    let us = first_size a.a a.c in let ls = second_size a.a a.c in let os = first_size a.b a.d in let ns = second_size a.b a.d in
    let e = told first c.first.result c.first-upper.result c.first-over.result up ov w.up_size w.ov_size c.first.ensures w.up w.ov (omega (arith, first_size up ov, us, os, g.0, g.1, g.2, g.3)) in
    let f = told second c.second.result c.first-upper.result c.first-over.result up ov w.up_size w.ov_size c.second.ensures w.up w.ov (omega (arith, second_size up ov, us, os, g.0, g.1, g.2, g.3)) in
    let h = told first c.first-2.result c.second-lower.result c.second-under.result lo un w.lo_size w.un_size c.first-2.ensures w.lo w.un (omega (arith, first_size lo un, ls, ns, g.0, g.1, g.2, g.3)) in
    let k = told second c.second-2.result c.second-lower.result c.second-under.result lo un w.lo_size w.un_size c.second-2.ensures w.lo w.un (omega (arith, second_size lo un, ls, ns, g.0, g.1, g.2, g.3)) in
    rw (e, f, h, k)
