use mathlib.Core.Path.{◌≡◌, sym, subst}
use Prim.Native.Nat.{◌≤◌}
use native.Mathlib.Omega.{arith}
use lib.IntN.{ℤ, nat_abs}
use mir.Syntax.{w32}
use mir.Val.{to_z, of_z}
use lib.Signed.{mag}
use Rattle.transform.specs.Transform.{low, high}
use Rattle.transform.specs.Quads.{apart}
use Rattle.transform.proofs.Range.{size_mag, low_size, high_mag, high_size}
use Rattle.transform.proofs.Held.{still, bare, told}
use Rattle.transform.proofs.blocks.apart.Goals as goal

-- a sample is not too large
near : (z : ℤ) → mag z ≤ 32767 → nat_abs z ≤ 32768
near z h = omega (arith, size_mag z)

-- the four numbers of the rows
record Rows (p q r s upper lower over under : ℤ) : Type 0 where
  up : upper ≡ low p q
  lo : lower ≡ low r s
  ov : over ≡ high p q
  un : under ≡ high r s
  up_size : nat_abs upper ≤ 268435456
  lo_size : nat_abs lower ≤ 268435456
  ov_size : nat_abs over ≤ 268435456
  un_size : nat_abs under ≤ 268435456

-- two numbers as a callee is told of them
both : (y z : ℤ) → nat_abs y ≤ 268435456 → nat_abs z ≤ 268435456 → (nat_abs (to_z w32 (of_z w32 y)) ≤ 268435456) × (nat_abs (to_z w32 (of_z w32 z)) ≤ 268435456)
both y z h k = (still y 268435456 h (omega arith), still z 268435456 k (omega arith))

pub low-upper-requires : goal.low-upper-requires
low-upper-requires c = let a = c.args in
    let g = c.requires in
    both a.p a.q (omega (arith, near a.p g.0)) (omega (arith, near a.q g.1))

pub low-lower-requires : goal.low-lower-requires
low-lower-requires c = let a = c.args in
    let g = c.requires in
    both a.r a.s (omega (arith, near a.r g.2)) (omega (arith, near a.s g.3))

pub high-over-requires : goal.high-over-requires
high-over-requires c = let a = c.args in
    let g = c.requires in
    both a.p a.q (omega (arith, near a.p g.0)) (omega (arith, near a.q g.1))

pub high-under-requires : goal.high-under-requires
high-under-requires c = let a = c.args in
    let g = c.requires in
    both a.r a.s (omega (arith, near a.r g.2)) (omega (arith, near a.s g.3))

pub low-requires : goal.low-requires
low-requires c =
    let rows : let a = c.args in Rows a.p a.q a.r a.s c.low-upper.result c.low-lower.result c.high-over.result c.high-under.result = let a = c.args in let g = c.requires in let p = near a.p g.0 in let q = near a.q g.1 in let r = near a.r g.2 in let s = near a.s g.3 in let e = bare low c.low-upper.result a.p a.q (omega arith) (omega arith) c.low-upper.ensures in let f = bare low c.low-lower.result a.r a.s (omega arith) (omega arith) c.low-lower.ensures in let h = bare high c.high-over.result a.p a.q (omega arith) (omega arith) c.high-over.ensures in let k = bare high c.high-under.result a.r a.s (omega arith) (omega arith) c.high-under.ensures in record { up = e; lo = f; ov = h; un = k; up_size = subst (λ (z : ℤ). nat_abs z ≤ 268435456) (sym e) (omega (arith, low_size a.p a.q 32768 p q)); lo_size = subst (λ (z : ℤ). nat_abs z ≤ 268435456) (sym f) (omega (arith, low_size a.r a.s 32768 r s)); ov_size = subst (λ (z : ℤ). nat_abs z ≤ 268435456) (sym h) (omega (arith, high_mag a.p a.q 32767 g.0 g.1)); un_size = subst (λ (z : ℤ). nat_abs z ≤ 268435456) (sym k) (omega (arith, high_mag a.r a.s 32767 g.2 g.3)) } in
    both c.low-upper.result c.low-lower.result (rows).up_size (rows).lo_size

pub low-requires-2 : goal.low-requires-2
low-requires-2 c =
    let rows : let a = c.args in Rows a.p a.q a.r a.s c.low-upper.result c.low-lower.result c.high-over.result c.high-under.result = let a = c.args in let g = c.requires in let p = near a.p g.0 in let q = near a.q g.1 in let r = near a.r g.2 in let s = near a.s g.3 in let e = bare low c.low-upper.result a.p a.q (omega arith) (omega arith) c.low-upper.ensures in let f = bare low c.low-lower.result a.r a.s (omega arith) (omega arith) c.low-lower.ensures in let h = bare high c.high-over.result a.p a.q (omega arith) (omega arith) c.high-over.ensures in let k = bare high c.high-under.result a.r a.s (omega arith) (omega arith) c.high-under.ensures in record { up = e; lo = f; ov = h; un = k; up_size = subst (λ (z : ℤ). nat_abs z ≤ 268435456) (sym e) (omega (arith, low_size a.p a.q 32768 p q)); lo_size = subst (λ (z : ℤ). nat_abs z ≤ 268435456) (sym f) (omega (arith, low_size a.r a.s 32768 r s)); ov_size = subst (λ (z : ℤ). nat_abs z ≤ 268435456) (sym h) (omega (arith, high_mag a.p a.q 32767 g.0 g.1)); un_size = subst (λ (z : ℤ). nat_abs z ≤ 268435456) (sym k) (omega (arith, high_mag a.r a.s 32767 g.2 g.3)) } in
    both c.high-over.result c.high-under.result (rows).ov_size (rows).un_size

pub high-requires : goal.high-requires
high-requires c =
    let rows : let a = c.args in Rows a.p a.q a.r a.s c.low-upper.result c.low-lower.result c.high-over.result c.high-under.result = let a = c.args in let g = c.requires in let p = near a.p g.0 in let q = near a.q g.1 in let r = near a.r g.2 in let s = near a.s g.3 in let e = bare low c.low-upper.result a.p a.q (omega arith) (omega arith) c.low-upper.ensures in let f = bare low c.low-lower.result a.r a.s (omega arith) (omega arith) c.low-lower.ensures in let h = bare high c.high-over.result a.p a.q (omega arith) (omega arith) c.high-over.ensures in let k = bare high c.high-under.result a.r a.s (omega arith) (omega arith) c.high-under.ensures in record { up = e; lo = f; ov = h; un = k; up_size = subst (λ (z : ℤ). nat_abs z ≤ 268435456) (sym e) (omega (arith, low_size a.p a.q 32768 p q)); lo_size = subst (λ (z : ℤ). nat_abs z ≤ 268435456) (sym f) (omega (arith, low_size a.r a.s 32768 r s)); ov_size = subst (λ (z : ℤ). nat_abs z ≤ 268435456) (sym h) (omega (arith, high_mag a.p a.q 32767 g.0 g.1)); un_size = subst (λ (z : ℤ). nat_abs z ≤ 268435456) (sym k) (omega (arith, high_mag a.r a.s 32767 g.2 g.3)) } in
    both c.low-upper.result c.low-lower.result (rows).up_size (rows).lo_size

pub high-requires-2 : goal.high-requires-2
high-requires-2 c =
    let rows : let a = c.args in Rows a.p a.q a.r a.s c.low-upper.result c.low-lower.result c.high-over.result c.high-under.result = let a = c.args in let g = c.requires in let p = near a.p g.0 in let q = near a.q g.1 in let r = near a.r g.2 in let s = near a.s g.3 in let e = bare low c.low-upper.result a.p a.q (omega arith) (omega arith) c.low-upper.ensures in let f = bare low c.low-lower.result a.r a.s (omega arith) (omega arith) c.low-lower.ensures in let h = bare high c.high-over.result a.p a.q (omega arith) (omega arith) c.high-over.ensures in let k = bare high c.high-under.result a.r a.s (omega arith) (omega arith) c.high-under.ensures in record { up = e; lo = f; ov = h; un = k; up_size = subst (λ (z : ℤ). nat_abs z ≤ 268435456) (sym e) (omega (arith, low_size a.p a.q 32768 p q)); lo_size = subst (λ (z : ℤ). nat_abs z ≤ 268435456) (sym f) (omega (arith, low_size a.r a.s 32768 r s)); ov_size = subst (λ (z : ℤ). nat_abs z ≤ 268435456) (sym h) (omega (arith, high_mag a.p a.q 32767 g.0 g.1)); un_size = subst (λ (z : ℤ). nat_abs z ≤ 268435456) (sym k) (omega (arith, high_mag a.r a.s 32767 g.2 g.3)) } in
    both c.high-over.result c.high-under.result (rows).ov_size (rows).un_size

pub returns : goal.returns
unfolding apart
returns c =
    let rows : let a = c.args in Rows a.p a.q a.r a.s c.low-upper.result c.low-lower.result c.high-over.result c.high-under.result = let a = c.args in let g = c.requires in let p = near a.p g.0 in let q = near a.q g.1 in let r = near a.r g.2 in let s = near a.s g.3 in let e = bare low c.low-upper.result a.p a.q (omega arith) (omega arith) c.low-upper.ensures in let f = bare low c.low-lower.result a.r a.s (omega arith) (omega arith) c.low-lower.ensures in let h = bare high c.high-over.result a.p a.q (omega arith) (omega arith) c.high-over.ensures in let k = bare high c.high-under.result a.r a.s (omega arith) (omega arith) c.high-under.ensures in record { up = e; lo = f; ov = h; un = k; up_size = subst (λ (z : ℤ). nat_abs z ≤ 268435456) (sym e) (omega (arith, low_size a.p a.q 32768 p q)); lo_size = subst (λ (z : ℤ). nat_abs z ≤ 268435456) (sym f) (omega (arith, low_size a.r a.s 32768 r s)); ov_size = subst (λ (z : ℤ). nat_abs z ≤ 268435456) (sym h) (omega (arith, high_mag a.p a.q 32767 g.0 g.1)); un_size = subst (λ (z : ℤ). nat_abs z ≤ 268435456) (sym k) (omega (arith, high_mag a.r a.s 32767 g.2 g.3)) } in
    let a = c.args in
    let g = c.requires in
    let w = rows in
    let p = near a.p g.0 in let q = near a.q g.1 in let r = near a.r g.2 in let s = near a.s g.3 in
    let lp = low_size a.p a.q 32768 p q in let lr = low_size a.r a.s 32768 r s in
    let hp = high_mag a.p a.q 32767 g.0 g.1 in let hr = high_mag a.r a.s 32767 g.2 g.3 in
    let e = told low c.low.result c.low-upper.result c.low-lower.result (low a.p a.q) (low a.r a.s) w.up_size w.lo_size c.low.ensures w.up w.lo (omega (arith, low_size (low a.p a.q) (low a.r a.s) 32768 lp lr)) in
    let f = told low c.low-2.result c.high-over.result c.high-under.result (high a.p a.q) (high a.r a.s) w.ov_size w.un_size c.low-2.ensures w.ov w.un (omega (arith, low_size (high a.p a.q) (high a.r a.s) 65535 hp hr)) in
    let h = told high c.high.result c.low-upper.result c.low-lower.result (low a.p a.q) (low a.r a.s) w.up_size w.lo_size c.high.ensures w.up w.lo (omega (arith, high_size (low a.p a.q) (low a.r a.s), lp, lr)) in
    let k = told high c.high-2.result c.high-over.result c.high-under.result (high a.p a.q) (high a.r a.s) w.ov_size w.un_size c.high-2.ensures w.ov w.un (omega (arith, high_size (high a.p a.q) (high a.r a.s), hp, hr)) in
    rw (e, f, h, k)
