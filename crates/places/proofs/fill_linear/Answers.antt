use mathlib.Core.Path.{◌≡◌, refl, ◌∙◌}
use Prim.Native.Nat.{◌+◌, ◌^◌, ◌≤◌}
use native.Mathlib.Nat.{pow-le-pow_right}
use native.Mathlib.Omega.{arith}
use lib.ListN.{length}
use Rattle.sizes.specs.Tables.{table}
use Rattle.sizes.proofs.Laws.{four_up}
use Rattle.places.specs.Order.{linearly}
use Rattle.places.proofs.Laws.{linearly_length, raster_below}
use Rattle.places.proofs.Fours.{raster_four, linear_more}
use Rattle.places.proofs.fill_linear.Goals as goal

pub side_of-side-requires : goal.side_of-side-requires
side_of-side-requires c = c.requires.1

pub loop-q-init : goal.loop-q-init
unfolding table
loop-q-init c = (refl, omega arith, refl)

pub overflow_cast-q : goal.overflow_cast-q
overflow_cast-q c = omega (arith, pow-le-pow_right {n = 4} (omega arith) {i = c.args.n} {j = 16} c.requires.1)

pub separate-p-requires : goal.separate-p-requires
separate-p-requires c = (c.gather_table-entries.ensures, c.requires.1, omega arith)

-- the four places lie within both arrays
pub copy_four-requires : goal.copy_four-requires
copy_four-requires c = let a = c.args in
    let p = c.requires in
    let l = c.loop-q in
    (omega (arith, c.side_of-side.ensures, raster_four a.n l.q 3 (omega (arith, p.0)) l.invariant.0 (omega arith), raster_below a.n (l.q + 3), c.separate-p.ensures), omega (arith, four_up a.n (omega (arith, p.0))))

pub loop-q-preserved : goal.loop-q-preserved
loop-q-preserved c = let a = c.args in
    let l = c.loop-q in
    let room : l.q + 4 ≤ length a.from.now = omega (arith, four_up a.n (omega (arith, c.requires.0))) in
    (omega arith, room, c.copy_four.ensures ∙ linear_more a.n l.q c.separate-p.result.0 a.from.now a.to.now l.to l.invariant.0 (omega arith) c.side_of-side.result (omega (arith, c.requires.0)) c.side_of-side.ensures c.separate-p.ensures l.invariant.2)

pub returns : goal.returns
unfolding linearly
returns c = let a = c.args in
    let l = c.loop-q in
    let e : l.q ≡ 4 ^ a.n = omega arith in
    rw (linearly_length a.n a.from.now, ← e) l.invariant.2

-- after the last four
pub returns-2 : goal.returns-2
unfolding linearly
returns-2 c = let a = c.args in
    let l = c.loop-q in
    let room : l.q + 4 ≤ length a.from.now = omega (arith, four_up a.n (omega (arith, c.requires.0))) in
    let e : l.q + 4 ≡ 4 ^ a.n = omega arith in
    rw (linearly_length a.n a.from.now, ← e)
    (c.copy_four.ensures ∙ linear_more a.n l.q c.separate-p.result.0 a.from.now a.to.now l.to l.invariant.0 (omega arith) c.side_of-side.result (omega (arith, c.requires.0)) c.side_of-side.ensures c.separate-p.ensures l.invariant.2)
