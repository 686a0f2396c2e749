use mathlib.Core.Path.{◌≡◌, refl, ◌∙◌}
use Prim.Native.Nat.{◌+◌, ◌^◌, ◌≤◌}
use native.Mathlib.Nat.{pow-le-pow_right}
use native.Mathlib.Omega.{arith}
use lib.ListN.{length}
use Rattle.sizes.specs.Tables.{table}
use Rattle.sizes.proofs.Laws.{four_up}
use Rattle.places.specs.Order.{rasterly}
use Rattle.places.proofs.Laws.{rasterly_length, linear_below}
use Rattle.places.proofs.Fours.{linear_four, raster_more}
use Rattle.places.proofs.fill_raster.Goals as goal

pub loop-p-init : goal.loop-p-init
unfolding table
loop-p-init c = (refl, omega arith, refl)

pub overflow_cast-p : goal.overflow_cast-p
overflow_cast-p c = omega (arith, pow-le-pow_right {n = 4} (omega arith) {i = c.args.n} {j = 16} c.requires.1)

pub interleave-q-requires : goal.interleave-q-requires
interleave-q-requires c = (c.spread_table-entries.ensures, c.requires.1, omega arith)

-- the four places lie within both arrays
pub copy_four-requires : goal.copy_four-requires
copy_four-requires c = let a = c.args in
    let p = c.requires in
    let l = c.loop-p in
    (omega (arith, linear_four a.n l.p 3 p.0 l.invariant.0 (omega arith), linear_below a.n (l.p + 3), c.interleave-q.ensures), omega (arith, four_up a.n (omega (arith, p.0))))

pub loop-p-preserved : goal.loop-p-preserved
loop-p-preserved c = let a = c.args in
    let l = c.loop-p in
    let room : l.p + 4 ≤ length a.from.now = omega (arith, four_up a.n (omega (arith, c.requires.0))) in
    (omega arith, room, c.copy_four.ensures ∙ raster_more a.n l.p c.interleave-q.result.0 a.from.now a.to.now l.to l.invariant.0 (omega arith) c.requires.0 c.interleave-q.ensures l.invariant.2)

pub returns : goal.returns
unfolding rasterly
returns c = let a = c.args in
    let l = c.loop-p in
    let e : l.p ≡ 4 ^ a.n = omega arith in
    rw (rasterly_length a.n a.from.now, ← e) l.invariant.2

-- after the last four
pub returns-2 : goal.returns-2
unfolding rasterly
returns-2 c = let a = c.args in
    let l = c.loop-p in
    let room : l.p + 4 ≤ length a.from.now = omega (arith, four_up a.n (omega (arith, c.requires.0))) in
    let e : l.p + 4 ≡ 4 ^ a.n = omega arith in
    rw (rasterly_length a.n a.from.now, ← e)
    (c.copy_four.ensures ∙ raster_more a.n l.p c.interleave-q.result.0 a.from.now a.to.now l.to l.invariant.0 (omega arith) c.requires.0 c.interleave-q.ensures l.invariant.2)
