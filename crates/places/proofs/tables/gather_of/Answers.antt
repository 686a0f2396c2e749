use Prim.Native.Nat.{◌/◌, ◌%◌, ◌<◌}
use native.Mathlib.Omega.{arith}
use lib.ListN.{get_or}
use Rattle.places.proofs.Lookups.{gather_entry, gather_entry_below, gathered}
use Rattle.places.proofs.tables.gather_of.Goals as goal

pub overflow_cast-high-2 : goal.overflow_cast-high-2
overflow_cast-high-2 c = omega (arith, gather_entry_below c.args.entries.now (c.args.x / 256) c.requires.0 (omega arith))

pub overflow_cast-low-2 : goal.overflow_cast-low-2
overflow_cast-low-2 c =
    let low_below : get_or c.args.entries.now (c.args.x % 256) 0 < 256 = gather_entry_below c.args.entries.now (c.args.x % 256) c.requires.0 (omega arith) in
    omega (arith, low_below)

pub overflow_mul-result : goal.overflow_mul-result
overflow_mul-result c =
    let high_below : get_or c.args.entries.now (c.args.x / 256) 0 < 256 = gather_entry_below c.args.entries.now (c.args.x / 256) c.requires.0 (omega arith) in
    omega (arith, high_below)

pub overflow_add-result : goal.overflow_add-result
overflow_add-result c =
    let high_below : get_or c.args.entries.now (c.args.x / 256) 0 < 256 = gather_entry_below c.args.entries.now (c.args.x / 256) c.requires.0 (omega arith) in
    let low_below : get_or c.args.entries.now (c.args.x % 256) 0 < 256 = gather_entry_below c.args.entries.now (c.args.x % 256) c.requires.0 (omega arith) in
    omega (arith, high_below, low_below)

pub overflow_mul-result-2 : goal.overflow_mul-result-2
overflow_mul-result-2 c =
    let high_below : get_or c.args.entries.now (c.args.x / 256) 0 < 256 = gather_entry_below c.args.entries.now (c.args.x / 256) c.requires.0 (omega arith) in
    let low_below : get_or c.args.entries.now (c.args.x % 256) 0 < 256 = gather_entry_below c.args.entries.now (c.args.x % 256) c.requires.0 (omega arith) in
    omega (arith, high_below, low_below)

pub overflow_add-result-3 : goal.overflow_add-result-3
overflow_add-result-3 c =
    let high_below : get_or c.args.entries.now (c.args.x / 256) 0 < 256 = gather_entry_below c.args.entries.now (c.args.x / 256) c.requires.0 (omega arith) in
    let low_below : get_or c.args.entries.now (c.args.x % 256) 0 < 256 = gather_entry_below c.args.entries.now (c.args.x % 256) c.requires.0 (omega arith) in
    omega (arith, high_below, low_below)

pub returns : goal.returns
returns c = let t = c.args.entries.now in
    let x = c.args.x in
    let e = c.requires.0 in
    let g = gathered 4 x (get_or t (x / 256) 0) (get_or t (x % 256) 0) (gather_entry t (x / 256) e (omega arith)) (gather_entry t (x % 256) e (omega arith)) in
    rw (g.0, g.1)
