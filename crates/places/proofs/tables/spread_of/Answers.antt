use Prim.Native.Nat.{◌/◌, ◌%◌}
use native.Mathlib.Omega.{arith}
use Rattle.places.proofs.Laws.{spread_parts}
use Rattle.places.proofs.Lookups.{spread_entry, spread_entry_below}
use Rattle.places.proofs.tables.spread_of.Goals as goal

pub overflow_cast-high-2 : goal.overflow_cast-high-2
overflow_cast-high-2 c = omega (arith, spread_entry_below c.args.entries.now (c.args.x / 256) c.requires.0 (omega arith))

pub overflow_cast-low-2 : goal.overflow_cast-low-2
overflow_cast-low-2 c = omega (arith, spread_entry_below c.args.entries.now (c.args.x % 256) c.requires.0 (omega arith))

pub overflow_mul-result : goal.overflow_mul-result
overflow_mul-result c = omega (arith, spread_entry_below c.args.entries.now (c.args.x / 256) c.requires.0 (omega arith))

pub overflow_add-result : goal.overflow_add-result
overflow_add-result c = let t = c.args.entries.now in
    let x = c.args.x in
    let e = c.requires.0 in
    omega (arith, spread_entry_below t (x / 256) e (omega arith), spread_entry_below t (x % 256) e (omega arith))

pub returns : goal.returns
returns c = let t = c.args.entries.now in
    let x = c.args.x in
    let e = c.requires.0 in
    omega (arith, spread_entry t (x / 256) e (omega arith), spread_entry t (x % 256) e (omega arith), spread_parts 8 8 x)
