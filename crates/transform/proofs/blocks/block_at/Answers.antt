use mathlib.Core.Path.{◌≡◌, ◌∙◌}
use Prim.Native.Nat.{ℕ, ◌+◌, ◌*◌, ◌<◌, ◌≤◌}
use native.Mathlib.Omega.{arith}
use lib.IntN.{pos}
use mir.Syntax.{w32}
use mir.Val.{to_z, of_z}
use lib.ListN.{get_or}
use Rattle.coef.specs.Coef.{at}
use Rattle.transform.specs.Quads.{block}
use Rattle.coef.proofs.Held.{read_back}
use Rattle.transform.proofs.Held.{still_mag}
use Rattle.transform.proofs.blocks.block_at.Goals as goal

pub apart-requires : goal.apart-requires
apart-requires c = let a = c.args in
    let h = c.requires.1 in
    let A = a.from.now in
    let k = a.k in
    (still_mag (at A (4 * k)) 32767 (h (4 * k) (omega arith) (omega arith)) (omega arith), still_mag (at A (4 * k + 1)) 32767 (h (4 * k + 1) (omega arith) (omega arith)) (omega arith), still_mag (at A (4 * k + 2)) 32767 (h (4 * k + 2) (omega arith) (omega arith)) (omega arith), still_mag (at A (4 * k + 3)) 32767 (h (4 * k + 3) (omega arith) (omega arith)) (omega arith))

pub returns : goal.returns
unfolding block
returns c = let a = c.args in
    let h = c.requires.1 in
    let A = a.from.now in
    let k = a.k in
    let back : (i : ℕ) → i < 4 * k + 4 → 4 * k ≤ i → to_z w32 (of_z w32 (get_or A i (pos 0))) ≡ at A i = λ i l m. read_back (at A i) (omega (arith, h i l m)) in
    c.apart.ensures ∙ rw (back (4 * k) (omega arith) (omega arith), back (4 * k + 1) (omega arith) (omega arith), back (4 * k + 2) (omega arith) (omega arith), back (4 * k + 3) (omega arith) (omega arith))
