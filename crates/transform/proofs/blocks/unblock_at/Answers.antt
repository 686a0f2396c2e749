use mathlib.Core.Path.{◌∙◌}
use Prim.Native.Nat.{◌+◌, ◌*◌}
use native.Mathlib.Omega.{arith}
use Rattle.coef.specs.Coef.{at}
use Rattle.transform.proofs.Held.{still, held}
use Rattle.transform.proofs.blocks.unblock_at.Goals as goal

pub joined-requires : goal.joined-requires
joined-requires c = let a = c.args in
    let p = c.requires in
    let F = a.fine.now in
    let k = a.k in
    let m = a.quarter in
    (still (at a.coarse.now k) 234881024 p.3 (omega arith), still (at F (m + k)) 16777215 (p.4 (m + k)) (omega arith), still (at F (2 * m + k)) 16777215 (p.4 (2 * m + k)) (omega arith), still (at F (3 * m + k)) 16777215 (p.4 (3 * m + k)) (omega arith))

pub returns : goal.returns
returns c = let a = c.args in
    let p = c.requires in
    let F = a.fine.now in
    let k = a.k in
    let m = a.quarter in
    c.joined.ensures ∙ rw (held (at a.coarse.now k) (omega (arith, p.3)), held (at F (m + k)) (omega (arith, p.4 (m + k))), held (at F (2 * m + k)) (omega (arith, p.4 (2 * m + k))), held (at F (3 * m + k)) (omega (arith, p.4 (3 * m + k))))
