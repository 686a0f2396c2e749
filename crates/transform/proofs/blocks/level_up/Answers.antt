use mathlib.Core.Path.{◌≡◌, ◌∙◌, sym, ap, subst}
use Prim.Native.Nat.{ℕ, suc, ◌*◌, ◌-◌, ◌≤◌}
use native.Mathlib.Omega.{arith}
use lib.IntN.{ℤ, nat_abs}
use Rattle.coef.specs.Coef.{at}
use Rattle.transform.specs.Quads.{onward, unbands}
use Rattle.transform.proofs.Arrays.{onward_none, onward_near, onward_back, up_step}
use Rattle.transform.proofs.blocks.level_up.Goals as goal

pub loop-k-init : goal.loop-k-init
loop-k-init c = let a = c.args in
    let W = at a.work.now in
    sym (onward_back (4 * a.quarter) W (unbands a.quarter (onward a.quarter W (at a.from.now))))

pub unblock_at-v-requires : goal.unblock_at-v-requires
unblock_at-v-requires c = let a = c.args in
    let l = c.loop-k in
    let W = at a.work.now in
    let k = l.k - 1 in
    let Z = onward (4 * a.quarter) (unbands a.quarter (onward a.quarter W (at a.from.now))) W in
    (omega arith, omega arith, omega arith, subst (λ (z : ℤ). nat_abs z ≤ 234881024) (sym (ap (λ (A : ℕ → ℤ). A k) l.invariant ∙ onward_near (4 * l.k) W Z k (omega arith))) (c.requires.2 k (omega arith)), c.requires.3)

pub loop-k-preserved : goal.loop-k-preserved
loop-k-preserved c = let a = c.args in
    let l = c.loop-k in
    let k = l.k - 1 in
    let up : l.k ≡ suc k = omega arith in
    let v = c.unblock_at-v.result in
    let e = c.put_block.ensures in
    let W = at a.work.now in
    let Z = onward (4 * a.quarter) (unbands a.quarter (onward a.quarter W (at a.from.now))) W in
    let s = up_step a.quarter k (omega arith) l.work W (at a.from.now) v (omega arith) (l.invariant ∙ ap (λ (n : ℕ). onward (4 * n) W Z) up) c.unblock_at-v.ensures in
    rw e s

pub returns : goal.returns
returns c = let a = c.args in
    let l = c.loop-k in
    let W = at a.work.now in
    let Z = onward (4 * a.quarter) (unbands a.quarter (onward a.quarter W (at a.from.now))) W in
    let e : 4 * l.k ≡ 0 = omega arith in
    l.invariant ∙ ap (λ (n : ℕ). onward n W Z) e ∙ onward_none W Z
