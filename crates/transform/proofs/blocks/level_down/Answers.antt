use mathlib.Core.Path.{◌≡◌, ◌∙◌, sym, ap, subst}
use Prim.Native.Nat.{ℕ, ◌≤◌}
use native.Mathlib.Omega.{arith}
use native.Mathlib.Numerals.{add-one}
use lib.IntN.{ℤ}
use lib.Signed.{mag}
use Rattle.coef.specs.Coef.{at}
use Rattle.transform.specs.Quads.{onward, bands}
use Rattle.transform.proofs.Arrays.{onward_none, onward_far, filled, filled_none, filled_all, down_step}
use Rattle.transform.proofs.blocks.level_down.Goals as goal

pub loop-k-init : goal.loop-k-init
loop-k-init c = let a = c.args in
    let W = at a.work.now in
    (sym (onward_none (bands a.quarter W) W), sym (filled_none a.quarter (bands a.quarter W) (at a.out.now)))

pub block_at-v-requires : goal.block_at-v-requires
block_at-v-requires c = let a = c.args in
    let l = c.loop-k in
    let W = at a.work.now in
    (omega arith, λ i h g. subst (λ (z : ℤ). mag z ≤ 32767) (sym (ap (λ (A : ℕ → ℤ). A i) l.invariant.0 ∙ onward_far l.k (bands a.quarter W) W i (omega arith))) (c.requires.2 i (omega arith)))

pub loop-k-preserved : goal.loop-k-preserved
loop-k-preserved c = let a = c.args in
    let l = c.loop-k in
    let v = c.block_at-v.result in
    let both = down_step a.quarter l.k (omega arith) l.work l.out (at a.work.now) (at a.out.now) v (omega arith) (omega arith) l.invariant.0 l.invariant.1 c.block_at-v.ensures in
    let e = c.put_bands.ensures.coarse in
    let f = c.put_bands.ensures.fine in
    (rw (e, add-one l.k) both.0, rw (f, add-one l.k) both.1)

pub returns : goal.returns
returns c = let a = c.args in
    let l = c.loop-k in
    let X = bands a.quarter (at a.work.now) in
    let e : l.k ≡ a.quarter = omega arith in
    record { coarse = l.invariant.0 ∙ ap (λ (n : ℕ). onward n X (at a.work.now)) e; fine = l.invariant.1 ∙ ap (λ (n : ℕ). filled a.quarter n n n X (at a.out.now)) e ∙ filled_all a.quarter X (at a.out.now) }
