use mathlib.Core.Path.{ap, ◌∙◌, ◌≡◌}
use Prim.Native.Nat.{ℕ, ◌/◌}
use native.Mathlib.Omega.{arith}
use lib.ListN.{length}
use Rattle.tree.specs.Filling.{children_or, children_table, filled_from}
use Rattle.tree.proofs.Filling.{begun, more}
use Rattle.tree.proofs.fill_last.Goals as goal

pub loop-i-init : goal.loop-i-init
loop-i-init c = let a = c.args in
    (omega arith, begun (length a.coefs.now / 4) (λ k. children_or a.coefs.now k) a.desc.now c.requires)

pub loop-i-preserved : goal.loop-i-preserved
loop-i-preserved c = let a = c.args in
    let l = c.loop-i in
    (omega arith, more (length a.coefs.now / 4) (λ k. children_or a.coefs.now k) a.desc.now c.requires l.i c.children_or.result l.desc (omega arith) (omega arith) l.invariant.1 c.children_or.ensures)

pub returns : goal.returns
returns c = let a = c.args in
    let l = c.loop-i in
    let e : l.i ≡ length a.coefs.now / 16 = omega arith in
    l.invariant.1 ∙ ap (λ (x : ℕ). filled_from x (children_table a.coefs.now) a.desc.now) e
