use mathlib.Core.Path.{◌≡◌, sym, ◌∙◌, ap, subst}
use mathlib.Core.List.{List}
use Prim.Native.Nat.{◌≤◌}
use native.Mathlib.Omega.{arith}
use lib.IntN.{ℤ}
use lib.Signed.{mag}
use lib.ListN.{length}
use Rattle.places.specs.Order.{linearly}
use Rattle.places.proofs.Laws.{linearly_length}
use Rattle.coef.specs.Coef.{at}
use Rattle.transform.proofs.Outside.{all_samples}
use Rattle.transform.proofs.Ends.{in_linear, linear_samples, coefficients_from, zeros_of}
use Rattle.transform.proofs.transform.Goals as goal

pub levels_down-requires : goal.levels_down-requires
levels_down-requires c =
    let filled : c.reorder_to_linear.new.to ≡ linearly c.args.n c.args.samples.now = let a = c.args in let p = c.requires in let k = c.reorder_to_linear in in_linear a.n a.samples.now a.work.now k.new.to k.result p.0 p.2 p.4 k.ensures.0 k.ensures.1 in
    let p = c.requires in
    let w = filled in
    let A = c.args.samples.now in
    (p.0, p.1, ap length w ∙ linearly_length c.args.n A, p.3, λ i. subst (λ (l : List ℤ). mag (at l i) ≤ 32767) (sym w) (linear_samples c.args.n A (all_samples A p.5) i))

pub returns : goal.returns
returns c =
    let filled : c.reorder_to_linear.new.to ≡ linearly c.args.n c.args.samples.now = let a = c.args in let p = c.requires in let k = c.reorder_to_linear in in_linear a.n a.samples.now a.work.now k.new.to k.result p.0 p.2 p.4 k.ensures.0 k.ensures.1 in
    let a = c.args in
    let p = c.requires in
    let w = filled in
    let z = (c.fill.ensures.after (λ y e. e)) in
    record { result = coefficients_from a.n a.l a.samples.now c.reorder_to_linear.new.to c.levels_down.new.out p.1 w c.levels_down.ensures; cleared = zeros_of a.n (length c.levels_down.new.work) c.fill.new.self (omega arith) z }
