use mathlib.Core.Path.{◌≡◌, ap, ◌∙◌}
use Prim.Native.Nat.{ℕ, ◌*◌, ◌/◌, ◌≤◌}
use native.Mathlib.Omega.{arith}
use Rattle.sizes.specs.Sizes.{all_of, coarsest_of, most_n}
use Rattle.sizes.proofs.Laws.{sized, side_most, all_most, coarsest_all}
use Rattle.figures.proofs.least_parts.Goals as goal

pub overflow_mul-result : goal.overflow_mul-result
overflow_mul-result c =
    let coarsest : c.coarsest_of.result ≡ coarsest_of c.args.n c.args.l = c.coarsest_of.ensures ∙ rw (c.requires.0, c.requires.1) in
    let few : c.coarsest_of.result ≤ all_of most_n = let a = c.args in let p = c.requires in omega (arith, coarsest, coarsest_all a.n a.l (sized a.n a.l p.1), all_most a.n (side_most a.n p.0)) in
    omega (arith, few)

pub overflow_cast-result : goal.overflow_cast-result
overflow_cast-result c =
    let coarsest : c.coarsest_of.result ≡ coarsest_of c.args.n c.args.l = c.coarsest_of.ensures ∙ rw (c.requires.0, c.requires.1) in
    let few : c.coarsest_of.result ≤ all_of most_n = let a = c.args in let p = c.requires in omega (arith, coarsest, coarsest_all a.n a.l (sized a.n a.l p.1), all_most a.n (side_most a.n p.0)) in
    omega (arith, few)

pub returns : goal.returns
returns c =
    let coarsest : c.coarsest_of.result ≡ coarsest_of c.args.n c.args.l = c.coarsest_of.ensures ∙ rw (c.requires.0, c.requires.1) in
    ap (λ (x : ℕ). x / 4 * 7) (coarsest)
