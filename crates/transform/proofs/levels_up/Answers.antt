use mathlib.Core.Path.{◌≡◌, ◌∙◌, sym, ap, subst}
use Prim.Native.Nat.{ℕ, suc, ◌+◌, ◌*◌, ◌-◌, ◌^◌, ◌≤◌}
use native.Mathlib.Omega.{arith}
use lib.IntN.{ℤ, nat_abs}
use Rattle.sizes.specs.Sizes.{all_of}
use Rattle.sizes.proofs.Laws.{side_most, sized, all_most, both}
use Rattle.coef.specs.Coef.{at}
use Rattle.transform.specs.Quads.{onward, unbands, ups}
use Rattle.transform.proofs.Arrays.{onward_near, onward_far, tabled}
use Rattle.transform.proofs.Range.{level_up, unbands_size}
use Rattle.transform.proofs.Runs.{up_next, ups_next, ups_none, onward_copy, level_most}
use Rattle.transform.proofs.levels_up.Goals as goal

pub copy_head-requires : goal.copy_head-requires
copy_head-requires c = let a = c.args in
    let p = c.requires in
    let e : c.coarsest_of-quarter.result ≡ 4 ^ (a.n - a.l) = c.coarsest_of-quarter.ensures ∙ rw (both p.0 p.1) in
    (omega (arith, level_most a.n a.l), omega (arith, level_most a.n a.l))

pub loop-init : goal.loop-init
loop-init c = let a = c.args in
    let p = c.requires in
    let F = at a.from.now in
    let D = c.coarsest_of-quarter.result in
    let e : D ≡ 4 ^ (a.n - a.l) = c.coarsest_of-quarter.ensures ∙ rw (both p.0 p.1) in
    let w = c.copy_head.ensures in
    let none : a.l - 0 ≡ a.l = omega arith in
    rw none (e, ap (ups a.n a.l) (ap (λ (A : ℕ → ℤ). onward D A F) w ∙ onward_copy D F (at a.work.now)), λ i h. subst (λ (z : ℤ). nat_abs z ≤ 16777215 + 0 * 20971520) (sym (ap (λ (A : ℕ → ℤ). A i) w ∙ onward_near D F (at a.work.now) i h)) (omega (arith, p.4 i)))

pub level_up-requires : goal.level_up-requires
level_up-requires c = let a = c.args in
    let p = c.requires in
    let l = c.loop in
    let z = sized a.n a.l p.1 in
    let n = side_most a.n p.0 in
    let up : (a.l - l.counter) ≡ suc ((a.l - l.counter) - 1) = omega arith in
    let u = level_up a.n ((a.l - l.counter) - 1) (omega (arith, z.most)) in
    let m = level_most a.n ((a.l - l.counter) - 1) in
    let q : 4 ^ (a.n - (a.l - l.counter)) ≡ 4 ^ (a.n - suc ((a.l - l.counter) - 1)) = ap (λ (x : ℕ). 4 ^ (a.n - x)) up in
    (omega (arith, u, m, q), omega (arith, u, m, q), λ i h. omega (arith, l.invariant.2 i h, z.most, n), p.4)

pub overflow_mul-quarter : goal.overflow_mul-quarter
overflow_mul-quarter c = let a = c.args in
    let p = c.requires in
    let l = c.loop in
    record { fits = omega (arith, level_most a.n (a.l - l.counter), all_most a.n (side_most a.n p.0)) }

pub loop-preserved : goal.loop-preserved
loop-preserved c = let a = c.args in
    let p = c.requires in
    let l = c.loop in
    let z = sized a.n a.l p.1 in
    let F = at a.from.now in
    let j = (a.l - l.counter) - 1 in
    let up : (a.l - l.counter) ≡ suc j = omega arith in
    let u = level_up a.n j (omega (arith, z.most)) in
    let q : l.quarter ≡ 4 ^ (a.n - suc j) = l.invariant.0 ∙ ap (λ (x : ℕ). 4 ^ (a.n - x)) up in
    let e = c.level_up.ensures in
    let W = at l.work in
    let W' = at c.level_up.new.work in
    let Y = onward l.quarter W F in
    let s : unbands l.quarter Y ≡ unbands (4 ^ (a.n - suc j)) Y = ap (λ (x : ℕ). unbands x Y) q in
    let r : ups a.n (a.l - l.counter) Y ≡ ups a.n j (unbands l.quarter Y) = ap (λ (x : ℕ). ups a.n x Y) up ∙ ups_next a.n j Y ∙ ap (ups a.n j) (sym s) in
    let next : a.l - (l.counter + 1) ≡ j = omega arith in
    rw next (omega (arith, u, q), ap (ups a.n j) (up_next l.quarter W W' F e) ∙ sym r ∙ l.invariant.1, λ i h. subst (λ (x : ℤ). nat_abs x ≤ 16777215 + (l.counter + 1) * 20971520) (sym (ap (λ (A : ℕ → ℤ). A i) e ∙ onward_near (4 * l.quarter) (unbands l.quarter Y) W i h)) (omega (arith, unbands_size l.quarter (16777215 + l.counter * 20971520) Y (λ k b. subst (λ (x : ℤ). nat_abs x ≤ 16777215 + l.counter * 20971520) (sym (onward_near l.quarter W F k b)) (l.invariant.2 k b)) (λ k b d. subst (λ (x : ℤ). nat_abs x ≤ 16777215) (sym (onward_far l.quarter W F k b)) (p.4 k)) i h)))

pub returns : goal.returns
returns c = let a = c.args in
    let l = c.loop in
    let F = at a.from.now in
    let e : (a.l - l.counter) ≡ 0 = omega arith in
    let q : l.quarter ≡ 4 ^ a.n = l.invariant.0 ∙ ap (λ (x : ℕ). 4 ^ x) {x = a.n - (a.l - l.counter)} {y = a.n} (omega arith) in
    let Y = onward l.quarter (at l.work) F in
    let r : Y ≡ ups a.n a.l F = sym (ups_none a.n Y) ∙ ap (λ (x : ℕ). ups a.n x Y) (sym e) ∙ l.invariant.1 in
    tabled l.work (all_of a.n) (ups a.n a.l F) (omega arith) (λ i h. sym (onward_near l.quarter (at l.work) F i (omega arith)) ∙ ap (λ (A : ℕ → ℤ). A i) r)
