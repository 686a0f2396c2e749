use mathlib.Core.Path.{◌≡◌, refl, sym, ◌∙◌}
use Prim.Native.Nat.{◌+◌, ◌*◌, ◌≤◌}
use native.Mathlib.Omega.{arith}
use Rattle.sizes.specs.Sizes.{most_n, all_of, coarsest_of, most_planes}
use Rattle.nls.proofs.Worst.{worst_none, worst_some}
use Rattle.room.proofs.Laws.{parts_near}
use Rattle.room.proofs.worst_of.Goals as goal
use Rattle.room.proofs.worst_of.Goals.{After-coarsest_of-coarsest}

-- the sizes, the coarsest band and the product that the casts and sums stay below
near : (c : After-coarsest_of-coarsest) →
    (c.all_of-all.result ≤ all_of most_n) × (4 * c.coarsest_of-coarsest.result ≤ c.all_of-all.result)
    × (c.all_of-all.result * (c.args.p + 1) ≤ all_of most_n * (most_planes + 1))
near c =
    let a = c.args in
    let p = c.requires in
    parts_near a.n a.l a.p c.all_of-all.result c.coarsest_of-coarsest.result (c.all_of-all.ensures ∙ rw p.0) (c.coarsest_of-coarsest.ensures ∙ rw (p.0, p.1)) p.0 p.1 p.2

pub returns-then-p-eq0 : goal.returns-then-p-eq0
returns-then-p-eq0 c = sym (worst_none c.args.n c.args.l c.args.p c.if-p-eq0.true)

pub overflow_cast-all : goal.overflow_cast-all
overflow_cast-all c =
    let all_so : c.all_of-all.result ≡ all_of c.args.n = c.all_of-all.ensures ∙ rw c.requires.0 in
    let a = c.args in
    let p = c.requires in
    record { fits = omega (arith, (parts_near a.n a.l a.p c.all_of-all.result (coarsest_of a.n a.l) (all_so) refl p.0 p.1 p.2).0) }

pub overflow_cast-coarsest : goal.overflow_cast-coarsest
overflow_cast-coarsest c = record { fits = omega (arith, (near (goal.at.overflow_cast-coarsest c).After-coarsest_of-coarsest).0, (near (goal.at.overflow_cast-coarsest c).After-coarsest_of-coarsest).1) }

pub overflow_mul-result : goal.overflow_mul-result
overflow_mul-result c = record { fits = omega (arith, (near (goal.at.overflow_mul-result c).After-coarsest_of-coarsest).2) }

pub overflow_sub-result : goal.overflow_sub-result
overflow_sub-result c = omega (arith, (near (goal.at.overflow_sub-result c).After-coarsest_of-coarsest).1)

pub overflow_add-result-2 : goal.overflow_add-result-2
overflow_add-result-2 c = record { fits = omega (arith, (near (goal.at.overflow_add-result-2 c).After-coarsest_of-coarsest).0, (near (goal.at.overflow_add-result-2 c).After-coarsest_of-coarsest).2) }

pub overflow_mul-result-2 : goal.overflow_mul-result-2
overflow_mul-result-2 c = record { fits = omega (arith, (near (goal.at.overflow_mul-result-2 c).After-coarsest_of-coarsest).0, (near (goal.at.overflow_mul-result-2 c).After-coarsest_of-coarsest).1) }

pub overflow_sub-result-2 : goal.overflow_sub-result-2
overflow_sub-result-2 c = (near (goal.at.overflow_sub-result-2 c).After-coarsest_of-coarsest).1

pub overflow_add-result-3 : goal.overflow_add-result-3
overflow_add-result-3 c = record { fits = omega (arith, (near (goal.at.overflow_add-result-3 c).After-coarsest_of-coarsest).0, (near (goal.at.overflow_add-result-3 c).After-coarsest_of-coarsest).2) }

pub returns : goal.returns
returns c =
    let all_so : c.all_of-all.result ≡ all_of c.args.n = c.all_of-all.ensures ∙ rw c.requires.0 in
    let coarsest_so : c.coarsest_of-coarsest.result ≡ coarsest_of c.args.n c.args.l = c.coarsest_of-coarsest.ensures ∙ rw (c.requires.0, c.requires.1) in
    let a = c.args in
    rw (all_so, coarsest_so) (sym (worst_some a.n a.l a.p (omega (arith, c.if-p-eq0.false))))
