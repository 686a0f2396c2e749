use mathlib.Core.Path.{◌≡◌, sym}
use mathlib.Core.Bool.{true}
use Prim.Native.Nat.{◌*◌, ◌≤◌, ◌/◌}
use borrow.Author.Tests.{leb-true}
use lib.Dec.{leb}
use lib.ListN.{length}
use lib.Seq.{length-take-le}
use Rattle.std.specs.Prelude.{Ok}
use Rattle.refusals.specs.Checks.{need, first_failing}
use Rattle.refusals.specs.declared.Refusal.TheVariants.{Lent}
use Rattle.sizes.specs.Sizes.{most_planes}
use Rattle.tree.specs.Summaries.{summary_checks}
use Rattle.figures.proofs.Checks.{both_met, desc_is, grand_is, desc_room, grand_room, filled}
use Rattle.figures.proofs.figures_of_all.Goals as goal
use Rattle.figures.proofs.figures_of_all.Goals.{After-summaries}

-- both checks hold
met : (c : After-summaries) → (first_failing (summary_checks c.args.n c.args.l c.args.values.now (length c.args.desc.now) (length c.args.grand.now)) ≡ Ok tt) × (leb (4 * most_planes) (length c.args.out.now) ≡ true)
met c = let a = c.args in
    both_met (summary_checks a.n a.l a.values.now (length a.desc.now) (length a.grand.now)) (need (leb (4 * most_planes) (length a.out.now)) Lent) c.check_more.ensures c.in_ok-check_more.was

-- there is room for both tables
rooms : (c : After-summaries) → (length c.args.values.now / 4 ≤ length c.summaries.new.desc) × (length c.args.values.now / 16 ≤ length c.summaries.new.grand)
rooms c = let a = c.args in
    let e = c.summaries.ensures in
    let m = (met c).0 in
    (desc_room a.n a.l a.values.now a.desc.now a.grand.now m e.answer e.descs e.grands, grand_room a.n a.l a.values.now a.desc.now a.grand.now m e.answer e.descs e.grands)

pub slice_bounds-count_all-end : goal.slice_bounds-count_all-end
slice_bounds-count_all-end c = (rooms (goal.at.slice_bounds-count_all-end c).After-summaries).0

pub slice_bounds-count_all-end-2 : goal.slice_bounds-count_all-end-2
slice_bounds-count_all-end-2 c = sym (length-take-le (length c.args.values.now / 4) c.summaries.new.desc (rooms (goal.at.slice_bounds-count_all-end-2 c).After-summaries).0)

pub slice_bounds-count_all-end-3 : goal.slice_bounds-count_all-end-3
slice_bounds-count_all-end-3 c = (rooms (goal.at.slice_bounds-count_all-end-3 c).After-summaries).1

pub slice_bounds-count_all-end-4 : goal.slice_bounds-count_all-end-4
slice_bounds-count_all-end-4 c = sym (length-take-le (length c.args.values.now / 16) c.summaries.new.grand (rooms (goal.at.slice_bounds-count_all-end-4 c).After-summaries).1)

pub count_all-requires : goal.count_all-requires
count_all-requires c = let a = c.args in
    let e = c.summaries.ensures in
    let m = met (goal.at.count_all-requires c).After-summaries in
    (filled a.n a.l a.values.now a.desc.now a.grand.now m.0 e.answer e.descs e.grands, leb-true (4 * most_planes) (length a.out.now) m.1)

pub returns-clause-descs : goal.returns-clause-descs
returns-clause-descs c = let a = c.args in
    let e = c.summaries.ensures in
    desc_is a.n a.l a.values.now a.desc.now a.grand.now (met (goal.at.returns-clause-descs c).After-summaries).0 e.answer e.descs e.grands

pub returns-clause-grands : goal.returns-clause-grands
returns-clause-grands c = let a = c.args in
    let e = c.summaries.ensures in
    grand_is a.n a.l a.values.now a.desc.now a.grand.now (met (goal.at.returns-clause-grands c).After-summaries).0 e.answer e.descs e.grands
