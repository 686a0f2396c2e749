use native.Mathlib.Omega.{arith}
use mathlib.Core.Path.{◌∙◌}
use lib.ListN.{length}
use Rattle.undo.proofs.Ways.{ends_first, ends_answer, goes_on, runs_on}
use Rattle.undo.proofs.way_back.Goals as goal

pub returns-in-Nothing : goal.returns-in-Nothing
returns-in-Nothing c = let i = c.loop-next.invariant in
    rw c.at.ensures (ends_first (length c.args.marks.now) _ _ _ c.loop-next.last _ _ _ _ i.0 c.prior.ensures _ i.4 c.in-Nothing.is i.2)

pub run_back-place-requires : goal.run_back-place-requires
run_back-place-requires c = let i = c.loop-next.invariant in
    let g = goes_on (length c.args.marks.now) _ _ _ c.loop-next.last _ _ _ _ i.0 c.prior.ensures _ i.4 c.in-Quiet.next c.in-Quiet.is i.1 i.3 in
    (record { near = omega arith; whole = omega arith; wide = omega arith; roots = omega arith; within = omega arith }, omega arith, omega arith, g.2)

pub loop-next-smaller : goal.loop-next-smaller
loop-next-smaller c = let i = c.loop-next.invariant in
    rw c.at-last.ensures (runs_on (length c.args.marks.now) _ _ _ c.loop-next.last _ _ _ _ i.0 c.prior.ensures _ i.4 c.in-Quiet.next c.in-Quiet.is i.1 i.3 _ _ _ (c.prior.auto.marks ∙ i.0) c.run_back-place.ensures).0

pub loop-next-preserved : goal.loop-next-preserved
loop-next-preserved c = let i = c.loop-next.invariant in
    let g = runs_on (length c.args.marks.now) _ _ _ c.loop-next.last _ _ _ _ i.0 c.prior.ensures _ i.4 c.in-Quiet.next c.in-Quiet.is i.1 i.3 _ _ _ (c.prior.auto.marks ∙ i.0) c.run_back-place.ensures in
    rw c.at-last.ensures (c.run_back-place.auto.marks ∙ c.prior.auto.marks ∙ i.0, g.1, g.2, g.3, g.4)

pub returns-in-Answer : goal.returns-in-Answer
returns-in-Answer c = let i = c.loop-next.invariant in
    ends_answer (length c.args.marks.now) _ _ _ c.loop-next.last _ _ _ _ i.0 c.prior.ensures _ i.4 _ c.in-Answer.is
