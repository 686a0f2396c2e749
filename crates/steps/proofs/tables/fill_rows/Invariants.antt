use Prim.Native.Nat.{◌-◌}
use Rattle.steps.proofs.RowLaws.{Filling}
use Rattle.steps.proofs.tables.fill_rows.Given as goal

abbrev pub invariant-loop-at : goal.invariant-loop-at
invariant-loop-at l = Filling l.first l.size l.plane l.initial.precisions l.at l.wide l.precisions

abbrev pub decreases-loop-at : goal.decreases-loop-at
decreases-loop-at l = l.all - l.at
