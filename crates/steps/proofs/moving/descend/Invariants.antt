use Prim.Native.Nat.{◌-◌, ◌≤◌, min}
use Rattle.decoder.specs.{Body.tables, Ending.ending}
use Rattle.steps.specs.Records.{step}
use Rattle.steps.specs.Steps.{usable_bits, steps_of, position_of}
use Rattle.steps.specs.Ready.{back_in}
use Rattle.steps.proofs.DescendLaws.{Descending}
use Rattle.steps.proofs.moving.descend.Given as goal

abbrev pub invariant-loop-used : goal.invariant-loop-used
invariant-loop-used l =
    (min l.to l.dial.used ≤ l.used) × Descending l.dial (ending l.declared l.body) l.body (usable_bits l.declared l.body) l.to (steps_of (back_in (ending l.declared l.body) l.body) (l.dial.used - l.to) (step (position_of (ending l.declared l.body) l.dial) l.dial (tables l.initial.values l.initial.precisions l.initial.marks))) l.used l.at l.values l.precisions l.marks
