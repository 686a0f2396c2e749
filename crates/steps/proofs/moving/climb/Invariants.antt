use mathlib.Core.Path.{◌≡◌}
use Prim.Native.Nat.{◌-◌, ◌≤◌, max}
use lib.ListN.{length}
use Rattle.moves.specs.Stands.{state_of}
use Rattle.decoder.specs.{Body.tables, Ending.ending}
use Rattle.steps.specs.Records.{record_of, step}
use Rattle.steps.specs.Moved.{reached}
use Rattle.steps.specs.Steps.{usable_bits, steps_of, position_of}
use Rattle.steps.specs.Ready.{Ready, Stood, forward_in}
use Rattle.steps.proofs.moving.climb.Given as goal

abbrev pub invariant-loop-used : goal.invariant-loop-used
invariant-loop-used l =
    (steps_of (forward_in (ending l.declared l.body) (usable_bits l.declared l.body) l.body) (l.to - l.used) (step (reached (ending l.declared l.body) l.dial.p l.used l.at.left) (record_of l.dial.n l.dial.l l.dial.p l.used (state_of l.at l.marks)) (tables l.values l.precisions l.marks)) ≡ steps_of (forward_in (ending l.declared l.body) (usable_bits l.declared l.body) l.body) (l.to - l.dial.used) (step (position_of (ending l.declared l.body) l.dial) l.dial (tables l.initial.values l.initial.precisions l.initial.marks)))
    × Stood l.dial l.at × Ready l.dial (length l.values) (length l.precisions) (length l.marks) × (l.used ≤ max l.to l.dial.used)
