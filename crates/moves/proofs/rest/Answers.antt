use mathlib.Core.Path.{ap, ◌∙◌}
use lib.ListN.{length}
use Rattle.moves.specs.Stands.{stand_of}
use Rattle.moves.proofs.Looks.{rests_there}
use Rattle.moves.proofs.rest.Goals as goal

pub returns-clause-stand : goal.returns-clause-stand
returns-clause-stand c =
    let at = c.loop-next in rests_there (length at.marks) at.stand at.marks at.invariant.known c.in_default.ensures.1 ∙ ap stand_of at.invariant.same
