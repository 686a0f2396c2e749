use mathlib.Core.Path.{ap}
use Rattle.steps.specs.Records.{stays}
use Rattle.steps.specs.declared.Record.{Record}
use Rattle.steps.proofs.RecordLaws.{range_sizes}
use Rattle.steps.proofs.ClimbLaws.{stood_place}
use Rattle.steps.proofs.moving.refuse.Goals as goal

pub record_of-requires : goal.record_of-requires
record_of-requires c = ((range_sizes c.args.dial c.requires.0).0, c.requires.1.known, stood_place c.args.dial c.requires.0 c.args.at c.requires.1)

pub returns : goal.returns
returns c = λ m t. ap (λ (x : Record). stays c.args.why x t) (c.record_of.ensures m)
