use Rattle.decoder.specs.Ending.{ending}
use Rattle.steps.proofs.RecordLaws.{range_sizes}
use Rattle.steps.proofs.ClimbLaws.{stood_place, arrived}
use Rattle.steps.proofs.moving.arrive.Goals as goal

pub record_of-requires : goal.record_of-requires
record_of-requires c = ((range_sizes c.args.dial c.requires.0).0, c.requires.1.known, stood_place c.args.dial c.requires.0 c.args.at c.requires.1)

pub reached-requires : goal.reached-requires
reached-requires c = (c.requires.1.planes, (range_sizes c.args.dial c.requires.0).2)

pub returns : goal.returns
returns c = let a = c.args in
    arrived a.dial (ending a.declared a.body.now) a.used a.at c.reached.result c.record_of.result c.reached.ensures c.record_of.ensures
