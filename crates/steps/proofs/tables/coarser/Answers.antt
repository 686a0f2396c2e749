use Rattle.steps.proofs.ValueLaws.{coarser_fits, coarser_is}
use Rattle.steps.proofs.tables.coarser.Goals as goal

pub overflow_add-size : goal.overflow_add-size
overflow_add-size c = coarser_fits c.args.left c.requires c.args.value c.ranges.value _ c.magnitude.ensures

pub returns : goal.returns
returns c = coarser_is c.args.left c.requires c.args.value c.ranges.value _ c.magnitude.ensures _ c.is_negative.ensures _ (record { sfits = c.value_of.type_inv }) c.value_of.ensures
