use Rattle.steps.proofs.ValueLaws.{unheard_sign, unheard_more, unheard_other, unheard_past}
use Rattle.steps.proofs.tables.unhear.Goals as goal

pub returns-in-Sign : goal.returns-in-Sign
returns-in-Sign c = unheard_sign c.args.values.now c.args.place c.args.what c.args.left c.in-Sign.is

pub returns-in-More : goal.returns-in-More
returns-in-More c = unheard_more c.args.values.now c.args.place c.args.what c.args.left _ c.in-More.is c.coarser.ensures (record { sfits = c.old-1.given }) (record { sfits = c.coarser.type_inv })

pub returns-in_default : goal.returns-in_default
returns-in_default c = unheard_other c.args.values.now c.args.place c.args.left c.args.what c.in_default.not-Sign c.in_default.not-More

pub returns-else-place-values : goal.returns-else-place-values
returns-else-place-values c = unheard_past c.args.values.now c.args.place c.args.left c.args.what c.if-place-values.false
