use Rattle.steps.proofs.ValueLaws.{heard_sign, heard_more, heard_other, heard_past}
use Rattle.steps.proofs.tables.hear.Goals as goal

pub returns-in-Sign : goal.returns-in-Sign
returns-in-Sign c = heard_sign c.args.values.now c.args.place c.args.what c.args.b c.args.bit _ c.in-Sign.is c.found.ensures (record { sfits = c.found.type_inv })

pub returns-in-More : goal.returns-in-More
returns-in-More c = heard_more c.args.values.now c.args.place c.args.what c.args.b c.args.bit _ c.in-More.is c.finer.ensures (record { sfits = c.old-1.given }) (record { sfits = c.finer.type_inv })

pub returns-in_default : goal.returns-in_default
returns-in_default c = heard_other c.args.values.now c.args.place c.args.b c.args.bit c.args.what c.in_default.not-Sign c.in_default.not-More

pub returns-else-place-values : goal.returns-else-place-values
returns-else-place-values c = heard_past c.args.values.now c.args.place c.args.b c.args.bit c.args.what c.if-place-values.false
