use Rattle.txp.proofs.decode_midpoint.Goals as goal

-- the rule named is `midpoint`
pub returns : goal.returns
returns c = c.decode_by.ensures
