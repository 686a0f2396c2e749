use Rattle.decoder.proofs.body.decode.Goals as goal

-- the rule named is `lower`
pub returns : goal.returns
returns c = c.decode_by.ensures
