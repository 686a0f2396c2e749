use Rattle.marking.proofs.new_desc.Goals as goal

pub returns : goal.returns
returns c = cc
