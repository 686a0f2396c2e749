use Rattle.marking.proofs.open_grand.Goals as goal

pub returns : goal.returns
returns c = cc
