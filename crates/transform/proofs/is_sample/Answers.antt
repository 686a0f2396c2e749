use Rattle.std.proofs.Common.{rules}
use Rattle.transform.specs.Answers.{is_sample}
use Rattle.transform.proofs.is_sample.Goals as goal

pub returns : goal.returns
unfolding is_sample
returns c = search rules
