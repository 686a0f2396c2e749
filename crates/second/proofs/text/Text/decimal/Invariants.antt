use Rattle.std.proofs.Common.{length}
use Rattle.second.proofs.text.Text.decimal.Given as goal

-- what is left of the line
abbrev pub decreases-loop-first : goal.decreases-loop-first
decreases-loop-first l = length l.rest
