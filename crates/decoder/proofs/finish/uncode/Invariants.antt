use mathlib.Core.Path.{◌≡◌}
use mathlib.Core.List.{◌++◌}
use lib.ListN.{get_or, drop}
use Rattle.sizes.specs.Tables.{table}
use Rattle.coef.specs.Coef.{at}
use Rattle.nls.specs.Reading.{value_by}
use Rattle.decoder.specs.Finishing.{plain_of}
use Rattle.decoder.specs.Rules.{rule_of}
use Rattle.decoder.proofs.finish.uncode.Given as goal

abbrev pub invariant-loop-i : goal.invariant-loop-i
invariant-loop-i l = l.values ≡ table l.i (λ k. value_by (rule_of l.rule) (get_or l.precisions k 0) (plain_of (at l.initial.values k))) ++ drop l.i l.initial.values
