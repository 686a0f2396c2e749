use mathlib.Core.Path.{ap, ◌∙◌}
use native.Mathlib.Omega.{arith}
use Rattle.decoder.specs.Rules.{rule_of}
use Rattle.decoder.specs.declared.rule.Rule.{Rule}
use Rattle.decoder.proofs.RuleLaws.{adds_half}
use Rattle.decoder.proofs.rule.added.Goals as goal

pub returns-in-Lower : goal.returns-in-Lower
returns-in-Lower c m = ap (λ (r : Rule). rule_of r c.args.k m) c.in-Lower.is ∙ omega arith

pub returns-in-Midpoint : goal.returns-in-Midpoint
returns-in-Midpoint c m = ap (λ (r : Rule). rule_of r c.args.k m) c.in-Midpoint.is ∙ adds_half c.args.k c.requires m
