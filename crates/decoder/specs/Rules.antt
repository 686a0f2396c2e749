-- The rules that decoding is asked for by name (document 02, T-07: "Lower reconstruction as the default").
use Rattle.std.specs.Prelude.{ℕ}
use Rattle.nls.specs.Reading.{lower, midpoint}
use Rattle.decoder.specs.declared.rule.Rule.{Rule}
use Rattle.decoder.specs.declared.rule.Rule.TheVariants.{Lower, Midpoint}

-- "m itself", and "midpoint stays by name"
abbrev pub rule_of : Rule → ℕ → ℕ → ℕ
rule_of Lower = lower
rule_of Midpoint = midpoint
