-- Why the bits ended (document 02, T-06: "Say why the bits ended").
use mathlib.Core.{Bool.cond, List.List}
use Rattle.std.specs.Prelude.{ℕ, eqb, Ok, Err}
use Rattle.bits.specs.declared.Why.TheVariants.{Declared, Short}
use Rattle.bits.specs.Bits.{Next}
use Rattle.view.specs.View.{viewed}
use Rattle.decoder.specs.declared.ending.Ending.{Ending}
use Rattle.decoder.specs.declared.ending.Ending.TheVariants.{Whole, Budget, Cut, GoesOn}

-- "declared count reached .. or file short": the word of what the view says of the next bit
abbrev pub word_of : Next → Ending
word_of (Ok x) = GoesOn
word_of (Err Declared) = Budget
word_of (Err Short) = Cut

-- "`whole` means plane 0 ended (or P is 0)": no plane is left. It wins over what the view says.
abbrev pub whole_or : ℕ → Ending → Ending
whole_or left word = cond (eqb left 0) Whole word

-- the word after `used` bits of a body of which `declared` bits are declared, where `left` planes are not finished
unfoldable pub ending : ℕ → List ℕ → ℕ → ℕ → Ending
ending declared body used left = whole_or left (word_of (viewed body used declared))
