use Rattle.fours.proofs.gather.Goals as goal
-- Each word of four bytes of 0 or 1 is tested here, by computation.
use mathlib.Core.Path.{◌≡◌, refl, ap, ◌∙◌}
use Prim.Native.Nat.{ℕ, ◌*◌, ◌/◌, ◌%◌}
use Rattle.sizes.specs.Tables.{table}
use Rattle.bits.specs.Bits.{bit, digit}
use Rattle.fours.specs.Words.{word_of, nibble_of}
use Rattle.fours.proofs.Laws.{same_choices}

abbrev computed : ℕ → ℕ
computed x = x * 16909320 / 16777216 % 16

cases : table 16 (λ e. computed (word_of (digit (bit e 0)) (digit (bit e 1)) (digit (bit e 2)) (digit (bit e 3)))) ≡ table 16 (λ e. nibble_of (bit e 0) (bit e 1) (bit e 2) (bit e 3))
unfolding table bit
cases = refl

pub returns : goal.returns
returns c p q s t e = ap computed e ∙ same_choices (λ p q s t. computed (word_of (digit p) (digit q) (digit s) (digit t))) nibble_of cases p q s t
