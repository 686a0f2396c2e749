use Rattle.fours.proofs.threes.Goals as goal
-- Which of the marks are MSP, tested here over all words of four numbers below 4, by computation.
use mathlib.Core.Path.{◌≡◌, refl, ap, ◌∙◌}
use Prim.Native.Nat.{ℕ, ◌/◌, ◌%◌}
use native.Mathlib.Omega.{arith}
use lib.Bits.{bit_and}
use lib.Dec.{eqb}
use Rattle.sizes.specs.Tables.{table}
use Rattle.bits.specs.Bits.{digit}
use Rattle.fours.specs.Words.{word_of}
use Rattle.fours.proofs.Laws.{same_fours, and_threes}

abbrev computed : ℕ → ℕ
computed v = bit_and (bit_and v (v / 2)) 16843009

abbrev meant : ℕ → ℕ → ℕ → ℕ → ℕ
meant a b c d = word_of (digit (eqb a 3)) (digit (eqb b 3)) (digit (eqb c 3)) (digit (eqb d 3))

cases : table 256 (λ e. computed (word_of (e % 4) (e / 4 % 4) (e / 16 % 4) (e / 64 % 4))) ≡ table 256 (λ e. meant (e % 4) (e / 4 % 4) (e / 16 % 4) (e / 64 % 4))
unfolding table
cases = refl

same : (w : ℕ) → computed (bit_and w 50529027) ≡ meant (w % 4) (w / 256 % 4) (w / 65536 % 4) (w / 16777216 % 4)
same w =
    ap computed (and_threes w)
    ∙ same_fours (λ a b c d. computed (word_of a b c d)) meant cases (w % 4) (w / 256 % 4) (w / 65536 % 4) (w / 16777216 % 4) (omega arith) (omega arith) (omega arith) (omega arith)

pub returns : goal.returns
returns c = let w = c.args.w in
    c.gather.ensures (eqb (w % 4) 3) (eqb (w / 256 % 4) 3) (eqb (w / 65536 % 4) 3) (eqb (w / 16777216 % 4) 3) (same w)
