use Rattle.fours.proofs.refined.Goals as goal
-- Which of the marks are MNP, tested here over all words of four numbers below 4, by computation.
use mathlib.Core.Path.{◌≡◌, refl, ap, ◌∙◌}
use Prim.Native.Nat.{ℕ, ◌+◌, ◌-◌, ◌/◌, ◌%◌}
use native.Mathlib.Omega.{arith}
use lib.Bits.{bit_and}
use lib.Dec.{eqb}
use Rattle.sizes.specs.Tables.{table}
use Rattle.bits.specs.Bits.{digit}
use Rattle.fours.specs.Words.{word_of}
use Rattle.fours.proofs.Laws.{same_fours, and_threes, refined_lt}

abbrev computed : ℕ → ℕ
computed v = bit_and (bit_and (v / 2) (4294967295 - v)) 16843009

abbrev meant : ℕ → ℕ → ℕ → ℕ → ℕ
meant a b c d = word_of (digit (eqb a 2)) (digit (eqb b 2)) (digit (eqb c 2)) (digit (eqb d 2))

cases : table 256 (λ e. computed (word_of (e % 4) (e / 4 % 4) (e / 16 % 4) (e / 64 % 4))) ≡ table 256 (λ e. meant (e % 4) (e / 4 % 4) (e / 16 % 4) (e / 64 % 4))
unfolding table
cases = refl

same : (w : ℕ) → computed (bit_and w 50529027) ≡ meant (w % 4) (w / 256 % 4) (w / 65536 % 4) (w / 16777216 % 4)
same w =
    ap computed (and_threes w)
    ∙ same_fours (λ a b c d. computed (word_of a b c d)) meant cases (w % 4) (w / 256 % 4) (w / 65536 % 4) (w / 16777216 % 4) (omega arith) (omega arith) (omega arith) (omega arith)

pub overflow_add-result : goal.overflow_add-result
overflow_add-result c = rw (same c.args.w) (omega (arith, refined_lt c.args.w c.ranges.w.fits))

pub returns : goal.returns
returns c = ap (λ (x : ℕ). c.args.w + x) (same c.args.w)
