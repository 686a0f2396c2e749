use Rattle.marking.proofs.skip.Goals as goal
-- The power for each of 16 marks is tested here over the whole table, once, by computation, for the digits that the code has.
use mathlib.Core.Path.{◌≡◌, refl, sym, ap, ◌∙◌}
use mathlib.Core.List.{List}
use Prim.Native.Nat.{ℕ, ◌*◌, ◌/◌, ◌%◌, ◌^◌, ◌<◌}
use native.Mathlib.Omega.{arith}
use lib.ListN.{get_or}
use Rattle.sizes.specs.Tables.{table}
use Rattle.sizes.proofs.Tables.{table_at}
use Rattle.nls.specs.Marks.{skip}
use Rattle.marking.specs.Marking.{skip_of}
use Rattle.marking.proofs.Laws.{skip_high}

abbrev power : ℕ → ℕ → ℕ
power digits k = 1 * 2 ^ (2 * (digits / 2 ^ (4 * k) % 16)) % 18446744073709551616

power_is : (digits k : ℕ) → k < 16 → table 16 (power digits) ≡ table 16 skip_of → power digits k ≡ skip_of k
power_is digits k h e = sym (table_at 16 (power digits) k 0 h) ∙ ap (λ (l : List ℕ). get_or l k 0) e ∙ table_at 16 skip_of k 0 h

pub returns-then-mark-gt15 : goal.returns-then-mark-gt15
returns-then-mark-gt15 c = sym (skip_high c.args.mark (omega (arith, c.if-mark-gt15.true)))

pub returns : goal.returns
unfolding table skip_of skip
returns c = power_is _ c.args.mark (omega (arith, c.if-mark-gt15.false)) refl
