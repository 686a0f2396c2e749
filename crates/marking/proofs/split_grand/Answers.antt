use mathlib.Core.Path.{refl, sym, ◌∙◌}
use Rattle.marking.proofs.Laws.{in_both}
use native.Mathlib.Omega.{arith}
use Rattle.marking.proofs.split_grand.Goals as goal

pub open_grand-requires : goal.open_grand-requires
open_grand-requires c = let b = in_both _ _ (sym c.in_table.ensures ∙ c.if-in_table.true) in (refl, b.0, omega (arith, b.0, b.1))

pub returns-then-in_table : goal.returns-then-in_table
returns-then-in_table c = rw (sym c.in_table.ensures ∙ c.if-in_table.true) c.open_grand.ensures

pub returns-else-in_table : goal.returns-else-in_table
returns-else-in_table c = rw (sym c.in_table.ensures ∙ c.if-in_table.false) refl
