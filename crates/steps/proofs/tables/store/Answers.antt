use mathlib.Core.Path.{sym}
use lib.Seq.{set_out}
use Rattle.steps.proofs.tables.store.Goals as goal

pub returns-else-place-precisions : goal.returns-else-place-precisions
returns-else-place-precisions c = sym (set_out _ _ _ c.if-place-precisions.false)
