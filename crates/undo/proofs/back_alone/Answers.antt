use mathlib.Core.Path.{refl, sym}
use native.Mathlib.Omega.{arith}
use Rattle.sizes.proofs.Laws.{both_left}
use Rattle.undo.proofs.Runs.{hushed_on, alone_four}
use Rattle.undo.proofs.back_alone.Goals as goal

pub loop-at-preserved : goal.loop-at-preserved
loop-at-preserved c = (omega arith, omega arith, λ _. both_left _ _ (sym c.if-old_four.ensures), λ P l big h. hushed_on _ _ P big l (c.loop-at.invariant.3 P l big h) (alone_four _ _ P big l h _ c.loop-at.at refl c.loop-at.invariant.1 (omega arith) (omega arith) c.loop-at.invariant.2 (sym c.if-old_four.ensures)))
