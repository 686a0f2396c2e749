use mathlib.Core.Bool.{true, false}
use native.Mathlib.Omega.{arith}
use Rattle.marking.proofs.Laws.{split_grand_so}
use Rattle.encoder.proofs.SiblingSteps.{test_ready, no_grand, split_grand}
use Rattle.encoder.proofs.siblings.test_grand.Goals as goal

pub flushed-t-requires : goal.flushed-t-requires
flushed-t-requires c = let t = test_ready _ _ _ _ _ _ _ _ _ c.requires.0 c.requires.2 true _ c.put.ensures in (t.1, t.2)

pub returns-then-bit_of : goal.returns-then-bit_of
returns-then-bit_of c = rw c.goes.ensures (split_grand _ _ _ _ _ _ _ _ _ _ _ c.requires.0 c.requires.2 _ _ _ _ c.flushed-t.ensures c.put.ensures c.requires.3 c.bit_of.ensures c.if-bit_of.true
    _ (split_grand_so _ _ c.args.marks.now _ c.split_grand.ensures c.requires.0.size c.requires.0.near (omega (arith, c.requires.0.below))))

pub flushed-t-requires-2 : goal.flushed-t-requires-2
flushed-t-requires-2 c = let t = test_ready _ _ _ _ _ _ _ _ _ c.requires.0 c.requires.2 false _ c.put-2.ensures in (t.1, t.2)

pub returns : goal.returns
returns c = rw c.goes-2.ensures (no_grand _ _ _ _ _ _ _ _ _ _ _ c.requires.0 c.requires.2 _ _ _ _ c.flushed-t-2.ensures c.put-2.ensures c.requires.3 c.bit_of.ensures c.if-bit_of.false)
