use mathlib.Core.Path.{refl}
use mathlib.Core.Bool.{true, false}
use native.Mathlib.Omega.{arith}
use Rattle.marking.proofs.Laws.{split_desc_so}
use Rattle.encoder.proofs.SiblingSteps.{found_few, sent_ready, test_ready, no_desc, split_desc}
use Rattle.encoder.proofs.siblings.test_desc.Goals as goal

pub bounds-sent-x : goal.bounds-sent-x
bounds-sent-x c = let a = c.args in found_few a.src.coefs.now a.b a.place 15 _ (omega arith) c.key_of-x.ensures

pub put_entry-t-requires : goal.put_entry-t-requires
put_entry-t-requires c = let t = test_ready _ _ _ _ _ _ _ _ _ c.requires.0 c.requires.3 true _ c.put.ensures in
    let r = sent_ready c.args.src.coefs.now c.args.b c.args.place 15 _ (omega arith) c.key_of-x.ensures _ _ c.requires.1 refl _ t.0 in
    (r.0, r.1, t.2)

pub returns-then-bit_of : goal.returns-then-bit_of
returns-then-bit_of c = rw c.goes.ensures (split_desc _ _ _ _ _ _ _ _ _ _ _ c.requires.0 _ _ _ c.requires.1 c.key_of-x.ensures refl c.requires.3 _ c.put.ensures _ c.bit_of.ensures c.if-bit_of.true _ _ c.put_entry-t.ensures c.requires.5 c.requires.4
    c.split_desc.new.marks (split_desc_so _ _ _ _ c.split_desc.ensures c.requires.0.size c.requires.0.near (omega (arith, c.requires.0.below))) c.split_desc.auto.marks _ c.spread.ensures _ c.set_word.ensures)

pub flushed-t-requires : goal.flushed-t-requires
flushed-t-requires c = let t = test_ready _ _ _ _ _ _ _ _ _ c.requires.0 c.requires.3 false _ c.put-2.ensures in (t.1, t.2)

pub returns : goal.returns
returns c = rw c.goes-2.ensures (no_desc _ _ _ _ _ _ _ _ _ _ _ c.requires.0 c.requires.3 _ _ _ _ c.flushed-t.ensures c.put-2.ensures c.requires.5 c.bit_of.ensures c.if-bit_of.false)
