use mathlib.Core.Path.{refl}
use lib.ListN.{length, set}
use Rattle.marking.proofs.Laws.{split_desc_so, split_grand_so}
use Rattle.moves.proofs.Tells.{Tells, tells_desc_1, tells_desc_0, tells_grand_1, tells_grand_0, tells_child_1, tells_child_0}
use Rattle.moves.proofs.tell_sets.Goals as goal

pub returns-then-bit : goal.returns-then-bit
returns-then-bit c =
    let a = c.args in
    let t : Tells (length a.marks.now) a.from a.marks.now a.bit a.from c.split_desc.new.marks = tells_desc_1 (length a.marks.now) a.from.left a.from.pass a.from.place a.from.pending a.marks.now a.bit a.from c.split_desc.new.marks c.requires.2 c.requires.3 c.if-mark-eq-MD.true c.if-bit.true refl (split_desc_so (length a.marks.now) a.from.place a.marks.now _ c.split_desc.ensures refl c.requires.1 c.requires.0) in
    record { stand = t.0; marked = t.1 }

pub returns-then-mark-eq-MD : goal.returns-then-mark-eq-MD
returns-then-mark-eq-MD c =
    let a = c.args in
    let t : Tells (length a.marks.now) a.from a.marks.now a.bit c.at.result a.marks.now = tells_desc_0 (length a.marks.now) a.from.left a.from.pass a.from.place a.from.pending a.marks.now a.bit c.at.result a.marks.now c.requires.2 c.requires.3 c.if-mark-eq-MD.true c.if-bit.false c.at.ensures refl in
    record { stand = t.0; marked = t.1 }

pub returns-then-bit-2 : goal.returns-then-bit-2
returns-then-bit-2 c =
    let a = c.args in
    let t : Tells (length a.marks.now) a.from a.marks.now a.bit a.from c.split_grand.new.marks = tells_grand_1 (length a.marks.now) a.from.left a.from.pass a.from.place a.from.pending a.marks.now a.bit a.from c.split_grand.new.marks c.requires.2 c.requires.3 c.if-mark-eq-MD.false c.if-mark-eq-MG.true c.if-bit-2.true refl (split_grand_so (length a.marks.now) a.from.place a.marks.now _ c.split_grand.ensures refl c.requires.1 c.requires.0) in
    record { stand = t.0; marked = t.1 }

pub returns-then-mark-eq-MG : goal.returns-then-mark-eq-MG
returns-then-mark-eq-MG c =
    let a = c.args in
    let t : Tells (length a.marks.now) a.from a.marks.now a.bit c.at-then-mark-eq-MG.result a.marks.now = tells_grand_0 (length a.marks.now) a.from.left a.from.pass a.from.place a.from.pending a.marks.now a.bit c.at-then-mark-eq-MG.result a.marks.now c.requires.2 c.requires.3 c.if-mark-eq-MD.false c.if-mark-eq-MG.true c.if-bit-2.false c.at-then-mark-eq-MG.ensures refl in
    record { stand = t.0; marked = t.1 }

pub returns-then-bit-3 : goal.returns-then-bit-3
returns-then-bit-3 c =
    let a = c.args in
    let t : Tells (length a.marks.now) a.from a.marks.now a.bit c.waiting.result a.marks.now = tells_child_1 (length a.marks.now) a.from.left a.from.pass a.from.place a.from.pending a.marks.now a.bit c.waiting.result a.marks.now c.requires.2 c.requires.3 c.if-mark-eq-MD.false c.if-mark-eq-MG.false c.if-bit-3.true c.waiting.ensures refl in
    record { stand = t.0; marked = t.1 }

pub returns : goal.returns
returns c =
    let a = c.args in
    let t : Tells (length a.marks.now) a.from a.marks.now a.bit c.at-2.result (set a.marks.now a.from.place 1) = tells_child_0 (length a.marks.now) a.from.left a.from.pass a.from.place a.from.pending a.marks.now a.bit c.at-2.result (set a.marks.now a.from.place 1) c.requires.2 c.requires.3 c.if-mark-eq-MD.false c.if-mark-eq-MG.false c.if-bit-3.false c.at-2.ensures refl in
    record { stand = t.0; marked = t.1 }
