use mathlib.Core.Path.{refl}
use native.Mathlib.Omega.{arith}
use lib.ListN.{length, set}
use Rattle.moves.proofs.Tells.{Tells, tells_sign, tells_pixel_1, tells_pixel_0, tells_refining}
use Rattle.moves.proofs.tell.Goals as goal

pub returns-then-from : goal.returns-then-from
returns-then-from c =
    let a = c.args in
    let t : Tells (length a.marks.now) a.from a.marks.now a.bit c.at.result (set a.marks.now a.from.place 2) = tells_sign (length a.marks.now) a.from.left a.from.pass a.from.place a.from.pending a.marks.now a.bit c.at.result (set a.marks.now a.from.place 2) c.requires.2 c.if-from.true c.at.ensures refl in
    record { stand = t.0; marked = t.1 }

pub returns-in-0 : goal.returns-in-0
returns-in-0 c =
    let a = c.args in
    let t : Tells (length a.marks.now) a.from a.marks.now a.bit c.waiting.result a.marks.now = tells_pixel_1 (length a.marks.now) a.from.left a.from.pass a.from.place a.from.pending a.marks.now a.bit c.waiting.result a.marks.now c.in-0.is c.if-from.false c.if-bit.true c.waiting.ensures refl in
    record { stand = t.0; marked = t.1 }

pub returns-in-0-2 : goal.returns-in-0-2
returns-in-0-2 c =
    let a = c.args in
    let t : Tells (length a.marks.now) a.from a.marks.now a.bit c.at-in-0-2.result a.marks.now = tells_pixel_0 (length a.marks.now) a.from.left a.from.pass a.from.place a.from.pending a.marks.now a.bit c.at-in-0-2.result a.marks.now c.in-0.is c.if-from.false c.if-bit.false c.at-in-0-2.ensures refl in
    record { stand = t.0; marked = t.1 }

pub returns-in_default : goal.returns-in_default
returns-in_default c =
    let a = c.args in
    let t : Tells (length a.marks.now) a.from a.marks.now a.bit c.at-in_default.result a.marks.now = tells_refining (length a.marks.now) a.from.left a.from.pass a.from.place a.from.pending a.marks.now a.bit c.at-in_default.result a.marks.now (λ e. omega (arith, e)) (λ e. omega (arith, e)) c.if-from.false c.at-in_default.ensures refl in
    record { stand = t.0; marked = t.1 }
