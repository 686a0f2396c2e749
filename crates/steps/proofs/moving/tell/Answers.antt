use native.Mathlib.Omega.{arith}
use lib.ListN.{length}
use Rattle.steps.proofs.RecordLaws.{range_sizes}
use Rattle.steps.proofs.ClimbLaws.{stood_planes, told_stand, told_tables}
use Rattle.steps.proofs.moving.tell.Goals as goal

pub hear-requires : goal.hear-requires
hear-requires c = omega (arith, c.requires.2, stood_planes c.args.dial c.requires.0.range c.args.at c.requires.1)

pub overflow_cast-b : goal.overflow_cast-b
overflow_cast-b c = record { fits = omega (arith, stood_planes c.args.dial c.requires.0.range c.args.at c.requires.1) }

pub note-requires : goal.note-requires
note-requires c = let z = range_sizes c.args.dial c.requires.0.range in
    (c.requires.0.precisions_size, z.0, z.1)

pub returns : goal.returns
returns c = let a = c.args in
    let n = length a.marks.now in
    let ready = c.requires.0 in record { stand = told_stand a.dial ready.range a.at c.requires.1 c.requires.2 a.bit n ready.marks_size a.marks.now c.go_on.result c.go_on.ensures.stand; filled = told_tables a.dial ready.range a.at c.requires.1 c.requires.2 a.bit n ready.marks_size a.marks.now _ c.asked-what.result a.values.now _ a.precisions.now _ c.go_on.ensures.marked c.asked-what.ensures c.hear.ensures c.note.ensures }
