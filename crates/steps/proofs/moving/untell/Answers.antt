use mathlib.Core.Path.{◌≡◌, ap, ◌∙◌}
use native.Mathlib.Omega.{arith}
use Rattle.sizes.specs.Sizes.{all_of}
use Rattle.moves.specs.Stands.{state_of}
use Rattle.steps.specs.Moved.{asked_in, unheard, noted}
use Rattle.steps.specs.declared.Asked.{Asked}
use Rattle.steps.proofs.RecordLaws.{range_sizes}
use Rattle.steps.proofs.moving.untell.Goals as goal

pub unhear-requires : goal.unhear-requires
unhear-requires c = omega (arith, c.requires.1.planes, (range_sizes c.args.dial c.requires.0.range).2)

pub overflow_cast-at : goal.overflow_cast-at
overflow_cast-at c = record { fits = omega (arith, c.requires.1.planes, (range_sizes c.args.dial c.requires.0.range).2) }

pub note-requires : goal.note-requires
note-requires c = let z = range_sizes c.args.dial c.requires.0.range in
    (c.requires.0.precisions_size, z.0, z.1)

pub returns : goal.returns
returns c = let a = c.args in
    let what : c.asked-what.result ≡ asked_in (all_of a.dial.n) (state_of a.at a.marks.now) = c.asked-what.ensures ∙ rw c.requires.0.marks_size in
    record { values_after = c.unhear.ensures ∙ ap (λ (w : Asked). unheard w a.at.place a.at.left a.values.now) what; precisions_after = c.note.ensures ∙ ap (λ (w : Asked). noted a.dial.n a.dial.l w a.at.place a.at.left a.bit a.precisions.now) what }
