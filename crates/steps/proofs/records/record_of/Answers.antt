use mathlib.Core.Path.{◌≡◌, ◌∙◌}
use native.Mathlib.Omega.{arith}
use Rattle.sizes.specs.Sizes.{all_of}
use Rattle.sizes.proofs.Laws.{side_most, all_most}
use Rattle.steps.proofs.RecordLaws.{record_end, record_in}
use Rattle.steps.proofs.records.record_of.Goals as goal

pub overflow_cast-result : goal.overflow_cast-result
overflow_cast-result c =
    let all_so : c.all_of.result ≡ all_of c.args.dial.n = c.all_of.ensures ∙ rw c.requires.0 in
    record { fits = omega (arith, all_so, all_most c.args.dial.n (side_most c.args.dial.n c.requires.0)) }

pub returns-then-at-eq0 : goal.returns-then-at-eq0
returns-then-at-eq0 c m =
    let all_so : c.all_of.result ≡ all_of c.args.dial.n = c.all_of.ensures ∙ rw c.requires.0 in
    let a = c.args in
    rw (all_so) (record_end a.dial.n a.dial.l a.dial.p a.used a.at m c.if-at-eq0.true)

pub overflow_cast-result-2 : goal.overflow_cast-result-2
overflow_cast-result-2 c = record { fits = omega (arith, c.requires.2 (omega (arith, c.if-at-eq0.false))) }

pub returns : goal.returns
returns c m = let a = c.args in
    record_in a.dial.n a.dial.l a.dial.p a.used a.at m c.if-at-eq0.false c.requires.1
