use mathlib.Core.Path.{sym, ap, ◌∙◌}
use lib.Dec.{lit<}
use Rattle.sizes.specs.Sizes.{all_of, coarsest_of}
use Rattle.sizes.proofs.Laws.{sized}
use Rattle.nls.specs.Marks.{start_marks}
use Rattle.nls.specs.Scan.{State, reach}
use Rattle.moves.specs.Stands.{pass_of}
use Rattle.steps.specs.Records.{record_of}
use Rattle.steps.proofs.RecordLaws.{begin_first}
use Rattle.steps.proofs.records.first.Goals as goal

pub record_of-requires : goal.record_of-requires
record_of-requires c = (c.requires.0, lit< tt, λ h. lit< tt)

pub returns : goal.returns
unfolding reach pass_of
returns c = let a = c.args in
    c.record_of.ensures (start_marks (all_of a.n) (coarsest_of a.n a.l))
    ∙ ap (λ (s : State). record_of a.n a.l a.p 0 s) (sym (begin_first a.n a.l a.p (sized a.n a.l c.requires.1)))
