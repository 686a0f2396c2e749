use mathlib.Core.Path.{◌≡◌, refl, ap, ◌∙◌}
use lib.ListN.{length}
use Rattle.std.specs.Prelude.{Ok}
use Rattle.refusals.specs.Checks.{Outcome}
use Rattle.figures.specs.Figures.{figures_of, answered}
use Rattle.show.proofs.Drawn.{figures_checks_lem}
use Rattle.show.proofs.figures_at.Goals as goal
use Rattle.show.proofs.figures_at.Goals.{After-figures_of}

-- the checks hold
done : (c : After-figures_of) → c.figures_of.result ≡ Ok (figures_of c.args.n c.args.l c.args.values.now c.args.plane)
done c =
    let a = c.args in
    let p = c.requires in
    c.figures_of.ensures.answer
    ∙ ap (λ (o : Outcome). answered o (figures_of a.n a.l a.values.now a.plane)) (figures_checks_lem a.n a.l a.values.now p.0 (length a.desc.now) (length a.grand.now) a.plane p.2 p.3 p.1)

pub unwrap-requires : goal.unwrap-requires
unwrap-requires c = rw (done (goal.at.unwrap-requires c).After-figures_of) refl

pub returns : goal.returns
returns c = let e = done (goal.at.returns c).After-figures_of in cc
