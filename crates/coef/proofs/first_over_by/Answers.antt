use mathlib.Core.Path.{◌∙◌}
use borrow.Author.Tests.{le-leb, lt-leb}
use Rattle.sizes.specs.Sizes.{most_planes}
use Rattle.coef.specs.Coef.{over_by}
use Rattle.coef.proofs.first_over_by.Goals as goal

pub returns-then-planes-le-MOST_PLANES : goal.returns-then-planes-le-MOST_PLANES
unfolding over_by
returns-then-planes-le-MOST_PLANES c = rw (le-leb c.args.planes most_planes c.if-planes-le-MOST_PLANES.true)

pub returns : goal.returns
unfolding over_by
returns c = c.first_over.ensures ∙ rw (lt-leb c.args.planes most_planes c.if-planes-le-MOST_PLANES.false)
