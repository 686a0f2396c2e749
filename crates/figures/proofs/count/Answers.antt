use mathlib.Core.Path.{◌∙◌}
use native.Mathlib.Omega.{arith}
use lib.Pow.{pow-lt}
use Rattle.figures.proofs.Reached.{sizes_fit, reached, between}
use Rattle.figures.proofs.count.Goals as goal

pub least_parts-least-requires : goal.least_parts-least-requires
least_parts-least-requires c = (c.requires.0.side, c.requires.0.levels)

pub level_of-level-requires : goal.level_of-level-requires
level_of-level-requires c = c.requires.1

pub reach_of-here-requires : goal.reach_of-here-requires
reach_of-here-requires c = sizes_fit c.args.n c.args.l c.args.values.now c.args.desc.now c.args.grand.now c.requires.0

pub overflow_mul-level : goal.overflow_mul-level
overflow_mul-level c = omega (arith, c.level_of-level.ensures, pow-lt {i = c.args.plane} {j = 24} c.requires.1)

pub reach_of-above-requires : goal.reach_of-above-requires
reach_of-above-requires c = sizes_fit c.args.n c.args.l c.args.values.now c.args.desc.now c.args.grand.now c.requires.0

pub figures_between-requires : goal.figures_between-requires
figures_between-requires c = rw (c.reach_of-above.ensures, c.reach_of-here.ensures, c.level_of-level.ensures, c.least_parts-least.ensures)
    (between c.args.n c.args.l c.args.values.now c.args.desc.now c.args.grand.now c.requires.0 c.args.plane)

pub returns : goal.returns
returns c = c.figures_between.ensures
    ∙ rw (c.reach_of-above.ensures, c.reach_of-here.ensures, c.level_of-level.ensures, c.least_parts-least.ensures)
    (reached c.args.n c.args.l c.args.values.now c.args.desc.now c.args.grand.now c.requires.0 c.args.plane)
