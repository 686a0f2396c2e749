use mathlib.Core.Path.{◌≡◌, sym, ◌∙◌, ap}
use mathlib.Core.List.{◌++◌}
use Prim.Native.Nat.{ℕ, ◌+◌, ◌*◌, ◌-◌, ◌^◌}
use native.Mathlib.Nat.{pow-succ'}
use native.Mathlib.Numerals.{add-one}
use native.Mathlib.Omega.{arith}
use lib.ListN.{drop}
use Rattle.sizes.specs.Sizes.{most_planes}
use Rattle.figures.specs.Figures.{figures_of, figures_below}
use Rattle.figures.specs.Tables.{reach_of}
use Rattle.figures.proofs.Tallies.{first_next, zeros_next, reach_next, reach_within}
use Rattle.figures.proofs.Reached.{sizes_fit, reached, between}
use Rattle.figures.proofs.All.{below_length, below_none, next_plane}
use Rattle.figures.proofs.count_all.Goals as goal

pub least_parts-least-requires : goal.least_parts-least-requires
least_parts-least-requires c = (c.requires.0.side, c.requires.0.levels)

pub tallies_of-requires : goal.tallies_of-requires
tallies_of-requires c = sizes_fit c.args.n c.args.l c.args.values.now c.args.desc.now c.args.grand.now c.requires.0

pub reach_all-requires : goal.reach_all-requires
reach_all-requires c = sizes_fit c.args.n c.args.l c.args.values.now c.args.desc.now c.args.grand.now c.requires.0

pub reach_without-here-requires : goal.reach_without-here-requires
reach_without-here-requires c = let a = c.args in
    rw (c.reach_all.ensures, c.tallies_of.ensures)
    (reach_within a.values.now a.desc.now a.grand.now 0 1 32 first_next (omega arith))

pub loop-plane-init : goal.loop-plane-init
loop-plane-init c = let a = c.args in (
  c.reach_without-here.ensures ∙ rw (c.reach_all.ensures, c.tallies_of.ensures)
      (reach_next a.values.now a.desc.now a.grand.now 0 1 32 first_next (omega arith)),
  below_none a.n a.l a.values.now a.out.now,
)

pub reach_without-above-requires : goal.reach_without-above-requires
reach_without-above-requires c = let a = c.args in
    let l = c.loop-plane in
    rw (l.invariant.0, c.tallies_of.ensures)
    (reach_within a.values.now a.desc.now a.grand.now (2 ^ l.plane) (2 * 2 ^ l.plane) (31 - l.plane) (zeros_next l.plane (omega arith)) (omega arith))

pub figures_between-figures-requires : goal.figures_between-figures-requires
figures_between-figures-requires c =
    let above : let a = c.args in c.reach_without-above.result ≡ reach_of (2 * 2 ^ c.loop-plane.plane) a.values.now a.desc.now a.grand.now = let a = c.args in let l = c.loop-plane in c.reach_without-above.ensures ∙ rw (l.invariant.0, c.tallies_of.ensures) (reach_next a.values.now a.desc.now a.grand.now (2 ^ l.plane) (2 * 2 ^ l.plane) (31 - l.plane) (zeros_next l.plane (omega arith)) (omega arith)) in
    let l = c.loop-plane in
    rw (above, l.invariant.0, c.least_parts-least.ensures)
    (between c.args.n c.args.l c.args.values.now c.args.desc.now c.args.grand.now c.requires.0 l.plane)

pub loop-plane-preserved : goal.loop-plane-preserved
loop-plane-preserved c =
    let above : let a = c.args in c.reach_without-above.result ≡ reach_of (2 * 2 ^ c.loop-plane.plane) a.values.now a.desc.now a.grand.now = let a = c.args in let l = c.loop-plane in c.reach_without-above.ensures ∙ rw (l.invariant.0, c.tallies_of.ensures) (reach_next a.values.now a.desc.now a.grand.now (2 ^ l.plane) (2 * 2 ^ l.plane) (31 - l.plane) (zeros_next l.plane (omega arith)) (omega arith)) in
    let a = c.args in
    let l = c.loop-plane in
    let own : c.figures_between-figures.result ≡ figures_of a.n a.l a.values.now l.plane =
    c.figures_between-figures.ensures
    ∙ rw (above, l.invariant.0, c.least_parts-least.ensures)
    (reached a.n a.l a.values.now a.desc.now a.grand.now c.requires.0 l.plane) in
    let next : 2 * 2 ^ l.plane ≡ 2 ^ (l.plane + 1) = sym (rw (add-one l.plane) (pow-succ' 2 l.plane)) in (
      above ∙ ap (λ (x : ℕ). reach_of x a.values.now a.desc.now a.grand.now) next,
      c.put_numbers.ensures
          ∙ next_plane a.n a.l a.values.now l.plane a.out.now l.out c.figures_between-figures.result own l.invariant.1 (omega (arith, c.requires.1)),
    )

pub returns : goal.returns
returns c = let a = c.args in
    let l = c.loop-plane in
    let e : l.plane ≡ most_planes = omega arith in
    rw (below_length a.n a.l a.values.now most_planes)
    (l.invariant.1 ∙ ap (λ (b : ℕ). figures_below a.n a.l a.values.now b ++ drop (4 * b) a.out.now) e)
