use mathlib.Core.Path.{◌≡◌}
use mathlib.Core.List.{◌++◌}
use Prim.Native.Nat.{◌*◌, ◌^◌}
use lib.ListN.{drop}
use Rattle.figures.specs.Figures.{figures_below}
use Rattle.figures.specs.Tables.{reach_of}
use Rattle.figures.proofs.count_all.Given as goal

abbrev pub invariant-loop-plane : goal.invariant-loop-plane
invariant-loop-plane l = (l.here ≡ reach_of (2 ^ l.plane) l.values l.desc l.grand) × (l.out ≡ figures_below l.n l.l l.values l.plane ++ drop (4 * l.plane) l.initial.out)
