use native.Mathlib.Omega.{arith}
use Rattle.reading.proofs.ReadLaws.{desc_1, desc_2}
use Rattle.reading.proofs.desc_clash.Goals as goal

pub returns-then-coarsest-place : goal.returns-then-coarsest-place
returns-then-coarsest-place c = desc_1 _ _ _ _ _ _ _ c.if-coarsest-place.true c.last_clash.ensures

pub root_clash-requires : goal.root_clash-requires
root_clash-requires c = omega arith

pub returns : goal.returns
returns c = desc_2 _ _ _ _ _ _ _ c.if-coarsest-place.false c.root_clash.ensures
