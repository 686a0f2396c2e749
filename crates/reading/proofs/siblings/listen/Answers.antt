use native.Mathlib.Omega.{arith}
use Rattle.bits.specs.Bits.{bit}
use Rattle.fours.specs.Tables.{in_byte}
use Rattle.fours.proofs.Laws.{parsed_below, heard}
use Rattle.reading.proofs.SiblingLaws.{found_small, minus_small}
use Rattle.reading.proofs.siblings.listen.Goals as goal

pub overflow_add-s : goal.overflow_add-s
overflow_add-s c = omega (arith, parsed_below _ _ c.requires.0 c.requires.3)

pub overflow_cast-s : goal.overflow_cast-s
overflow_cast-s c = omega (arith, parsed_below _ _ c.requires.0 c.requires.3)

pub bounds-lookups-k-2 : goal.bounds-lookups-k-2
bounds-lookups-k-2 c = omega (arith, parsed_below _ _ c.requires.0 c.requires.3)

pub overflow_cast-result-2 : goal.overflow_cast-result-2
overflow_cast-result-2 c = omega (arith, (heard _ _ _ _ c.requires.0 c.requires.1 c.requires.2 c.requires.3).0, found_small (bit c.args.k) (in_byte c.args.byte))

pub overflow_cast-result-3 : goal.overflow_cast-result-3
overflow_cast-result-3 c = omega (arith, (heard _ _ _ _ c.requires.0 c.requires.1 c.requires.2 c.requires.3).1, minus_small (bit c.args.k) (in_byte c.args.byte))

pub returns : goal.returns
returns c = let h = heard _ _ _ _ c.requires.0 c.requires.1 c.requires.2 c.requires.3 in (rw c.count.ensures h.2, h.0, h.1)
