use mathlib.Core.Path.{refl}
use Prim.Native.Nat.{◌+◌}
use native.Mathlib.Omega.{arith}
use borrow.Author.Tests.{le-leb, lt-leb}
use lib.ListN.{length, length-set}
use Rattle.fours.specs.Words.{with_word}
use Rattle.fours.proofs.set_word.Goals as goal

pub returns-then-all-lt4 : goal.returns-then-all-lt4
unfolding with_word
returns-then-all-lt4 c = rw (lt-leb (c.args.place + 4) (length c.args.marks.now) (omega (arith, c.if-all-lt4.true))) refl

pub returns-then-all-place : goal.returns-then-all-place
unfolding with_word
returns-then-all-place c = rw (lt-leb (c.args.place + 4) (length c.args.marks.now) (omega (arith, c.if-all-lt4.false, c.if-all-place.true))) refl

pub bounds-marks-place-2 : goal.bounds-marks-place-2
bounds-marks-place-2 c = simp length-set (omega (arith, c.if-all-lt4.false, c.if-all-place.false))

pub bounds-marks-place-3 : goal.bounds-marks-place-3
bounds-marks-place-3 c = simp length-set (omega (arith, c.if-all-lt4.false, c.if-all-place.false))

pub bounds-marks-place-4 : goal.bounds-marks-place-4
bounds-marks-place-4 c = simp length-set (omega (arith, c.if-all-lt4.false, c.if-all-place.false))

pub returns : goal.returns
unfolding with_word
returns c = rw (le-leb (c.args.place + 4) (length c.args.marks.now) (omega (arith, c.if-all-lt4.false, c.if-all-place.false))) refl
