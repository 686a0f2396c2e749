use Rattle.fours.proofs.word_at.Goals as goal
-- Each of the four marks is a byte, as the slice's are, so that the word is below 2^32.
use mathlib.Core.Path.{refl}
use Prim.Native.Nat.{◌+◌}
use native.Mathlib.Omega.{arith}
use borrow.Author.Tests.{le-leb, lt-leb}
use lib.ListN.{length}
use Rattle.fours.specs.Words.{word_at, FourBytes}

pub returns-then-all-lt4 : goal.returns-then-all-lt4
unfolding word_at
returns-then-all-lt4 c = let a = c.args in
    record { value = rw (lt-leb (a.place + 4) (length a.marks.now) (omega (arith, c.if-all-lt4.true))) refl; four_bytes = λ h. absurd (omega (arith, h, c.if-all-lt4.true)) }

pub returns-then-all-place : goal.returns-then-all-place
unfolding word_at
returns-then-all-place c = let a = c.args in
    record { value = rw (lt-leb (a.place + 4) (length a.marks.now) (omega (arith, c.if-all-lt4.false, c.if-all-place.true))) refl; four_bytes = λ h. absurd (omega (arith, h, c.if-all-lt4.false, c.if-all-place.true)) }

pub overflow_cast-a : goal.overflow_cast-a
overflow_cast-a c = omega (arith, c.shared_slice_known-1.given c.args.place)

pub overflow_cast-b : goal.overflow_cast-b
overflow_cast-b c = omega (arith, c.shared_slice_known-2-1.given (c.args.place + 1))

pub overflow_cast-c : goal.overflow_cast-c
overflow_cast-c c = omega (arith, c.shared_slice_known-3-1.given (c.args.place + 2))

pub overflow_cast-d : goal.overflow_cast-d
overflow_cast-d c =
    let bytes : FourBytes c.args.marks.now c.args.place = let i = c.args.place in let g = c.shared_slice_known-4-1.given in record { first = omega (arith, g i); second = omega (arith, g (i + 1)); third = omega (arith, g (i + 2)); fourth = omega (arith, g (i + 3)) } in
    omega (arith, (bytes).fourth)

pub overflow_mul-result : goal.overflow_mul-result
overflow_mul-result c =
    let bytes : FourBytes c.args.marks.now c.args.place = let i = c.args.place in let g = c.shared_slice_known-4-1.given in record { first = omega (arith, g i); second = omega (arith, g (i + 1)); third = omega (arith, g (i + 2)); fourth = omega (arith, g (i + 3)) } in
    omega (arith, (bytes).first, (bytes).second, (bytes).third, (bytes).fourth)

pub overflow_add-result : goal.overflow_add-result
overflow_add-result c =
    let bytes : FourBytes c.args.marks.now c.args.place = let i = c.args.place in let g = c.shared_slice_known-4-1.given in record { first = omega (arith, g i); second = omega (arith, g (i + 1)); third = omega (arith, g (i + 2)); fourth = omega (arith, g (i + 3)) } in
    omega (arith, (bytes).first, (bytes).second, (bytes).third, (bytes).fourth)

pub overflow_mul-result-2 : goal.overflow_mul-result-2
overflow_mul-result-2 c =
    let bytes : FourBytes c.args.marks.now c.args.place = let i = c.args.place in let g = c.shared_slice_known-4-1.given in record { first = omega (arith, g i); second = omega (arith, g (i + 1)); third = omega (arith, g (i + 2)); fourth = omega (arith, g (i + 3)) } in
    omega (arith, (bytes).first, (bytes).second, (bytes).third, (bytes).fourth)

pub overflow_add-result-2 : goal.overflow_add-result-2
overflow_add-result-2 c =
    let bytes : FourBytes c.args.marks.now c.args.place = let i = c.args.place in let g = c.shared_slice_known-4-1.given in record { first = omega (arith, g i); second = omega (arith, g (i + 1)); third = omega (arith, g (i + 2)); fourth = omega (arith, g (i + 3)) } in
    omega (arith, (bytes).first, (bytes).second, (bytes).third, (bytes).fourth)

pub overflow_mul-result-3 : goal.overflow_mul-result-3
overflow_mul-result-3 c =
    let bytes : FourBytes c.args.marks.now c.args.place = let i = c.args.place in let g = c.shared_slice_known-4-1.given in record { first = omega (arith, g i); second = omega (arith, g (i + 1)); third = omega (arith, g (i + 2)); fourth = omega (arith, g (i + 3)) } in
    omega (arith, (bytes).first, (bytes).second, (bytes).third, (bytes).fourth)

pub overflow_add-result-3 : goal.overflow_add-result-3
overflow_add-result-3 c =
    let bytes : FourBytes c.args.marks.now c.args.place = let i = c.args.place in let g = c.shared_slice_known-4-1.given in record { first = omega (arith, g i); second = omega (arith, g (i + 1)); third = omega (arith, g (i + 2)); fourth = omega (arith, g (i + 3)) } in
    omega (arith, (bytes).first, (bytes).second, (bytes).third, (bytes).fourth)

pub returns : goal.returns
unfolding word_at
returns c =
    let bytes : FourBytes c.args.marks.now c.args.place = let i = c.args.place in let g = c.shared_slice_known-4-1.given in record { first = omega (arith, g i); second = omega (arith, g (i + 1)); third = omega (arith, g (i + 2)); fourth = omega (arith, g (i + 3)) } in
    let a = c.args in
    record { value = rw (le-leb (a.place + 4) (length a.marks.now) (omega (arith, c.if-all-lt4.false, c.if-all-place.false))) refl; four_bytes = λ h. bytes }
