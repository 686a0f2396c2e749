use mathlib.Core.Path.{◌≡◌, ap, ◌∙◌}
use mathlib.Core.List.{List, [], ◌∷◌, ◌++◌}
use Prim.Native.Nat.{ℕ, ◌+◌, ◌-◌, ◌*◌, ◌<◌, ◌≤◌}
use native.Mathlib.Omega.{arith}
use lib.IntN.{ℤ}
use lib.ListN.{length, length-append}
use Rattle.std.specs.Slice.Iter.{chunks_exact_rest}
use Rattle.show.proofs.Puts.{leaves_none}
use Rattle.show.proofs.Lines.{leaves_chunk, no_rows}
use Rattle.show.proofs.Laws.{rows_left, some_left, none_left}
use Rattle.show.proofs.put_rows.Goals as goal

pub loop-row-preserved : goal.loop-row-preserved
loop-row-preserved c =
    let side = c.args.side in
    let l = c.loop-row in
    let k = length l.yielded in
    let row = c.in-Some.row.now in
    let rest = chunks_exact_rest c.next.new.self in
    let step = c.in-Some.ensures.steps in
    let wide : length row ≡ side = step.1.1 ∙ l.invariant.2 in
    let before : length (chunks_exact_rest l.row-iterator) ≡ length (row ++ rest) = ap {B = ℕ} (λ (s : List ℤ). length s) step.1.0 in
    let numbers : length row + length rest ≡ (side - k) * side = omega (arith, length-append row rest, before, l.invariant.3) in
    let some : 0 < side - k = some_left (side - k) side (length row + length rest) numbers (omega (arith, wide, c.requires.1)) in
    let fewer : side - (k + 1) ≡ side - k - 1 = omega arith in
    let more : length (l.yielded ++ (c.in-Some.row ∷ [])) ≡ k + 1 = omega (arith, length-append l.yielded (c.in-Some.row ∷ [])) in
    rw (more, fewer) (
      omega (arith, step.0, l.invariant.0),
      tt,
      step.0 ∙ l.invariant.2,
      omega (arith, numbers, wide, rows_left (side - k) side some),
      omega (arith, some),
      omega (arith, some, l.invariant.5, c.put_row-end.ensures.1),
      leaves_chunk side k row rest wide some (rw step.1.0 at l.invariant.6) c.put_row-end.ensures.0,
    )

pub returns : goal.returns
returns c =
    let side = c.args.side in
    let l = c.loop-row in
    let k = length l.yielded in
    let none : side - k ≤ 0 = none_left (side - k) side (length (chunks_exact_rest l.row-iterator)) l.invariant.3 (omega (arith, c.in-None.ensures.steps.1.0, l.invariant.2)) in (
      leaves_none (rw (no_rows side (side - k) (chunks_exact_rest l.row-iterator) none) at l.invariant.6),
      omega (arith, l.invariant.5),
    )
