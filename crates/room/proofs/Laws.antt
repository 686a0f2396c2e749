-- The checks of the calls, one way at a time; what they say where all hold; and the numbers that they compare.
use mathlib.Core.Path.{◌≡◌, refl, sym, ap, ◌∙◌}
use mathlib.Core.Bool.{true, false, ◌&&◌}
use mathlib.Core.List.{List, ◌++◌}
use Prim.Native.Nat.{ℕ, ◌+◌, ◌*◌, ◌/◌, ◌%◌, ◌-◌, ◌^◌, ◌≤◌, ◌<◌, min}
use native.Mathlib.Nat.{mul-le-mul}
use native.Mathlib.Decide.{dec_lt}
use native.Mathlib.Omega.{arith}
use borrow.Author.Tests.{eqb-true, leb-true, le-leb, lt-leb}
use lib.Dec.{leb}
use lib.IntN.{ℤ}
use lib.ListN.{length}
use Rattle.std.specs.Prelude.{Ok, Err}
use Rattle.refusals.specs.Checks.{first_failing, Outcome}
use Rattle.refusals.specs.declared.Refusal.{Refusal}
use Rattle.refusals.specs.declared.Refusal.TheVariants.{Side, Levels, Lent, Output, Planes}
use Rattle.refusals.proofs.Laws.{first_then_done, refused_first, then_more, AllHold, passed}
use Rattle.sizes.specs.Sizes.{most_n, all_of, coarsest_of, side_fits, levels_fit, most_planes}
use Rattle.sizes.proofs.Laws.{both_left, both_right, sized, side_most, all_most, coarsest_least, coarsest_all, coarsest_four}
use Rattle.bits.specs.Bits.{bytes_for}
use Rattle.coef.specs.Coef.{first_over, IsPlanes, planes_of}
use Rattle.coef.proofs.Laws.{first_all, planes_one, planes_most, planes_of_lem}
use Rattle.tree.specs.Summaries.{summary_checks}
use Rattle.nls.specs.Stream.{worst_body}
use Rattle.nls.proofs.Worst.{worst_none, worst_some}
use Rattle.room.specs.Ready.{EncodeReady}
use Rattle.room.specs.Room.{worst_checks, worst_answer, most_bits, room_checks, write_checks, room_in, read_checks}

-- ---- the worst body

module _ (N L P : ℕ) where
  pub worst_side : side_fits N ≡ false → Err Side ≡ first_failing (worst_checks N L P)
  unfolding first_failing
  worst_side s = rw s

  module _ (s : side_fits N ≡ true) where
    pub worst_levels : levels_fit N L ≡ false → Err Levels ≡ first_failing (worst_checks N L P)
    unfolding first_failing
    worst_levels l = rw (s, l)

    module _ (l : levels_fit N L ≡ true) where
      pub worst_planes : most_planes < P → Err Planes ≡ first_failing (worst_checks N L P)
      unfolding first_failing
      worst_planes p = rw (s, l, lt-leb P most_planes p)

      pub worst_well : P ≤ most_planes → (Ok tt) ≡ first_failing (worst_checks N L P)
      unfolding first_failing
      worst_well p = rw (s, l, le-leb P most_planes p)

  pub worst_ready : (Ok tt) ≡ first_failing (worst_checks N L P) → (side_fits N ≡ true) × (levels_fit N L ≡ true) × (P ≤ most_planes)
  unfolding AllHold
  worst_ready is =
      let all = passed (worst_checks N L P) (sym is) in (all.0, all.1.0, leb-true P most_planes all.1.1.0)

-- under a budget, for sizes in range
pub most_so : (N L P budget : ℕ) → side_fits N ≡ true → levels_fit N L ≡ true → P ≤ most_planes → most_bits budget (worst_answer N L P (first_failing (worst_checks N L P))) ≡ min budget (worst_body N L P)
most_so N L P budget s l p = sym (ap (λ (o : Outcome). most_bits budget (worst_answer N L P o)) (worst_well N L P s l p))

-- ---- decoding

module _ (N L P values precisions marks : ℕ) where
  pub decode_well : side_fits N ≡ true → levels_fit N L ≡ true → P ≤ most_planes → all_of N ≤ values → all_of N ≤ precisions → all_of N ≤ marks
      → (Ok tt) ≡ first_failing (read_checks N L P values precisions marks)
  unfolding first_failing room_in
  decode_well s l p v k m = rw (s, l, le-leb P most_planes p, le-leb (all_of N) values v, le-leb (all_of N) precisions k, le-leb (all_of N) marks m)

  -- the sizes, and room in all three tables
  pub record DecodeReady : Type 0 where
    pub side : side_fits N ≡ true
    pub levels : levels_fit N L ≡ true
    pub planes : P ≤ most_planes
    pub values_room : all_of N ≤ values
    pub precisions_room : all_of N ≤ precisions
    pub marks_room : all_of N ≤ marks

  pub decode_ready : (Ok tt) ≡ first_failing (read_checks N L P values precisions marks) → DecodeReady
  unfolding AllHold room_in
  decode_ready is =
      let all = passed (read_checks N L P values precisions marks) (sym is) in
      let rooms = all.1.1.1.0 in
      let others = both_right (leb (all_of N) values) (leb (all_of N) precisions && leb (all_of N) marks) rooms in
      record {
        side = all.0;
        levels = all.1.0;
        planes = leb-true P most_planes all.1.1.0;
        values_room = leb-true (all_of N) values (both_left (leb (all_of N) values) (leb (all_of N) precisions && leb (all_of N) marks) rooms);
        precisions_room = leb-true (all_of N) precisions (both_left (leb (all_of N) precisions) (leb (all_of N) marks) others);
        marks_room = leb-true (all_of N) marks (both_right (leb (all_of N) precisions) (leb (all_of N) marks) others);
      }

-- ---- encoding

module _ (N L P marks out offset budget : ℕ) where
  pub no_marks : marks < all_of N → Err Lent ≡ first_failing (room_checks N L P marks out offset budget)
  unfolding first_failing
  no_marks m = rw (lt-leb (all_of N) marks m)

  module _ (m : all_of N ≤ marks) where
    pub no_output : leb (offset + bytes_for (min budget (worst_body N L P))) out ≡ false → Err Output ≡ first_failing (room_checks N L P marks out offset budget)
    unfolding first_failing
    no_output r = rw (le-leb (all_of N) marks m, r)

    pub room_well : leb (offset + bytes_for (min budget (worst_body N L P))) out ≡ true → (Ok tt) ≡ first_failing (room_checks N L P marks out offset budget)
    unfolding first_failing
    room_well r = rw (le-leb (all_of N) marks m, r)

module _ (N L : ℕ) (A : List ℤ) (descs grands marks out offset budget : ℕ) where
  -- the checks of the summaries, then those of a body of the array's planes
  pub checked_first : {r : Outcome} → r ≡ first_failing (summary_checks N L A descs grands) → (why : Refusal) → r ≡ Err why → Err why ≡ first_failing (write_checks N L A descs grands marks out offset budget)
  checked_first is why e = refused_first (summary_checks N L A descs grands) (room_checks N L (planes_of A) marks out offset budget) is why e

  pub checked_then : {r : Outcome} → r ≡ first_failing (summary_checks N L A descs grands) → r ≡ Ok tt → {P : ℕ} → IsPlanes A P
      → {w : Outcome} → w ≡ first_failing (worst_checks N L P ++ room_checks N L P marks out offset budget) → w ≡ first_failing (write_checks N L A descs grands marks out offset budget)
  unfolding AllHold
  checked_then is e {P} p {w} v =
      let all = passed (summary_checks N L A descs grands) (sym is ∙ e) in
      let few = planes_most p (first_all A (eqb-true (first_over A) (length A) all.1.1.1.0)) in
      let room : w ≡ first_failing (room_checks N L P marks out offset budget) = v ∙ first_then_done (worst_checks N L P) (room_checks N L P marks out offset budget) (sym (worst_well N L P all.0 all.1.0 few)) in
      then_more (summary_checks N L A descs grands) (room_checks N L (planes_of A) marks out offset budget) is e
      (room ∙ ap (λ (x : ℕ). first_failing (room_checks N L x marks out offset budget)) (planes_one p (planes_of_lem A)))

  pub encode_ready : (Ok tt) ≡ first_failing (write_checks N L A descs grands marks out offset budget) → EncodeReady N L A descs grands (out - offset) budget × (all_of N ≤ marks) × (offset ≤ out)
  unfolding AllHold
  encode_ready is =
      let all = passed (write_checks N L A descs grands marks out offset budget) (sym is) in
      let rooms = all.1.1.1.1.0 in
      let fits = leb-true (offset + bytes_for (min budget (worst_body N L (planes_of A)))) out all.1.1.1.1.1.1.0 in (
        record {
          side = all.0;
          levels = all.1.0;
          whole = eqb-true (length A) (all_of N) all.1.1.0;
          limited = eqb-true (first_over A) (length A) all.1.1.1.0;
          desc_room = leb-true (all_of N / 4) descs (both_left (leb (all_of N / 4) descs) (leb (all_of N / 16) grands) rooms);
          grand_room = leb-true (all_of N / 16) grands (both_right (leb (all_of N / 4) descs) (leb (all_of N / 16) grands) rooms);
          out_room = omega (arith, fits);
        },
        leb-true (all_of N) marks all.1.1.1.1.1.0,
        omega (arith, fits),
      )

-- ---- the numbers

-- room counted from the offset on
pub room_none : (out offset bytes : ℕ) → out < offset → false ≡ leb (offset + bytes) out
room_none out offset bytes h = sym (lt-leb (offset + bytes) out (omega arith))

pub room_some : (out offset bytes : ℕ) → offset ≤ out → leb bytes (out - offset) ≡ leb (offset + bytes) out
room_some out offset bytes h = tell (dec_lt out (offset + bytes))
  where
    tell : Dec (out < offset + bytes) → leb bytes (out - offset) ≡ leb (offset + bytes) out
    tell (yes k) = lt-leb bytes (out - offset) (omega arith) ∙ sym (lt-leb (offset + bytes) out k)
    tell (no k) = le-leb bytes (out - offset) (omega arith) ∙ sym (le-leb (offset + bytes) out (omega arith))

-- what the start table and the scans ask of the sizes
pub sizes_near : (N L all coarsest : ℕ) → all ≡ all_of N → coarsest ≡ coarsest_of N L → side_fits N ≡ true → levels_fit N L ≡ true
    → (all ≤ all_of most_n) × (4 ≤ coarsest) × (4 * coarsest ≤ all) × (coarsest % 4 ≡ 0)
sizes_near N L all coarsest ea ec s l =
    let z = sized N L l in
    (omega (arith, ea, all_most N (side_most N s)), omega (arith, ec, coarsest_least N L z), omega (arith, ea, ec, coarsest_all N L z), ap (λ (x : ℕ). x % 4) ec ∙ coarsest_four N L z)

-- the parts of the worst body, which the largest N bounds
module _ (N L P : ℕ) where
  pub parts_near : (all coarsest : ℕ) → all ≡ all_of N → coarsest ≡ coarsest_of N L → side_fits N ≡ true → levels_fit N L ≡ true → P ≤ most_planes
      → (all ≤ all_of most_n) × (4 * coarsest ≤ all) × (all * (P + 1) ≤ all_of most_n * (most_planes + 1))
  parts_near all coarsest ea ec s l p =
      let near = sizes_near N L all coarsest ea ec s l in
      let more : P + 1 ≤ most_planes + 1 = omega arith in
      (near.0, near.2, mul-le-mul near.0 more)

  -- no worst body is larger than that of the largest sizes
  pub worst_most : side_fits N ≡ true → levels_fit N L ≡ true → P ≤ most_planes → worst_body N L P ≤ worst_body most_n (most_n - 1) most_planes
  worst_most s l p = tell (dec_lt 0 P)
    where
      tell : Dec (0 < P) → worst_body N L P ≤ worst_body most_n (most_n - 1) most_planes
      tell (yes h) =
          omega (arith, worst_some N L P h, worst_some most_n (most_n - 1) most_planes (omega arith), parts_near (all_of N) (coarsest_of N L) refl refl s l p, coarsest_least N L (sized N L l))
      tell (no h) = omega (arith, worst_none N L P (omega (arith, h)))

-- and that one fits 32 bits
pub worst_32 : worst_body most_n (most_n - 1) most_planes < 2 ^ 32
worst_32 = omega (arith, worst_some most_n (most_n - 1) most_planes (omega arith))
