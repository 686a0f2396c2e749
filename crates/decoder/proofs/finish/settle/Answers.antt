use mathlib.Core.Path.{◌≡◌, refl, sym, ap, subst, ◌∙◌}
use mathlib.Core.Bool.{cond}
use mathlib.Core.List.{List}
use Prim.Native.Nat.{ℕ, ◌+◌, ◌-◌, ◌/◌, ◌≤◌, ◌<◌}
use native.Mathlib.Decide.{dec_lt}
use native.Mathlib.Omega.{arith}
use native.Mathlib.Numerals.{add-one}
use borrow.Rule.Slice.PartMut.{same_len_mid}
use lib.Dec.{ltb}
use borrow.Author.Tests.{lt-ltb, le-ltb}
use lib.ListN.{length, get_or, drop, length-set}
use Rattle.sizes.specs.Tables.{table}
use Rattle.sizes.proofs.Tables.{fill_step, table_front}
use Rattle.nls.specs.Marks.{skip}
use Rattle.nls.proofs.Machine.Run.{skip_pos}
use Rattle.nls.specs.Turns.{down_to, precision_by}
use Rattle.marking.proofs.Laws.{skip_is}
use Rattle.decoder.specs.Finishing.{Stood}
use Rattle.decoder.proofs.FinishLaws.{fill_row, whole}
use Rattle.decoder.proofs.StoodLaws.{Walked, short, left_fits, mark_fits, walked_first, walked_one, walked_row, by_new, by_old, by_head, by_parent, by_row}
use Rattle.decoder.proofs.finish.settle.Goals as goal
use Rattle.decoder.proofs.finish.settle.Goals.{After-row-k}

-- the row's precision: of MNk that of the parent, which is done
row_so : (c : After-row-k) → c.row-k.result ≡ precision_by (length c.args.marks.now) c.args.marks.now c.args.left c.args.stop c.loop-place.place
row_so c = c.row-k.ensures ∙ go (dec_lt 6 mark)
  where
    place : ℕ
    place = c.loop-place.place

    mark : ℕ
    mark = get_or c.args.marks.now c.loop-place.place 0

    s : Stood c.args.marks.now c.args.left c.args.stop
    s = c.requires.2

    some : 1 ≤ c.args.left
    some = c.requires.1

    w : Walked c.args.marks.now c.loop-place.place
    w = c.loop-place.invariant.0

    f : ℕ → ℕ
    f i = precision_by (length c.args.marks.now) c.args.marks.now c.args.left c.args.stop i

    go : Dec (6 < mark) → cond (ltb 6 mark) (get_or c.loop-place.precisions (c.loop-place.place / 4) 0) (down_to c.args.left c.saturating_sub-sets.result c.loop-place.place) ≡ f c.loop-place.place
    go (yes h) =
        let up = by_parent s some place c.loop-place-test.true w h in
        rw (lt-ltb 6 mark h) (ap (λ (x : List ℕ). get_or x (place / 4) 0) c.loop-place.invariant.2 ∙ table_front place f (drop place c.args.precisions.now) (place / 4) 0 up.0 ∙ sym up.1)
    go (no h) =
        rw (le-ltb 6 mark (omega (arith, h)))
        (ap (λ (n : ℕ). down_to c.args.left n c.loop-place.place) c.saturating_sub-sets.ensures ∙ sym (by_head s some place c.loop-place-test.true w c.if-mark-lt-MD.false (omega (arith, h))))

pub overflow_mul-all : goal.overflow_mul-all
overflow_mul-all c = record { fits = omega (arith, short c.requires.2) }

pub loop-place-init : goal.loop-place-init
loop-place-init c = (walked_first c.requires.2 c.requires.1, refl, unfold table in refl)

pub down_to-k-requires : goal.down_to-k-requires
down_to-k-requires c = (c.requires.1, left_fits c.requires.2)

pub loop-place-preserved-then-mark-lt-MSP : goal.loop-place-preserved-then-mark-lt-MSP
loop-place-preserved-then-mark-lt-MSP c = let a = c.args in
    let l = c.loop-place in
    let s = c.requires.2 in
    let some = c.requires.1 in
    let h = c.loop-place-test.true in
    let k = c.down_to-k.ensures ∙ sym (by_new s some l.place h l.invariant.0 (omega (arith, c.if-mark-lt-MSP.true))) in (
      walked_one s some l.place h l.invariant.0 (omega (arith, c.if-mark-lt-MSP.true)),
      length-set l.precisions l.place _ ∙ l.invariant.1,
      rw (l.invariant.2, add-one l.place) (fill_step l.place (λ i. precision_by (length a.marks.now) a.marks.now a.left a.stop i) a.precisions.now c.down_to-k.result (omega (arith, h, c.requires.0)) k),
    )

pub down_to-k-requires-then-mark-lt-MD : goal.down_to-k-requires-then-mark-lt-MD
down_to-k-requires-then-mark-lt-MD c = (c.requires.1, left_fits c.requires.2)

pub loop-place-preserved-then-mark-lt-MD : goal.loop-place-preserved-then-mark-lt-MD
loop-place-preserved-then-mark-lt-MD c = let a = c.args in
    let l = c.loop-place in
    let s = c.requires.2 in
    let some = c.requires.1 in
    let h = c.loop-place-test.true in
    let k = c.down_to-k-then-mark-lt-MD.ensures ∙ ap (λ (n : ℕ). down_to a.left n l.place) c.saturating_sub-refined.ensures ∙ sym (by_old s some l.place h l.invariant.0 c.if-mark-lt-MSP.false (omega (arith, c.if-mark-lt-MD.true))) in (
      walked_one s some l.place h l.invariant.0 (omega (arith, c.if-mark-lt-MD.true)),
      length-set l.precisions l.place _ ∙ l.invariant.1,
      rw (l.invariant.2, add-one l.place) (fill_step l.place (λ i. precision_by (length a.marks.now) a.marks.now a.left a.stop i) a.precisions.now c.down_to-k-then-mark-lt-MD.result (omega (arith, h, c.requires.0)) k),
    )

pub overflow_add-end : goal.overflow_add-end
overflow_add-end c =
    let skip_so : c.skip.result ≡ skip (get_or c.args.marks.now c.loop-place.place 0) = c.skip.ensures ∙ skip_is (get_or c.args.marks.now c.loop-place.place 0) (mark_fits c.requires.2 c.loop-place.place) in
    let row_end : Walked c.args.marks.now (c.loop-place.place + c.skip.result) = let l = c.loop-place in subst (λ (d : ℕ). Walked c.args.marks.now (l.place + d)) (sym skip_so) (walked_row c.requires.2 c.requires.1 l.place c.loop-place-test.true l.invariant.0 c.if-mark-lt-MD.false) in
    record { fits = omega (arith, row_end.within, short c.requires.2) }

pub row-k-requires : goal.row-k-requires
row-k-requires c = (c.requires.1, left_fits c.requires.2, omega (arith, c.loop-place-test.true, c.loop-place.invariant.1, c.requires.0))

pub slice_bounds-fill-end : goal.slice_bounds-fill-end
slice_bounds-fill-end c =
    let skip_so : c.skip.result ≡ skip (get_or c.args.marks.now c.loop-place.place 0) = c.skip.ensures ∙ skip_is (get_or c.args.marks.now c.loop-place.place 0) (mark_fits c.requires.2 c.loop-place.place) in
    let row_end : Walked c.args.marks.now (c.loop-place.place + c.skip.result) = let l = c.loop-place in subst (λ (d : ℕ). Walked c.args.marks.now (l.place + d)) (sym skip_so) (walked_row c.requires.2 c.requires.1 l.place c.loop-place-test.true l.invariant.0 c.if-mark-lt-MD.false) in
    omega (arith, row_end.within, c.loop-place.invariant.1, c.requires.0)

pub loop-place-smaller : goal.loop-place-smaller
loop-place-smaller c =
    let skip_so : c.skip.result ≡ skip (get_or c.args.marks.now c.loop-place.place 0) = c.skip.ensures ∙ skip_is (get_or c.args.marks.now c.loop-place.place 0) (mark_fits c.requires.2 c.loop-place.place) in
    omega (arith, c.loop-place-test.true, skip_so, skip_pos (get_or c.args.marks.now c.loop-place.place 0))

pub loop-place-preserved : goal.loop-place-preserved
loop-place-preserved c =
    let skip_so : c.skip.result ≡ skip (get_or c.args.marks.now c.loop-place.place 0) = c.skip.ensures ∙ skip_is (get_or c.args.marks.now c.loop-place.place 0) (mark_fits c.requires.2 c.loop-place.place) in
    let row_end : Walked c.args.marks.now (c.loop-place.place + c.skip.result) = let l = c.loop-place in subst (λ (d : ℕ). Walked c.args.marks.now (l.place + d)) (sym skip_so) (walked_row c.requires.2 c.requires.1 l.place c.loop-place-test.true l.invariant.0 c.if-mark-lt-MD.false) in
    let a = c.args in
    let l = c.loop-place in
    let e = l.place + c.skip.result in
    let within : e ≤ length l.precisions = omega (arith, row_end.within, l.invariant.1, c.requires.0) in (
      row_end,
      same_len_mid l.place (e - l.place) l.precisions c.fill.new.self c.fill.auto.self ∙ l.invariant.1,
      fill_row l.place e (λ i. precision_by (length a.marks.now) a.marks.now a.left a.stop i) a.precisions.now l.precisions c.fill.new.self c.row-k.result (omega arith) within l.invariant.2
          (c.fill.ensures.after (λ y e. e)) (λ d k. by_row c.requires.2 c.requires.1 l.place c.loop-place-test.true l.invariant.0 c.if-mark-lt-MD.false d (omega (arith, k, skip_so)) ∙ sym (row_so (goal.at.loop-place-preserved c).After-row-k)),
    )

pub returns : goal.returns
returns c = let a = c.args in
    let l = c.loop-place in
    let e : l.place ≡ length a.marks.now = omega (arith, l.invariant.0.within, c.loop-place-test.false) in
    l.invariant.2 ∙ rw e (whole (length a.marks.now) _ a.precisions.now c.requires.0)
