use mathlib.Core.Path.{◌≡◌, sym, ap}
use native.Mathlib.Numerals.{add-one}
use native.Mathlib.Omega.{arith}
use borrow.Author.Rules.{get_or_read}
use lib.Dec.{leb}
use lib.ListN.{length}
use Rattle.bits.specs.Bits.{digit}
use Rattle.bits.proofs.Laws.{digit_le}
use Rattle.figures.proofs.Sums.{sum_none, sum_suc}
use Rattle.figures.proofs.count_by.Goals as goal

pub loop-x-init : goal.loop-x-init
loop-x-init g c = record { few = omega arith; all = λ d x h. sym (sum_none (λ i. digit (leb c.args.level (x i)))) }

pub overflow_add-count : goal.overflow_add-count
overflow_add-count g c = omega (arith, c.loop-x.invariant.few, c.requires.few, digit_le (leb c.args.level c.size.result))

pub loop-x-preserved : goal.loop-x-preserved
loop-x-preserved g c =
    let l = c.loop-x in
    record {
      few = omega (arith, l.invariant.few, digit_le (leb c.args.level c.size.result));
      all = λ d x h.
          let own : c.size.result ≡ x l.x-index =
          h l.x-index c.size.result c.loop-x-test.true (rw (← get_or_read c.args.entries.now c.loop-x.x-index c.x-item.result c.loop-x-test.true c.x-item.is d) c.size.ensures) in
          rw (add-one l.x-index)
          (omega (arith, l.invariant.all d x h, ap (λ r. digit (leb c.args.level r)) own, sum_suc l.x-index (λ i. digit (leb c.args.level (x i)))));
    }

pub returns : goal.returns
returns g c = λ d x h.
    let e : c.loop-x.x-index ≡ length c.args.entries.now = omega (arith, c.loop-x.auto.x-index-end, c.loop-x-test.false) in
    rw (← e) (c.loop-x.invariant.all d x h)
