use mathlib.Core.Path.{◌≡◌}
use native.Mathlib.Numerals.{add-one}
use native.Mathlib.Omega.{arith}
use borrow.Author.Rules.{get_or_read}
use lib.ListN.{length}
use Rattle.figures.proofs.Tallies.{tally_none, none_most, counted_up, tally_more}
use Rattle.figures.proofs.tally_by.Goals as goal

pub loop-x-init : goal.loop-x-init
loop-x-init g c = record { few = none_most; all = λ d x h. tally_none x }

pub loop-x-preserved : goal.loop-x-preserved
loop-x-preserved g c =
    let l = c.loop-x in
    record {
      few = λ z. rw c.tally_one.ensures (counted_up l.counts _ l.x-index l.invariant.few z);
      all = λ d x h.
          let own : c.size.result ≡ x l.x-index =
          h l.x-index c.size.result c.loop-x-test.true (rw (← get_or_read c.args.entries.now c.loop-x.x-index c.x-item.result c.loop-x-test.true c.x-item.is d) c.size.ensures) in
          rw (add-one l.x-index, c.tally_one.ensures, l.invariant.all d x h, own) (tally_more l.x-index x (omega (arith, own, c.size.type_inv)));
    }

pub returns : goal.returns
returns g c = λ d x h.
    let e : c.loop-x.x-index ≡ length c.args.entries.now = omega (arith, c.loop-x.auto.x-index-end, c.loop-x-test.false) in
    rw (← e) (c.loop-x.invariant.all d x h)
