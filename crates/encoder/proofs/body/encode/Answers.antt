use mathlib.Core.Path.{◌≡◌, refl, sym, ap, subst, ◌∙◌}
use Prim.Native.Nat.{ℕ, ◌-◌, ◌≤◌}
use native.Mathlib.Omega.{arith}
use lib.ListN.{length, take, drop, length-drop}
use lib.Seq.{length-take-le}
use Rattle.std.specs.Prelude.{Ok, Err}
use Rattle.refusals.specs.Checks.{first_failing}
use Rattle.refusals.proofs.Laws.{left_by}
use Rattle.sizes.specs.Sizes.{all_of}
use Rattle.sizes.proofs.Laws.{sized}
use Rattle.bits.specs.Bits.{packed}
use Rattle.bits.proofs.Laws.{packed_length}
use Rattle.coef.specs.Coef.{planes_of}
use Rattle.coef.proofs.Laws.{planes_one, planes_of_lem}
use Rattle.tree.specs.Summaries.{summary_checks}
use Rattle.tree.proofs.Checks.{checks_by}
use Rattle.nls.proofs.Streams.{marks_length}
use Rattle.room.specs.Ready.{EncodeReady}
use Rattle.room.proofs.Laws.{checked_first, checked_then, encode_ready}
use Rattle.encoder.specs.Body.{sent_bits, sent_marks, loan, write_outcome}
use Rattle.encoder.proofs.EncodeLaws.{marks_back, output_back, writes_by}
use Rattle.encoder.proofs.body.encode.Goals as goal
use Rattle.encoder.proofs.body.encode.Goals.{After-check_by, After-check_encode}

-- the first checks are those of the summaries
first_so : (c : After-check_by) → c.check_by.result ≡ first_failing (summary_checks c.args.n c.args.l c.args.coefs.now (length c.args.desc.now) (length c.args.grand.now))
first_so c = let a = c.args in
    c.check_by.ensures ∙ ap first_failing (checks_by a.n a.l a.coefs.now (length a.desc.now) (length a.grand.now) c.planes-planes.ensures)

-- where they hold the rest decide
outcome_so : (c : After-check_encode) → c.check_encode.result ≡ write_outcome c.args.n c.args.l c.args.coefs.now c.args.offset c.args.budget (loan c.args.desc.now c.args.grand.now c.args.marks.now c.args.out.now)
outcome_so c = let a = c.args in
    checked_then a.n a.l a.coefs.now (length a.desc.now) (length a.grand.now) (length a.marks.now) (length a.out.now) a.offset a.budget
    (c.check_by.ensures ∙ ap first_failing (checks_by a.n a.l a.coefs.now (length a.desc.now) (length a.grand.now) c.planes-planes.ensures))
    c.in_ok-check_by.was c.planes-planes.ensures c.check_encode.ensures

-- where all hold
ready : (c : After-check_encode) → c.check_encode.result ≡ Ok tt → EncodeReady c.args.n c.args.l c.args.coefs.now (length c.args.desc.now) (length c.args.grand.now) (length c.args.out.now - c.args.offset) c.args.budget × (all_of c.args.n ≤ length c.args.marks.now) × (c.args.offset ≤ length c.args.out.now)
ready c done = let a = c.args in
    encode_ready a.n a.l a.coefs.now (length a.desc.now) (length a.grand.now) (length a.marks.now) (length a.out.now) a.offset a.budget (sym done ∙ outcome_so c)

pub returns-in_err-check_by : goal.returns-in_err-check_by
returns-in_err-check_by c =
    let a = c.args in
    writes_by a.n a.l a.coefs.now a.offset a.budget (loan a.desc.now a.grand.now a.marks.now a.out.now) (Err c.in_err-check_by.field-0.0)
    (checked_first a.n a.l a.coefs.now (length a.desc.now) (length a.grand.now) (length a.marks.now) (length a.out.now) a.offset a.budget (first_so (goal.at.returns-in_err-check_by c).After-check_by) c.in_err-check_by.field-0.0 c.in_err-check_by.was) (left_by c.from_residual.ensures.1) refl

pub returns-in_err-check_encode : goal.returns-in_err-check_encode
returns-in_err-check_encode c =
    let a = c.args in
    writes_by a.n a.l a.coefs.now a.offset a.budget (loan a.desc.now a.grand.now a.marks.now a.out.now) (Err c.in_err-check_encode.field-0.0)
    (sym c.in_err-check_encode.was ∙ outcome_so (goal.at.returns-in_err-check_encode c).After-check_encode) (left_by c.from_residual-in_err-check_encode.ensures.1) refl

pub slice_bounds-write-end : goal.slice_bounds-write-end
slice_bounds-write-end c =
    let r = ready (goal.at.slice_bounds-write-end c).After-check_encode c.in_ok-check_encode.was in
    let all_so : c.all_of-all.result ≡ all_of c.args.n = c.all_of-all.ensures ∙ rw r.0.side in
    omega (arith, all_so, r.1)

pub slice_bounds-write-end-2 : goal.slice_bounds-write-end-2
slice_bounds-write-end-2 c =
    let r = ready (goal.at.slice_bounds-write-end-2 c).After-check_encode c.in_ok-check_encode.was in
    let all_so : c.all_of-all.result ≡ all_of c.args.n = c.all_of-all.ensures ∙ rw r.0.side in
    sym (length-take-le _ c.args.marks.now (omega (arith, all_so, r.1)))

pub slice_bounds-write-count : goal.slice_bounds-write-count
slice_bounds-write-count c = (ready (goal.at.slice_bounds-write-count c).After-check_encode c.in_ok-check_encode.was).2

pub slice_bounds-write-start : goal.slice_bounds-write-start
slice_bounds-write-start c = (ready (goal.at.slice_bounds-write-start c).After-check_encode c.in_ok-check_encode.was).2

pub write-written-requires : goal.write-written-requires
write-written-requires c =
    let r = ready (goal.at.write-written-requires c).After-check_encode c.in_ok-check_encode.was in
    let a = c.args in
    let all = c.all_of-all.result in
    let all_so : all ≡ all_of a.n = c.all_of-all.ensures ∙ rw r.0.side in
    let e : length (take (length a.out.now - a.offset) (drop a.offset a.out.now)) ≡ length a.out.now - a.offset = length-take-le (length a.out.now - a.offset) (drop a.offset a.out.now) (omega (arith, length-drop a.offset a.out.now)) in (
      subst (λ (x : ℕ). EncodeReady a.n a.l a.coefs.now (length a.desc.now) (length a.grand.now) x a.budget) (sym e) r.0,
      length-take-le all a.marks.now (omega (arith, all_so, r.1)) ∙ all_so,
      planes_one c.planes-planes.ensures (planes_of_lem a.coefs.now),
    )

pub returns : goal.returns
returns c =
    let p = (goal.at.returns c).After-check_encode in
    let r = ready p c.in_ok-check_encode.was in
    let a = c.args in
    let all_so : c.all_of-all.result ≡ all_of a.n = c.all_of-all.ensures ∙ rw r.0.side in
    let w = c.write-written in
    let u = sent_bits a.n a.l a.coefs.now a.budget in
    let marks =
    marks_back c.all_of-all.result (sent_marks a.n a.l a.coefs.now a.budget) w.new.marks a.marks.now w.ensures.marks_after (marks_length a.n a.l (sized a.n a.l r.0.levels) (planes_of a.coefs.now) u ∙ sym all_so) in
    let out = output_back a.offset _ (packed u) w.new.out a.out.now r.2 (sym (packed_length u)) w.ensures.out_after in
    writes_by a.n a.l a.coefs.now a.offset a.budget (loan a.desc.now a.grand.now a.marks.now a.out.now) (Ok tt)
    (sym c.in_ok-check_encode.was ∙ outcome_so p)
    (ap Ok w.ensures.value)
    (λ i. loan (w.ensures.desc_after i) (w.ensures.grand_after i) (marks i) (out i))
