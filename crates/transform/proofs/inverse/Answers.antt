use mathlib.Core.Path.{◌≡◌, sym, ◌∙◌}
use mathlib.Core.List.{[], ◌∷◌}
use Prim.Native.Nat.{◌≤◌}
use native.Mathlib.Omega.{arith}
use lib.ListN.{length}
use lib.Seq.{length-take-le}
use Rattle.std.specs.Prelude.{Ok, Err}
use Rattle.refusals.specs.Checks.{first_failing}
use Rattle.refusals.proofs.Laws.{then_more, passed_on, lent_refused}
use Rattle.sizes.specs.Sizes.{all_of}
use Rattle.coef.specs.Coef.{first_over}
use Rattle.transform.specs.Transform.{samples_of}
use Rattle.transform.specs.Answers.{entry_checks, restored_check, restored_of, all_zero}
use Rattle.transform.proofs.Checks.{Ready, entry_ready}
use Rattle.transform.proofs.Ends.{own_first, restored_length, zeros_length}
use Rattle.transform.proofs.inverse.Goals as goal
use Rattle.transform.proofs.inverse.Goals.{After-all_of-all}

-- the checks hold, and so both arrays have room for all
ready : (c : After-all_of-all) → Ready c.args.n c.args.l (length c.args.coefs.now) (length c.args.out.now) (length c.args.work.now) × (first_over c.args.coefs.now ≡ length c.args.coefs.now)
ready c = let a = c.args in
    entry_ready a.n a.l a.coefs.now (length a.out.now) (length a.work.now) c.check_inverse.ensures c.in_ok-check_inverse.was

all_so : (c : After-all_of-all) → c.all_of-all.result ≡ all_of c.args.n
all_so c = c.all_of-all.ensures ∙ rw (ready c).0.side

rooms : (c : After-all_of-all) → (c.all_of-all.result ≤ length c.args.out.now) × (c.all_of-all.result ≤ length c.args.work.now)
rooms c = let r = (ready c).0 in (omega (arith, all_so c, r.out_room), omega (arith, all_so c, r.work_room))

pub slice_bounds-restore-end : goal.slice_bounds-restore-end
slice_bounds-restore-end c = (rooms (goal.at.slice_bounds-restore-end c).After-all_of-all).0

pub slice_bounds-restore-end-2 : goal.slice_bounds-restore-end-2
slice_bounds-restore-end-2 c = sym (length-take-le c.all_of-all.result c.args.out.now (rooms (goal.at.slice_bounds-restore-end-2 c).After-all_of-all).0)

pub slice_bounds-restore-end-3 : goal.slice_bounds-restore-end-3
slice_bounds-restore-end-3 c = (rooms (goal.at.slice_bounds-restore-end-3 c).After-all_of-all).1

pub slice_bounds-restore-end-4 : goal.slice_bounds-restore-end-4
slice_bounds-restore-end-4 c = sym (length-take-le c.all_of-all.result c.args.work.now (rooms (goal.at.slice_bounds-restore-end-4 c).After-all_of-all).1)

pub restore-requires : goal.restore-requires
restore-requires c =
    let p = (goal.at.restore-requires c).After-all_of-all in
    let r = ready p in
    let all = c.all_of-all.result in
    (r.0.side, r.0.levels, r.0.size, length-take-le all c.args.out.now (rooms p).0 ∙ all_so p, length-take-le all c.args.work.now (rooms p).1 ∙ all_so p, r.1)

pub returns : goal.returns
returns c =
    let a = c.args in
    let p = (goal.at.returns c).After-all_of-all in
    let all = c.all_of-all.result in
    let k = c.restore in
    let C = a.coefs.now in
    let checks = entry_checks a.n a.l C (length a.out.now) (length a.work.now) in
    let is = c.check_inverse.ensures in
    let told = c.in_ok-check_inverse.was in
    let done : first_failing checks ≡ Ok tt = sym is ∙ told in
    record {
      answered = then_more checks (restored_check (samples_of a.n a.l C) ∷ []) is told k.ensures.answer;
      filled = own_first a.n all (first_failing checks) done (all_so p) k.new.out (restored_of a.n a.l C) a.out.now k.ensures.result (restored_length a.n a.l C);
      cleared = own_first a.n all (first_failing checks) done (all_so p) k.new.work (all_zero a.n) a.work.now k.ensures.cleared (zeros_length a.n);
    }

pub returns-in_err-check_inverse : goal.returns-in_err-check_inverse
returns-in_err-check_inverse c = let a = c.args in
    let k = c.check_inverse in
    let C = a.coefs.now in
    let checks = entry_checks a.n a.l C (length a.out.now) (length a.work.now) in
    let why = c.in_err-check_inverse.field-0.0 in
    let no = c.in_err-check_inverse.was in
    let refused : first_failing checks ≡ Err why = sym k.ensures ∙ no in
    record {
      answered = passed_on checks (restored_check (samples_of a.n a.l C) ∷ []) k.ensures c.from_residual.ensures.1 no;
      filled = sym (lent_refused (first_failing checks) (restored_of a.n a.l C) a.out.now why refused);
      cleared = sym (lent_refused (first_failing checks) (all_zero a.n) a.work.now why refused);
    }
