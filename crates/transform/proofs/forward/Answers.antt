use mathlib.Core.Path.{◌≡◌, refl, sym, ◌∙◌}
use Prim.Native.Nat.{◌≤◌}
use native.Mathlib.Omega.{arith}
use lib.ListN.{length}
use lib.Seq.{length-take-le}
use Rattle.std.specs.Prelude.{Ok}
use Rattle.sizes.specs.Sizes.{all_of}
use Rattle.transform.specs.Transform.{coefficients_of}
use Rattle.transform.specs.Answers.{first_outside, all_zero}
use Rattle.transform.proofs.Checks.{Ready, transform_ready}
use Rattle.transform.proofs.Ends.{own_first, coefficients_length, zeros_length}
use Rattle.transform.proofs.forward.Goals as goal
use Rattle.transform.proofs.forward.Goals.{After-all_of-all}

-- the checks hold, and so both arrays have room for all
ready : (c : After-all_of-all) → Ready c.args.n c.args.l (length c.args.samples.now) (length c.args.out.now) (length c.args.work.now) × (first_outside c.args.samples.now ≡ length c.args.samples.now)
ready c = let a = c.args in
    transform_ready a.n a.l a.samples.now (length a.out.now) (length a.work.now) c.check_forward.ensures c.in_ok-check_forward.was

all_so : (c : After-all_of-all) → c.all_of-all.result ≡ all_of c.args.n
all_so c = c.all_of-all.ensures ∙ rw (ready c).0.side

rooms : (c : After-all_of-all) → (c.all_of-all.result ≤ length c.args.out.now) × (c.all_of-all.result ≤ length c.args.work.now)
rooms c = let r = (ready c).0 in (omega (arith, all_so c, r.out_room), omega (arith, all_so c, r.work_room))

pub slice_bounds-transform-end : goal.slice_bounds-transform-end
slice_bounds-transform-end c = (rooms (goal.at.slice_bounds-transform-end c).After-all_of-all).0

pub slice_bounds-transform-end-2 : goal.slice_bounds-transform-end-2
slice_bounds-transform-end-2 c = sym (length-take-le c.all_of-all.result c.args.out.now (rooms (goal.at.slice_bounds-transform-end-2 c).After-all_of-all).0)

pub slice_bounds-transform-end-3 : goal.slice_bounds-transform-end-3
slice_bounds-transform-end-3 c = (rooms (goal.at.slice_bounds-transform-end-3 c).After-all_of-all).1

pub slice_bounds-transform-end-4 : goal.slice_bounds-transform-end-4
slice_bounds-transform-end-4 c = sym (length-take-le c.all_of-all.result c.args.work.now (rooms (goal.at.slice_bounds-transform-end-4 c).After-all_of-all).1)

pub transform-requires : goal.transform-requires
transform-requires c =
    let p = (goal.at.transform-requires c).After-all_of-all in
    let r = ready p in
    let all = c.all_of-all.result in
    (r.0.side, r.0.levels, r.0.size, length-take-le all c.args.out.now (rooms p).0 ∙ all_so p, length-take-le all c.args.work.now (rooms p).1 ∙ all_so p, r.1)

pub returns : goal.returns
returns c =
    let a = c.args in
    let p = (goal.at.returns c).After-all_of-all in
    let all = c.all_of-all.result in
    let k = c.transform in
    record {
      answered = sym c.in_ok-check_forward.was ∙ c.check_forward.ensures;
      filled = own_first a.n all (Ok tt) refl (all_so p) k.new.out (coefficients_of a.n a.l a.samples.now) a.out.now k.ensures.result (coefficients_length a.n a.l a.samples.now);
      cleared = own_first a.n all (Ok tt) refl (all_so p) k.new.work (all_zero a.n) a.work.now k.ensures.cleared (zeros_length a.n);
    }
