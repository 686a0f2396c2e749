use mathlib.Core.Path.{◌≡◌, refl, sym, subst, ◌∙◌}
use mathlib.Core.List.{◌++◌}
use Prim.Native.Nat.{◌*◌, ◌≤◌, min}
use native.Mathlib.Omega.{arith}
use lib.ListN.{length, drop}
use lib.Seq.{length-take-le}
use Rattle.refusals.specs.Checks.{Outcome}
use Rattle.refusals.proofs.Laws.{left_by}
use Rattle.sizes.specs.Sizes.{all_of}
use Rattle.room.specs.Room.{body_bits}
use Rattle.room.proofs.Laws.{DecodeReady, decode_ready}
use Rattle.decoder.specs.Rules.{rule_of}
use Rattle.decoder.specs.Ending.{ending}
use Rattle.decoder.specs.Body.{tables, ReadsTo}
use Rattle.decoder.proofs.DecodeLaws.{decoded_back}
use Rattle.decoder.proofs.body.decode_by.Goals as goal
use Rattle.decoder.proofs.body.decode_by.Goals.{After-all_of-all}

-- the checks hold, and so each table has room for all
ready : (c : After-all_of-all) → DecodeReady c.args.n c.args.l c.args.p (length c.args.values.now) (length c.args.precisions.now) (length c.args.marks.now)
ready c = let a = c.args in
    decode_ready a.n a.l a.p (length a.values.now) (length a.precisions.now) (length a.marks.now) (sym c.in_ok-check_decode.was ∙ c.check_decode.ensures)

all_so : (c : After-all_of-all) → c.all_of-all.result ≡ all_of c.args.n
all_so c = c.all_of-all.ensures ∙ rw (ready c).side

rooms : (c : After-all_of-all) → (c.all_of-all.result ≤ length c.args.values.now) × (c.all_of-all.result ≤ length c.args.precisions.now) × (c.all_of-all.result ≤ length c.args.marks.now)
rooms c = let r = ready c in
    (omega (arith, all_so c, r.values_room), omega (arith, all_so c, r.precisions_room), omega (arith, all_so c, r.marks_room))

pub slice_bounds-read-end : goal.slice_bounds-read-end
slice_bounds-read-end c = (rooms (goal.at.slice_bounds-read-end c).After-all_of-all).0

pub slice_bounds-read-end-2 : goal.slice_bounds-read-end-2
slice_bounds-read-end-2 c = sym (length-take-le _ c.args.values.now (rooms (goal.at.slice_bounds-read-end-2 c).After-all_of-all).0)

pub slice_bounds-read-end-3 : goal.slice_bounds-read-end-3
slice_bounds-read-end-3 c = (rooms (goal.at.slice_bounds-read-end-3 c).After-all_of-all).1

pub slice_bounds-read-end-4 : goal.slice_bounds-read-end-4
slice_bounds-read-end-4 c = sym (length-take-le _ c.args.precisions.now (rooms (goal.at.slice_bounds-read-end-4 c).After-all_of-all).1)

pub slice_bounds-read-end-5 : goal.slice_bounds-read-end-5
slice_bounds-read-end-5 c = (rooms (goal.at.slice_bounds-read-end-5 c).After-all_of-all).2

pub slice_bounds-read-end-6 : goal.slice_bounds-read-end-6
slice_bounds-read-end-6 c = sym (length-take-le _ c.args.marks.now (rooms (goal.at.slice_bounds-read-end-6 c).After-all_of-all).2)

pub read-requires : goal.read-requires
read-requires c =
    let p = (goal.at.read-requires c).After-all_of-all in
    let a = c.args in
    let all = c.all_of-all.result in
    let r = ready p in
    record {
      side = r.side;
      levels = r.levels;
      planes = r.planes;
      values_size = length-take-le all a.values.now (rooms p).0 ∙ all_so p;
      precisions_size = length-take-le all a.precisions.now (rooms p).1 ∙ all_so p;
      marks_size = length-take-le all a.marks.now (rooms p).2 ∙ all_so p;
    }

pub returns : goal.returns
returns c =
    let p = (goal.at.returns c).After-all_of-all in
    let a = c.args in
    let k = c.read in
    let all = c.all_of-all.result in
    let v = k.new.values in
    let q = k.new.precisions in
    let m = k.new.marks in
    subst (λ (x : Outcome). ReadsTo x (rule_of a.rule) (ending a.declared a.body.now) a.n a.l a.p (body_bits a.declared a.body.now) (tables a.values.now a.precisions.now a.marks.now) k.result (tables (v ++ drop all a.values.now) (q ++ drop all a.precisions.now) (m ++ drop all a.marks.now)))
    (sym c.in_ok-check_decode.was ∙ c.check_decode.ensures)
    (decoded_back (rule_of a.rule) (ending a.declared a.body.now) a.n a.l a.p (min a.declared (8 * length a.body.now)) a.declared all a.body.now a.values.now a.precisions.now a.marks.now k.result v q m
    refl (all_so p) (rooms p).0 (rooms p).1 (rooms p).2 k.ensures)

pub returns-in_err-check_decode : goal.returns-in_err-check_decode
returns-in_err-check_decode c = let a = c.args in
    let why = c.in_err-check_decode.field-0.0 in
    subst (λ (x : Outcome). ReadsTo x (rule_of a.rule) (ending a.declared a.body.now) a.n a.l a.p (body_bits a.declared a.body.now) (tables a.values.now a.precisions.now a.marks.now) c.from_residual.result (tables a.values.now a.precisions.now a.marks.now))
    (sym c.in_err-check_decode.was ∙ c.check_decode.ensures)
    (left_by c.from_residual.ensures.1, refl)
