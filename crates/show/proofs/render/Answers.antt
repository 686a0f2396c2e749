use mathlib.Core.Path.{◌≡◌, sym, ap, ◌∙◌, subst}
use Prim.Native.Nat.{ℕ, ◌≤◌}
use native.Mathlib.Omega.{arith}
use mathlib.Core.List.{List}
use lib.IntN.{pos}
use lib.ListN.{length, take, length-replicate}
use lib.Seq.{length-take-le}
use Rattle.std.specs.Prelude.{Ok, Err}
use Rattle.sizes.specs.Sizes.{all_of, most_planes}
use Rattle.decoder.specs.Body.{Tables, tables}
use Rattle.txp.specs.declared.Decoded.{Decoded}
use Rattle.show.specs.Text.{text_of, picture_lines, refused_line, too_large_line}
use Rattle.show.specs.Putting.{Drawn}
use Rattle.show.proofs.Puts.{puts_as}
use Rattle.show.proofs.Lines.{text_one}
use Rattle.show.proofs.Drawn.{drawn_own}
use Rattle.show.proofs.Shows.{shows_large, shows_answer}
use Rattle.show.proofs.render.Goals as goal

-- where the file is taken, what the answer says can be drawn
abbrev Can : Decoded → Tables → Type 0
Can d left = Drawn d.n d.l (take (all_of d.n) left.values) × (d.p ≤ most_planes) × (d.finished ≤ d.p) × (all_of d.n ≤ 4096)

pub returns-then-is_large : goal.returns-then-is_large
returns-then-is_large c = record {
  rendered = shows_large c.args.file.now c.args.out.now c.put_large.new.out c.put_large.result
      (sym c.is_large.ensures ∙ c.if-is_large.true) (puts_as (sym (text_one too_large_line)) c.put_large.ensures.0);
  short = c.put_large.ensures.1;
}

pub slice_bounds-values-end : goal.slice_bounds-values-end
slice_bounds-values-end c =
    let left : Tables = tables c.decode_midpoint.new.values c.decode_midpoint.new.precisions c.decode_midpoint.new.marks in
    let can : Can c.in-Ok.d left = drawn_own c.args.file.now left c.in-Ok.d c.in-Ok.ensures in
    let all_so : c.all_of-all.result ≡ all_of c.in-Ok.d.n = c.all_of-all.ensures ∙ rw can.0.side in
    omega (arith, can.3, all_so)

pub slice_bounds-put_picture-end : goal.slice_bounds-put_picture-end
slice_bounds-put_picture-end c =
    let left : Tables = tables c.decode_midpoint.new.values c.decode_midpoint.new.precisions c.decode_midpoint.new.marks in
    let can : Can c.in-Ok.d left = drawn_own c.args.file.now left c.in-Ok.d c.in-Ok.ensures in
    let all_so : c.all_of-all.result ≡ all_of c.in-Ok.d.n = c.all_of-all.ensures ∙ rw can.0.side in
    let size : length c.decode_midpoint.new.values ≡ 4096 = c.decode_midpoint.auto.values ∙ length-replicate 4096 (pos 0) in
    sym (length-take-le _ c.decode_midpoint.new.values (omega (arith, can.3, all_so, size)))

pub put_picture-requires : goal.put_picture-requires
put_picture-requires c =
    let left : Tables = tables c.decode_midpoint.new.values c.decode_midpoint.new.precisions c.decode_midpoint.new.marks in
    let can : Can c.in-Ok.d left = drawn_own c.args.file.now left c.in-Ok.d c.in-Ok.ensures in
    let all_so : c.all_of-all.result ≡ all_of c.in-Ok.d.n = c.all_of-all.ensures ∙ rw can.0.side in
    (subst (λ (k : ℕ). Drawn c.in-Ok.d.n c.in-Ok.d.l (take k left.values)) (sym all_so) can.0, can.1, can.2)

pub returns-in-Ok : goal.returns-in-Ok
returns-in-Ok c =
    let left : Tables = tables c.decode_midpoint.new.values c.decode_midpoint.new.precisions c.decode_midpoint.new.marks in
    let can : Can c.in-Ok.d left = drawn_own c.args.file.now left c.in-Ok.d c.in-Ok.ensures in
    let all_so : c.all_of-all.result ≡ all_of c.in-Ok.d.n = c.all_of-all.ensures ∙ rw can.0.side in
    record {
      rendered = shows_answer c.args.file.now c.args.out.now c.put_picture.new.out c.put_picture.result (Ok c.in-Ok.d) left
          (sym c.is_large.ensures ∙ c.if-is_large.false) c.in-Ok.ensures
          (puts_as (ap {B = List ℕ} (λ (k : ℕ). text_of (picture_lines c.in-Ok.d (take k left.values))) all_so) c.put_picture.ensures.0);
      short = c.put_picture.ensures.1;
    }

pub returns-in-Err : goal.returns-in-Err
returns-in-Err c =
    let left : Tables = tables c.decode_midpoint.new.values c.decode_midpoint.new.precisions c.decode_midpoint.new.marks in record {
      rendered = shows_answer c.args.file.now c.args.out.now c.put_refusal.new.out c.put_refusal.result (Err c.in-Err.why) left
          (sym c.is_large.ensures ∙ c.if-is_large.false) c.in-Err.ensures
          (puts_as (sym (text_one (refused_line c.in-Err.why))) c.put_refusal.ensures.0);
      short = c.put_refusal.ensures.1;
    }
