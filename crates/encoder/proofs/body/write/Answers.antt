use Prim.Native.Nat.{ℕ, min}
use mathlib.Core.Path.{◌≡◌, refl, sym, ap, ◌∙◌}
use mathlib.Core.List.{◌++◌}
use native.Mathlib.Omega.{arith}
use lib.ListN.{length, drop}
use Rattle.sizes.specs.Sizes.{all_of, coarsest_of}
use Rattle.bits.specs.Bits.{bytes_for, packed}
use Rattle.coef.specs.Coef.{planes_of}
use Rattle.tree.specs.Summaries.{desc_table, grand_table}
use Rattle.nls.specs.Marks.{start_marks}
use Rattle.nls.specs.Stream.{worst_body}
use Rattle.marking.proofs.Laws.{start_so}
use Rattle.room.proofs.Laws.{sizes_near, most_so}
use Rattle.encoder.specs.Body.{sent_bits, sent_marks}
use Rattle.encoder.proofs.EncodeLaws.{sent_most, planes_near, filled, room_so, tables_so, written}
use Rattle.encoder.proofs.body.write.Goals as goal

pub scan-bits-requires : goal.scan-bits-requires
scan-bits-requires c =
    let all_so : (length c.start.new.marks) ≡ all_of c.args.n = c.start.auto.marks ∙ c.requires.1 in
    let coarsest_so : c.coarsest_of.result ≡ coarsest_of c.args.n c.args.l = c.coarsest_of.ensures ∙ rw (c.requires.0.side, c.requires.0.levels) in
    let cap_so : let a = c.args in c.most_bits-most.result ≡ min a.budget (worst_body a.n a.l (planes_of a.coefs.now)) = let a = c.args in let near = planes_near a.n a.l a.coefs.now (length a.desc.now) (length a.grand.now) (length a.out.now) a.budget c.requires.0 in c.most_bits-most.ensures ∙ most_so a.n a.l a.planes a.budget c.requires.0.side c.requires.0.levels (omega (arith, c.requires.2)) ∙ ap (λ (p : ℕ). min a.budget (worst_body a.n a.l p)) c.requires.2 in
    let a = c.args in
    let e = all_so in
    let r = c.requires.0 in
    let s = sizes_near a.n a.l (length c.start.new.marks) c.coarsest_of.result e coarsest_so r.side r.levels in (
      omega (arith, s.1, s.2),
      s.0,
      omega (arith, e, r.whole),
      room_so a.n a.l a.coefs.now (length a.desc.now) (length a.grand.now) (length a.out.now) a.budget r _ cap_so,
      tables_so a.n a.l a.coefs.now (length a.desc.now) (length a.grand.now) (length a.out.now) a.budget r (length c.start.new.marks) _ _ e c.fill.auto.desc c.fill.auto.grand,
      omega (arith, c.requires.2, planes_near a.n a.l a.coefs.now (length a.desc.now) (length a.grand.now) (length a.out.now) a.budget r),
    )

pub overflow_cast-count : goal.overflow_cast-count
overflow_cast-count c =
    let desc_so : let a = c.args in c.fill.new.desc ≡ desc_table a.n a.l a.coefs.now ++ drop (length (desc_table a.n a.l a.coefs.now)) a.desc.now = let a = c.args in filled a.n a.l a.coefs.now (length a.desc.now) (length a.grand.now) (length a.out.now) a.budget c.requires.0 (desc_table a.n a.l a.coefs.now) a.desc.now c.fill.new.desc c.fill.ensures.answer c.fill.ensures.descs in
    let grand_so : let a = c.args in c.fill.new.grand ≡ grand_table a.n a.l a.coefs.now ++ drop (length (grand_table a.n a.l a.coefs.now)) a.grand.now = let a = c.args in filled a.n a.l a.coefs.now (length a.desc.now) (length a.grand.now) (length a.out.now) a.budget c.requires.0 (grand_table a.n a.l a.coefs.now) a.grand.now c.fill.new.grand c.fill.ensures.answer c.fill.ensures.grands in
    let all_so : (length c.start.new.marks) ≡ all_of c.args.n = c.start.auto.marks ∙ c.requires.1 in
    let coarsest_so : c.coarsest_of.result ≡ coarsest_of c.args.n c.args.l = c.coarsest_of.ensures ∙ rw (c.requires.0.side, c.requires.0.levels) in
    let cap_so : let a = c.args in c.most_bits-most.result ≡ min a.budget (worst_body a.n a.l (planes_of a.coefs.now)) = let a = c.args in let near = planes_near a.n a.l a.coefs.now (length a.desc.now) (length a.grand.now) (length a.out.now) a.budget c.requires.0 in c.most_bits-most.ensures ∙ most_so a.n a.l a.planes a.budget c.requires.0.side c.requires.0.levels (omega (arith, c.requires.2)) ∙ ap (λ (p : ℕ). min a.budget (worst_body a.n a.l p)) c.requires.2 in
    let begun : c.start.new.marks ≡ start_marks (length c.start.new.marks) c.coarsest_of.result = let e = all_so in let s = sizes_near c.args.n c.args.l (length c.start.new.marks) c.coarsest_of.result e coarsest_so c.requires.0.side c.requires.0.levels in start_so _ _ c.args.marks.now _ c.start.ensures (c.requires.1 ∙ sym e) s.0 s.1 s.2 s.3 in
    let scan_so : let a = c.args in let u = sent_bits a.n a.l a.coefs.now a.budget in (c.scan-bits.result ≡ length u) × (c.scan-bits.new.marks ≡ sent_marks a.n a.l a.coefs.now a.budget) × (c.scan-bits.new.out ≡ packed u ++ drop (bytes_for (length u)) a.out.now) = let a = c.args in written a.n a.l a.coefs.now (length a.desc.now) (length a.grand.now) (length a.out.now) a.budget c.requires.0 a.desc.now a.grand.now _ _ desc_so grand_so c.start.new.marks a.out.now c.scan-bits.new.marks c.scan-bits.new.out c.scan-bits.result a.planes c.most_bits-most.result (length c.start.new.marks) c.coarsest_of.result refl c.requires.2 all_so coarsest_so cap_so begun c.scan-bits.ensures in
    let a = c.args in
    record { fits = omega (arith, scan_so.0, sent_most a.n a.l a.coefs.now a.budget, c.ranges.budget.fits) }

pub returns : goal.returns
returns c =
    let desc_so : let a = c.args in c.fill.new.desc ≡ desc_table a.n a.l a.coefs.now ++ drop (length (desc_table a.n a.l a.coefs.now)) a.desc.now = let a = c.args in filled a.n a.l a.coefs.now (length a.desc.now) (length a.grand.now) (length a.out.now) a.budget c.requires.0 (desc_table a.n a.l a.coefs.now) a.desc.now c.fill.new.desc c.fill.ensures.answer c.fill.ensures.descs in
    let grand_so : let a = c.args in c.fill.new.grand ≡ grand_table a.n a.l a.coefs.now ++ drop (length (grand_table a.n a.l a.coefs.now)) a.grand.now = let a = c.args in filled a.n a.l a.coefs.now (length a.desc.now) (length a.grand.now) (length a.out.now) a.budget c.requires.0 (grand_table a.n a.l a.coefs.now) a.grand.now c.fill.new.grand c.fill.ensures.answer c.fill.ensures.grands in
    let all_so : (length c.start.new.marks) ≡ all_of c.args.n = c.start.auto.marks ∙ c.requires.1 in
    let coarsest_so : c.coarsest_of.result ≡ coarsest_of c.args.n c.args.l = c.coarsest_of.ensures ∙ rw (c.requires.0.side, c.requires.0.levels) in
    let cap_so : let a = c.args in c.most_bits-most.result ≡ min a.budget (worst_body a.n a.l (planes_of a.coefs.now)) = let a = c.args in let near = planes_near a.n a.l a.coefs.now (length a.desc.now) (length a.grand.now) (length a.out.now) a.budget c.requires.0 in c.most_bits-most.ensures ∙ most_so a.n a.l a.planes a.budget c.requires.0.side c.requires.0.levels (omega (arith, c.requires.2)) ∙ ap (λ (p : ℕ). min a.budget (worst_body a.n a.l p)) c.requires.2 in
    let begun : c.start.new.marks ≡ start_marks (length c.start.new.marks) c.coarsest_of.result = let e = all_so in let s = sizes_near c.args.n c.args.l (length c.start.new.marks) c.coarsest_of.result e coarsest_so c.requires.0.side c.requires.0.levels in start_so _ _ c.args.marks.now _ c.start.ensures (c.requires.1 ∙ sym e) s.0 s.1 s.2 s.3 in
    let scan_so : let a = c.args in let u = sent_bits a.n a.l a.coefs.now a.budget in (c.scan-bits.result ≡ length u) × (c.scan-bits.new.marks ≡ sent_marks a.n a.l a.coefs.now a.budget) × (c.scan-bits.new.out ≡ packed u ++ drop (bytes_for (length u)) a.out.now) = let a = c.args in written a.n a.l a.coefs.now (length a.desc.now) (length a.grand.now) (length a.out.now) a.budget c.requires.0 a.desc.now a.grand.now _ _ desc_so grand_so c.start.new.marks a.out.now c.scan-bits.new.marks c.scan-bits.new.out c.scan-bits.result a.planes c.most_bits-most.result (length c.start.new.marks) c.coarsest_of.result refl c.requires.2 all_so coarsest_so cap_so begun c.scan-bits.ensures in
    let s = scan_so in
    let ep = c.requires.2 in
    record { value = (λ i. record { planes = ep i; bits = s.0 i }); desc_after = desc_so; grand_after = grand_so; marks_after = s.1; out_after = s.2 }
