use mathlib.Core.Path.{◌≡◌, refl, sym, ap, ◌∙◌}
use Prim.Native.Nat.{ℕ, ◌*◌, ◌%◌, ◌≤◌, min}
use native.Mathlib.Omega.{arith}
use lib.IntN.{pos}
use lib.ListN.{length, replicate}
use Rattle.sizes.specs.Sizes.{most_n, all_of, coarsest_of}
use Rattle.bits.specs.Bits.{bits_of}
use Rattle.view.proofs.Laws.{viewed_within, viewed_past}
use Rattle.nls.specs.Marks.{start_marks}
use Rattle.nls.specs.Judging.{taken, Judged}
use Rattle.nls.proofs.Verdicts.{verdict}
use Rattle.marking.proofs.Laws.{start_so}
use Rattle.room.proofs.Laws.{sizes_near}
use Rattle.reading.proofs.ScanLaws.{scanned_so}
use Rattle.decoder.specs.Rules.{rule_of}
use Rattle.decoder.specs.Ending.{ending}
use Rattle.decoder.specs.Body.{tables}
use Rattle.decoder.proofs.Endings.{ending_said}
use Rattle.decoder.proofs.DecodeLaws.{Took, Ends, ends, bits_most, judged_taken, refused_12, refused_13, left_in, stood, power_one, accepted}
use Rattle.decoder.proofs.body.read.Goals as goal

pub overflow_cast-bits : goal.overflow_cast-bits
overflow_cast-bits c =
    let all_so : length c.start.new.marks ≡ all_of c.args.n = c.start.auto.marks ∙ c.requires.marks_size in
    let coarsest_so : c.coarsest_of-coarsest.result ≡ coarsest_of c.args.n c.args.l = c.coarsest_of-coarsest.ensures ∙ rw (c.requires.side, c.requires.levels) in
    let sizes_so : let all = length c.start.new.marks in let coarsest = c.coarsest_of-coarsest.result in (all ≤ all_of most_n) × (4 ≤ coarsest) × (4 * coarsest ≤ all) × (coarsest % 4 ≡ 0) = sizes_near c.args.n c.args.l (length c.start.new.marks) c.coarsest_of-coarsest.result all_so coarsest_so c.requires.side c.requires.levels in
    let begun : c.start.new.marks ≡ start_marks (length c.start.new.marks) c.coarsest_of-coarsest.result = let s = sizes_so in start_so _ _ c.args.marks.now _ c.start.ensures (sym c.start.auto.marks) s.0 s.1 s.2 s.3 in
    let ended : let a = c.args in let s = c.scan-reached in Ends a.n a.l a.p (length a.values.now) (length a.precisions.now) (length a.marks.now) c.requires a.body.now (min a.declared (8 * length a.body.now)) s.result.bits s.result.left s.result.stop s.result.bad s.new.marks s.new.values (verdict a.n a.l a.p (bits_of (min a.declared (8 * length a.body.now)) a.body.now)) = let a = c.args in let s = c.scan-reached in let clear = c.fill in let f = sizes_so in ends a.n a.l a.p (length a.values.now) (length a.precisions.now) (length a.marks.now) c.requires a.body.now (min a.declared (8 * length a.body.now)) s.result.bits s.result.left s.result.stop s.result.bad s.new.marks s.new.values c.start.new.marks clear.new.self (length c.start.new.marks) c.coarsest_of-coarsest.result all_so coarsest_so begun ((clear.ensures.after (λ y e. e)) ∙ ap (λ (k : ℕ). replicate k (pos 0)) c.requires.values_size) (scanned_so a.body.now (min a.declared (8 * length a.body.now)) c.coarsest_of-coarsest.result a.p c.start.new.marks clear.new.self s.result s.new.marks s.new.values a.declared refl (clear.auto.self ∙ c.requires.values_size ∙ sym all_so) (record { near = f.0; wide = f.1; room = f.2; tops = c.requires.planes }) s.ensures) in
    let a = c.args in
    let s = c.scan-reached in
    record { fits = omega (arith, bits_most a.n a.l a.p (length a.values.now) (length a.precisions.now) (length a.marks.now) c.requires a.body.now (min a.declared (8 * length a.body.now)) s.result.bits s.result.left s.result.stop s.result.bad s.new.marks s.new.values ended, c.ranges.declared.fits) }

pub returns-then-reached : goal.returns-then-reached
returns-then-reached c =
    let all_so : length c.start.new.marks ≡ all_of c.args.n = c.start.auto.marks ∙ c.requires.marks_size in
    let coarsest_so : c.coarsest_of-coarsest.result ≡ coarsest_of c.args.n c.args.l = c.coarsest_of-coarsest.ensures ∙ rw (c.requires.side, c.requires.levels) in
    let sizes_so : let all = length c.start.new.marks in let coarsest = c.coarsest_of-coarsest.result in (all ≤ all_of most_n) × (4 ≤ coarsest) × (4 * coarsest ≤ all) × (coarsest % 4 ≡ 0) = sizes_near c.args.n c.args.l (length c.start.new.marks) c.coarsest_of-coarsest.result all_so coarsest_so c.requires.side c.requires.levels in
    let begun : c.start.new.marks ≡ start_marks (length c.start.new.marks) c.coarsest_of-coarsest.result = let s = sizes_so in start_so _ _ c.args.marks.now _ c.start.ensures (sym c.start.auto.marks) s.0 s.1 s.2 s.3 in
    let ended : let a = c.args in let s = c.scan-reached in Ends a.n a.l a.p (length a.values.now) (length a.precisions.now) (length a.marks.now) c.requires a.body.now (min a.declared (8 * length a.body.now)) s.result.bits s.result.left s.result.stop s.result.bad s.new.marks s.new.values (verdict a.n a.l a.p (bits_of (min a.declared (8 * length a.body.now)) a.body.now)) = let a = c.args in let s = c.scan-reached in let clear = c.fill in let f = sizes_so in ends a.n a.l a.p (length a.values.now) (length a.precisions.now) (length a.marks.now) c.requires a.body.now (min a.declared (8 * length a.body.now)) s.result.bits s.result.left s.result.stop s.result.bad s.new.marks s.new.values c.start.new.marks clear.new.self (length c.start.new.marks) c.coarsest_of-coarsest.result all_so coarsest_so begun ((clear.ensures.after (λ y e. e)) ∙ ap (λ (k : ℕ). replicate k (pos 0)) c.requires.values_size) (scanned_so a.body.now (min a.declared (8 * length a.body.now)) c.coarsest_of-coarsest.result a.p c.start.new.marks clear.new.self s.result s.new.marks s.new.values a.declared refl (clear.auto.self ∙ c.requires.values_size ∙ sym all_so) (record { near = f.0; wide = f.1; room = f.2; tops = c.requires.planes }) s.ensures) in
    let values_so : length c.scan-reached.new.values ≡ all_of c.args.n = c.scan-reached.auto.values ∙ c.fill.auto.self ∙ c.requires.values_size in
    let marks_so : length c.scan-reached.new.marks ≡ all_of c.args.n = c.scan-reached.auto.marks ∙ c.start.auto.marks ∙ c.requires.marks_size in
    let a = c.args in
    let s = c.scan-reached in
    let k = c.clear in
    refused_12 a.n a.l a.p (length a.values.now) (length a.precisions.now) (length a.marks.now) c.requires a.body.now (min a.declared (8 * length a.body.now)) s.result.bits s.result.left s.result.stop s.result.bad s.new.marks s.new.values ended (rule_of a.rule) (ending a.declared a.body.now) (tables a.values.now a.precisions.now a.marks.now) c.requires.values_size c.requires.precisions_size c.requires.marks_size
    k.new.values k.new.precisions k.new.marks
    (k.ensures.values_after ∙ ap (λ (x : ℕ). replicate x (pos 0)) values_so)
    (k.ensures.precisions_after ∙ ap (λ (x : ℕ). replicate x 0) c.requires.precisions_size)
    (k.ensures.marks_after ∙ ap (λ (x : ℕ). replicate x 0) marks_so)
    c.if-reached.true

pub finish-requires : goal.finish-requires
finish-requires c =
    let all_so : length c.start.new.marks ≡ all_of c.args.n = c.start.auto.marks ∙ c.requires.marks_size in
    let coarsest_so : c.coarsest_of-coarsest.result ≡ coarsest_of c.args.n c.args.l = c.coarsest_of-coarsest.ensures ∙ rw (c.requires.side, c.requires.levels) in
    let sizes_so : let all = length c.start.new.marks in let coarsest = c.coarsest_of-coarsest.result in (all ≤ all_of most_n) × (4 ≤ coarsest) × (4 * coarsest ≤ all) × (coarsest % 4 ≡ 0) = sizes_near c.args.n c.args.l (length c.start.new.marks) c.coarsest_of-coarsest.result all_so coarsest_so c.requires.side c.requires.levels in
    let begun : c.start.new.marks ≡ start_marks (length c.start.new.marks) c.coarsest_of-coarsest.result = let s = sizes_so in start_so _ _ c.args.marks.now _ c.start.ensures (sym c.start.auto.marks) s.0 s.1 s.2 s.3 in
    let ended : let a = c.args in let s = c.scan-reached in Ends a.n a.l a.p (length a.values.now) (length a.precisions.now) (length a.marks.now) c.requires a.body.now (min a.declared (8 * length a.body.now)) s.result.bits s.result.left s.result.stop s.result.bad s.new.marks s.new.values (verdict a.n a.l a.p (bits_of (min a.declared (8 * length a.body.now)) a.body.now)) = let a = c.args in let s = c.scan-reached in let clear = c.fill in let f = sizes_so in ends a.n a.l a.p (length a.values.now) (length a.precisions.now) (length a.marks.now) c.requires a.body.now (min a.declared (8 * length a.body.now)) s.result.bits s.result.left s.result.stop s.result.bad s.new.marks s.new.values c.start.new.marks clear.new.self (length c.start.new.marks) c.coarsest_of-coarsest.result all_so coarsest_so begun ((clear.ensures.after (λ y e. e)) ∙ ap (λ (k : ℕ). replicate k (pos 0)) c.requires.values_size) (scanned_so a.body.now (min a.declared (8 * length a.body.now)) c.coarsest_of-coarsest.result a.p c.start.new.marks clear.new.self s.result s.new.marks s.new.values a.declared refl (clear.auto.self ∙ c.requires.values_size ∙ sym all_so) (record { near = f.0; wide = f.1; room = f.2; tops = c.requires.planes }) s.ensures) in
    let took : let a = c.args in let s = c.scan-reached in Judged a.n a.l a.p (bits_of (min a.declared (8 * length a.body.now)) a.body.now) taken × Took a.n a.l a.p (length a.values.now) (length a.precisions.now) (length a.marks.now) c.requires a.body.now (min a.declared (8 * length a.body.now)) s.result.bits s.result.left s.result.stop s.result.bad s.new.marks s.new.values = let a = c.args in let s = c.scan-reached in judged_taken a.n a.l a.p (length a.values.now) (length a.precisions.now) (length a.marks.now) c.requires a.body.now (min a.declared (8 * length a.body.now)) s.result.bits s.result.left s.result.stop s.result.bad s.new.marks s.new.values ended c.if-reached.false (viewed_past a.body.now s.result.bits a.declared _ (sym c.read.ensures ∙ c.in-Err.is)) in
    let values_so : length c.scan-reached.new.values ≡ all_of c.args.n = c.scan-reached.auto.values ∙ c.fill.auto.self ∙ c.requires.values_size in
    let marks_so : length c.scan-reached.new.marks ≡ all_of c.args.n = c.scan-reached.auto.marks ∙ c.start.auto.marks ∙ c.requires.marks_size in
    let a = c.args in
    let s = c.scan-reached in
    let t = took in (
      values_so ∙ sym marks_so,
      c.requires.precisions_size ∙ sym marks_so,
      (stood a.n a.l a.p (length a.values.now) (length a.precisions.now) (length a.marks.now) c.requires a.body.now (min a.declared (8 * length a.body.now)) s.result.bits s.result.left s.result.stop s.result.bad s.new.marks s.new.values t.1 t.0, t.1.valued),
    )

pub overflow_sub-result : goal.overflow_sub-result
overflow_sub-result c =
    let all_so : length c.start.new.marks ≡ all_of c.args.n = c.start.auto.marks ∙ c.requires.marks_size in
    let coarsest_so : c.coarsest_of-coarsest.result ≡ coarsest_of c.args.n c.args.l = c.coarsest_of-coarsest.ensures ∙ rw (c.requires.side, c.requires.levels) in
    let sizes_so : let all = length c.start.new.marks in let coarsest = c.coarsest_of-coarsest.result in (all ≤ all_of most_n) × (4 ≤ coarsest) × (4 * coarsest ≤ all) × (coarsest % 4 ≡ 0) = sizes_near c.args.n c.args.l (length c.start.new.marks) c.coarsest_of-coarsest.result all_so coarsest_so c.requires.side c.requires.levels in
    let begun : c.start.new.marks ≡ start_marks (length c.start.new.marks) c.coarsest_of-coarsest.result = let s = sizes_so in start_so _ _ c.args.marks.now _ c.start.ensures (sym c.start.auto.marks) s.0 s.1 s.2 s.3 in
    let ended : let a = c.args in let s = c.scan-reached in Ends a.n a.l a.p (length a.values.now) (length a.precisions.now) (length a.marks.now) c.requires a.body.now (min a.declared (8 * length a.body.now)) s.result.bits s.result.left s.result.stop s.result.bad s.new.marks s.new.values (verdict a.n a.l a.p (bits_of (min a.declared (8 * length a.body.now)) a.body.now)) = let a = c.args in let s = c.scan-reached in let clear = c.fill in let f = sizes_so in ends a.n a.l a.p (length a.values.now) (length a.precisions.now) (length a.marks.now) c.requires a.body.now (min a.declared (8 * length a.body.now)) s.result.bits s.result.left s.result.stop s.result.bad s.new.marks s.new.values c.start.new.marks clear.new.self (length c.start.new.marks) c.coarsest_of-coarsest.result all_so coarsest_so begun ((clear.ensures.after (λ y e. e)) ∙ ap (λ (k : ℕ). replicate k (pos 0)) c.requires.values_size) (scanned_so a.body.now (min a.declared (8 * length a.body.now)) c.coarsest_of-coarsest.result a.p c.start.new.marks clear.new.self s.result s.new.marks s.new.values a.declared refl (clear.auto.self ∙ c.requires.values_size ∙ sym all_so) (record { near = f.0; wide = f.1; room = f.2; tops = c.requires.planes }) s.ensures) in
    let took : let a = c.args in let s = c.scan-reached in Judged a.n a.l a.p (bits_of (min a.declared (8 * length a.body.now)) a.body.now) taken × Took a.n a.l a.p (length a.values.now) (length a.precisions.now) (length a.marks.now) c.requires a.body.now (min a.declared (8 * length a.body.now)) s.result.bits s.result.left s.result.stop s.result.bad s.new.marks s.new.values = let a = c.args in let s = c.scan-reached in judged_taken a.n a.l a.p (length a.values.now) (length a.precisions.now) (length a.marks.now) c.requires a.body.now (min a.declared (8 * length a.body.now)) s.result.bits s.result.left s.result.stop s.result.bad s.new.marks s.new.values ended c.if-reached.false (viewed_past a.body.now s.result.bits a.declared _ (sym c.read.ensures ∙ c.in-Err.is)) in
    let a = c.args in
    let s = c.scan-reached in
    left_in a.n a.l a.p (length a.values.now) (length a.precisions.now) (length a.marks.now) c.requires a.body.now (min a.declared (8 * length a.body.now)) s.result.bits s.result.left s.result.stop s.result.bad s.new.marks s.new.values took.1

pub overflow_shl-result : goal.overflow_shl-result
overflow_shl-result c =
    let all_so : length c.start.new.marks ≡ all_of c.args.n = c.start.auto.marks ∙ c.requires.marks_size in
    let coarsest_so : c.coarsest_of-coarsest.result ≡ coarsest_of c.args.n c.args.l = c.coarsest_of-coarsest.ensures ∙ rw (c.requires.side, c.requires.levels) in
    let sizes_so : let all = length c.start.new.marks in let coarsest = c.coarsest_of-coarsest.result in (all ≤ all_of most_n) × (4 ≤ coarsest) × (4 * coarsest ≤ all) × (coarsest % 4 ≡ 0) = sizes_near c.args.n c.args.l (length c.start.new.marks) c.coarsest_of-coarsest.result all_so coarsest_so c.requires.side c.requires.levels in
    let begun : c.start.new.marks ≡ start_marks (length c.start.new.marks) c.coarsest_of-coarsest.result = let s = sizes_so in start_so _ _ c.args.marks.now _ c.start.ensures (sym c.start.auto.marks) s.0 s.1 s.2 s.3 in
    let ended : let a = c.args in let s = c.scan-reached in Ends a.n a.l a.p (length a.values.now) (length a.precisions.now) (length a.marks.now) c.requires a.body.now (min a.declared (8 * length a.body.now)) s.result.bits s.result.left s.result.stop s.result.bad s.new.marks s.new.values (verdict a.n a.l a.p (bits_of (min a.declared (8 * length a.body.now)) a.body.now)) = let a = c.args in let s = c.scan-reached in let clear = c.fill in let f = sizes_so in ends a.n a.l a.p (length a.values.now) (length a.precisions.now) (length a.marks.now) c.requires a.body.now (min a.declared (8 * length a.body.now)) s.result.bits s.result.left s.result.stop s.result.bad s.new.marks s.new.values c.start.new.marks clear.new.self (length c.start.new.marks) c.coarsest_of-coarsest.result all_so coarsest_so begun ((clear.ensures.after (λ y e. e)) ∙ ap (λ (k : ℕ). replicate k (pos 0)) c.requires.values_size) (scanned_so a.body.now (min a.declared (8 * length a.body.now)) c.coarsest_of-coarsest.result a.p c.start.new.marks clear.new.self s.result s.new.marks s.new.values a.declared refl (clear.auto.self ∙ c.requires.values_size ∙ sym all_so) (record { near = f.0; wide = f.1; room = f.2; tops = c.requires.planes }) s.ensures) in
    let took : let a = c.args in let s = c.scan-reached in Judged a.n a.l a.p (bits_of (min a.declared (8 * length a.body.now)) a.body.now) taken × Took a.n a.l a.p (length a.values.now) (length a.precisions.now) (length a.marks.now) c.requires a.body.now (min a.declared (8 * length a.body.now)) s.result.bits s.result.left s.result.stop s.result.bad s.new.marks s.new.values = let a = c.args in let s = c.scan-reached in judged_taken a.n a.l a.p (length a.values.now) (length a.precisions.now) (length a.marks.now) c.requires a.body.now (min a.declared (8 * length a.body.now)) s.result.bits s.result.left s.result.stop s.result.bad s.new.marks s.new.values ended c.if-reached.false (viewed_past a.body.now s.result.bits a.declared _ (sym c.read.ensures ∙ c.in-Err.is)) in
    let a = c.args in
    let s = c.scan-reached in
    omega (arith, left_in a.n a.l a.p (length a.values.now) (length a.precisions.now) (length a.marks.now) c.requires a.body.now (min a.declared (8 * length a.body.now)) s.result.bits s.result.left s.result.stop s.result.bad s.new.marks s.new.values took.1, c.requires.planes)

pub overflow_sub-result-in-Err : goal.overflow_sub-result-in-Err
overflow_sub-result-in-Err c =
    let all_so : length c.start.new.marks ≡ all_of c.args.n = c.start.auto.marks ∙ c.requires.marks_size in
    let coarsest_so : c.coarsest_of-coarsest.result ≡ coarsest_of c.args.n c.args.l = c.coarsest_of-coarsest.ensures ∙ rw (c.requires.side, c.requires.levels) in
    let sizes_so : let all = length c.start.new.marks in let coarsest = c.coarsest_of-coarsest.result in (all ≤ all_of most_n) × (4 ≤ coarsest) × (4 * coarsest ≤ all) × (coarsest % 4 ≡ 0) = sizes_near c.args.n c.args.l (length c.start.new.marks) c.coarsest_of-coarsest.result all_so coarsest_so c.requires.side c.requires.levels in
    let begun : c.start.new.marks ≡ start_marks (length c.start.new.marks) c.coarsest_of-coarsest.result = let s = sizes_so in start_so _ _ c.args.marks.now _ c.start.ensures (sym c.start.auto.marks) s.0 s.1 s.2 s.3 in
    let ended : let a = c.args in let s = c.scan-reached in Ends a.n a.l a.p (length a.values.now) (length a.precisions.now) (length a.marks.now) c.requires a.body.now (min a.declared (8 * length a.body.now)) s.result.bits s.result.left s.result.stop s.result.bad s.new.marks s.new.values (verdict a.n a.l a.p (bits_of (min a.declared (8 * length a.body.now)) a.body.now)) = let a = c.args in let s = c.scan-reached in let clear = c.fill in let f = sizes_so in ends a.n a.l a.p (length a.values.now) (length a.precisions.now) (length a.marks.now) c.requires a.body.now (min a.declared (8 * length a.body.now)) s.result.bits s.result.left s.result.stop s.result.bad s.new.marks s.new.values c.start.new.marks clear.new.self (length c.start.new.marks) c.coarsest_of-coarsest.result all_so coarsest_so begun ((clear.ensures.after (λ y e. e)) ∙ ap (λ (k : ℕ). replicate k (pos 0)) c.requires.values_size) (scanned_so a.body.now (min a.declared (8 * length a.body.now)) c.coarsest_of-coarsest.result a.p c.start.new.marks clear.new.self s.result s.new.marks s.new.values a.declared refl (clear.auto.self ∙ c.requires.values_size ∙ sym all_so) (record { near = f.0; wide = f.1; room = f.2; tops = c.requires.planes }) s.ensures) in
    let took : let a = c.args in let s = c.scan-reached in Judged a.n a.l a.p (bits_of (min a.declared (8 * length a.body.now)) a.body.now) taken × Took a.n a.l a.p (length a.values.now) (length a.precisions.now) (length a.marks.now) c.requires a.body.now (min a.declared (8 * length a.body.now)) s.result.bits s.result.left s.result.stop s.result.bad s.new.marks s.new.values = let a = c.args in let s = c.scan-reached in judged_taken a.n a.l a.p (length a.values.now) (length a.precisions.now) (length a.marks.now) c.requires a.body.now (min a.declared (8 * length a.body.now)) s.result.bits s.result.left s.result.stop s.result.bad s.new.marks s.new.values ended c.if-reached.false (viewed_past a.body.now s.result.bits a.declared _ (sym c.read.ensures ∙ c.in-Err.is)) in
    let a = c.args in
    let s = c.scan-reached in
    power_one a.n a.l a.p (length a.values.now) (length a.precisions.now) (length a.marks.now) c.requires a.body.now (min a.declared (8 * length a.body.now)) s.result.bits s.result.left s.result.stop s.result.bad s.new.marks s.new.values took.1

pub returns-in-Ok : goal.returns-in-Ok
returns-in-Ok c =
    let all_so : length c.start.new.marks ≡ all_of c.args.n = c.start.auto.marks ∙ c.requires.marks_size in
    let coarsest_so : c.coarsest_of-coarsest.result ≡ coarsest_of c.args.n c.args.l = c.coarsest_of-coarsest.ensures ∙ rw (c.requires.side, c.requires.levels) in
    let sizes_so : let all = length c.start.new.marks in let coarsest = c.coarsest_of-coarsest.result in (all ≤ all_of most_n) × (4 ≤ coarsest) × (4 * coarsest ≤ all) × (coarsest % 4 ≡ 0) = sizes_near c.args.n c.args.l (length c.start.new.marks) c.coarsest_of-coarsest.result all_so coarsest_so c.requires.side c.requires.levels in
    let begun : c.start.new.marks ≡ start_marks (length c.start.new.marks) c.coarsest_of-coarsest.result = let s = sizes_so in start_so _ _ c.args.marks.now _ c.start.ensures (sym c.start.auto.marks) s.0 s.1 s.2 s.3 in
    let ended : let a = c.args in let s = c.scan-reached in Ends a.n a.l a.p (length a.values.now) (length a.precisions.now) (length a.marks.now) c.requires a.body.now (min a.declared (8 * length a.body.now)) s.result.bits s.result.left s.result.stop s.result.bad s.new.marks s.new.values (verdict a.n a.l a.p (bits_of (min a.declared (8 * length a.body.now)) a.body.now)) = let a = c.args in let s = c.scan-reached in let clear = c.fill in let f = sizes_so in ends a.n a.l a.p (length a.values.now) (length a.precisions.now) (length a.marks.now) c.requires a.body.now (min a.declared (8 * length a.body.now)) s.result.bits s.result.left s.result.stop s.result.bad s.new.marks s.new.values c.start.new.marks clear.new.self (length c.start.new.marks) c.coarsest_of-coarsest.result all_so coarsest_so begun ((clear.ensures.after (λ y e. e)) ∙ ap (λ (k : ℕ). replicate k (pos 0)) c.requires.values_size) (scanned_so a.body.now (min a.declared (8 * length a.body.now)) c.coarsest_of-coarsest.result a.p c.start.new.marks clear.new.self s.result s.new.marks s.new.values a.declared refl (clear.auto.self ∙ c.requires.values_size ∙ sym all_so) (record { near = f.0; wide = f.1; room = f.2; tops = c.requires.planes }) s.ensures) in
    let values_so : length c.scan-reached.new.values ≡ all_of c.args.n = c.scan-reached.auto.values ∙ c.fill.auto.self ∙ c.requires.values_size in
    let marks_so : length c.scan-reached.new.marks ≡ all_of c.args.n = c.scan-reached.auto.marks ∙ c.start.auto.marks ∙ c.requires.marks_size in
    let a = c.args in
    let s = c.scan-reached in
    let k = c.clear-in-Ok in
    refused_13 a.n a.l a.p (length a.values.now) (length a.precisions.now) (length a.marks.now) c.requires a.body.now (min a.declared (8 * length a.body.now)) s.result.bits s.result.left s.result.stop s.result.bad s.new.marks s.new.values ended (rule_of a.rule) (ending a.declared a.body.now) (tables a.values.now a.precisions.now a.marks.now) c.requires.values_size c.requires.precisions_size c.requires.marks_size
    k.new.values k.new.precisions k.new.marks
    (k.ensures.values_after ∙ ap (λ (x : ℕ). replicate x (pos 0)) values_so)
    (k.ensures.precisions_after ∙ ap (λ (x : ℕ). replicate x 0) c.requires.precisions_size)
    (k.ensures.marks_after ∙ ap (λ (x : ℕ). replicate x 0) marks_so)
    c.if-reached.false (viewed_within a.body.now s.result.bits a.declared _ (sym c.read.ensures ∙ c.in-Ok.is))

pub returns-in-Err : goal.returns-in-Err
returns-in-Err c =
    let all_so : length c.start.new.marks ≡ all_of c.args.n = c.start.auto.marks ∙ c.requires.marks_size in
    let coarsest_so : c.coarsest_of-coarsest.result ≡ coarsest_of c.args.n c.args.l = c.coarsest_of-coarsest.ensures ∙ rw (c.requires.side, c.requires.levels) in
    let sizes_so : let all = length c.start.new.marks in let coarsest = c.coarsest_of-coarsest.result in (all ≤ all_of most_n) × (4 ≤ coarsest) × (4 * coarsest ≤ all) × (coarsest % 4 ≡ 0) = sizes_near c.args.n c.args.l (length c.start.new.marks) c.coarsest_of-coarsest.result all_so coarsest_so c.requires.side c.requires.levels in
    let begun : c.start.new.marks ≡ start_marks (length c.start.new.marks) c.coarsest_of-coarsest.result = let s = sizes_so in start_so _ _ c.args.marks.now _ c.start.ensures (sym c.start.auto.marks) s.0 s.1 s.2 s.3 in
    let ended : let a = c.args in let s = c.scan-reached in Ends a.n a.l a.p (length a.values.now) (length a.precisions.now) (length a.marks.now) c.requires a.body.now (min a.declared (8 * length a.body.now)) s.result.bits s.result.left s.result.stop s.result.bad s.new.marks s.new.values (verdict a.n a.l a.p (bits_of (min a.declared (8 * length a.body.now)) a.body.now)) = let a = c.args in let s = c.scan-reached in let clear = c.fill in let f = sizes_so in ends a.n a.l a.p (length a.values.now) (length a.precisions.now) (length a.marks.now) c.requires a.body.now (min a.declared (8 * length a.body.now)) s.result.bits s.result.left s.result.stop s.result.bad s.new.marks s.new.values c.start.new.marks clear.new.self (length c.start.new.marks) c.coarsest_of-coarsest.result all_so coarsest_so begun ((clear.ensures.after (λ y e. e)) ∙ ap (λ (k : ℕ). replicate k (pos 0)) c.requires.values_size) (scanned_so a.body.now (min a.declared (8 * length a.body.now)) c.coarsest_of-coarsest.result a.p c.start.new.marks clear.new.self s.result s.new.marks s.new.values a.declared refl (clear.auto.self ∙ c.requires.values_size ∙ sym all_so) (record { near = f.0; wide = f.1; room = f.2; tops = c.requires.planes }) s.ensures) in
    let took : let a = c.args in let s = c.scan-reached in Judged a.n a.l a.p (bits_of (min a.declared (8 * length a.body.now)) a.body.now) taken × Took a.n a.l a.p (length a.values.now) (length a.precisions.now) (length a.marks.now) c.requires a.body.now (min a.declared (8 * length a.body.now)) s.result.bits s.result.left s.result.stop s.result.bad s.new.marks s.new.values = let a = c.args in let s = c.scan-reached in judged_taken a.n a.l a.p (length a.values.now) (length a.precisions.now) (length a.marks.now) c.requires a.body.now (min a.declared (8 * length a.body.now)) s.result.bits s.result.left s.result.stop s.result.bad s.new.marks s.new.values ended c.if-reached.false (viewed_past a.body.now s.result.bits a.declared _ (sym c.read.ensures ∙ c.in-Err.is)) in
    let marks_so : length c.scan-reached.new.marks ≡ all_of c.args.n = c.scan-reached.auto.marks ∙ c.start.auto.marks ∙ c.requires.marks_size in
    let a = c.args in
    let s = c.scan-reached in
    let t = took in
    let f = c.finish in
    accepted a.n a.l a.p (length a.values.now) (length a.precisions.now) (length a.marks.now) c.requires a.body.now (min a.declared (8 * length a.body.now)) s.result.bits s.result.left s.result.stop s.result.bad s.new.marks s.new.values t.1 t.0 (rule_of a.rule) (ending a.declared a.body.now) c.ending_of.result
    (ending_said a.declared a.body.now s.result.bits s.result.left c.ending_of.result _ c.ending_of.ensures (sym c.in-Err.is ∙ c.read.ensures)) (tables a.values.now a.precisions.now a.marks.now) c.requires.values_size c.requires.precisions_size c.requires.marks_size
    f.new.values f.new.precisions (length s.new.marks) marks_so f.ensures.values_after f.ensures.precisions_after
