use mathlib.Core.Path.{◌≡◌, sym, ◌∙◌, ap, subst}
use mathlib.Core.List.{List}
use native.Mathlib.Omega.{arith}
use lib.IntN.{ℤ}
use lib.ListN.{length}
use Rattle.sizes.specs.Sizes.{all_of}
use Rattle.sizes.proofs.Tables.{table_length}
use Rattle.coef.specs.Coef.{at}
use Rattle.transform.specs.Quads.{ups}
use Rattle.transform.specs.Transform.{samples_of}
use Rattle.transform.specs.Answers.{first_outside}
use Rattle.transform.proofs.Checks.{restored_well, no_restored}
use Rattle.transform.proofs.Ends.{in_raster, all_within, samples_from, zeros_of, restored_all, restored_none}
use Rattle.transform.proofs.restore.Goals as goal

pub levels_up-requires : goal.levels_up-requires
levels_up-requires c = let p = c.requires in
    (p.0, p.1, p.2, p.4, all_within c.args.coefs.now p.5)

pub returns-then-first_outside-out : goal.returns-then-first_outside-out
returns-then-first_outside-out c =
    let restored : let a = c.args in c.reorder_to_raster.new.to ≡ samples_of a.n a.l a.coefs.now = let a = c.args in let p = c.requires in let k = c.reorder_to_raster in let w = c.levels_up in let work = w.new.work in let n : length work ≡ all_of a.n = ap length w.ensures ∙ table_length (all_of a.n) (ups a.n a.l (at a.coefs.now)) in samples_from a.n a.l a.coefs.now work k.new.to p.1 w.ensures (in_raster a.n work a.out.now k.new.to k.result p.0 n p.3 k.ensures.0 k.ensures.1) in
    let a = c.args in
    let X = samples_of a.n a.l a.coefs.now in
    let o = restored in
    let f : first_outside X ≡ length X = subst (λ (l : List ℤ). first_outside l ≡ length l) o (sym c.first_outside.ensures ∙ c.if-first_outside-out.true) in
    record { answer = restored_well X f; result = o ∙ sym (restored_all a.n a.l a.coefs.now f); cleared = zeros_of a.n (length c.levels_up.new.work) c.fill.new.self (omega arith) (c.fill.ensures.after (λ y e. e)) }

pub returns : goal.returns
returns c =
    let restored : let a = c.args in c.reorder_to_raster.new.to ≡ samples_of a.n a.l a.coefs.now = let a = c.args in let p = c.requires in let k = c.reorder_to_raster in let w = c.levels_up in let work = w.new.work in let n : length work ≡ all_of a.n = ap length w.ensures ∙ table_length (all_of a.n) (ups a.n a.l (at a.coefs.now)) in samples_from a.n a.l a.coefs.now work k.new.to p.1 w.ensures (in_raster a.n work a.out.now k.new.to k.result p.0 n p.3 k.ensures.0 k.ensures.1) in
    let a = c.args in
    let X = samples_of a.n a.l a.coefs.now in
    let o = restored in
    let f : first_outside X ≡ length X → ⊥ = subst (λ (l : List ℤ). first_outside l ≡ length l → ⊥) o (λ e. c.if-first_outside-out.false (c.first_outside.ensures ∙ e)) in
    let z = zeros_of a.n (length c.reorder_to_raster.new.to) c.fill-2.new.self (omega arith) (c.fill-2.ensures.after (λ y e. e)) in
    record { answer = no_restored X f; result = z ∙ sym (restored_none a.n a.l a.coefs.now f); cleared = zeros_of a.n (length c.levels_up.new.work) c.fill.new.self (omega arith) (c.fill.ensures.after (λ y e. e)) }
