use mathlib.Core.Path.{◌≡◌, ap, ◌∙◌}
use Prim.Native.Nat.{ℕ, ◌/◌, ◌≤◌}
use native.Mathlib.Omega.{arith}
use borrow.Author.Rules.{rules}
use lib.ListN.{length}
use Rattle.sizes.specs.Sizes.{coarsest_of}
use Rattle.sizes.proofs.Laws.{sized}
use Rattle.tree.proofs.Parts.{zeros_first, low_most, last_fixed, desc_all, grand_all}
use Rattle.tree.proofs.fill_both.Goals as goal

pub fill_inner-requires : goal.fill_inner-requires
fill_inner-requires c = let a = c.args in
    let p = c.requires in
    let z = sized a.n a.l p.levels in (
      record { side = p.side; levels = p.levels; whole = p.whole; desc_room = omega (arith, p.desc_room, c.fill_last.auto.desc); grand_room = p.grand_room },
      last_fixed a.n a.l a.coefs.now z p.whole a.desc.now p.desc_room c.fill_last.new.desc c.fill_last.ensures,
    )

pub slice_bounds-fill-end : goal.slice_bounds-fill-end
slice_bounds-fill-end c = let a = c.args in
    let p = c.requires in
    let d : c.coarsest_of-low.result ≡ coarsest_of a.n a.l = c.coarsest_of-low.ensures ∙ rw (p.side, p.levels) in
    omega (arith, low_most a.n a.l a.coefs.now (sized a.n a.l p.levels), p.desc_room, c.fill_last.auto.desc, c.fill_inner.auto.desc)

pub slice_bounds-fill-end-2 : goal.slice_bounds-fill-end-2
slice_bounds-fill-end-2 c = let a = c.args in
    let p = c.requires in
    let d : c.coarsest_of-low.result ≡ coarsest_of a.n a.l = c.coarsest_of-low.ensures ∙ rw (p.side, p.levels) in
    let room : c.coarsest_of-low.result / 4 ≤ length c.fill_inner.new.desc = omega (arith, low_most a.n a.l a.coefs.now (sized a.n a.l p.levels), p.desc_room, c.fill_last.auto.desc, c.fill_inner.auto.desc) in
    search rules

pub slice_bounds-fill-end-3 : goal.slice_bounds-fill-end-3
slice_bounds-fill-end-3 c = let a = c.args in
    let p = c.requires in
    let d : c.coarsest_of-low.result ≡ coarsest_of a.n a.l = c.coarsest_of-low.ensures ∙ rw (p.side, p.levels) in
    omega (arith, low_most a.n a.l a.coefs.now (sized a.n a.l p.levels), p.grand_room, c.fill_inner.auto.grand)

pub slice_bounds-fill-end-4 : goal.slice_bounds-fill-end-4
slice_bounds-fill-end-4 c = let a = c.args in
    let p = c.requires in
    let d : c.coarsest_of-low.result ≡ coarsest_of a.n a.l = c.coarsest_of-low.ensures ∙ rw (p.side, p.levels) in
    let room : c.coarsest_of-low.result / 4 ≤ length c.fill_inner.new.grand = omega (arith, low_most a.n a.l a.coefs.now (sized a.n a.l p.levels), p.grand_room, c.fill_inner.auto.grand) in
    search rules

pub returns : goal.returns
returns c = let a = c.args in
    let p = c.requires in
    let z = sized a.n a.l p.levels in
    let d : c.coarsest_of-low.result ≡ coarsest_of a.n a.l = c.coarsest_of-low.ensures ∙ rw (p.side, p.levels) in
    let low : c.coarsest_of-low.result / 4 ≡ coarsest_of a.n a.l / 4 = ap (λ (x : ℕ). x / 4) d in
    let most = low_most a.n a.l a.coefs.now z in
    let descs = zeros_first c.fill.new.self c.fill_inner.new.desc (c.coarsest_of-low.result / 4) (omega (arith, most, p.desc_room, c.fill_last.auto.desc, c.fill_inner.auto.desc)) (search rules) in
    let grands = zeros_first c.fill-2.new.self c.fill_inner.new.grand (c.coarsest_of-low.result / 4) (omega (arith, most, p.grand_room, c.fill_inner.auto.grand)) (search rules) in record {
      desc_after = desc_all a.n a.l a.coefs.now z p.whole a.desc.now p.desc_room c.fill_last.new.desc c.fill_last.ensures c.fill_inner.new.desc _ (c.coarsest_of-low.result / 4) c.fill_inner.ensures.desc_after low descs;
      grand_after = grand_all a.n a.l a.coefs.now z a.grand.now c.fill_inner.new.grand _ (c.coarsest_of-low.result / 4) p.grand_room c.fill_inner.ensures.grand_after low grands;
    }
