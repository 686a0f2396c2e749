use mathlib.Core.Path.{◌≡◌, ap, ◌∙◌}
use Prim.Native.Nat.{ℕ, ◌≤◌, ◌<◌, ◌/◌, ◌-◌}
use native.Mathlib.Omega.{arith}
use lib.Bits.{bit_or}
use lib.ListN.{length, get_or}
use Rattle.sizes.specs.Sizes.{all_of, coarsest_of}
use Rattle.sizes.proofs.Laws.{sized, coarsest_all}
use Rattle.tree.specs.Summaries.{desc_or, grand_or}
use Rattle.tree.proofs.Filling.{begun, more, read}
use Rattle.tree.proofs.Ors.{grand_entry, desc_entry}
use Rattle.tree.proofs.fill_inner.Goals as goal

pub loop-i-init : goal.loop-i-init
loop-i-init c = let a = c.args in
    let p = c.requires in
    let z = sized a.n a.l p.0.levels in
    let d : c.coarsest_of-low.result ≡ coarsest_of a.n a.l = c.coarsest_of-low.ensures ∙ rw (p.0.side, p.0.levels) in
    let w : length a.coefs.now ≡ all_of a.n = p.0.whole in (
      ap (λ (x : ℕ). x / 4) d,
      omega (arith, coarsest_all a.n a.l z),
      omega arith,
      rw w p.1,
      rw w (begun (all_of a.n / 16) (λ k. grand_or a.n a.l a.coefs.now k) a.grand.now p.0.grand_room),
    )

pub loop-i-preserved : goal.loop-i-preserved
loop-i-preserved c = let a = c.args in
    let p = c.requires in
    let l = c.loop-i in
    let A = a.coefs.now in
    let z = sized a.n a.l p.0.levels in
    let i = l.i - 1 in
    let low : coarsest_of a.n a.l / 4 ≤ i = omega (arith, l.invariant.0, l.invariant.1, c.loop-i-test.true) in
    let high : i < all_of a.n / 16 = omega (arith, l.invariant.2, c.loop-i-test.true) in
    let past : (j : ℕ) → i < j → j < all_of a.n / 4 → get_or l.desc j 0 ≡ desc_or a.n a.l A j =
    λ j g h. read (all_of a.n / 4) (λ k. desc_or a.n a.l A k) a.desc.now p.0.desc_room l.i j l.desc (omega (arith, c.loop-i-test.true)) h l.invariant.3 in
    let below : c.entries_or-below.result ≡ grand_or a.n a.l A i =
    c.entries_or-below.ensures ∙ grand_entry a.n a.l A z l.desc i low high past in
    let whole : bit_or c.children_or-own.result c.entries_or-below.result ≡ desc_or a.n a.l A i =
    rw (c.children_or-own.ensures, c.entries_or-below.ensures) (desc_entry a.n a.l A z l.desc i low high past) in (
      l.invariant.0,
      omega (arith, l.invariant.0),
      omega arith,
      more (all_of a.n / 4) (λ k. desc_or a.n a.l A k) a.desc.now p.0.desc_room l.i (bit_or c.children_or-own.result c.entries_or-below.result) l.desc (omega arith) (omega arith) l.invariant.3 whole,
      more (all_of a.n / 16) (λ k. grand_or a.n a.l A k) a.grand.now p.0.grand_room l.i c.entries_or-below.result l.grand (omega arith) (omega arith) l.invariant.4 below,
    )
