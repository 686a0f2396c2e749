use mathlib.Core.Path.{◌≡◌, refl, ◌∙◌, sym, ap, subst}
use mathlib.Core.Bool.{Bool, true, false}
use borrow.Author.Tests.{ltb-true, ltb-false}
use lib.Dec.{ltb}
use Prim.Native.Nat.{ℕ, suc, ◌-◌, ◌/◌, ◌^◌, ◌≤◌, ◌<◌}
use native.Mathlib.Omega.{arith}
use native.Mathlib.Numerals.{add-one}
use lib.IntN.{ℤ}
use lib.Signed.{mag}
use Rattle.sizes.specs.Sizes.{all_of}
use Rattle.sizes.proofs.Laws.{sized}
use Rattle.coef.specs.Coef.{at}
use Rattle.transform.specs.Quads.{onward, downs}
use Rattle.transform.proofs.Arrays.{onward_near, onward_far, tabled}
use Rattle.transform.proofs.Range.{level_up, downs_mag}
use Rattle.transform.proofs.Runs.{Down, down_start, down_next, level_most}
use Rattle.transform.proofs.levels_down.Goals as goal

parts : (n : ℕ) (X Y Z : ℕ → ℤ) (i : ℕ) → (i < n → X i ≡ Z i) → (n ≤ i → Y i ≡ Z i) → onward n X Y i ≡ Z i
parts n X Y Z i f g = tell (ltb i n) refl
  where
    tell : (t : Bool) → ltb i n ≡ t → onward n X Y i ≡ Z i
    tell true e = onward_near n X Y i (ltb-true i n e) ∙ f (ltb-true i n e)
    tell false e = onward_far n X Y i (ltb-false i n e) ∙ g (ltb-false i n e)

pub loop-init : goal.loop-init
loop-init c = let a = c.args in
    let e : c.all_of-quarter.result ≡ 4 ^ a.n = c.all_of-quarter.ensures ∙ rw c.requires.0 in
    (e ∙ ap (λ (x : ℕ). 4 ^ x) {x = a.n} {y = a.n - 0} (omega arith), down_start a.n (at a.work.now) (at a.out.now))

pub level_down-requires : goal.level_down-requires
level_down-requires c = let a = c.args in
    let l = c.loop in
    let p = c.requires in
    let z = sized a.n a.l p.1 in
    let u = level_up a.n l.counter (omega (arith, z.most)) in
    let m = level_most a.n l.counter in
    (omega (arith, u, m), omega (arith, u, m), λ i h. subst (λ (x : ℤ). mag x ≤ 32767) (sym (l.invariant.1.coarse i (omega (arith, u)))) (downs_mag a.n (at a.work.now) (λ k b. p.4 k) l.counter (omega (arith, z.most)) i (omega (arith, u))))

pub loop-preserved : goal.loop-preserved
loop-preserved c = let a = c.args in
    let l = c.loop in
    let p = c.requires in
    let z = sized a.n a.l p.1 in
    let u = level_up a.n l.counter (omega (arith, z.most)) in
    let q : l.quarter / 4 ≡ 4 ^ (a.n - suc l.counter) = omega (arith, u) in
    (rw (add-one l.counter) q, rw (add-one l.counter) (down_next a.n l.counter (l.quarter / 4) (omega (arith, z.most)) q (at a.work.now) (at l.work) (at l.out) (at c.level_down.new.work) (at c.level_down.new.out) l.invariant.1 c.level_down.ensures.coarse c.level_down.ensures.fine))

pub copy_head-requires : goal.copy_head-requires
copy_head-requires c = let m = level_most c.args.n c.loop.counter in
    (omega (arith, m), omega (arith, m))

pub returns : goal.returns
returns c = let a = c.args in
    let l = c.loop in
    let e : l.counter ≡ a.l = omega arith in
    let o = c.copy_head.new.to in
    let X = downs a.n a.l (at a.work.now) in
    let d = subst (λ (j : ℕ). Down a.n j (at a.work.now) (at l.work) (at l.out)) e l.invariant.1 in
    let q : l.quarter ≡ 4 ^ (a.n - a.l) = l.invariant.0 ∙ ap (λ (j : ℕ). 4 ^ (a.n - j)) e in
    tabled o (all_of a.n) X (omega arith) (λ i h. ap (λ (A : ℕ → ℤ). A i) c.copy_head.ensures ∙ parts l.quarter (at l.work) (at l.out) X i (λ k. d.coarse i (omega arith)) (λ k. d.fine i (omega arith) h))
