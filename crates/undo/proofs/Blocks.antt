-- A block of places, which begins at a mark and has none inside, is found from where it ends (`back_skip`).
-- Marks by number here and below: 0 none, 1 MIP, 2 MNP, 3 MSP, 4 MCP, 5 MD, 6 MG, k + 5 MNk.
use mathlib.Core.Path.{◌≡◌, refl, sym, ap, subst, ◌∙◌}
use mathlib.Core.Bool.{Bool, true, false}
use mathlib.Core.List.{List}
use Prim.Native.Nat.{ℕ, zero, suc, ◌+◌, ◌-◌, ◌/◌, ◌^◌, ◌≤◌, ◌<◌}
use native.Mathlib.Omega.{arith}
use native.Mathlib.Nat.{pow-suc, pow-succ', one-le-pow}
use native.Mathlib.Decide.{dec_lt}
use lib.ListN.{get_or}
use lib.Dec.{lit<, lit≤}
use borrow.Author.Tests.{eqb-true, eq-eqb}
use Rattle.sizes.specs.Sizes.{most_n}
use Rattle.nls.specs.Marks.{skip}
use Rattle.nls.proofs.Tiled.{Tiled}
use Rattle.nls.proofs.Machine.Table.{Cfg, no_alone, gap}
use Rattle.nls.proofs.Machine.Cover.{Core, not_alone, skip_1}
use Rattle.nls.proofs.Machine.Blocks.{Even, Lies, lies}
use Rattle.undo.specs.Back.{is, block_from, block}

-- between i and q there is no mark
abbrev pub Bare : List ℕ → ℕ → ℕ → Type 0
Bare m i q = (k : ℕ) → i < k → k < q → get_or m k 0 ≡ 0

power_grows : (e n : ℕ) → 4 ^ e < 4 ^ (e + suc n)
power_grows e zero = omega (arith, pow-suc 4 e, one-le-pow e 4 (lit< tt), ap (λ (x : ℕ). 4 ^ x) {x = e + 1} {y = suc e} (omega arith))
power_grows e (suc n) = omega (arith, power_grows e n, pow-suc 4 (e + suc n), ap (λ (x : ℕ). 4 ^ x) {x = e + suc (suc n)} {y = suc (e + suc n)} (omega arith))

-- from size 4^e on, with d sizes more to go
block_from_lem : (f e d : ℕ) (m : List ℕ) (i : ℕ) → d ≤ f → (get_or m i 0 ≡ 0 → ⊥) → Bare m i (i + 4 ^ (e + d)) → block_from f m (i + 4 ^ (e + d)) (4 ^ e) ≡ i
unfolding block_from
block_from_lem zero e zero m i h n b = omega (arith, ap (λ (x : ℕ). 4 ^ x) {x = e + 0} {y = e} (omega arith))
block_from_lem zero e (suc d) m i h n b = absurd (omega arith)
block_from_lem (suc f) e zero m i h n b = go (is m (i + 4 ^ (e + 0) - 4 ^ e) 0) refl
  where
    here : i + 4 ^ (e + 0) - 4 ^ e ≡ i
    here = omega (arith, ap (λ (x : ℕ). 4 ^ x) {x = e + 0} {y = e} (omega arith))

    go : (t : Bool) → is m (i + 4 ^ (e + 0) - 4 ^ e) 0 ≡ t → block_from (suc f) m (i + 4 ^ (e + 0)) (4 ^ e) ≡ i
    go true q = absurd (n (ap (λ (x : ℕ). get_or m x 0) (sym here) ∙ eqb-true (get_or m (i + 4 ^ (e + 0) - 4 ^ e) 0) 0 q))
    go false q = rw (q, block_from) here
block_from_lem (suc f) e (suc d) m i h n b =
    rw (inner, block_from) (subst (λ (x : ℕ). block_from f m (i + 4 ^ (e + suc d)) x ≡ i) (pow-succ' 4 e) (moved (block_from_lem f (suc e) d m i (omega arith) n (subst (λ (x : ℕ). Bare m i (i + 4 ^ x)) {x = e + suc d} {y = suc e + d} (omega arith) b))))
  where
    far : 4 ^ e < 4 ^ (e + suc d)
    far = power_grows e d

    inner : is m (i + 4 ^ (e + suc d) - 4 ^ e) 0 ≡ true
    inner = eq-eqb (get_or m (i + 4 ^ (e + suc d) - 4 ^ e) 0) 0 (b (i + 4 ^ (e + suc d) - 4 ^ e) (omega (arith, far)) (omega (arith, far, one-le-pow e 4 (lit< tt))))

    moved : block_from f m (i + 4 ^ (suc e + d)) (4 ^ suc e) ≡ i → block_from f m (i + 4 ^ (e + suc d)) (4 ^ suc e) ≡ i
    moved ih = subst (λ (x : ℕ). block_from f m (i + 4 ^ x) (4 ^ suc e) ≡ i) {x = suc e + d} {y = e + suc d} (omega arith) ih

-- a block of 4^d places that begins at i
pub block_right : (d : ℕ) (m : List ℕ) (i : ℕ) → d ≤ most_n → (get_or m i 0 ≡ 0 → ⊥) → Bare m i (i + 4 ^ d) → block m (i + 4 ^ d) ≡ i
block_right d m i h n b = subst (λ (x : ℕ). block_from most_n m (i + 4 ^ x) 1 ≡ i) {x = 0 + d} {y = d} (omega arith) (block_from_lem most_n 0 d m i h n (subst (λ (x : ℕ). Bare m i (i + 4 ^ x)) {x = d} {y = 0 + d} (omega arith) b))

-- from a multiple of 4^d, not 0, the places up to the next lie below the same power of 4
ends : (d N j : ℕ) → Even d j → 1 ≤ j → j < 4 ^ N → (j + 4 ^ d ≤ 4 ^ N) × (d ≤ N)
ends zero N j e l h = (omega arith, omega arith)
ends (suc d) zero j e l h = absurd (omega arith)
ends (suc d) (suc N) j e l h =
    let r : (j / 4 + 4 ^ d ≤ 4 ^ N) × (d ≤ N) = ends d N (j / 4) e.1 (omega (arith, e.0)) (omega (arith, pow-suc 4 N)) in
    (omega (arith, r.0, e.0, pow-suc 4 N, pow-suc 4 d), omega (arith, r.1))

module _ (N : ℕ) (fits : N ≤ most_n) {D : ℕ} (sz : Tiled D (4 ^ N)) (c : Cfg) (l : List ℕ) (k : Core sz c l) where
  -- a block is found from its end, which lies in the table or at its end
  pub back_skip : (t : ℕ) → t < 4 ^ N → (get_or l t 0 ≡ 0 → ⊥) → (block l (t + skip (get_or l t 0)) ≡ t) × (t + skip (get_or l t 0) ≤ 4 ^ N)
  back_skip t ti n = go (dec_lt (get_or l t 0) 5)
    where
      Goal : ℕ → Type 0
      Goal s = (block l (t + s) ≡ t) × (t + s ≤ 4 ^ N)

      go : Dec (get_or l t 0 < 5) → Goal (skip (get_or l t 0))
      go (yes z) = subst Goal {x = 4 ^ 0} {y = skip (get_or l t 0)} (sym (skip_1 (get_or l t 0) z)) (block_right 0 l t (lit≤ tt) n (λ j a b. absurd (omega (arith, a, b))), omega arith)
      go (no z) = subst Goal (sym r.1) (block_right (suc r.0) l t (omega (arith, e.1, fits)) n bare, e.0)
        where
          big : 5 ≤ get_or l t 0
          big = omega arith

          r : Lies sz c l k t
          r = lies sz c l k t ti big

          e : (t + 4 ^ suc r.0 ≤ 4 ^ N) × (suc r.0 ≤ N)
          e = ends (suc r.0) N t r.2 (omega (arith, (no_alone D (4 ^ N) c t (not_alone sz c l k t ti big)).0, sz.least)) ti

          bare : Bare l t (t + 4 ^ suc r.0)
          bare j a b = (gap sz c (λ i. get_or l i 0) k.ok k.tab t ti (not_alone sz c l k t ti big) big j a (subst (λ (x : ℕ). j < t + x) (sym r.1) b) (omega (arith, b, e.0))).1
