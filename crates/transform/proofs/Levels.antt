-- Quads and levels: each way undoes the other, at every array.
use mathlib.Core.Path.{◌≡◌, refl, ap, ◌∙◌}
use mathlib.Core.Bool.{Bool, true, false}
use Prim.Native.Nat.{ℕ, zero, suc, ◌+◌, ◌*◌, ◌-◌, ◌/◌, ◌%◌, ◌^◌, ◌≤◌, ◌<◌}
use native.Mathlib.Omega.{arith}
use borrow.Author.Tests.{ltb-true, ltb-false, lt-ltb, le-ltb}
use lib.Dec.{ltb}
use lib.IntN.{ℤ}
use Rattle.transform.specs.Transform.{low, high, first, second}
use Rattle.transform.specs.declared.blocks.Quad.{Quad}
use Rattle.transform.specs.Quads.{apart, joined, block, unblock, entry, bands, unbands, downs, ups}
use Rattle.transform.proofs.Pairs.{first_again, second_again, low_again, high_again}

-- equal at every place
pub everywhere : {X Y : ℕ → ℤ} → ((i : ℕ) → X i ≡ Y i) → X ≡ Y
everywhere h = λ t i. h i t

-- one quad
pub joined_apart : (p q r s : ℤ) → joined (apart p q r s).tl (apart p q r s).tr (apart p q r s).bl (apart p q r s).br ≡ record { tl = p; tr = q; bl = r; br = s }
unfolding apart joined
joined_apart p q r s =
    rw (first_again (low p q) (low r s), second_again (low p q) (low r s), first_again (high p q) (high r s), second_again (high p q) (high r s), first_again p q, second_again p q, first_again r s, second_again r s)

pub apart_joined : (a b c d : ℤ) → apart (joined a b c d).tl (joined a b c d).tr (joined a b c d).bl (joined a b c d).br ≡ record { tl = a; tr = b; bl = c; br = d }
unfolding apart joined
apart_joined a b c d =
    rw (low_again (first a c) (first b d), high_again (first a c) (first b d), low_again (second a c) (second b d), high_again (second a c) (second b d), low_again a c, high_again a c, low_again b d, high_again b d)

-- the cases of a level's place
module _ (M : ℕ) (X : ℕ → ℤ) (i : ℕ) where
  pub bands_tl : i < M → bands M X i ≡ (block X i).tl
  unfolding bands
  bands_tl h = rw (lt-ltb i M h)

  pub bands_tr : M ≤ i → i < 2 * M → bands M X i ≡ (block X (i - M)).tr
  unfolding bands
  bands_tr g h = rw (le-ltb i M g, lt-ltb i (2 * M) h)

  pub bands_bl : 2 * M ≤ i → i < 3 * M → bands M X i ≡ (block X (i - 2 * M)).bl
  unfolding bands
  bands_bl g h = rw (le-ltb i M (omega arith), le-ltb i (2 * M) g, lt-ltb i (3 * M) h)

  pub bands_br : 3 * M ≤ i → i < 4 * M → bands M X i ≡ (block X (i - 3 * M)).br
  unfolding bands
  bands_br g h = rw (le-ltb i M (omega arith), le-ltb i (2 * M) (omega arith), le-ltb i (3 * M) g, lt-ltb i (4 * M) h)

  pub bands_past : 4 * M ≤ i → bands M X i ≡ X i
  unfolding bands
  bands_past g = rw (le-ltb i M (omega arith), le-ltb i (2 * M) (omega arith), le-ltb i (3 * M) (omega arith), le-ltb i (4 * M) g)

  pub unbands_near : i < 4 * M → unbands M X i ≡ entry (unblock M X (i / 4)) (i % 4)
  unfolding unbands
  unbands_near h = rw (lt-ltb i (4 * M) h)

  pub unbands_past : 4 * M ≤ i → unbands M X i ≡ X i
  unfolding unbands
  unbands_past g = rw (le-ltb i (4 * M) g)

-- to show a fact of a place, show it in each band and past them
pub by_band : {P : Type 0} (M i : ℕ) → (i < M → P) → (M ≤ i → i < 2 * M → P) → (2 * M ≤ i → i < 3 * M → P) → (3 * M ≤ i → i < 4 * M → P) → (4 * M ≤ i → P) → P
by_band {P} M i f g h k l = a (ltb i M) refl
  where
    d : (t : Bool) → ltb i (4 * M) ≡ t → 3 * M ≤ i → P
    d true e o = k o (ltb-true i (4 * M) e)
    d false e o = l (ltb-false i (4 * M) e)

    c : (t : Bool) → ltb i (3 * M) ≡ t → 2 * M ≤ i → P
    c true e o = h o (ltb-true i (3 * M) e)
    c false e o = d (ltb i (4 * M)) refl (ltb-false i (3 * M) e)

    b : (t : Bool) → ltb i (2 * M) ≡ t → M ≤ i → P
    b true e o = g o (ltb-true i (2 * M) e)
    b false e o = c (ltb i (3 * M)) refl (ltb-false i (2 * M) e)

    a : (t : Bool) → ltb i M ≡ t → P
    a true e = f (ltb-true i M e)
    a false e = b (ltb i (2 * M)) refl (ltb-false i M e)

-- the bands at block k, and the entries of block k
module _ (M : ℕ) (X : ℕ → ℤ) (k : ℕ) (h : k < M) where
  at_tl : bands M X k ≡ (block X k).tl
  at_tl = bands_tl M X k h

  pub at_tr : bands M X (M + k) ≡ (block X k).tr
  at_tr = bands_tr M X (M + k) (omega arith) (omega arith) ∙ ap (λ (j : ℕ). (block X j).tr) {x = M + k - M} {y = k} (omega arith)

  pub at_bl : bands M X (2 * M + k) ≡ (block X k).bl
  at_bl = bands_bl M X (2 * M + k) (omega arith) (omega arith) ∙ ap (λ (j : ℕ). (block X j).bl) {x = 2 * M + k - 2 * M} {y = k} (omega arith)

  pub at_br : bands M X (3 * M + k) ≡ (block X k).br
  at_br = bands_br M X (3 * M + k) (omega arith) (omega arith) ∙ ap (λ (j : ℕ). (block X j).br) {x = 3 * M + k - 3 * M} {y = k} (omega arith)

  pub unblock_bands : unblock M (bands M X) k ≡ record { tl = X (4 * k); tr = X (4 * k + 1); bl = X (4 * k + 2); br = X (4 * k + 3) }
  unfolding unblock block
  unblock_bands =
      rw (at_tl, at_tr, at_bl, at_br) (joined_apart (X (4 * k)) (X (4 * k + 1)) (X (4 * k + 2)) (X (4 * k + 3)))

  pub entry_at : (d : ℕ) → d < 4 → unbands M X (4 * k + d) ≡ entry (unblock M X k) d
  entry_at d g =
      let e : (4 * k + d) / 4 ≡ k = omega arith in
      let f : (4 * k + d) % 4 ≡ d = omega arith in
      unbands_near M X (4 * k + d) (omega arith) ∙ rw (e, f)

  pub block_unbands : block (unbands M X) k ≡ record { tl = X k; tr = X (M + k); bl = X (2 * M + k); br = X (3 * M + k) }
  unfolding unblock block entry
  block_unbands =
      let e : unbands M X (4 * k) ≡ entry (unblock M X k) 0 = ap (unbands M X) {x = 4 * k} {y = 4 * k + 0} (omega arith) ∙ entry_at 0 (omega arith) in
      rw (e, entry_at 1 (omega arith), entry_at 2 (omega arith), entry_at 3 (omega arith)) (apart_joined (X k) (X (M + k)) (X (2 * M + k)) (X (3 * M + k)))

-- an entry of a block that is written out
pub entry_of : (X : ℕ → ℤ) (k d : ℕ) → d < 4 → entry (record { tl = X (4 * k); tr = X (4 * k + 1); bl = X (4 * k + 2); br = X (4 * k + 3) }) d ≡ X (4 * k + d)
unfolding entry
entry_of X k zero h = ap X {x = 4 * k} {y = 4 * k + 0} (omega arith)
entry_of X k (suc zero) h = refl
entry_of X k (suc (suc zero)) h = refl
entry_of X k (suc (suc (suc zero))) h = refl
entry_of X k (suc (suc (suc (suc d)))) h = absurd (omega arith)

-- one level
pub unbands_bands : (M : ℕ) (X : ℕ → ℤ) → unbands M (bands M X) ≡ X
unbands_bands M X = everywhere (λ i. tell i (ltb i (4 * M)) refl)
  where
    tell : (i : ℕ) (t : Bool) → ltb i (4 * M) ≡ t → unbands M (bands M X) i ≡ X i
    tell i true e =
        let h = ltb-true i (4 * M) e in
        let k : i / 4 < M = omega arith in
        unbands_near M (bands M X) i h ∙ ap (λ (v : Quad). entry v (i % 4)) (unblock_bands M X (i / 4) k)
        ∙ entry_of X (i / 4) (i % 4) (omega arith) ∙ ap X {x = 4 * (i / 4) + i % 4} {y = i} (omega arith)
    tell i false e =
        let h = ltb-false i (4 * M) e in
        unbands_past M (bands M X) i h ∙ bands_past M X i h

pub bands_unbands : (M : ℕ) (Y : ℕ → ℤ) → bands M (unbands M Y) ≡ Y
bands_unbands M Y =
    everywhere (λ i.
    by_band {P = bands M (unbands M Y) i ≡ Y i} M i
    (λ h. bands_tl M (unbands M Y) i h ∙ ap (λ (v : Quad). v.tl) (block_unbands M Y i h))
    (λ g h. bands_tr M (unbands M Y) i g h ∙ ap (λ (v : Quad). v.tr) (block_unbands M Y (i - M) (omega arith)) ∙ ap Y {x = M + (i - M)} {y = i} (omega arith))
    (λ g h. bands_bl M (unbands M Y) i g h ∙ ap (λ (v : Quad). v.bl) (block_unbands M Y (i - 2 * M) (omega arith)) ∙ ap Y {x = 2 * M + (i - 2 * M)} {y = i} (omega arith))
    (λ g h. bands_br M (unbands M Y) i g h ∙ ap (λ (v : Quad). v.br) (block_unbands M Y (i - 3 * M) (omega arith)) ∙ ap Y {x = 3 * M + (i - 3 * M)} {y = i} (omega arith))
    (λ g. bands_past M (unbands M Y) i g ∙ unbands_past M Y i g))

-- all levels
pub ups_downs : (N j : ℕ) (X : ℕ → ℤ) → ups N j (downs N j X) ≡ X
unfolding ups downs
ups_downs N zero X = refl
ups_downs N (suc j) X = ap (ups N j) (unbands_bands (4 ^ (N - suc j)) (downs N j X)) ∙ ups_downs N j X

pub downs_ups : (N j : ℕ) (Y : ℕ → ℤ) → downs N j (ups N j Y) ≡ Y
unfolding ups downs
downs_ups N zero Y = refl
downs_ups N (suc j) Y =
    ap (bands (4 ^ (N - suc j))) (downs_ups N j (unbands (4 ^ (N - suc j)) Y)) ∙ bands_unbands (4 ^ (N - suc j)) Y
