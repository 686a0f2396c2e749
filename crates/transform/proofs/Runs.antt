-- All levels, as the code runs them: the coarse part in one table, the rest in another.
use mathlib.Core.Path.{◌≡◌, refl, sym, ap, ◌∙◌}
use mathlib.Core.Bool.{Bool, true, false}
use Prim.Native.Nat.{ℕ, zero, suc, ◌+◌, ◌*◌, ◌-◌, ◌/◌, ◌%◌, ◌^◌, ◌≤◌, ◌<◌}
use native.Mathlib.Nat.{pow-le-pow_right}
use native.Mathlib.Omega.{arith}
use borrow.Author.Tests.{ltb-true, ltb-false}
use lib.Dec.{ltb}
use lib.IntN.{ℤ}
use Rattle.transform.specs.declared.blocks.Quad.{Quad}
use Rattle.transform.specs.Quads.{block, unblock, entry, bands, unbands, downs, ups, onward}
use Rattle.transform.proofs.Levels.{everywhere, by_band, bands_tl, bands_tr, bands_bl, bands_br, bands_past, unbands_near, unbands_past}
use Rattle.transform.proofs.Range.{level_up}
use Rattle.transform.proofs.Arrays.{onward_near, onward_far}

-- a level looks at its own entries alone
module _ (M : ℕ) (X Y : ℕ → ℤ) (h : (i : ℕ) → i < 4 * M → X i ≡ Y i) where
  same_block : (k : ℕ) → k < M → block X k ≡ block Y k
  unfolding block
  same_block k l = rw (h (4 * k) (omega arith), h (4 * k + 1) (omega arith), h (4 * k + 2) (omega arith), h (4 * k + 3) (omega arith))

  pub same_bands : (i : ℕ) → i < 4 * M → bands M X i ≡ bands M Y i
  same_bands i l =
      by_band {P = bands M X i ≡ bands M Y i} M i
      (λ b. bands_tl M X i b ∙ ap (λ (v : Quad). v.tl) (same_block i b) ∙ sym (bands_tl M Y i b))
      (λ a b. bands_tr M X i a b ∙ ap (λ (v : Quad). v.tr) (same_block (i - M) (omega arith)) ∙ sym (bands_tr M Y i a b))
      (λ a b. bands_bl M X i a b ∙ ap (λ (v : Quad). v.bl) (same_block (i - 2 * M) (omega arith)) ∙ sym (bands_bl M Y i a b))
      (λ a b. bands_br M X i a b ∙ ap (λ (v : Quad). v.br) (same_block (i - 3 * M) (omega arith)) ∙ sym (bands_br M Y i a b))
      (λ a. absurd (omega arith))

  same_unblock : (k : ℕ) → k < M → unblock M X k ≡ unblock M Y k
  unfolding unblock
  same_unblock k l = rw (h k (omega arith), h (M + k) (omega arith), h (2 * M + k) (omega arith), h (3 * M + k) (omega arith))

  pub same_unbands : (i : ℕ) → i < 4 * M → unbands M X i ≡ unbands M Y i
  same_unbands i l =
      unbands_near M X i l ∙ ap (λ (v : Quad). entry v (i % 4)) (same_unblock (i / 4) (omega arith)) ∙ sym (unbands_near M Y i l)

-- the sizes of levels
pub level_most : (N j : ℕ) → 4 ^ (N - j) ≤ 4 ^ N
level_most N j = pow-le-pow_right {n = 4} (omega arith) {i = N - j} {j = N} (omega arith)

-- and so do all levels
pub same_ups : (N j : ℕ) → j ≤ N → (X Y : ℕ → ℤ) → ((i : ℕ) → i < 4 ^ N → X i ≡ Y i) → (i : ℕ) → i < 4 ^ N → ups N j X i ≡ ups N j Y i
unfolding ups
same_ups N zero g X Y h i l = h i l
same_ups N (suc j) g X Y h i l = same_ups N j (omega arith) (unbands (4 ^ (N - suc j)) X) (unbands (4 ^ (N - suc j)) Y) (λ k m. tell k m (ltb k (4 * (4 ^ (N - suc j)))) refl) i l
  where
    tell : (k : ℕ) → k < 4 ^ N → (t : Bool) → ltb k (4 * (4 ^ (N - suc j))) ≡ t → unbands (4 ^ (N - suc j)) X k ≡ unbands (4 ^ (N - suc j)) Y k
    tell k m true e = same_unbands (4 ^ (N - suc j)) X Y (λ q b. h q (omega (arith, level_up N j g, level_most N j))) k (ltb-true k (4 * (4 ^ (N - suc j))) e)
    tell k m false e = unbands_past (4 ^ (N - suc j)) X k (ltb-false k (4 * (4 ^ (N - suc j))) e) ∙ h k m ∙ sym (unbands_past (4 ^ (N - suc j)) Y k (ltb-false k (4 * (4 ^ (N - suc j))) e))

pub same_downs : (N j : ℕ) → j ≤ N → (X Y : ℕ → ℤ) → ((i : ℕ) → i < 4 ^ N → X i ≡ Y i) → (i : ℕ) → i < 4 ^ N → downs N j X i ≡ downs N j Y i
unfolding downs
same_downs N zero g X Y h i l = h i l
same_downs N (suc j) g X Y h i l = tell (same_downs N j (omega arith) X Y h) (ltb i (4 * (4 ^ (N - suc j)))) refl
  where
    tell : ((k : ℕ) → k < 4 ^ N → downs N j X k ≡ downs N j Y k) → (t : Bool) → ltb i (4 * (4 ^ (N - suc j))) ≡ t → bands (4 ^ (N - suc j)) (downs N j X) i ≡ bands (4 ^ (N - suc j)) (downs N j Y) i
    tell ih true e = same_bands (4 ^ (N - suc j)) (downs N j X) (downs N j Y) (λ q b. ih q (omega (arith, level_up N j g, level_most N j))) i (ltb-true i (4 * (4 ^ (N - suc j))) e)
    tell ih false e = bands_past (4 ^ (N - suc j)) (downs N j X) i (ltb-false i (4 * (4 ^ (N - suc j))) e) ∙ ih i l ∙ sym (bands_past (4 ^ (N - suc j)) (downs N j Y) i (ltb-false i (4 * (4 ^ (N - suc j))) e))

-- after j levels: the first 4^(N-j) entries in `work`, the others in `out`
pub record Down (N j : ℕ) (X work out : ℕ → ℤ) : Type 0 where
  pub coarse : (i : ℕ) → i < 4 ^ (N - j) → work i ≡ downs N j X i
  pub fine : (i : ℕ) → 4 ^ (N - j) ≤ i → i < 4 ^ N → out i ≡ downs N j X i

pub down_start : (N : ℕ) (X out : ℕ → ℤ) → Down N 0 X X out
unfolding downs
down_start N X out =
    record { coarse = λ i h. refl; fine = λ i g h. absurd (omega (arith, ap (λ (x : ℕ). 4 ^ x) {x = N - 0} {y = N} (omega arith))) }

module _ (N j M : ℕ) (g : suc j ≤ N) (m : M ≡ 4 ^ (N - suc j)) (X work out work' out' : ℕ → ℤ) where
  pub down_next : Down N j X work out → work' ≡ onward M (bands M work) work → out' ≡ onward M out (onward (4 * M) (bands M work) out) → Down N (suc j) X work' out'
  unfolding downs
  down_next d e f =
      let R = downs N j X in
      let up = level_up N j g in
      let s : (i : ℕ) → i < 4 * M → bands M work i ≡ bands (4 ^ (N - suc j)) R i =
      λ i l. same_bands M work R (λ k b. d.coarse k (omega (arith, up))) i l ∙ ap (λ (x : ℕ). bands x R i) m in
      record {
        coarse = λ i l.
            ap (λ (A : ℕ → ℤ). A i) e ∙ onward_near M (bands M work) work i (omega arith) ∙ s i (omega arith);
        fine = λ i a l.
            ap (λ (A : ℕ → ℤ). A i) f ∙ onward_far M out (onward (4 * M) (bands M work) out) i (omega arith) ∙ tell i a l s (ltb i (4 * M)) refl;
      }
    where
      tell : (i : ℕ) → 4 ^ (N - suc j) ≤ i → i < 4 ^ N → ((i : ℕ) → i < 4 * M → bands M work i ≡ bands (4 ^ (N - suc j)) (downs N j X) i) → (t : Bool) → ltb i (4 * M) ≡ t → onward (4 * M) (bands M work) out i ≡ bands (4 ^ (N - suc j)) (downs N j X) i
      tell i a l s true q = onward_near (4 * M) (bands M work) out i (ltb-true i (4 * M) q) ∙ s i (ltb-true i (4 * M) q)
      tell i a l s false q =
          let past = ltb-false i (4 * M) q in
          onward_far (4 * M) (bands M work) out i past ∙ d.fine i (omega (arith, level_up N j g)) l ∙ sym (bands_past (4 ^ (N - suc j)) (downs N j X) i (omega (arith, m)))

-- back: what is left of the run
module _ (M : ℕ) (work work' F : ℕ → ℤ) where
  pub up_next : work' ≡ onward (4 * M) (unbands M (onward M work F)) work → onward (4 * M) work' F ≡ unbands M (onward M work F)
  up_next e = everywhere (λ i. tell i (ltb i (4 * M)) refl)
    where
      tell : (i : ℕ) (t : Bool) → ltb i (4 * M) ≡ t → onward (4 * M) work' F i ≡ unbands M (onward M work F) i
      tell i true q =
          let h = ltb-true i (4 * M) q in
          onward_near (4 * M) work' F i h ∙ ap (λ (A : ℕ → ℤ). A i) e ∙ onward_near (4 * M) (unbands M (onward M work F)) work i h
      tell i false q =
          let h = ltb-false i (4 * M) q in
          onward_far (4 * M) work' F i h ∙ sym (unbands_past M (onward M work F) i h ∙ onward_far M work F i (omega arith))

pub ups_next : (N j : ℕ) (Y : ℕ → ℤ) → ups N (suc j) Y ≡ ups N j (unbands (4 ^ (N - suc j)) Y)
unfolding ups
ups_next N j Y = refl

pub ups_none : (N : ℕ) (Y : ℕ → ℤ) → ups N 0 Y ≡ Y
unfolding ups
ups_none N Y = refl

-- a part that was copied, and gone on with the array that it was copied of
pub onward_copy : (n : ℕ) (X Y : ℕ → ℤ) → onward n (onward n X Y) X ≡ X
onward_copy n X Y = everywhere (λ i. tell i (ltb i n) refl)
  where
    tell : (i : ℕ) (t : Bool) → ltb i n ≡ t → onward n (onward n X Y) X i ≡ X i
    tell i true e = onward_near n (onward n X Y) X i (ltb-true i n e) ∙ onward_near n X Y i (ltb-true i n e)
    tell i false e = onward_far n (onward n X Y) X i (ltb-false i n e)
