-- Laws of the functions on the table of marks: blocks, a push taken back, and the push below a GRAND.
use Prim.Native.Nat.{ℕ, zero, suc, ◌+◌, ◌-◌, ◌*◌, ◌^◌, ◌≤◌, ◌<◌}
use mathlib.Core.Path.{◌≡◌, refl, sym, ◌∙◌}
use mathlib.Core.Bool.{Bool, true, false}
use mathlib.Core.List.{List}
use native.Mathlib.Nat.{pow-succ', pow-le-pow_right}
use native.Mathlib.Numerals.{add-one}
use native.Mathlib.Omega.{arith}
use borrow.Author.Tests.{lt-ltb, le-ltb, ltb-true, ltb-false, eq-eqb, ne_eqb}
use lib.Dec.{ltb}
use lib.ListN.{get_or, set}
use Rattle.sizes.specs.Sizes.{most_n, all_of}
use Rattle.nls.specs.Marks.{MN, push_from}
use Rattle.marking.specs.Marking.{codes_end}
use Rattle.marking.proofs.Laws.{push_enough}
use Rattle.undo.specs.Back.{block_from, wipe_from}

-- ---- blocks

-- the sizes that are tried are powers of 4, up to that of the largest table
pub size_in : (k s : ℕ) → s ≡ 4 ^ k → k ≤ most_n → (1 ≤ s) × (s ≤ all_of most_n)
size_in k s e h = rw e (pow-le-pow_right {n = 4} (omega arith) {i = 0} {j = k} (omega arith), pow-le-pow_right {n = 4} (omega arith) {i = k} {j = most_n} h)

pub size_again : (k s : ℕ) → s ≡ 4 ^ k → 4 * s ≡ 4 ^ (k + 1)
size_again k s e = rw (e, add-one k) (sym (pow-succ' 4 k))

block_on : (n : ℕ) (m : List ℕ) (q s : ℕ) → get_or m (q - s) 0 ≡ 0 → block_from (suc n) m q s ≡ block_from n m q (4 * s)
unfolding block_from
block_on n m q s h = rw (eq-eqb (get_or m (q - s) 0) 0 h, block_from)

-- the first place with a mark
pub block_here : (n : ℕ) (m : List ℕ) (q s x : ℕ) → block_from n m q s ≡ x → (get_or m (q - s) 0 ≡ 0 → ⊥) → q - s ≡ x
unfolding block_from
block_here zero m q s x e h = e
block_here (suc n) m q s x e h = rw (ne_eqb (get_or m (q - s) 0) 0 h, block_from) at e

-- a turn of the loop: what is left of the search is the same
pub block_again : (k : ℕ) (m : List ℕ) (q s x : ℕ) → block_from (most_n - k) m q s ≡ x → k < most_n → get_or m (q - s) 0 ≡ 0 → block_from (most_n - (k + 1)) m q (4 * s) ≡ x
block_again k m q s x e hk h =
    let t : most_n - k ≡ suc (most_n - (k + 1)) = omega arith in
    sym (block_on (most_n - (k + 1)) m q s h) ∙ rw (← t) e

pub block_done : (k : ℕ) (m : List ℕ) (q s x : ℕ) → block_from (most_n - k) m q s ≡ x → most_n ≤ k → q - s ≡ x
unfolding block_from
block_done k m q s x e hk = let t : most_n - k ≡ 0 = omega arith in rw t at e

-- ---- a push taken back

module _ (I : ℕ) where
  wipe_step : (n j : ℕ) (m : List ℕ) → j < I → wipe_from I (suc n) j m ≡ wipe_from I n (4 * j) (set m j 0)
  unfolding wipe_from
  wipe_step n j m h = rw (lt-ltb j I h, wipe_from)

  wipe_past : (n j : ℕ) (m : List ℕ) → I ≤ j → wipe_from I n j m ≡ m
  unfolding wipe_from
  wipe_past zero j m h = refl
  wipe_past (suc n) j m h = rw (le-ltb j I h, wipe_from)

  -- more steps than lead past I change nothing
  wipe_enough : (f F j : ℕ) (m : List ℕ) → 1 ≤ j → I ≤ f + j → I ≤ F + j → wipe_from I f j m ≡ wipe_from I F j m
  wipe_enough zero F j m a e g = wipe_past zero j m (omega arith) ∙ sym (wipe_past F j m (omega arith))
  wipe_enough (suc f) zero j m a e g = wipe_past (suc f) j m (omega arith) ∙ sym (wipe_past zero j m (omega arith))
  wipe_enough (suc f) (suc F) j m a e g = go (ltb j I) refl (wipe_enough f F (4 * j) (set m j 0) (omega arith) (omega arith) (omega arith))
    where
      go : (t : Bool) → ltb j I ≡ t → wipe_from I f (4 * j) (set m j 0) ≡ wipe_from I F (4 * j) (set m j 0) → wipe_from I (suc f) j m ≡ wipe_from I (suc F) j m
      go true q ih = wipe_step f j m (ltb-true j I q) ∙ ih ∙ sym (wipe_step F j m (ltb-true j I q))
      go false q ih = wipe_past (suc f) j m (ltb-false j I q) ∙ sym (wipe_past (suc F) j m (ltb-false j I q))

  -- a turn of the loop: what is left to wipe is the same
  pub wipe_again : (j : ℕ) (m x : List ℕ) → wipe_from I I j m ≡ x → 1 ≤ j → j < I → wipe_from I I (4 * j) (set m j 0) ≡ x
  wipe_again j m x e a h =
      sym (wipe_step I j m h) ∙ wipe_enough (suc I) I j m a (omega arith) (omega arith) ∙ e

  pub wipe_out : (j : ℕ) (m x : List ℕ) → wipe_from I I j m ≡ x → I ≤ j → m ≡ x
  wipe_out j m x e h = sym (wipe_past I j m h) ∙ e

  -- ---- the push below a GRAND

  -- from place 16 on each code once is enough
  pub push_grand_most : (i : ℕ) (m : List ℕ) → I ≤ all_of most_n → 16 ≤ i → push_from I (codes_end - MN 3) (4 * i) (MN 3) m ≡ push_from I I (4 * i) (MN 3) m
  push_grand_most i m h w = push_enough I (codes_end - MN 3) I (4 * i) (MN 3) m (omega arith) (omega arith) (omega arith)
