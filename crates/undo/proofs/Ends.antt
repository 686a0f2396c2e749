-- Every way back ends, in any table: each move back leaves more moves ahead, of which there are at most `all_moves`, and keeps within P planes
-- and I places.
use mathlib.Core.Path.{◌≡◌, refl}
use mathlib.Core.Bool.{Bool, true, false, ◌&&◌, ◌||◌}
use mathlib.Core.List.{List}
use Prim.Native.Nat.{ℕ, zero, suc, ◌*◌, ◌-◌, ◌%◌, ◌≤◌, ◌<◌}
use native.Mathlib.Omega.{arith}
use lib.ListN.{get_or}
use lib.Dec.{ltb, leb, eqb, lit≤}
use borrow.Author.Tests.{ltb-true, eqb-true, eqb-false}
use Rattle.sizes.specs.Sizes.{most_n}
use Rattle.nls.specs.Scan.{State, Pass, pixels, sets, refining, state_at, moves_left}
use Rattle.undo.specs.Back.{Prior, first, quiet, answered, is, block_from, block, many_descs, fresh, unasked, prior_pixels, prior_refining, prior_set, prior_block, prior_sets, prior}

block_low : (n : ℕ) (m : List ℕ) (q size : ℕ) → 1 ≤ size → block_from n m q size ≤ q - 1
unfolding block_from
block_low zero m q size h = omega (arith, h)
block_low (suc n) m q size h = go (is m (q - size) 0) (block_low n m q (4 * size) (omega (arith, h)))
  where
    go : (t : Bool) → block_from n m q (4 * size) ≤ q - 1 → (elim t as (λ _. ℕ) [ true ↦ block_from n m q (4 * size) | false ↦ q - size ]) ≤ q - 1
    go true ih = ih
    go false ih = omega (arith, h)

pub block_before : (m : List ℕ) (q : ℕ) → block m q ≤ q - 1
block_before m q = block_low most_n m q 1 (lit≤ tt)

module _ (I D P : ℕ) (big : ℕ → ℕ → Bool) where
  -- more lies ahead, and the state is as much in range
  abbrev pub Falls : ℕ → Prior → Type 0
  Falls n first = Unit {0}
  Falls n (quiet t) = (n < moves_left I t) × (t.left ≤ P) × (t.place ≤ I)
  Falls n (answered t) = (t.left ≤ P) × (t.place ≤ I)

  falls_unasked : (n l : ℕ) (p : Pass) (i v : ℕ) (m : List ℕ) (t : Bool) → l ≤ P → i ≤ I → Falls n (unasked I D P big l p i v m t)
  falls_unasked n l p i v m true h k = (h, k)
  falls_unasked n l p i v m false h k = (h, k)

  falls_pixels : (l q i : ℕ) (m : List ℕ) (z a s : Bool) → eqb q 0 ≡ z → ltb l P ≡ a → l ≤ P → q ≤ I → i ≤ q - 1 → Falls (moves_left I (state_at l pixels q m)) (prior_pixels I D P big l i m z a s)
  falls_pixels l q i m true true s ez ea h k e = (omega (arith, eqb-true q 0 ez), omega (arith, ltb-true l P ea), omega arith)
  falls_pixels l q i m true false s ez ea h k e = tt
  falls_pixels l q i m false a true ez ea h k e = falls_unasked (moves_left I (state_at l pixels q m)) l pixels i 1 m (is m i 2) h (omega (arith, k, e))
  falls_pixels l q i m false a false ez ea h k e = (omega (arith, eqb-false q 0 ez, k, e), h, omega (arith, k, e))

  falls_refining : (l q i : ℕ) (m : List ℕ) (z s o : Bool) → eqb q 0 ≡ z → l ≤ P → q ≤ I → i ≤ q - 1 → Falls (moves_left I (state_at l refining q m)) (prior_refining I D P big l i m z s o)
  falls_refining l q i m true s o ez h k e = (omega (arith, eqb-true q 0 ez), h, omega arith)
  falls_refining l q i m false true true ez h k e = (h, omega (arith, k, e))
  falls_refining l q i m false true false ez h k e = (omega (arith, eqb-false q 0 ez, k, e), h, omega (arith, k, e))
  falls_refining l q i m false false o ez h k e = (omega (arith, eqb-false q 0 ez, k, e), h, omega (arith, k, e))

  falls_set : (l q i : ℕ) (m : List ℕ) (t : Bool) → (q ≡ 0 → ⊥) → l ≤ P → q ≤ I → i ≤ q - 1 → Falls (moves_left I (state_at l sets q m)) (prior_set I D P big l i m t)
  falls_set l q i m true n h k e = (h, omega (arith, k, e))
  falls_set l q i m false n h k e = (omega (arith, n, k, e), h, omega (arith, k, e))

  falls_block : (l q : ℕ) (m : List ℕ) (a n : Bool) → (q ≡ 0 → ⊥) → l ≤ P → q ≤ I → Falls (moves_left I (state_at l sets q m)) (prior_block I D P big l q m a n)
  falls_block l q m true true n h k = falls_unasked (moves_left I (state_at l sets q m)) l sets (q - 1) 4 m (is m (q - 1) 2) h (omega (arith, k))
  falls_block l q m true false n h k = (omega (arith, n, k), h, omega (arith, k))
  falls_block l q m false x n h k = falls_set l q (block m q) m (is m (block m q) 5 || is m (block m q) 6) n h k (block_before m q)

  falls_sets : (l q : ℕ) (m : List ℕ) (x c y z : Bool) → eqb q 0 ≡ z → l ≤ P → q ≤ I → Falls (moves_left I (state_at l sets q m)) (prior_sets I D P big l q m x c y z)
  falls_sets l q m false c y z ez h k = falls_unasked (moves_left I (state_at l sets q m)) l sets (q - 1) 4 m (is m (q - 1) 2) h (omega (arith, k))
  falls_sets l q m true true y z ez h k = (h, k)
  falls_sets l q m true false true z ez h k = (h, k)
  falls_sets l q m true false false true ez h k = (omega (arith, eqb-true q 0 ez), h, omega arith)
  falls_sets l q m true false false false ez h k =
      falls_block l q m (ltb 0 (get_or m (q - 4) 0) && ltb (get_or m (q - 4) 0) 4) (leb D (q - 4) && fresh I D P big m (q - 4)) (eqb-false q 0 ez) h k

  pub prior_falls : (s : State) → s.left ≤ P → s.place ≤ I → Falls (moves_left I s) (prior I D P big s)
  prior_falls s h k = go s.left s.pass s.place s.pending s.marks h k
    where
      go : (l : ℕ) (p : Pass) (q : ℕ) (w : Bool) (m : List ℕ) → l ≤ P → q ≤ I → Falls (moves_left I (record { left = l; pass = p; place = q; pending = w; marks = m })) (prior I D P big (record { left = l; pass = p; place = q; pending = w; marks = m }))
      go l p q true m h k = (h, k)
      go l pixels q false m h k = falls_pixels l q (block m q) m (eqb q 0) (ltb l P) (is m (block m q) 1 || is m (block m q) 2) refl refl h k (block_before m q)
      go l sets q false m h k = falls_sets l q m (eqb (q % 4) 0) (is m q 4) (many_descs D m q) (eqb q 0) refl h k
      go l refining q false m h k = falls_refining l q (block m q) m (eqb q 0) (is m (block m q) 3) (big l (block m q)) refl h k (block_before m q)
