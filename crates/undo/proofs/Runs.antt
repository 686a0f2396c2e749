-- Runs of silent moves back: places where a pass asked nothing, as their marks tell, one at a time or four.
use Prim.Native.Nat.{ℕ, ◌+◌, ◌-◌, ◌%◌, ◌^◌, ◌≤◌, ◌<◌}
use mathlib.Core.Path.{◌≡◌, refl, sym, ◌∙◌}
use mathlib.Core.Bool.{Bool, true, false, ◌&&◌, ◌||◌, not, cond, or-false}
use mathlib.Core.List.{List}
use native.Mathlib.Omega.{arith}
use native.Mathlib.Decide.{dec_lt}
use borrow.Author.Tests.{le-leb, ltb-true, leb-true, eqb-true, not-true}
use lib.Bits.{bit_or}
use lib.Dec.{ltb, leb}
use lib.ListN.{length, get_or, set}
use lib.Seq.{get_or-set_other, set_comm}
use Rattle.sizes.specs.Sizes.{most_n}
use Rattle.sizes.proofs.Laws.{both_left, both_right}
use Rattle.bits.proofs.Laws.{or_reaches}
use Rattle.nls.specs.Scan.{Pass, pixels, sets, refining, state_at}
use Rattle.nls.proofs.Booleans.{neither}
use Rattle.marking.specs.Marking.{same_four, set_four}
use Rattle.marking.proofs.Laws.{four_told}
use Rattle.moves.specs.Stands.{pass_of, stand}
use Rattle.undo.specs.Back.{is, alone, block, fresh, prior}
use Rattle.undo.specs.declared.Before.TheVariants.{Quiet}
use Rattle.undo.specs.Undoing.{Was, Hushed}
use Rattle.undo.proofs.Fuel.{back_quiet}
use Rattle.undo.proofs.Tables.{block_here}
use Rattle.undo.proofs.Steps.{many_none, pixel_quiet, refining_other, refining_new, block_alone, Ending, sets_block, sets_end, was_quiet}

-- ---- tests

both_not : (a t : Bool) → (a && not t) ≡ true → (a ≡ true) × (t ≡ false)
both_not a t e = (both_left a (not t) e, not-true t (both_right a (not t) e))

-- the OR of four numbers reaches 2^k exactly if one of them does
pub four_reach : (k a b c d : ℕ) → leb (2 ^ k) (bit_or (bit_or a b) (bit_or c d)) ≡ ((leb (2 ^ k) a || leb (2 ^ k) b) || (leb (2 ^ k) c || leb (2 ^ k) d))
four_reach k a b c d = or_reaches k (bit_or a b) (bit_or c d) ∙ rw (or_reaches k a b, or_reaches k c d)

-- what a test for four marks before a place tells
pub four_before : (m : List ℕ) (q v : ℕ) → (leb 4 q && same_four m (q - 4) v) ≡ true → (4 ≤ q) × (q ≤ length m)
four_before m q v e =
    let h = leb-true 4 q (both_left (leb 4 q) _ e) in
    let t = four_told m (q - 4) v (both_right (leb 4 q) _ e) in
    (h, omega arith)

-- ---- marks

-- the mark just before a place, if there is one, is where the block that ends there begins
mark_before : (m : List ℕ) (q i : ℕ) → i + 1 ≡ q → (get_or m i 0 ≡ 0 → ⊥) → i ≡ block m q
mark_before m q i e h =
    let k : i ≡ q - 1 = omega arith in
    k ∙ block_here most_n m q 1 (block m q) refl (rw k at h)

-- four marks that are set from the last to the first
set_back : (m : List ℕ) (i v : ℕ) → set (set (set (set m (i + 3) v) (i + 2) v) (i + 1) v) i v ≡ set_four m i v
set_back m i v = rw (
  set_comm m (i + 3) (i + 2) v v (λ e. omega arith),
  set_comm (set m (i + 2) v) (i + 3) (i + 1) v v (λ e. omega arith),
  set_comm (set (set m (i + 2) v) (i + 1) v) (i + 3) i v v (λ e. omega arith),
  set_comm m (i + 2) (i + 1) v v (λ e. omega arith),
  set_comm (set m (i + 1) v) (i + 2) i v v (λ e. omega arith),
  set_comm m (i + 1) i v v (λ e. omega arith),
)

-- a mark before one that is set
still : (m : List ℕ) (j k v w : ℕ) → j < k → get_or m j 0 ≡ w → get_or (set m k v) j 0 ≡ w
still m j k v w h e = get_or-set_other m k j v 0 (λ z. omega arith) ∙ e

-- ---- runs

module _ (I D P : ℕ) (big : ℕ → ℕ → Bool) (l : ℕ) where
  pub hushed_on : {p : Pass} {q : ℕ} {m : List ℕ} {r : ℕ} {m' : List ℕ} {s : ℕ} {m'' : List ℕ} → Hushed I D P big l p q m r m' → Hushed I D P big l p r m' s m'' → Hushed I D P big l p q m s m''
  hushed_on h k = record { near = omega arith; same = k.same ∙ h.same }

  module _ (few : l ≤ P) where
    hushed_move : (k q r : ℕ) (m m' : List ℕ) → q ≤ I → r ≤ q → Was (prior I D P big (state_at l (pass_of k) q m)) (Quiet (stand l k r false)) m m' → Hushed I D P big l (pass_of k) q m r m'
    hushed_move k q r m m' h n w =
        let x = was_quiet (prior I D P big (state_at l (pass_of k) q m)) (stand l k r false) m m' w in
        record { near = n; same = sym (back_quiet I D P big (state_at l (pass_of k) q m) (state_at l (pass_of k) r m') x.0 few h) }

    -- ---- the pixel pass: coefficients that are found

    pub old_one : (m : List ℕ) (q i : ℕ) → i + 1 ≡ q → q ≤ I → get_or m i 0 ≡ 3 → Hushed I D P big l pixels q m i m
    unfolding pass_of
    old_one m q i e h t = hushed_move 0 q i m m h (omega arith) (pixel_quiet I D P big l q m i (omega arith) (mark_before m q i e (omega arith)) (omega arith) (omega arith))

    pub old_four : (m : List ℕ) (q : ℕ) → q ≤ I → (leb 4 q && same_four m (q - 4) 3) ≡ true → Hushed I D P big l pixels q m (q - 4) m
    old_four m q h e =
        let i = q - 4 in
        let n = four_before m q 3 e in
        let t = four_told m i 3 (both_right (leb 4 q) _ e) in
        hushed_on (old_one m q (i + 3) (omega arith) h t.4)
        (hushed_on (old_one m (i + 3) (i + 2) (omega arith) (omega arith) t.3)
        (hushed_on (old_one m (i + 2) (i + 1) (omega arith) (omega arith) t.2)
        (old_one m (i + 1) i refl (omega arith) t.1)))

    -- ---- the refinement pass: coefficients that are not found, or were found in this plane

    none_one : (m : List ℕ) (q i : ℕ) → i + 1 ≡ q → q ≤ I → get_or m i 0 ≡ 1 → Hushed I D P big l refining q m i m
    unfolding pass_of
    none_one m q i e h t = hushed_move 2 q i m m h (omega arith) (refining_other I D P big l q m i (omega arith) (mark_before m q i e (omega arith)) (omega arith))

    new_one : (m : List ℕ) (q i : ℕ) → i + 1 ≡ q → q ≤ I → get_or m i 0 ≡ 3 → big l i ≡ false → Hushed I D P big l refining q m i (set m i 2)
    unfolding pass_of
    new_one m q i e h t b = hushed_move 2 q i m (set m i 2) h (omega arith) (refining_new I D P big l q m i (omega arith) (mark_before m q i e (omega arith)) false t (sym b) refl)

    pub back_one : (m m' : List ℕ) (q i : ℕ) → i + 1 ≡ q → q ≤ I → (is m i 1 || (is m i 3 && not (big l i))) ≡ true → m' ≡ cond (is m i 3 && not (big l i)) (set m i 2) m → Hushed I D P big l refining q m i m'
    back_one m m' q i e h t f = go (is m i 3 && not (big l i)) refl t f
      where
        go : (x : Bool) → (is m i 3 && not (big l i)) ≡ x → (is m i 1 || x) ≡ true → m' ≡ cond x (set m i 2) m → Hushed I D P big l refining q m i m'
        go true g t f = let x = both_not _ _ g in rw f (new_one m q i e h (eqb-true (get_or m i 0) 3 x.0) x.1)
        go false g t f = rw f (none_one m q i e h (eqb-true (get_or m i 0) 1 (sym (or-false (is m i 1)) ∙ t)))

    -- four that were found, from the last to the first
    new_each : (m : List ℕ) (q i : ℕ) → i + 4 ≡ q → q ≤ I → (get_or m i 0 ≡ 3) × (get_or m (i + 1) 0 ≡ 3) × (get_or m (i + 2) 0 ≡ 3) × (get_or m (i + 3) 0 ≡ 3)
        → big l i ≡ false → big l (i + 1) ≡ false → big l (i + 2) ≡ false → big l (i + 3) ≡ false → Hushed I D P big l refining q m i (set (set (set (set m (i + 3) 2) (i + 2) 2) (i + 1) 2) i 2)
    new_each m q i e h t a b c d =
        hushed_on (new_one m q (i + 3) (omega arith) h t.3 d)
        (hushed_on (new_one (set m (i + 3) 2) (i + 3) (i + 2) (omega arith) (omega arith) (still m (i + 2) (i + 3) 2 3 (omega arith) t.2) c)
        (hushed_on (new_one (set (set m (i + 3) 2) (i + 2) 2) (i + 2) (i + 1) (omega arith) (omega arith) (still (set m (i + 3) 2) (i + 1) (i + 2) 2 3 (omega arith) (still m (i + 1) (i + 3) 2 3 (omega arith) t.1)) b)
        (new_one (set (set (set m (i + 3) 2) (i + 2) 2) (i + 1) 2) (i + 1) i refl (omega arith) (still (set (set m (i + 3) 2) (i + 2) 2) i (i + 1) 2 3 (omega arith) (still (set m (i + 3) 2) i (i + 2) 2 3 (omega arith) (still m i (i + 3) 2 3 (omega arith) t.0))) a)))

    pub new_four : (m m' : List ℕ) (q : ℕ) → q ≤ I → ((leb 4 q && same_four m (q - 4) 3) && not ((big l (q - 4) || big l (q - 4 + 1)) || (big l (q - 4 + 2) || big l (q - 4 + 3)))) ≡ true
        → m' ≡ cond (leb (q - 4 + 4) (length m)) (set_four m (q - 4) 2) m → Hushed I D P big l refining q m (q - 4) m'
    new_four m m' q h e f =
        let i = q - 4 in
        let a = both_not _ _ e in
        let n = four_before m q 3 a.0 in
        let t = four_told m i 3 (both_right (leb 4 q) _ a.0) in
        let b = neither (big l i || big l (i + 1)) _ a.1 in
        let c = neither (big l i) _ b.0 in
        let d = neither (big l (i + 2)) _ b.1 in
        rw (f, le-leb (i + 4) (length m) t.0, ← set_back m i 2) (new_each m q i (omega arith) h (t.1, t.2, t.3, t.4) c.0 c.1 d.0 d.1)

    -- ---- the set pass: fours that are in no set

    pub alone_four : (m : List ℕ) (q : ℕ) → length m ≡ I → q % 4 ≡ 0 → 4 ≤ q → q ≤ I → (q < I → alone m q ≡ true) → (alone m (q - 4) && not (leb D (q - 4) && fresh I D P big m (q - 4))) ≡ true → Hushed I D P big l sets q m (q - 4) m
    unfolding pass_of
    alone_four m q s f w h a e =
        let x = both_not (alone m (q - 4)) _ e in
        hushed_move 1 q (q - 4) m m h (omega arith) (go (dec_lt q I) (block_alone I D P big l q m _ _ x.0 x.1))
      where
        go : Dec (q < I) → Ending I D P big l q m (Quiet (stand l 1 (q - 4) false)) m → Was (prior I D P big (state_at l sets q m)) (Quiet (stand l 1 (q - 4) false)) m m
        go (yes k) =
            let b = ltb-true (get_or m q 0) 4 (both_right (ltb 0 (get_or m q 0)) _ (a k)) in
            sets_block I D P big l q m f (omega arith) false (many_none D m q (omega arith)) refl (Quiet (stand l 1 (q - 4) false)) m (omega arith)
        go (no k) = sets_end I D P big l q m f (Quiet (stand l 1 (q - 4) false)) m (omega arith) (omega arith)
