-- The pixel pass and the refinement pass write what the magnitudes say.
use Prim.Native.Nat.{ℕ, suc, ◌+◌, ◌^◌, ◌/◌, ◌≤◌, ◌<◌}
use mathlib.Core.Path.{◌≡◌, refl, ap}
use mathlib.Core.Bool.{Bool, true, false, ◌||◌, cond}
use mathlib.Core.List.{[]}
use mathlib.Core.Logic.{⊎_elim}
use native.Mathlib.Nat.{sub-zero}
use native.Mathlib.Numerals.{add-one}
use native.Mathlib.Omega.{arith}
use borrow.Author.Tests.{le-ltb, eqb-true, ne_eqb}
use lib.Dec.{T, ltb, eqb, T_not}
use Rattle.nls.proofs.Booleans.{T_false, T_true, of_true, of_false}
use Rattle.nls.proofs.Counting.Sums.{each, order}
use Rattle.nls.proofs.Counting.Tree.{Size, D, Q, I, grand_none}
use Rattle.nls.proofs.Counting.Parts.{ι, big, alone, split_desc, split_grand, pixel, refine}
use Rattle.nls.proofs.Counting.Count.{big_mono, grand_splits, desc_known, big_alone, bit_big}
use Rattle.nls.proofs.Counting.Tiles.{up, Alone, Cov, first_spot}
use Rattle.nls.proofs.Counting.Steps.{Table, put, skip, go, pixel_step, refine_step, code, skip_code, code_high, Marks, clash, pass, halfway, retell}

same_mark : (m : Table) (x v y : ℕ) → m x ≡ v → m y ≡ cond (eqb y x) v (m y)
same_mark m x v y h = tell (eqb y x) refl
  where
    tell : (t : Bool) → eqb y x ≡ t → m y ≡ cond (eqb y x) v (m y)
    tell true e = let s : y ≡ x = eqb-true y x e in rw (e, s) h
    tell false e = rw e

marked : (m : Table) (x : ℕ) → m x ≡ 1 → (t : Bool) (y : ℕ) → cond t (put m x 2) m y ≡ cond (eqb y x) (cond t 2 1) (m y)
marked m x v true y = refl
marked m x v false y = same_mark m x 1 y v

module _ (z : Size) (mag : ℕ → ℕ) where
  pub closed1 : (b q : ℕ) → z.e ≤ q → T (split_grand z mag b q) → T (split_desc z mag b q)
  unfolding split_grand
  closed1 b q h t = ⊎_elim (λ l. absurd (rw (grand_none z (λ c. ι (big mag b c)) q (omega arith)) at t)) (λ l. grand_splits z mag b q (omega arith) l t) (order (Q z) q)

  -- the marks of coefficients between planes, and after the pixel pass and the set pass
  unfoldable pub rest : ℕ → ℕ → ℕ
  rest b x = cond (big mag b x) 3 1

  unfoldable pub found : ℕ → ℕ → ℕ
  found b x = cond (big mag (suc b) x) 3 (cond (big mag b x) 2 1)

  module _ (neg : ℕ → Bool) (b : ℕ) where
    -- ---- the pixel pass
    pixel_quiet : (k x : ℕ) → x < I z → Cov z (split_desc z mag (suc b)) (split_grand z mag (suc b)) k (up k x) → pixel z mag neg b x ≡ []
    unfolding pixel alone
    pixel_quiet k x u c =
        let no_one : (ltb x (D z) || split_desc z mag (suc b) (x / 4)) ≡ false =
        T_false (ltb x (D z) || split_desc z mag (suc b) (x / 4))
        (clash z (split_desc z mag (suc b)) (split_grand z mag (suc b)) (closed1 (suc b)) (desc_known z mag (suc b)) k x c) in
        rw no_one

    pixel_coef : (m : Table) (x : ℕ) → x < I z → Alone z (split_desc z mag (suc b)) (split_grand z mag (suc b)) x → m x ≡ rest (suc b) x
        → ((pixel_step mag neg b m x).0 ≡ pixel z mag neg b x)
        × ((y : ℕ) → (pixel_step mag neg b m x).1 y ≡ cond (eqb y x) (found b x) (m y))
        × ((pixel_step mag neg b m x).2 ≡ suc x)
    unfolding pixel alone rest found pixel_step skip
    pixel_coef m x u t h = tell (big mag (suc b) x) refl
      where
        here : (ltb x (D z) || split_desc z mag (suc b) (x / 4)) ≡ true
        here = T_true (ltb x (D z) || split_desc z mag (suc b) (x / 4)) t

        tell : (s : Bool) → big mag (suc b) x ≡ s
            → ((pixel_step mag neg b m x).0 ≡ pixel z mag neg b x)
            × ((y : ℕ) → (pixel_step mag neg b m x).1 y ≡ cond (eqb y x) (found b x) (m y))
            × ((pixel_step mag neg b m x).2 ≡ suc x)
        tell true e =
            let v : m x ≡ 3 = rw e at h in
            rw (v, e, here) (refl, λ y. same_mark m x 3 y v, add-one x)
        tell false e =
            let v : m x ≡ 1 = rw e at h in
            rw (v, e, here, bit_big mag b x (of_false (big mag (suc b) x) e)) (refl, λ y. marked m x v (big mag b x) y, refl)

    pixel_run : (m : Table) (x : ℕ) (s : Bool) (k : ℕ) → 1 ≤ k → (T s → 2 ≤ k) → m x ≡ code s k
        → ((pixel_step mag neg b m x).0 ≡ []) × ((pixel_step mag neg b m x).1 ≡ m) × ((pixel_step mag neg b m x).2 ≡ x + 4 ^ k)
    unfolding pixel_step
    pixel_run m x s k p q h =
        let hi : 5 ≤ code s k = code_high s k p in
        let n : eqb (code s k) 1 ≡ false = ne_eqb (code s k) 1 (omega arith) in
        rw (h, n) (refl, refl, ap (λ (w : ℕ). x + w) (skip_code s k p q))

    pub pixel_pass : (m : Table) → Marks z (split_desc z mag (suc b)) (split_grand z mag (suc b)) (rest (suc b)) m
        → ((go z (pixel_step mag neg b) (I z) m 0).0 ≡ each 0 (I z) (λ x. pixel z mag neg b x))
        × Marks z (split_desc z mag (suc b)) (split_grand z mag (suc b)) (λ x. found b x) (go z (pixel_step mag neg b) (I z) m 0).1
    pixel_pass m k =
        rw (sub-zero (I z)) at
        (pass z (split_desc z mag (suc b)) (split_grand z mag (suc b)) (closed1 (suc b)) (desc_known z mag (suc b))
        (pixel_step mag neg b) (rest (suc b)) (found b) (λ x. pixel z mag neg b x) pixel_quiet pixel_coef pixel_run
        (I z) 0 m (omega arith)
        (first_spot z (split_desc z mag (suc b)) (split_grand z mag (suc b)) (closed1 (suc b)) (desc_known z mag (suc b)))
        (retell z (split_desc z mag (suc b)) (split_grand z mag (suc b)) (closed1 (suc b)) (desc_known z mag (suc b))
        (rest (suc b)) (halfway (found b) (rest (suc b)) 0) m (λ x u t. rw (le-ltb x 0 (omega arith))) k))

    -- ---- the refinement pass
    refine_quiet : (k x : ℕ) → x < I z → Cov z (split_desc z mag b) (split_grand z mag b) k (up k x) → refine mag b x ≡ []
    unfolding refine
    refine_quiet k x u c =
        let no_one : big mag (suc b) x ≡ false =
        T_false (big mag (suc b) x)
        (λ t. clash z (split_desc z mag b) (split_grand z mag b) (closed1 b) (desc_known z mag b) k x c (big_alone z mag b x u (big_mono z mag b x t))) in
        rw no_one

    refine_coef : (m : Table) (x : ℕ) → x < I z → Alone z (split_desc z mag b) (split_grand z mag b) x → m x ≡ found b x
        → ((refine_step mag b m x).0 ≡ refine mag b x)
        × ((y : ℕ) → (refine_step mag b m x).1 y ≡ cond (eqb y x) (rest b x) (m y))
        × ((refine_step mag b m x).2 ≡ suc x)
    unfolding refine rest found refine_step skip
    refine_coef m x u t h = tell (big mag (suc b) x) (big mag b x) refl refl
      where
        tell : (s r : Bool) → big mag (suc b) x ≡ s → big mag b x ≡ r
            → ((refine_step mag b m x).0 ≡ refine mag b x)
            × ((y : ℕ) → (refine_step mag b m x).1 y ≡ cond (eqb y x) (rest b x) (m y))
            × ((refine_step mag b m x).2 ≡ suc x)
        tell true true e e' =
            let v : m x ≡ 3 = rw e at h in
            rw (v, e, e') (refl, λ y. same_mark m x 3 y v, refl)
        tell true false e e' = absurd (T_not (big mag b x) (of_false (big mag b x) e') (big_mono z mag b x (of_true (big mag (suc b) x) e)))
        tell false true e e' =
            let v : m x ≡ 2 = rw (e, e') at h in
            rw (v, e, e') (refl, λ y. refl, refl)
        tell false false e e' =
            let v : m x ≡ 1 = rw (e, e') at h in
            rw (v, e, e') (refl, λ y. same_mark m x 1 y v, add-one x)

    refine_run : (m : Table) (x : ℕ) (s : Bool) (k : ℕ) → 1 ≤ k → (T s → 2 ≤ k) → m x ≡ code s k
        → ((refine_step mag b m x).0 ≡ []) × ((refine_step mag b m x).1 ≡ m) × ((refine_step mag b m x).2 ≡ x + 4 ^ k)
    unfolding refine_step
    refine_run m x s k p q h =
        let hi : 5 ≤ code s k = code_high s k p in
        let n : eqb (code s k) 3 ≡ false = ne_eqb (code s k) 3 (omega arith) in
        let n' : eqb (code s k) 2 ≡ false = ne_eqb (code s k) 2 (omega arith) in
        rw (h, n, n') (refl, refl, ap (λ (w : ℕ). x + w) (skip_code s k p q))

    pub refine_pass : (m : Table) → Marks z (split_desc z mag b) (split_grand z mag b) (λ x. found b x) m
        → ((go z (refine_step mag b) (I z) m 0).0 ≡ each 0 (I z) (λ x. refine mag b x))
        × Marks z (split_desc z mag b) (split_grand z mag b) (λ x. rest b x) (go z (refine_step mag b) (I z) m 0).1
    refine_pass m k =
        rw (sub-zero (I z)) at
        (pass z (split_desc z mag b) (split_grand z mag b) (closed1 b) (desc_known z mag b)
        (refine_step mag b) (found b) (rest b) (λ x. refine mag b x) refine_quiet refine_coef refine_run
        (I z) 0 m (omega arith)
        (first_spot z (split_desc z mag b) (split_grand z mag b) (closed1 b) (desc_known z mag b))
        (retell z (split_desc z mag b) (split_grand z mag b) (closed1 b) (desc_known z mag b)
        (found b) (halfway (rest b) (found b) 0) m (λ x u t. rw (le-ltb x 0 (omega arith))) k))
