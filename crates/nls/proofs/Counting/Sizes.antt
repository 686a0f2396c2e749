-- The sizes of the parts that stand add up to I; so there are at most I of them.
use Prim.Native.Nat.{ℕ, ◌+◌, ◌*◌, ◌-◌, ◌/◌, ◌≤◌, ◌<◌}
use mathlib.Core.Path.{◌≡◌, refl, ap, sym, ◌∙◌}
use mathlib.Core.Bool.{Bool, true, false, not, ◌&&◌, ◌||◌, cond}
use native.Mathlib.Omega.{arith}
use borrow.Author.Tests.{lt-ltb, le-ltb}
use lib.Dec.{T, ltb}
use Rattle.nls.proofs.Counting.Sums.{sum, sum_cong, sum_le, sum_add, sum_const, sum_zero, sum_split, sum_at, sum_four, by_four}
use Rattle.nls.proofs.Counting.Tree.{Size, D, Q, I, desc, grand, grand_none, desc_step, desc_le}
use Rattle.nls.proofs.Counting.Parts.{ι, over_desc, over_grand, over_all, split_desc, split_grand, alone, stands_desc, stands_grand, parts, sizes}
use Rattle.nls.proofs.Counting.Count.{by_parent, desc_known, grand_splits}

alone_law : (d s : Bool) → ι (d || s) ≡ ι d + cond (not d && s) 1 0
alone_law true s = refl
alone_law false true = refl
alone_law false false = refl

-- a set that is split, or a part, or not yet known
split_law : (x s : Bool) (n : ℕ) → (T s → T x) → cond x n 0 ≡ cond (not s && x) n 0 + cond s n 0
split_law true true n h = omega arith
split_law true false n h = omega arith
split_law false true n h = absurd (h tt)
split_law false false n h = refl

split_law' : (x s : Bool) (n : ℕ) → (T s → T x) → cond x n 0 ≡ cond (x && not s) n 0 + cond s n 0
split_law' true true n h = omega arith
split_law' true false n h = omega arith
split_law' false true n h = absurd (h tt)
split_law' false false n h = refl

cond_add : (s : Bool) (m n : ℕ) → cond s (m + n) 0 ≡ cond s m 0 + cond s n 0
cond_add true m n = refl
cond_add false m n = refl

held : (s : Bool) (n : ℕ) → 1 ≤ n → ι s ≤ cond s n 0
held true n h = h
held false n h = omega arith

cond_zero : (s : Bool) → ◌≡◌ {A = ℕ} (cond s 0 0) 0
cond_zero true = refl
cond_zero false = refl

module _ (z : Size) where
  -- the sizes of DESC(i) and GRAND(i)
  abbrev size_desc : ℕ → ℕ
  size_desc i = desc z (λ _. 1) i

  abbrev size_grand : ℕ → ℕ
  size_grand i = grand z (λ _. 1) i

  size_step : (i : ℕ) → z.e ≤ i → i < Q z → size_desc i ≡ 4 + size_grand i
  size_step i u v = omega (arith, desc_step z (λ _. 1) i (omega arith) v, sum_const (4 * i) 4 1)

  grand_four : (i : ℕ) → size_grand i ≡ sum (4 * i) 4 (λ c. size_desc c)
  unfolding grand
  grand_four i = refl

  -- a sum over DESC that is 0 where there are no grandchildren
  only_grand : (f : ℕ → ℕ) → ((i : ℕ) → z.j ≤ i → f i ≡ 0) → over_desc z f ≡ over_grand z f
  only_grand f h =
      sum_at z.e z.e (Q z - z.e) ((z.j - z.e) + 3 * z.j) f refl (omega arith)
      ∙ omega (arith, sum_split z.e (z.j - z.e) (3 * z.j) f, sum_zero (z.e + (z.j - z.e)) (3 * z.j) f (λ i u v. h i (omega arith)))

  -- the places below D, and those from D on
  two_runs : (f : ℕ → ℕ) → over_desc z f ≡ sum z.e (3 * z.e) f + sum (4 * z.e) (4 * (z.j - z.e)) f
  two_runs f =
      sum_at z.e z.e (Q z - z.e) (3 * z.e + 4 * (z.j - z.e)) f refl (omega arith)
      ∙ sum_split z.e (3 * z.e) (4 * (z.j - z.e)) f
      ∙ ap (λ (n : ℕ). sum z.e (3 * z.e) f + n)
      (sum_at (z.e + 3 * z.e) (4 * z.e) (4 * (z.j - z.e)) (4 * (z.j - z.e)) f (omega arith) refl)

  -- the sets that are there at the start hold all but the coarsest band
  roots : sum z.e (3 * z.e) (λ i. size_desc i) ≡ 4 * (Q z - z.e)
  roots =
      let steps : over_desc z (λ i. size_desc i) ≡ over_desc z (λ i. 4 + size_grand i) =
      sum_cong z.e (Q z - z.e) (λ i. size_desc i) (λ i. 4 + size_grand i) (λ i u v. size_step i u (omega arith)) in
      let parted : over_desc z (λ i. 4 + size_grand i) ≡ over_desc z (λ _. 4) + over_desc z (λ i. size_grand i) =
      sum_add z.e (Q z - z.e) (λ _. 4) (λ i. size_grand i) in
      let fours : over_grand z (λ i. size_grand i) ≡ sum (4 * z.e) (4 * (z.j - z.e)) (λ i. size_desc i) =
      sum_cong z.e (z.j - z.e) (λ i. size_grand i) (λ i. sum (4 * i) 4 (λ c. size_desc c)) (λ i u v. grand_four i)
      ∙ sym (sum_four z.e (z.j - z.e) (λ i. size_desc i)) in
      omega (
        arith,
        two_runs (λ i. size_desc i),
        only_grand (λ i. size_grand i) (λ i u. grand_none z (λ _. 1) i u),
        sum_const z.e (Q z - z.e) 4,
      )

  -- the places below D
  low : over_all z (λ i. ι (ltb i (D z))) ≡ D z
  low =
      sum_at 0 0 (I z) (D z + (I z - D z)) (λ i. ι (ltb i (D z))) refl (omega arith)
      ∙ omega (
        arith,
        sum_split 0 (D z) (I z - D z) (λ i. ι (ltb i (D z))),
        sum_cong 0 (D z) (λ i. ι (ltb i (D z))) (λ _. 1) (λ i u v. let t : ltb i (D z) ≡ true = lt-ltb i (D z) (omega arith) in rw t),
        sum_const 0 (D z) 1,
        sum_zero (0 + D z) (I z - D z) (λ i. ι (ltb i (D z))) (λ i u v. let t : ltb i (D z) ≡ false = le-ltb i (D z) (omega arith) in rw t),
      )

  module _ (mag : ℕ → ℕ) (b : ℕ) where
    alones : over_all z (λ i. ι (alone z mag b i)) ≡ D z + over_desc z (λ p. cond (split_desc z mag b p) 4 0)
    unfolding alone
    alones =
        let parted : over_all z (λ i. ι (alone z mag b i))
        ≡ over_all z (λ i. ι (ltb i (D z))) + over_all z (λ i. cond (not (ltb i (D z)) && split_desc z mag b (i / 4)) 1 0) =
        sum_cong 0 (I z) (λ i. ι (alone z mag b i)) (λ i. ι (ltb i (D z)) + cond (not (ltb i (D z)) && split_desc z mag b (i / 4)) 1 0)
        (λ i u v. alone_law (ltb i (D z)) (split_desc z mag b (i / 4)))
        ∙ sum_add 0 (I z) (λ i. ι (ltb i (D z))) (λ i. cond (not (ltb i (D z)) && split_desc z mag b (i / 4)) 1 0) in
        let kids : over_desc z (λ p. cond (split_desc z mag b p) 4 0) ≡ over_all z (λ i. cond (not (ltb i (D z)) && split_desc z mag b (i / 4)) 1 0) =
        sum_cong z.e (Q z - z.e) (λ p. cond (split_desc z mag b p) 4 0) (λ p. cond (split_desc z mag b p) (sum (4 * p) 4 (λ _. 1)) 0)
        (λ p u v. rw (sum_const (4 * p) 4 1))
        ∙ by_parent z (λ p. split_desc z mag b p) (λ _. 1) in
        omega (arith, low)

    -- the DESC sets that are parts or split, by what becomes of them
    descs : over_desc z (λ i. cond (ltb i (D z) || split_grand z mag b (i / 4)) (size_desc i) 0)
        ≡ over_desc z (λ i. cond (stands_desc z mag b i) (size_desc i) 0)
        + (over_desc z (λ i. cond (split_desc z mag b i) 4 0) + over_desc z (λ i. cond (split_desc z mag b i) (size_grand i) 0))
    unfolding stands_desc
    descs =
        sum_cong z.e (Q z - z.e) (λ i. cond (ltb i (D z) || split_grand z mag b (i / 4)) (size_desc i) 0)
        (λ i. cond (stands_desc z mag b i) (size_desc i) 0 + (cond (split_desc z mag b i) 4 0 + cond (split_desc z mag b i) (size_grand i) 0))
        (λ i u v. split_law (ltb i (D z) || split_grand z mag b (i / 4)) (split_desc z mag b i) (size_desc i) (desc_known z mag b i)
        ∙ ap (λ (n : ℕ). cond (stands_desc z mag b i) (size_desc i) 0 + n)
        (ap (λ (n : ℕ). cond (split_desc z mag b i) n 0) (size_step i u (omega arith)) ∙ cond_add (split_desc z mag b i) 4 (size_grand i)))
        ∙ omega (
          arith,
          sum_add z.e (Q z - z.e) (λ i. cond (stands_desc z mag b i) (size_desc i) 0)
              (λ i. cond (split_desc z mag b i) 4 0 + cond (split_desc z mag b i) (size_grand i) 0),
          sum_add z.e (Q z - z.e) (λ i. cond (split_desc z mag b i) 4 0) (λ i. cond (split_desc z mag b i) (size_grand i) 0),
        )

    grands : over_desc z (λ i. cond (split_desc z mag b i) (size_grand i) 0)
        ≡ over_grand z (λ i. cond (stands_grand z mag b i) (size_grand i) 0)
        + sum (4 * z.e) (4 * (z.j - z.e)) (λ i. cond (split_grand z mag b (i / 4)) (size_desc i) 0)
    unfolding stands_grand grand
    grands =
        only_grand (λ i. cond (split_desc z mag b i) (size_grand i) 0)
        (λ i u. ap (λ (n : ℕ). cond (split_desc z mag b i) n 0) (grand_none z (λ _. 1) i u) ∙ cond_zero (split_desc z mag b i))
        ∙ sum_cong z.e (z.j - z.e) (λ i. cond (split_desc z mag b i) (size_grand i) 0)
        (λ i. cond (stands_grand z mag b i) (size_grand i) 0 + cond (split_grand z mag b i) (sum (4 * i) 4 (λ c. size_desc c)) 0)
        (λ i u v. split_law' (split_desc z mag b i) (split_grand z mag b i) (size_grand i) (grand_splits z mag b i (omega arith) (omega arith)))
        ∙ omega (
          arith,
          sum_add z.e (z.j - z.e) (λ i. cond (stands_grand z mag b i) (size_grand i) 0)
              (λ i. cond (split_grand z mag b i) (sum (4 * i) 4 (λ c. size_desc c)) 0),
          by_four z.e (z.j - z.e) (λ i. split_grand z mag b i) (λ c. size_desc c),
        )

    known : over_desc z (λ i. cond (ltb i (D z) || split_grand z mag b (i / 4)) (size_desc i) 0)
        ≡ sum z.e (3 * z.e) (λ i. size_desc i)
        + sum (4 * z.e) (4 * (z.j - z.e)) (λ i. cond (split_grand z mag b (i / 4)) (size_desc i) 0)
    known =
        two_runs (λ i. cond (ltb i (D z) || split_grand z mag b (i / 4)) (size_desc i) 0)
        ∙ omega (
          arith,
          sum_cong z.e (3 * z.e) (λ i. cond (ltb i (D z) || split_grand z mag b (i / 4)) (size_desc i) 0) (λ i. size_desc i)
              (λ i u v. let t : ltb i (D z) ≡ true = lt-ltb i (D z) (omega arith) in rw t),
          sum_cong (4 * z.e) (4 * (z.j - z.e)) (λ i. cond (ltb i (D z) || split_grand z mag b (i / 4)) (size_desc i) 0)
              (λ i. cond (split_grand z mag b (i / 4)) (size_desc i) 0)
              (λ i u v. let t : ltb i (D z) ≡ false = le-ltb i (D z) (omega arith) in rw t),
        )

    -- the sizes of the parts add up to I
    pub sizes_all : sizes z mag b ≡ I z
    unfolding sizes
    sizes_all = omega (arith, alones, descs, grands, known, roots)

    -- a part has a member, so there are at most I
    pub parts_le : parts z mag b ≤ I z
    unfolding parts sizes
    parts_le =
        omega (
          arith,
          sizes_all,
          sum_le z.e (Q z - z.e) (λ i. ι (stands_desc z mag b i)) (λ i. cond (stands_desc z mag b i) (size_desc i) 0)
              (λ i u v. held (stands_desc z mag b i) (size_desc i) (omega (arith, size_step i u (omega arith)))),
          sum_le z.e (z.j - z.e) (λ i. ι (stands_grand z mag b i)) (λ i. cond (stands_grand z mag b i) (size_grand i) 0)
              (λ i u v. held (stands_grand z mag b i) (size_grand i)
              (omega (arith, desc_le z (λ _. 1) i (4 * i) (omega arith) (omega arith), size_step (4 * i) (omega arith) (omega arith)))),
        )
