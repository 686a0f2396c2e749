-- The two ways to write a table are one: skips, pushes, splits and the start.
use Prim.Native.Nat.{ℕ, zero, suc, ◌+◌, ◌*◌, ◌-◌, ◌^◌, ◌/◌, ◌≤◌}
use mathlib.Core.Path.{◌≡◌, refl, ap, sym, subst, ◌∙◌}
use mathlib.Core.Bool.{Bool, true, false, cond}
use mathlib.Core.List.{List, ◌++◌}
use mathlib.Core.Logic.{⊎_elim}
use native.Mathlib.Nat.{pow-succ', le-mul_of_pos_right}
use native.Mathlib.Omega.{arith}
use borrow.Author.Tests.{lt-ltb, le-ltb, ne_eqb, le-leb, lt-leb}
use lib.Dec.{ltb, leb}
use lib.ListN.{set, replicate}
use Rattle.nls.specs.Marks.{skip, set_skip, push_from, push, split_desc, split_grand, push_roots}
use Rattle.nls.proofs.Arrays.{four}
use Rattle.nls.proofs.Counting.Sums.{order}
use Rattle.nls.proofs.Counting.Tree.{Size, D, I}
use Rattle.nls.proofs.Counting.Steps as C
use Rattle.nls.proofs.Counting.Lists.{push_l, pushed_l, open_desc_l, open_grand_l, start_from_l, start_l}

pub skip_same : (c : ℕ) → C.skip c ≡ skip c
unfolding C.skip skip
skip_same zero = refl
skip_same (suc zero) = refl
skip_same (suc (suc zero)) = refl
skip_same (suc (suc (suc zero))) = refl
skip_same (suc (suc (suc (suc zero)))) = refl
skip_same (suc (suc (suc (suc (suc zero))))) = refl
skip_same (suc (suc (suc (suc (suc (suc zero)))))) = refl
skip_same (suc (suc (suc (suc (suc (suc (suc c))))))) = far (suc (suc (suc (suc (suc (suc (suc c))))))) (omega arith)
  where
    far : (n : ℕ) → 7 ≤ n → C.skip n ≡ skip n
    far n h = rw (lt-leb n 4 (omega arith), ne_eqb n 5 (omega arith), ne_eqb n 6 (omega arith), le-ltb n 5 (omega arith), le-ltb n 7 (omega arith), skip)

pub sskip_same : (c : ℕ) → (c ≡ 4 → ⊥) → cond (leb c 3) 4 (C.skip c) ≡ set_skip c
unfolding set_skip
sskip_same c n = ⊎_elim (λ l. rw (le-leb c 3 l, lt-ltb c 5 (omega arith), set_skip)) (λ l. rw (lt-leb c 3 l, le-ltb c 5 (omega (arith, n)), set_skip) (skip_same c)) (order c 3)

module _ (z : Size) (full : I z ≡ 4 ^ z.deep) where
  abbrev K : ℕ
  K = 4 ^ z.deep

  push_same : (n f w c : ℕ) (m : List ℕ) → 1 ≤ w → K ≤ n + w → K ≤ 4 ^ f * w → push_from K n w c m ≡ push_l z f c w m
  unfolding push_from push_l
  push_same zero zero w c m o p q = refl
  push_same zero (suc f) w c m o p q = rw (le-ltb w (I z) (omega (arith, full)))
  push_same (suc n) zero w c m o p q = rw (le-ltb w K (omega arith), push_from)
  push_same (suc n) (suc f) w c m o p q =
      subst (λ (k : ℕ). (elim (ltb w K) as (λ _. List ℕ) [ true ↦ push_from K n (4 * w) (c + 1) (set m w c) | false ↦ m ]) ≡ cond (ltb w k) (push_l z f (suc c) (4 * w) (set m w c)) m)
      (sym full)
      (go (ltb w K)
      (subst (λ (d : ℕ). push_from K n (4 * w) d (set m w c) ≡ push_l z f (suc c) (4 * w) (set m w c)) {x = suc c} {y = c + 1} (omega arith)
      (push_same n f (4 * w) (suc c) (set m w c) (omega arith) (omega arith) (omega (arith, ap (λ (x : ℕ). x * w) (pow-succ' 4 f))))))
    where
      go : (t : Bool) → push_from K n (4 * w) (c + 1) (set m w c) ≡ push_l z f (suc c) (4 * w) (set m w c)
          → (elim t as (λ _. List ℕ) [ true ↦ push_from K n (4 * w) (c + 1) (set m w c) | false ↦ m ]) ≡ cond t (push_l z f (suc c) (4 * w) (set m w c)) m
      go true e = e
      go false e = refl

  pub pushed_same : (l : List ℕ) (i : ℕ) → 1 ≤ i → push K i (set l i 5) ≡ pushed_l z l i
  unfolding pushed_l
  pushed_same l i h = push_same K z.deep (4 * i) 7 (set l i 5) (omega arith) (omega arith) (le-mul_of_pos_right {m = 4 * i} (4 ^ z.deep) (omega arith))

  pub open_same : (l : List ℕ) (i : ℕ) → split_desc K i l (ltb (4 * i) K) ≡ open_desc_l z l i
  unfolding open_desc_l
  open_same l i = subst (λ (k : ℕ). split_desc K i l (ltb (4 * i) K) ≡ cond (ltb (4 * i) k) (set (four i 4 l) (4 * i) 6) (four i 4 l)) (sym full) (go (ltb (4 * i) K))
    where
      go : (t : Bool) → split_desc K i l t ≡ cond t (set (four i 4 l) (4 * i) 6) (four i 4 l)
      go true = refl
      go false = refl

  pub grand_same : (l : List ℕ) (i : ℕ) → 1 ≤ i → split_grand K i l ≡ open_grand_l z l i
  unfolding open_grand_l
  grand_same l i h =
      ap (λ (x : List ℕ). push K (i + 12) (set (push K (i + 8) (set (push K (i + 4) (set x (i + 4) 5)) (i + 8) 5)) (i + 12) 5)) (pushed_same l i h)
      ∙ ap (λ (x : List ℕ). push K (i + 12) (set (push K (i + 8) (set x (i + 8) 5)) (i + 12) 5)) (pushed_same (pushed_l z l i) (i + 4) (omega arith))
      ∙ ap (λ (x : List ℕ). push K (i + 12) (set x (i + 12) 5)) (pushed_same (pushed_l z (pushed_l z l i) (i + 4)) (i + 8) (omega arith))
      ∙ pushed_same (pushed_l z (pushed_l z (pushed_l z l i) (i + 4)) (i + 8)) (i + 12) (omega arith)

-- ---- the start
module _ (z : Size) (full : I z ≡ 4 ^ z.deep) where
  abbrev J : ℕ
  J = 4 ^ z.deep

  roots_more : (n k : ℕ) → push_roots J n (4 * (z.e + k)) (start_from_l z k) ≡ start_from_l z (k + n)
  unfolding push_roots
  roots_more zero k = ap (λ (x : ℕ). start_from_l z x) {x = k} {y = k + 0} (omega arith)
  roots_more (suc n) k =
      let here : push J (4 * (z.e + k)) (set (start_from_l z k) (4 * (z.e + k)) 5) ≡ start_from_l z (suc k) =
      unfold start_from_l in pushed_same z full (start_from_l z k) (4 * (z.e + k)) (omega arith) in
      let next : 4 * (z.e + k) + 4 ≡ 4 * (z.e + suc k) = omega arith in
      let count : suc k + n ≡ k + suc n = omega arith in
      ap (λ (x : List ℕ). push_roots J n (4 * (z.e + k) + 4) x) here
      ∙ ap (λ (x : ℕ). push_roots J n x (start_from_l z (suc k))) next
      ∙ roots_more n (suc k)
      ∙ ap (λ (x : ℕ). start_from_l z x) count

  pub start_same : push_roots J (3 * D z / 4) (D z) (replicate (D z) 1 ++ replicate (J - D z) 0) ≡ start_l z
  unfolding start_l
  start_same =
      let none : replicate (D z) 1 ++ replicate (J - D z) 0 ≡ start_from_l z 0 =
      unfold start_from_l in ap (λ (x : ℕ). replicate (D z) 1 ++ replicate (x - D z) 0) (sym full) in
      let many : 3 * D z / 4 ≡ 3 * z.e = omega arith in
      let first : D z ≡ 4 * (z.e + 0) = omega arith in
      ap (λ (x : List ℕ). push_roots J (3 * D z / 4) (D z) x) none
      ∙ ap (λ (x : ℕ). push_roots J x (D z) (start_from_l z 0)) many
      ∙ ap (λ (x : ℕ). push_roots J (3 * z.e) x (start_from_l z 0)) first
      ∙ roots_more (3 * z.e) 0
      ∙ ap (λ (x : ℕ). start_from_l z x) {x = 0 + 3 * z.e} {y = 3 * z.e} (omega arith)
