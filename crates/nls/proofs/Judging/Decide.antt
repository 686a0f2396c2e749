-- The clash as a test by the marks, and that it says what it should. The last part, about the whole array, is handed in as a test of its own.
use mathlib.Core.Path.{◌≡◌, ap, ◌∙◌}
use mathlib.Core.Bool.{Bool, true, ◌&&◌, ◌||◌}
use mathlib.Core.Logic.{◌⊎◌, inl, inr}
use mathlib.Core.List.{List}
use Prim.Native.Nat.{ℕ, suc, ◌+◌, ◌*◌, ◌-◌, ◌/◌, ◌%◌, ◌≤◌, ◌<◌}
use native.Mathlib.Omega.{arith}
use native.Mathlib.Decide.{ℕ_discrete}
use lib.ListN.{get_or}
use lib.Dec.{leb, eqb}
use borrow.Author.Tests.{leb-true, le-leb, eqb-true, eq-eqb}
use Rattle.sizes.proofs.Laws.{both_left, both_right, both}
use Rattle.tree.proofs.Lists.{or_left, or_right}
use Rattle.nls.proofs.Booleans.{or_cases}
use Rattle.nls.proofs.Judging.Clash.{Clash, last_child, last_grand, last_desc, last_root}

-- place t has the mark v
abbrev pub is : List ℕ → ℕ → ℕ → Bool
is m t v = eqb (get_or m t 0) v

unfoldable pub cb_child : ℕ → ℕ → List ℕ → Bool
cb_child I t m = is m t 4 && (eqb (t % 4) 3 && (leb I (16 * (t / 4)) && (is m (t - 1) 1 && (is m (t - 2) 1 && is m (t - 3) 1))))

unfoldable pub cb_grand : ℕ → List ℕ → Bool
cb_grand t m = is m t 6 && (is m (4 * (t / 16)) 1 && (is m (4 * (t / 16) + 1) 1 && (is m (4 * (t / 16) + 2) 1 && is m (4 * (t / 16) + 3) 1)))

unfoldable pub cb_desc : ℕ → ℕ → List ℕ → Bool
cb_desc D t m = is m t 5 && (leb (4 * D) t && (eqb (t / 4 % 4) 3 && (is m (4 * (t / 4 - 1)) 5 && (is m (4 * (t / 4 - 2)) 5 && is m (4 * (t / 4 - 3)) 5))))

-- `none`: nothing was found significant yet
unfoldable pub cb_root : ℕ → ℕ → ℕ → ℕ → List ℕ → Bool → Bool
cb_root D P b t m none = is m t 5 && (eqb (t + 4) (4 * D) && (eqb (suc b) P && none))

unfoldable pub clash_by : ℕ → ℕ → ℕ → ℕ → ℕ → List ℕ → Bool → Bool
clash_by I D P b t m none = cb_child I t m || (cb_grand t m || (cb_desc D t m || cb_root D P b t m none))

abbrev pub None : ℕ → ℕ → List ℕ → Type 0
None D t m = ((j : ℕ) → j < D → get_or m j 0 ≡ 1) × ((h : ℕ) → D ≤ 4 * h → 4 * h < t → get_or m (4 * h) 0 ≡ 5)

module _ (D I P b t : ℕ) (m : List ℕ) where
  child_to : cb_child I t m ≡ true → Clash D I P b t m
  unfolding cb_child
  child_to e =
      let e1 : (eqb (t % 4) 3 && (leb I (16 * (t / 4)) && (is m (t - 1) 1 && (is m (t - 2) 1 && is m (t - 3) 1)))) ≡ true = both_right (is m t 4) _ e in
      let e2 : (leb I (16 * (t / 4)) && (is m (t - 1) 1 && (is m (t - 2) 1 && is m (t - 3) 1))) ≡ true = both_right (eqb (t % 4) 3) _ e1 in
      let e3 : (is m (t - 1) 1 && (is m (t - 2) 1 && is m (t - 3) 1)) ≡ true = both_right (leb I (16 * (t / 4))) _ e2 in
      let e4 : (is m (t - 2) 1 && is m (t - 3) 1) ≡ true = both_right (is m (t - 1) 1) _ e3 in
      let t3 : t % 4 ≡ 3 = eqb-true _ _ (both_left (eqb (t % 4) 3) _ e1) in
      last_child (eqb-true _ _ (both_left (is m t 4) _ e)) t3 (leb-true _ _ (both_left (leb I (16 * (t / 4))) _ e2))
      (λ j ej lj. at j t3 ej lj (eqb-true _ _ (both_left (is m (t - 1) 1) _ e3)) (eqb-true _ _ (both_left (is m (t - 2) 1) _ e4)) (eqb-true _ _ (both_right (is m (t - 2) 1) _ e4)) (ℕ_discrete j (t - 1)) (ℕ_discrete j (t - 2)))
    where
      at : (j : ℕ) → t % 4 ≡ 3 → j / 4 ≡ t / 4 → j < t → get_or m (t - 1) 0 ≡ 1 → get_or m (t - 2) 0 ≡ 1 → get_or m (t - 3) 0 ≡ 1 → Dec (j ≡ t - 1) → Dec (j ≡ t - 2) → get_or m j 0 ≡ 1
      at j t3 ej lj a1 a2 a3 (yes z) y = ap (λ (x : ℕ). get_or m x 0) z ∙ a1
      at j t3 ej lj a1 a2 a3 (no z) (yes y) = ap (λ (x : ℕ). get_or m x 0) y ∙ a2
      at j t3 ej lj a1 a2 a3 (no z) (no y) = ap (λ (x : ℕ). get_or m x 0) {x = j} {y = t - 3} (omega arith) ∙ a3

  grand_to : cb_grand t m ≡ true → Clash D I P b t m
  unfolding cb_grand
  grand_to e =
      let e1 : (is m (4 * (t / 16)) 1 && (is m (4 * (t / 16) + 1) 1 && (is m (4 * (t / 16) + 2) 1 && is m (4 * (t / 16) + 3) 1))) ≡ true = both_right (is m t 6) _ e in
      let e2 : (is m (4 * (t / 16) + 1) 1 && (is m (4 * (t / 16) + 2) 1 && is m (4 * (t / 16) + 3) 1)) ≡ true = both_right (is m (4 * (t / 16)) 1) _ e1 in
      let e3 : (is m (4 * (t / 16) + 2) 1 && is m (4 * (t / 16) + 3) 1) ≡ true = both_right (is m (4 * (t / 16) + 1) 1) _ e2 in
      last_grand (eqb-true _ _ (both_left (is m t 6) _ e))
      (λ j ej. at j ej (eqb-true _ _ (both_left (is m (4 * (t / 16)) 1) _ e1)) (eqb-true _ _ (both_left (is m (4 * (t / 16) + 1) 1) _ e2)) (eqb-true _ _ (both_left (is m (4 * (t / 16) + 2) 1) _ e3)) (eqb-true _ _ (both_right (is m (4 * (t / 16) + 2) 1) _ e3))
      (ℕ_discrete j (4 * (t / 16))) (ℕ_discrete j (4 * (t / 16) + 1)) (ℕ_discrete j (4 * (t / 16) + 2)))
    where
      at : (j : ℕ) → j / 4 ≡ t / 16 → get_or m (4 * (t / 16)) 0 ≡ 1 → get_or m (4 * (t / 16) + 1) 0 ≡ 1 → get_or m (4 * (t / 16) + 2) 0 ≡ 1 → get_or m (4 * (t / 16) + 3) 0 ≡ 1
          → Dec (j ≡ 4 * (t / 16)) → Dec (j ≡ 4 * (t / 16) + 1) → Dec (j ≡ 4 * (t / 16) + 2) → get_or m j 0 ≡ 1
      at j ej a0 a1 a2 a3 (yes z) y x = ap (λ (x : ℕ). get_or m x 0) z ∙ a0
      at j ej a0 a1 a2 a3 (no z) (yes y) x = ap (λ (x : ℕ). get_or m x 0) y ∙ a1
      at j ej a0 a1 a2 a3 (no z) (no y) (yes x) = ap (λ (x : ℕ). get_or m x 0) x ∙ a2
      at j ej a0 a1 a2 a3 (no z) (no y) (no x) = ap (λ (x : ℕ). get_or m x 0) {x = j} {y = 4 * (t / 16) + 3} (omega arith) ∙ a3

  desc_to : cb_desc D t m ≡ true → Clash D I P b t m
  unfolding cb_desc
  desc_to e =
      let e1 : (leb (4 * D) t && (eqb (t / 4 % 4) 3 && (is m (4 * (t / 4 - 1)) 5 && (is m (4 * (t / 4 - 2)) 5 && is m (4 * (t / 4 - 3)) 5)))) ≡ true = both_right (is m t 5) _ e in
      let e2 : (eqb (t / 4 % 4) 3 && (is m (4 * (t / 4 - 1)) 5 && (is m (4 * (t / 4 - 2)) 5 && is m (4 * (t / 4 - 3)) 5))) ≡ true = both_right (leb (4 * D) t) _ e1 in
      let e3 : (is m (4 * (t / 4 - 1)) 5 && (is m (4 * (t / 4 - 2)) 5 && is m (4 * (t / 4 - 3)) 5)) ≡ true = both_right (eqb (t / 4 % 4) 3) _ e2 in
      let e4 : (is m (4 * (t / 4 - 2)) 5 && is m (4 * (t / 4 - 3)) 5) ≡ true = both_right (is m (4 * (t / 4 - 1)) 5) _ e3 in
      let t3 : t / 4 % 4 ≡ 3 = eqb-true _ _ (both_left (eqb (t / 4 % 4) 3) _ e2) in
      last_desc (eqb-true _ _ (both_left (is m t 5) _ e)) (leb-true _ _ (both_left (leb (4 * D) t) _ e1)) t3
      (λ j ej lj. at j t3 ej lj (eqb-true _ _ (both_left (is m (4 * (t / 4 - 1)) 5) _ e3)) (eqb-true _ _ (both_left (is m (4 * (t / 4 - 2)) 5) _ e4)) (eqb-true _ _ (both_right (is m (4 * (t / 4 - 2)) 5) _ e4)) (ℕ_discrete j (t / 4 - 1)) (ℕ_discrete j (t / 4 - 2)))
    where
      at : (j : ℕ) → t / 4 % 4 ≡ 3 → j / 4 ≡ t / 4 / 4 → j < t / 4 → get_or m (4 * (t / 4 - 1)) 0 ≡ 5 → get_or m (4 * (t / 4 - 2)) 0 ≡ 5 → get_or m (4 * (t / 4 - 3)) 0 ≡ 5 → Dec (j ≡ t / 4 - 1) → Dec (j ≡ t / 4 - 2) → get_or m (4 * j) 0 ≡ 5
      at j t3 ej lj a1 a2 a3 (yes z) y = ap (λ (x : ℕ). get_or m (4 * x) 0) z ∙ a1
      at j t3 ej lj a1 a2 a3 (no z) (yes y) = ap (λ (x : ℕ). get_or m (4 * x) 0) y ∙ a2
      at j t3 ej lj a1 a2 a3 (no z) (no y) = ap (λ (x : ℕ). get_or m (4 * x) 0) {x = j} {y = t / 4 - 3} (omega arith) ∙ a3

  -- `none` must say so where it is asked
  module _ (none : Bool) (ok : get_or m t 0 ≡ 5 → t + 4 ≡ 4 * D → suc b ≡ P → none ≡ true → None D t m) (ko : get_or m t 0 ≡ 5 → t + 4 ≡ 4 * D → suc b ≡ P → None D t m → none ≡ true) where
    root_to : cb_root D P b t m none ≡ true → Clash D I P b t m
    unfolding cb_root
    root_to e =
        let e1 : (eqb (t + 4) (4 * D) && (eqb (suc b) P && none)) ≡ true = both_right (is m t 5) _ e in
        let e2 : (eqb (suc b) P && none) ≡ true = both_right (eqb (t + 4) (4 * D)) _ e1 in
        let a1 : get_or m t 0 ≡ 5 = eqb-true _ _ (both_left (is m t 5) _ e) in
        let a2 : t + 4 ≡ 4 * D = eqb-true _ _ (both_left (eqb (t + 4) (4 * D)) _ e1) in
        let a3 : suc b ≡ P = eqb-true _ _ (both_left (eqb (suc b) P) _ e2) in
        let n : None D t m = ok a1 a2 a3 (both_right (eqb (suc b) P) none e2) in
        last_root a1 a2 a3 n.0 n.1

    pub clash_to : clash_by I D P b t m none ≡ true → Clash D I P b t m
    unfolding clash_by
    clash_to e = go (or_cases (cb_child I t m) _ e)
      where
        go3 : (cb_desc D t m ≡ true) ⊎ (cb_root D P b t m none ≡ true) → Clash D I P b t m
        go3 (inl z) = desc_to z
        go3 (inr z) = root_to z

        go2 : (cb_grand t m ≡ true) ⊎ ((cb_desc D t m || cb_root D P b t m none) ≡ true) → Clash D I P b t m
        go2 (inl z) = grand_to z
        go2 (inr z) = go3 (or_cases (cb_desc D t m) _ z)

        go : (cb_child I t m ≡ true) ⊎ ((cb_grand t m || (cb_desc D t m || cb_root D P b t m none)) ≡ true) → Clash D I P b t m
        go (inl z) = child_to z
        go (inr z) = go2 (or_cases (cb_grand t m) _ z)

    pub clash_from : Clash D I P b t m → clash_by I D P b t m none ≡ true
    unfolding clash_by cb_child cb_grand cb_desc cb_root
    clash_from (last_child a t3 big f) =
        or_left (cb_child I t m) _ (both (eq-eqb _ _ a) (both (eq-eqb _ _ t3) (both (le-leb _ _ big) (both (eq-eqb _ _ (f (t - 1) (omega arith) (omega arith)))
        (both (eq-eqb _ _ (f (t - 2) (omega arith) (omega arith))) (eq-eqb _ _ (f (t - 3) (omega arith) (omega arith))))))))
    clash_from (last_grand a f) =
        or_right (cb_child I t m) _ (or_left (cb_grand t m) _ (both (eq-eqb _ _ a) (both (eq-eqb _ _ (f (4 * (t / 16)) (omega arith))) (both (eq-eqb _ _ (f (4 * (t / 16) + 1) (omega arith)))
        (both (eq-eqb _ _ (f (4 * (t / 16) + 2) (omega arith))) (eq-eqb _ _ (f (4 * (t / 16) + 3) (omega arith))))))))
    clash_from (last_desc a big t3 f) =
        or_right (cb_child I t m) _ (or_right (cb_grand t m) _ (or_left (cb_desc D t m) _ (both (eq-eqb _ _ a) (both (le-leb _ _ big) (both (eq-eqb _ _ t3) (both (eq-eqb _ _ (f (t / 4 - 1) (omega arith) (omega arith)))
        (both (eq-eqb _ _ (f (t / 4 - 2) (omega arith) (omega arith))) (eq-eqb _ _ (f (t / 4 - 3) (omega arith) (omega arith))))))))))
    clash_from (last_root a te bp f1 f2) =
        or_right (cb_child I t m) _ (or_right (cb_grand t m) _ (or_right (cb_desc D t m) _ (both (eq-eqb _ _ a) (both (eq-eqb _ _ te) (both (eq-eqb _ _ bp) (ko a te bp (f1, f2)))))))
