-- The set that holds a place, from the marks alone (specs/Turns).
use mathlib.Core.Path.{◌≡◌, refl, sym, ap, subst, ◌∙◌}
use mathlib.Core.Bool.{Bool, true, false, true≢false}
use mathlib.Core.Logic.{◌⊎◌, inl, inr}
use mathlib.Core.List.{List}
use Prim.Native.Nat.{ℕ, zero, suc, ◌*◌, ◌/◌, ◌^◌, ◌≤◌, ◌<◌}
use native.Mathlib.Omega.{arith}
use native.Mathlib.Nat.{pow-suc}
use lib.ListN.{get_or}
use borrow.Author.Tests.{eq-eqb, ne_eqb}
use Rattle.nls.specs.Turns.{holder}
use Rattle.nls.proofs.Tiled.{Tiled}
use Rattle.nls.proofs.Machine.Table.{Cfg, alone, stands, no_alone, stands_yes, no_gd}
use Rattle.nls.proofs.Machine.Cover.{Under, kid, far, Core, not_alone, is_desc_at, is_grand_at, mark_d, mark_g, Desc_at, Grand_at}
use Rattle.nls.proofs.Reading.Told.{under_ge}
use Rattle.nls.proofs.Judging.Clash.{dead_d, dead_g}

-- one row, by the two marks
hold_five : (n : ℕ) (m : List ℕ) (j : ℕ) → get_or m (4 * (j / 4)) 0 ≡ 5 → holder (suc n) m j ≡ 4 * (j / 4)
unfolding holder
hold_five n m j e = rw (eq-eqb (get_or m (4 * (j / 4)) 0) 5 e) refl

hold_six : (n : ℕ) (m : List ℕ) (j : ℕ) → (get_or m (4 * (j / 4)) 0 ≡ 5 → ⊥) → get_or m (16 * (j / 16)) 0 ≡ 6 → holder (suc n) m j ≡ 16 * (j / 16)
unfolding holder
hold_six n m j f e = rw (ne_eqb (get_or m (4 * (j / 4)) 0) 5 f, eq-eqb (get_or m (16 * (j / 16)) 0) 6 e) refl

hold_up : (n : ℕ) (m : List ℕ) (j : ℕ) → (get_or m (4 * (j / 4)) 0 ≡ 5 → ⊥) → (get_or m (16 * (j / 16)) 0 ≡ 6 → ⊥) → holder (suc n) m j ≡ holder n m (j / 4)
unfolding holder
hold_up n m j f g = rw (ne_eqb (get_or m (4 * (j / 4)) 0) 5 f, ne_eqb (get_or m (16 * (j / 16)) 0) 6 g) refl

below_four : (n : ℕ) → n < 4 ^ n
below_four zero = omega arith
below_four (suc n) = omega (arith, below_four n, pow-suc 4 n)

module _ {D I : ℕ} (sz : Tiled D I) (c : Cfg) (m : List ℕ) (k : Core sz c m) where
  -- without a mark of its own a place does not stand alone
  pub unmarked : (j : ℕ) → j < I → (get_or m j 0 ≡ 0) ⊎ (5 ≤ get_or m j 0) → alone D I c j ≡ false
  unmarked j hj (inr h) = not_alone sz c m k j hj h
  unmarked j hj (inl e) = on (alone D I c j) refl
    where
      on : (x : Bool) → alone D I c j ≡ x → alone D I c j ≡ false
      on true a = absurd (omega (arith, e, k.tab.solo j hj a, k.rng j hj a))
      on false a = a

  -- no set begins at a group whose parent does not stand alone, nor at its sixteen
  no_five : (j : ℕ) → j < I → D ≤ j / 4 → c.s_g (j / 4 / 4) ≡ false → get_or m (4 * (j / 4)) 0 ≡ 5 → ⊥
  no_five j hj lo g e =
      let d : Desc_at D I c (4 * (j / 4)) = is_desc_at sz c m k (4 * (j / 4)) (omega arith) e in
      let s : stands D I c (j / 4) ≡ true = subst (λ (x : ℕ). stands D I c x ≡ true) {x = 4 * (j / 4) / 4} {y = j / 4} (omega arith) d.1 in
      true≢false (sym (stands_yes D I c (j / 4) lo s) ∙ g)

  no_six : (j : ℕ) → j < I → c.s_d (j / 4 / 4) ≡ false → get_or m (16 * (j / 16)) 0 ≡ 6 → ⊥
  no_six j hj d e =
      let g : Grand_at D I c (16 * (j / 16)) = is_grand_at sz c m k (16 * (j / 16)) (omega arith) e in
      true≢false (sym (subst (λ (x : ℕ). c.s_d x ≡ true) {x = 16 * (j / 16) / 16} {y = j / 4 / 4} (omega arith) g.1) ∙ d)

  -- a member of a DESC or a GRAND that stands
  hold_d : (n h j : ℕ) → D ≤ 4 * h → stands D I c h ≡ true → c.s_d h ≡ false → j < 4 ^ n → j < I → Under h j → holder n m j ≡ 4 * h
  hold_d zero h j lo s d f hj u = absurd (omega (arith, under_ge h j u, sz.least))
  hold_d (suc n) h j lo s d f hj (kid e) =
      hold_five n m j (ap (λ (x : ℕ). get_or m (4 * x) 0) e ∙ mark_d sz c m k h lo (omega arith) s d) ∙ ap (λ (x : ℕ). 4 * x) e
  hold_d (suc n) h j lo s d f hj (far u) =
      let up : alone D I c (j / 4) ≡ false = dead_d sz c k.ok h (j / 4) lo d u in
      let off : c.s_d (j / 4 / 4) ≡ false = (no_alone D I c (j / 4) up).1 in
      hold_up n m j (no_five j hj (no_alone D I c (j / 4) up).0 (no_gd D I c k.ok (j / 4 / 4) off)) (no_six j hj off)
      ∙ hold_d n h (j / 4) lo s d (omega (arith, pow-suc 4 n)) (omega arith) u

  hold_g : (n q j : ℕ) → D ≤ 4 * q → c.s_d q ≡ true → c.s_g q ≡ false → j < 4 ^ n → j < I → Under q (j / 4) → holder n m j ≡ 16 * q
  hold_g zero q j lo s d f hj u = absurd (omega (arith, under_ge q (j / 4) u, sz.least))
  hold_g (suc n) q j lo s d f hj (kid e) =
      let sixteen : 16 * (j / 16) ≡ 16 * q = omega (arith, e) in
      hold_six n m j (no_five j hj (omega (arith, e)) (subst (λ (x : ℕ). c.s_g x ≡ false) (sym e) d)) (ap (λ (x : ℕ). get_or m x 0) sixteen ∙ mark_g sz c m k q lo (omega (arith, e)) s d) ∙ sixteen
  hold_g (suc n) q j lo s d f hj (far u) =
      let up : alone D I c (j / 4) ≡ false = dead_g sz c k.ok q (j / 4) lo d u in
      let off : c.s_d (j / 4 / 4) ≡ false = (no_alone D I c (j / 4) up).1 in
      hold_up n m j (no_five j hj (no_alone D I c (j / 4) up).0 (no_gd D I c k.ok (j / 4 / 4) off)) (no_six j hj off)
      ∙ hold_g n q (j / 4) lo s d (omega (arith, pow-suc 4 n)) (omega arith) u

  -- with rows enough for every place of the table
  pub held_d : (h j : ℕ) → D ≤ 4 * h → stands D I c h ≡ true → c.s_d h ≡ false → j < I → Under h j → holder I m j ≡ 4 * h
  held_d h j lo s d hj u = hold_d I h j lo s d (omega (arith, below_four I)) hj u

  pub held_g : (q j : ℕ) → D ≤ 4 * q → c.s_d q ≡ true → c.s_g q ≡ false → j < I → Under q (j / 4) → holder I m j ≡ 16 * q
  held_g q j lo s d hj u = hold_g I q j lo s d (omega (arith, below_four I)) hj u
