-- Sets that stand have no place in common.
use mathlib.Core.Path.{◌≡◌, sym, ap, subst, ◌∙◌}
use mathlib.Core.Bool.{true, false, true≢false}
use Prim.Native.Nat.{ℕ, ◌*◌, ◌/◌, ◌≤◌}
use native.Mathlib.Omega.{arith}
use Rattle.nls.proofs.Tiled.{Tiled}
use Rattle.nls.proofs.Machine.Table.{Cfg, alone, stands, Ok, no_alone, stands_no, no_gd}
use Rattle.nls.proofs.Machine.Cover.{Under, kid, far}
use Rattle.nls.proofs.Judging.Clash.{dead_d, dead_g, via}

pub data Cmp (h g : ℕ) : Type 0 where
  same : h ≡ g → Cmp h g
  over : Under h g → Cmp h g
  below : Under g h → Cmp h g

-- two ancestors of one place are comparable
pub cmp : (h g j : ℕ) → Under h j → Under g j → Cmp h g
cmp h g j (kid e) (kid f) = same (sym e ∙ f)
cmp h g j (kid e) (far u) = below (subst (λ (x : ℕ). Under g x) e u)
cmp h g j (far u) (kid f) = over (subst (λ (x : ℕ). Under h x) f u)
cmp h g j (far u) (far v) = cmp h g (j / 4) u v

pub grand_of : (q h j : ℕ) → h / 4 ≡ q → Under h j → Under q (j / 4)
grand_of q h j e (kid z) = kid (ap (λ (x : ℕ). x / 4) z ∙ e)
grand_of q h j e (far u) = far (grand_of q h (j / 4) e u)

module _ {D I : ℕ} (sz : Tiled D I) (c : Cfg) (o : Ok D I c) where
  not_first : (g : ℕ) → alone D I c g ≡ false → stands D I c g ≡ false
  not_first g a = let r : (D ≤ g) × (c.s_d (g / 4) ≡ false) = no_alone D I c g a in stands_no D I c g r.0 (no_gd D I c o (g / 4) r.1)

  -- what is inside a set that stands is not split
  pub whole_d : (g x : ℕ) → D ≤ 4 * g → c.s_d g ≡ false → Under g x → c.s_d x ≡ true → ⊥
  whole_d g x lo n w d = true≢false (sym d ∙ subst (λ (y : ℕ). c.s_d y ≡ false) {x = 4 * x / 4} {y = x} (omega arith)
      (no_alone D I c (4 * x) (dead_d sz c o g (4 * x) lo n (far {i = 4 * x} (subst (λ (y : ℕ). Under g y) {x = x} {y = 4 * x / 4} (omega arith) w)))).1)

  pub whole_g : (q x : ℕ) → D ≤ 4 * q → c.s_g q ≡ false → Under q x → c.s_d x ≡ true → ⊥
  whole_g q x lo n w d = true≢false (sym d ∙ subst (λ (y : ℕ). c.s_d y ≡ false) {x = 4 * x / 4} {y = x} (omega arith)
      (no_alone D I c (4 * x) (dead_g sz c o q (4 * x) lo n (subst (λ (y : ℕ). Under q y) {x = x} {y = 4 * x / 4} (omega arith) w))).1)

  -- DESC(h) and DESC(g)
  pub apart_dd : (h g j : ℕ) → D ≤ 4 * h → stands D I c h ≡ true → c.s_d h ≡ false → D ≤ 4 * g → stands D I c g ≡ true → c.s_d g ≡ false → Under h j → Under g j → h ≡ g
  apart_dd h g j a sh nh b sg ng u v = go (cmp h g j u v)
    where
      go : Cmp h g → h ≡ g
      go (same e) = e
      go (over w) = absurd (true≢false (sym sg ∙ not_first g (dead_d sz c o h g a nh w)))
      go (below w) = absurd (true≢false (sym sh ∙ not_first h (dead_d sz c o g h b ng w)))

  -- GRAND(q) and DESC(g)
  pub apart_gd : (q g j : ℕ) → D ≤ 4 * q → c.s_d q ≡ true → c.s_g q ≡ false → D ≤ 4 * g → stands D I c g ≡ true → c.s_d g ≡ false → Under q (j / 4) → Under g j → ⊥
  apart_gd q g j a dq nq b sg ng u v = let r : (h : ℕ) × (h / 4 ≡ q) × Under h j = via q j u in go r.0 r.1 (cmp r.0 g j r.2 v)
    where
      go : (h : ℕ) → h / 4 ≡ q → Cmp h g → ⊥
      go h e (same z) = true≢false (sym sg ∙ stands_no D I c g (omega arith) (subst (λ (x : ℕ). c.s_g x ≡ false) {x = q} {y = g / 4} (omega arith) nq))
      go h e (over w) = true≢false (sym sg ∙ not_first g (dead_g sz c o q g a nq (grand_of q h g e w)))
      go h e (below (kid z)) = true≢false (sym (subst (λ (x : ℕ). c.s_d x ≡ true) (sym e ∙ z) dq) ∙ ng)
      go h e (below (far w)) = whole_d g q b ng (subst (λ (x : ℕ). Under g x) e w) dq

  -- GRAND(q) and GRAND(p)
  pub apart_gg : (q p j : ℕ) → D ≤ 4 * q → c.s_d q ≡ true → c.s_g q ≡ false → D ≤ 4 * p → c.s_d p ≡ true → c.s_g p ≡ false → Under q (j / 4) → Under p (j / 4) → q ≡ p
  apart_gg q p j a dq nq b dp np u v = go (cmp q p (j / 4) u v)
    where
      go : Cmp q p → q ≡ p
      go (same e) = e
      go (over w) = absurd (whole_g q p a nq w dp)
      go (below w) = absurd (whole_g p q b np w dq)
