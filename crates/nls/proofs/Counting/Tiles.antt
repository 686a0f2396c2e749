-- The parts that stand lie in the linear order as runs, one for each level of a set. A scan goes from run to run.
use Prim.Native.Nat.{ℕ, zero, suc, ◌+◌, ◌*◌, ◌-◌, ◌^◌, ◌/◌, ◌≤◌, ◌<◌}
use mathlib.Core.Path.{◌≡◌, refl, sym, subst, ◌∙◌}
use mathlib.Core.Bool.{Bool, true, false, not, ◌||◌}
use mathlib.Core.Logic.{◌⊎◌, inl, inr, ⊎_elim}
use native.Mathlib.Nat.{le_refl, zero-add, pow-succ', one-le-pow}
use native.Mathlib.Omega.{arith}
use borrow.Author.Tests.{eqb-true, eqb-false}
use lib.Dec.{T, ltb, eqb, ltb→lt, nltb→le, lt→ltb, T_not, not_T}
use Rattle.nls.proofs.Counting.Sums.{order}
use Rattle.nls.proofs.Booleans.{T_or, bool}
use Rattle.nls.proofs.Counting.Tree.{Size, D}

-- k steps up from x, and k steps down by first children
unfoldable pub up : ℕ → ℕ → ℕ
up zero x = x
up (suc k) x = up k (x / 4)

unfoldable pub down : ℕ → ℕ → ℕ
down zero a = a
down (suc k) a = 4 * down k a

pub up_le : (k x : ℕ) → up k x ≤ x
unfolding up
up_le zero x = le_refl x
up_le (suc k) x = omega (arith, up_le k (x / 4))

pub up_add : (k m x : ℕ) → up (k + m) x ≡ up m (up k x)
unfolding up
up_add zero m x = rw zero-add
up_add (suc k) m x = let e : suc k + m ≡ suc (k + m) = omega arith in rw e (up_add k m (x / 4))

pub up_last : (k x : ℕ) → up (suc k) x ≡ up k x / 4
unfolding up
up_last zero x = refl
up_last (suc k) x = up_last k (x / 4)

-- the run of a, k steps down, is from `down k a` on, 4 ^ k long
pub run_low : (k x : ℕ) → down k (up k x) ≤ x
unfolding up down
run_low zero x = le_refl x
run_low (suc k) x = omega (arith, run_low k (x / 4))

pub run_high : (k x : ℕ) → x < down k (up k x) + 4 ^ k
unfolding up down
run_high zero x = omega arith
run_high (suc k) x = omega (arith, run_high k (x / 4), pow-succ' 4 k)

pub in_run : (k a x : ℕ) → down k a ≤ x → x < down k a + 4 ^ k → up k x ≡ a
unfolding up down
in_run zero a x p q = omega arith
in_run (suc k) a x p q = in_run k a (x / 4) (omega arith) (omega (arith, pow-succ' 4 k))

pub pow4_pos : (k : ℕ) → 1 ≤ 4 ^ k
pow4_pos k = one-le-pow k 4 (omega arith)

pub up_down : (k a : ℕ) → up k (down k a) ≡ a
up_down k a = in_run k a (down k a) (le_refl _) (omega (arith, pow4_pos k))

or_false : (s t : Bool) → T (not s) → T (not t) → T (s || t) → ⊥
or_false true t p q r = p
or_false false true p q r = q
or_false false false p q r = r

nor_left : (s t : Bool) → T (not (s || t)) → T (not s)
nor_left true t h = h
nor_left false t h = tt

nor_right : (s t : Bool) → T (not (s || t)) → T (not t)
nor_right true t h = absurd h
nor_right false t h = h

module _ (z : Size) (sd sg : ℕ → Bool) where
  -- a coefficient that stands alone; DESC(a), GRAND(a) that stands; a set over what is k steps down from a
  abbrev pub Alone : ℕ → Type 0
  Alone x = T (ltb x (D z) || sd (x / 4))

  abbrev pub StandsD : ℕ → Type 0
  StandsD a = T (not (sd a)) × T (ltb a (D z) || sg (a / 4))

  abbrev pub StandsG : ℕ → Type 0
  StandsG a = T (sd a) × T (not (sg a))

  abbrev pub Cov : ℕ → ℕ → Type 0
  Cov k a = (1 ≤ k) × (z.e ≤ a) × (StandsD a ⊎ ((2 ≤ k) × StandsG a))

  -- where a scan may be: at a coefficient, or at the first place of a run
  abbrev pub Spot : ℕ → Type 0
  Spot x = Alone x ⊎ ((k : ℕ) × Cov k (up k x) × (x ≡ down k (up k x)))

  module _ (c1 : (q : ℕ) → z.e ≤ q → T (sg q) → T (sd q)) (c2 : (p : ℕ) → T (sd p) → T (ltb p (D z) || sg (p / 4))) where
    pub not_sd : (a : ℕ) → D z ≤ a → T (not (sg (a / 4))) → T (not (sd a))
    not_sd a h s = not_T (sd a) (λ t. or_false (ltb a (D z)) (sg (a / 4)) (not_T (ltb a (D z)) (λ u. let l : a < D z = ltb→lt a (D z) u in omega arith)) s (c2 a t))

    pub not_sg : (q : ℕ) → z.e ≤ q → T (not (sd q)) → T (not (sg q))
    not_sg q h s = not_T (sg q) (λ t. T_not (sd q) s (c1 q h t))

    -- below a GRAND that is not split nothing is
    pub below_sg : (m a : ℕ) → z.e ≤ up (suc m) a → T (not (sg (up (suc m) a))) → T (not (sg (a / 4)))
    unfolding up
    below_sg zero a h s = s
    below_sg (suc m) a h s =
        let g : T (not (sg (a / 4 / 4))) = below_sg m (a / 4) h s in
        let l : up m (a / 4 / 4) ≤ a / 4 / 4 = up_le m (a / 4 / 4) in
        not_sg (a / 4) (omega arith) (not_sd (a / 4) (omega arith) g)

    cov_sg : (k a : ℕ) → Cov k a → T (not (sg a))
    cov_sg k a c = ⊎_elim (λ s. not_sg a c.1 s.0) (λ s. s.1.1) c.2

    -- what a set covers does not stand alone
    pub covered : (k x : ℕ) → Cov k (up k x) → (D z ≤ x) × T (not (sd (x / 4)))
    unfolding up
    covered zero x c = absurd (omega arith)
    covered (suc zero) x c = (omega arith, ⊎_elim (λ s. s.0) (λ s. absurd (omega arith)) c.2)
    covered (suc (suc m)) x c =
        let g : T (not (sg (x / 4 / 4))) = below_sg m (x / 4) c.1 (cov_sg (suc (suc m)) (up m (x / 4 / 4)) c) in
        let l : up m (x / 4 / 4) ≤ x / 4 / 4 = up_le m (x / 4 / 4) in
        let h : z.e ≤ up m (x / 4 / 4) = c.1 in
        (omega arith, not_sd (x / 4) (omega arith) g)

    -- and only one set covers a place
    once : (k d x : ℕ) → Cov k (up k x) → Cov (k + suc d) (up (k + suc d) x) → ⊥
    once k d x c c' =
        let e : up (k + suc d) x ≡ up (suc d) (up k x) = up_add k (suc d) x in
        let far : Cov (k + suc d) (up (suc d) (up k x)) = rw e at c' in
        let g : T (not (sg (up k x / 4))) = below_sg d (up k x) far.1 (cov_sg (k + suc d) (up (suc d) (up k x)) far) in
        let l : up (suc d) (up k x) ≤ up k x / 4 = unfold up in (up_le d (up k x / 4)) in
        let h : z.e ≤ up (suc d) (up k x) = far.1 in
        let high : D z ≤ up k x = omega arith in
        ⊎_elim
        (λ s. or_false (ltb (up k x) (D z)) (sg (up k x / 4)) (not_T (ltb (up k x) (D z)) (λ u. let w : up k x < D z = ltb→lt (up k x) (D z) u in omega arith)) g s.1)
        (λ s. T_not (sd (up k x)) (not_sd (up k x) high g) s.1.0)
        c.2

    pub unique : (k k' x : ℕ) → Cov k (up k x) → Cov k' (up k' x) → k ≡ k'
    unique k k' x c c' = ⊎_elim (λ r. ⊎_elim (λ r'. omega arith) (λ l. absurd (lower k' k l c' c)) (order k k')) (λ l. absurd (lower k k' l c c')) (order k' k)
      where
        lower : (k k' : ℕ) → k < k' → Cov k (up k x) → Cov k' (up k' x) → ⊥
        lower k k' l c c' =
            let e : k' ≡ k + suc (k' - suc k) = omega arith in
            once k (k' - suc k) x c (subst (λ (n : ℕ). Cov n (up n x)) e c')

    -- what does not stand alone is covered
    climb : (f k x : ℕ) → up k x ≤ f → 1 ≤ k → z.e ≤ up k x → T (not (sd (up k x))) → (n : ℕ) × Cov n (up n x)
    climb zero k x h p q s = absurd (omega arith)
    climb (suc f) k x h p q s =
        ⊎_elim (λ t. (k, (p, q, inl (s, t))))
        (λ t. let high : D z ≤ up k x = nltb→le (up k x) (D z) (nor_left (ltb (up k x) (D z)) (sg (up k x / 4)) t) in
        let e : up (suc k) x ≡ up k x / 4 = up_last k x in
        let g : T (not (sg (up (suc k) x))) = rw e (nor_right (ltb (up k x) (D z)) (sg (up k x / 4)) t) in
        ⊎_elim (λ u. (suc k, (omega arith, omega arith, inr (omega arith, (u, g)))))
        (λ u. climb f (suc k) x (omega arith) (omega arith) (omega arith) u) (bool (sd (up (suc k) x))))
        (bool (ltb (up k x) (D z) || sg (up k x / 4)))

    pub cover : (x : ℕ) → T (not (ltb x (D z) || sd (x / 4))) → (n : ℕ) × Cov n (up n x)
    unfolding up
    cover x t =
        let high : D z ≤ x = nltb→le x (D z) (nor_left (ltb x (D z)) (sd (x / 4)) t) in
        climb (x / 4) 1 x (le_refl _) (omega arith) (omega arith) (nor_right (ltb x (D z)) (sd (x / 4)) t)

    -- the next place is a spot, if no run holds both
    spot : (x : ℕ) → ((k : ℕ) → Cov k (up k (suc x)) → up k x ≡ up k (suc x) → ⊥) → Spot (suc x)
    spot x h =
        ⊎_elim (λ t. inl t)
        (λ t. let c = cover (suc x) t in inr (c.0, c.1, at c.0 c.1 (eqb (suc x) (down c.0 (up c.0 (suc x)))) refl))
        (bool (ltb (suc x) (D z) || sd (suc x / 4)))
      where
        at : (k : ℕ) → Cov k (up k (suc x)) → (t : Bool) → eqb (suc x) (down k (up k (suc x))) ≡ t → suc x ≡ down k (up k (suc x))
        at k c true e = eqb-true (suc x) (down k (up k (suc x))) e
        at k c false e =
            let ne : suc x ≡ down k (up k (suc x)) → ⊥ = eqb-false (suc x) (down k (up k (suc x))) e in
            let lo : down k (up k (suc x)) ≤ suc x = run_low k (suc x) in
            let hi : suc x < down k (up k (suc x)) + 4 ^ k = run_high k (suc x) in
            absurd (h k c (in_run k (up k (suc x)) x (omega (arith, ne)) (omega arith)))

    pub first_spot : Spot 0
    first_spot = inl (T_or (ltb 0 (D z)) (sd (0 / 4)) (lt→ltb 0 (D z) (omega arith)))

    pub after_alone : (x : ℕ) → Alone x → Spot (suc x)
    after_alone x t =
        spot x (λ k c e.
        let c' : Cov k (up k x) = rw e c in
        let o = covered k x c' in
        or_false (ltb x (D z)) (sd (x / 4)) (not_T (ltb x (D z)) (λ u. let l : x < D z = ltb→lt x (D z) u in omega (arith, o.0))) o.1 t)

    pub after_run : (k x : ℕ) → Cov k (up k x) → x ≡ down k (up k x) → Spot (x + 4 ^ k)
    after_run k x c e =
        let l : 1 ≤ 4 ^ k = pow4_pos k in
        let s : Spot (suc (x + 4 ^ k - 1)) = spot (x + 4 ^ k - 1) (λ k' c' e'. other k' c' e') in
        subst (λ (n : ℕ). Spot n) (omega arith) s
      where
        inside : up k (x + 4 ^ k - 1) ≡ up k x
        inside = in_run k (up k x) (x + 4 ^ k - 1) (omega (arith, pow4_pos k)) (omega (arith, pow4_pos k))

        other : (k' : ℕ) → Cov k' (up k' (suc (x + 4 ^ k - 1))) → up k' (x + 4 ^ k - 1) ≡ up k' (suc (x + 4 ^ k - 1)) → ⊥
        other k' c' e' =
            let here : Cov k (up k (x + 4 ^ k - 1)) = rw inside c in
            let there : Cov k' (up k' (x + 4 ^ k - 1)) = rw e' c' in
            let same : k ≡ k' = unique k k' (x + 4 ^ k - 1) here there in
            let e'' : up k (x + 4 ^ k - 1) ≡ up k (suc (x + 4 ^ k - 1)) =
            subst (λ (n : ℕ). up n (x + 4 ^ k - 1) ≡ up n (suc (x + 4 ^ k - 1))) (sym same) e' in
            let up_here : up k (suc (x + 4 ^ k - 1)) ≡ up k x = sym e'' ∙ inside in
            let hi : suc (x + 4 ^ k - 1) < down k (up k (suc (x + 4 ^ k - 1))) + 4 ^ k = run_high k (suc (x + 4 ^ k - 1)) in
            let hi' : suc (x + 4 ^ k - 1) < down k (up k x) + 4 ^ k = rw up_here at hi in
            omega (arith, pow4_pos k)
