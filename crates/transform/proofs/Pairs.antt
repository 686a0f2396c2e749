-- Whole numbers: a number as the difference of two natural ones, on which sums, negations and halves are computed.
use mathlib.Core.Path.{◌≡◌, refl, sym, ap, ◌∙◌}
use mathlib.Core.Bool.{Bool, true, false}
use Prim.Native.Nat.{ℕ, zero, suc, ◌+◌, ◌-◌, ◌/◌, ◌≤◌, ◌<◌}
use native.Mathlib.Omega.{arith}
use borrow.Author.Tests.{ltb-true, ltb-false, lt-ltb, le-ltb}
use lib.Dec.{ltb}
use lib.IntN.{ℤ, pos, negsuc, neg_ℤ, sub_ℕ, ◌+ℤ◌, ◌-ℤ◌}
use Rattle.transform.specs.Transform.{halved, low, high, first, second}

-- a - b, where it is below 0 and where it is not
pub sub_below : (a b : ℕ) → a < b → sub_ℕ a b ≡ negsuc (b - suc a)
sub_below a b h = rw (lt-ltb a b h)

pub sub_above : (a b : ℕ) → b ≤ a → sub_ℕ a b ≡ pos (a - b)
sub_above a b h = rw (le-ltb a b h)

-- to show a fact of a - b, show it in both cases
pub sub_ind : (P : ℤ → Type 0) (a b : ℕ) → (a < b → P (negsuc (b - suc a))) → (b ≤ a → P (pos (a - b))) → P (sub_ℕ a b)
sub_ind P a b f g = tell (ltb a b) refl
  where
    tell : (t : Bool) → ltb a b ≡ t → P (sub_ℕ a b)
    tell true e = rw e (f (ltb-true a b e))
    tell false e = rw e (g (ltb-false a b e))

pub sub_same : (a b u v : ℕ) → a + v ≡ u + b → sub_ℕ a b ≡ sub_ℕ u v
sub_same a b u v e =
    sub_ind (λ z. z ≡ sub_ℕ u v) a b
    (λ h. ap negsuc {x = b - suc a} {y = v - suc u} (omega arith) ∙ sym (sub_below u v (omega arith)))
    (λ h. ap pos {x = a - b} {y = u - v} (omega arith) ∙ sym (sub_above u v (omega arith)))

pub neg_sub : (a b : ℕ) → neg_ℤ (sub_ℕ a b) ≡ sub_ℕ b a
neg_sub a b =
    sub_ind (λ z. neg_ℤ z ≡ sub_ℕ b a) a b
    (λ h. ap pos {x = suc (b - suc a)} {y = b - a} (omega arith) ∙ sym (sub_above b a (omega arith)))
    (λ h. flip (a - b) refl h)
  where
    flip : (k : ℕ) → a - b ≡ k → b ≤ a → neg_ℤ (pos k) ≡ sub_ℕ b a
    flip zero e h = ap pos {x = 0} {y = b - a} (omega arith) ∙ sym (sub_above b a (omega arith))
    flip (suc k) e h = ap negsuc {x = k} {y = a - suc b} (omega arith) ∙ sym (sub_below b a (omega arith))

pub sum_sub : (a b u v : ℕ) → sub_ℕ a b +ℤ sub_ℕ u v ≡ sub_ℕ (a + u) (b + v)
sum_sub a b u v =
    sub_ind (λ z. z +ℤ sub_ℕ u v ≡ sub_ℕ (a + u) (b + v)) a b
    (λ h. sub_ind (λ w. negsuc (b - suc a) +ℤ w ≡ sub_ℕ (a + u) (b + v)) u v
    (λ k. ap negsuc {x = suc (b - suc a + (v - suc u))} {y = b + v - suc (a + u)} (omega arith) ∙ sym (sub_below (a + u) (b + v) (omega arith)))
    (λ k. sub_same (u - v) (suc (b - suc a)) (a + u) (b + v) (omega arith)))
    (λ h. sub_ind (λ w. pos (a - b) +ℤ w ≡ sub_ℕ (a + u) (b + v)) u v
    (λ k. sub_same (a - b) (suc (v - suc u)) (a + u) (b + v) (omega arith))
    (λ k. ap pos {x = a - b + (u - v)} {y = a + u - (b + v)} (omega arith) ∙ sym (sub_above (a + u) (b + v) (omega arith))))

pub half_sub : (a b : ℕ) → halved (sub_ℕ a (b + b)) ≡ sub_ℕ (a / 2) b
half_sub a b =
    sub_ind (λ z. halved z ≡ sub_ℕ (a / 2) b) a (b + b)
    (λ h. ap negsuc {x = (b + b - suc a) / 2} {y = b - suc (a / 2)} (omega arith) ∙ sym (sub_below (a / 2) b (omega arith)))
    (λ h. ap pos {x = (a - (b + b)) / 2} {y = a / 2 - b} (omega arith) ∙ sym (sub_above (a / 2) b (omega arith)))

-- a number as a difference
pub record Is (z : ℤ) : Type 0 where
  pub over : ℕ
  pub under : ℕ
  pub same : z ≡ sub_ℕ over under

pub is : (z : ℤ) → Is z
is (pos n) = record { over = n; under = 0; same = sym (sub_above n 0 (omega arith) ∙ ap pos {x = n - 0} {y = n} (omega arith)) }
is (negsuc n) = record { over = 0; under = suc n; same = sym (sub_below 0 (suc n) (omega arith) ∙ ap negsuc {x = suc n - 1} {y = n} (omega arith)) }

pub minus_sub : (a b u v : ℕ) → sub_ℕ a b -ℤ sub_ℕ u v ≡ sub_ℕ (a + v) (b + u)
minus_sub a b u v = ap (λ (z : ℤ). sub_ℕ a b +ℤ z) (neg_sub u v) ∙ sum_sub a b v u

-- the pair's numbers
low_sub : (a b u v : ℕ) → low (sub_ℕ a b) (sub_ℕ u v) ≡ sub_ℕ ((a + u + (b + v)) / 2) (b + v)
unfolding low
low_sub a b u v =
    ap halved (sum_sub a b u v ∙ sub_same (a + u) (b + v) (a + u + (b + v)) (b + v + (b + v)) (omega arith))
    ∙ half_sub (a + u + (b + v)) (b + v)

high_sub : (a b u v : ℕ) → high (sub_ℕ a b) (sub_ℕ u v) ≡ sub_ℕ (a + v) (b + u)
unfolding high
high_sub a b u v = minus_sub a b u v

first_sub : (a b u v : ℕ) → first (sub_ℕ a b) (sub_ℕ u v) ≡ sub_ℕ (a + (u + 1 + v) / 2) (b + v)
unfolding first is
first_sub a b u v =
    let up : sub_ℕ u v +ℤ pos 1 ≡ sub_ℕ (u + 1 + v) (v + v) =
    ap (λ (z : ℤ). sub_ℕ u v +ℤ z) (is (pos 1)).same ∙ sum_sub u v 1 0 ∙ sub_same (u + 1) (v + 0) (u + 1 + v) (v + v) (omega arith) in
    ap (λ (z : ℤ). sub_ℕ a b +ℤ z) (ap halved up ∙ half_sub (u + 1 + v) v) ∙ sum_sub a b ((u + 1 + v) / 2) v

pub second_sub : (a b u v : ℕ) → second (sub_ℕ a b) (sub_ℕ u v) ≡ sub_ℕ (a + (u + 1 + v) / 2 + v) (b + v + u)
unfolding second
second_sub a b u v = ap (λ (z : ℤ). z -ℤ sub_ℕ u v) (first_sub a b u v) ∙ minus_sub (a + (u + 1 + v) / 2) (b + v) u v

-- a pair taken apart and joined again, and the other way round
module _ (y z : ℤ) where
  pub first_again : first (low y z) (high y z) ≡ y
  first_again =
      let p = is y in let q = is z in
      let a = p.over in let b = p.under in let u = q.over in let v = q.under in
      rw (p.same, q.same, low_sub a b u v, high_sub a b u v)
      (first_sub ((a + u + (b + v)) / 2) (b + v) (a + v) (b + u) ∙ sub_same ((a + u + (b + v)) / 2 + (a + v + 1 + (b + u)) / 2) (b + v + (b + u)) a b (omega arith))

  pub second_again : second (low y z) (high y z) ≡ z
  second_again =
      let p = is y in let q = is z in
      let a = p.over in let b = p.under in let u = q.over in let v = q.under in
      rw (p.same, q.same, low_sub a b u v, high_sub a b u v)
      (second_sub ((a + u + (b + v)) / 2) (b + v) (a + v) (b + u)
      ∙ sub_same ((a + u + (b + v)) / 2 + (a + v + 1 + (b + u)) / 2 + (b + u)) (b + v + (b + u) + (a + v)) u v (omega arith))

  pub low_again : low (first y z) (second y z) ≡ y
  low_again =
      let p = is y in let q = is z in
      let a = p.over in let b = p.under in let u = q.over in let v = q.under in
      let w = (u + 1 + v) / 2 in
      rw (p.same, q.same, first_sub a b u v, second_sub a b u v)
      (low_sub (a + w) (b + v) (a + w + v) (b + v + u)
      ∙ sub_same ((a + w + (a + w + v) + (b + v + (b + v + u))) / 2) (b + v + (b + v + u)) a b (omega arith))

  pub high_again : high (first y z) (second y z) ≡ z
  high_again =
      let p = is y in let q = is z in
      let a = p.over in let b = p.under in let u = q.over in let v = q.under in
      let w = (u + 1 + v) / 2 in
      rw (p.same, q.same, first_sub a b u v, second_sub a b u v)
      (high_sub (a + w) (b + v) (a + w + v) (b + v + u)
      ∙ sub_same (a + w + (b + v + u)) (b + v + (a + w + v)) u v (omega arith))
