-- The codes of marks in any run: at most N + 4 (MNk for k below N), and none of a set at the places 0 to 3. What skips and pushes in code rest on.
use Prim.Native.Nat.{ℕ, zero, suc, ◌+◌, ◌*◌, ◌-◌, ◌^◌, ◌≤◌, ◌<◌}
use mathlib.Core.Path.{◌≡◌, refl, ap, sym, subst}
use mathlib.Core.Bool.{Bool, true, false}
use mathlib.Core.Logic.{◌⊎◌, inl, inr, ⊎_elim}
use mathlib.Core.List.{List}
use native.Mathlib.Nat.{pow-succ', pow-le-pow_right}
use native.Mathlib.Omega.{arith}
use borrow.Author.Tests.{ltb-true, eqb-true, eqb-false}
use lib.Dec.{ltb, eqb}
use lib.ListN.{length, get_or, set}
use lib.Seq.{get_or-set_same, get_or-set_other, set_out}
use Rattle.nls.specs.Marks.{push_from, push, split_desc, split_grand, push_roots}
use Rattle.nls.proofs.Arrays.{four}
use Rattle.nls.proofs.Counting.Sums.{order}

pub record Codes (N : ℕ) (l : List ℕ) : Type 0 where
  pub top : (y : ℕ) → get_or l y 0 ≤ N + 4
  pub low : (y : ℕ) → y < 4 → get_or l y 0 ≤ 4

pub set_cases : (l : List ℕ) (i v y : ℕ) → ((y ≡ i) × (get_or (set l i v) y 0 ≡ v)) ⊎ (get_or (set l i v) y 0 ≡ get_or l y 0)
set_cases l i v y = on (eqb y i) refl
  where
    on : (t : Bool) → eqb y i ≡ t → ((y ≡ i) × (get_or (set l i v) y 0 ≡ v)) ⊎ (get_or (set l i v) y 0 ≡ get_or l y 0)
    on true e =
        let s : y ≡ i = eqb-true y i e in
        ⊎_elim {C = ((y ≡ i) × (get_or (set l i v) y 0 ≡ v)) ⊎ (get_or (set l i v) y 0 ≡ get_or l y 0)}
        (λ h. inr (ap (λ (m : List ℕ). get_or m y 0) (set_out l i v h)))
        (λ h. inl (s, subst (λ (x : ℕ). get_or (set l i v) x 0 ≡ v) (sym s) (get_or-set_same l i v 0 h)))
        (order (length l) i)
    on false e = inr (get_or-set_other l i y v 0 (eqb-false y i e))

pow_less : (a b : ℕ) → 4 ^ a < 4 ^ b → a < b
pow_less a b h = ⊎_elim (λ o. absurd (omega (arith, h, pow-le-pow_right {n = 4} (omega arith) {i = b} {j = a} o))) (λ o. o) (order b a)

module _ (N : ℕ) (two : 2 ≤ N) where
  abbrev I : ℕ
  I = 4 ^ N

  pub set_high : (l : List ℕ) (i v : ℕ) → 4 ≤ i → v ≤ N + 4 → Codes N l → Codes N (set l i v)
  set_high l i v h k c =
      record {
        top = λ y. ⊎_elim (λ s. omega (arith, s.1, k)) (λ s. omega (arith, s, c.top y)) (set_cases l i v y);
        low = λ y u. ⊎_elim (λ s. absurd (omega (arith, s.0, h, u))) (λ s. omega (arith, s, c.low y u)) (set_cases l i v y);
      }

  pub set_low : (l : List ℕ) (i v : ℕ) → v ≤ 4 → Codes N l → Codes N (set l i v)
  set_low l i v k c =
      record {
        top = λ y. ⊎_elim (λ s. omega (arith, s.1, k)) (λ s. omega (arith, s, c.top y)) (set_cases l i v y);
        low = λ y u. ⊎_elim (λ s. omega (arith, s.1, k)) (λ s. omega (arith, s, c.low y u)) (set_cases l i v y);
      }

  codes_push : (n w k : ℕ) (l : List ℕ) → 7 ≤ k → 16 ≤ w → 4 ^ (k - 5) ≤ w → Codes N l → Codes N (push_from I n w k l)
  unfolding push_from
  codes_push zero w k l h o q c = c
  codes_push (suc n) w k l h o q c = on (ltb w I) refl (λ d. codes_push n (4 * w) (k + 1) (set l w k) (omega arith) (omega arith) up d)
    where
      up : 4 ^ (k + 1 - 5) ≤ 4 * w
      up = omega (arith, ap (λ (x : ℕ). 4 ^ x) {x = k + 1 - 5} {y = suc (k - 5)} (omega (arith, h)), pow-succ' 4 (k - 5), q)

      on : (t : Bool) → ltb w I ≡ t → (Codes N (set l w k) → Codes N (push_from I n (4 * w) (k + 1) (set l w k)))
          → Codes N (elim t as (λ _. List ℕ) [ true ↦ push_from I n (4 * w) (k + 1) (set l w k) | false ↦ l ])
      on true e ih =
          let in_n : k - 5 < N = pow_less (k - 5) N (omega (arith, q, ltb-true w I e)) in
          ih (set_high l w k (omega (arith, o)) (omega (arith, in_n)) c)
      on false e ih = c

  pub codes_pushed : (i : ℕ) (l : List ℕ) → 4 ≤ i → Codes N l → Codes N (push I i (set l i 5))
  codes_pushed i l h c = codes_push I (4 * i) 7 (set l i 5) (omega arith) (omega arith) (omega arith) (set_high l i 5 h (omega arith) c)

  pub codes_grand : (i : ℕ) (l : List ℕ) → 4 ≤ i → Codes N l → Codes N (split_grand I i l)
  codes_grand i l h c =
      codes_pushed (i + 12) _ (omega arith) (codes_pushed (i + 8) _ (omega arith) (codes_pushed (i + 4) _ (omega arith) (codes_pushed i l h c)))

  pub codes_desc : (i : ℕ) (l : List ℕ) (t : Bool) → 4 ≤ i → Codes N l → Codes N (split_desc I i l t)
  codes_desc i l t h c = on t (set_low _ (i + 3) 4 (omega arith) (set_low _ (i + 2) 4 (omega arith) (set_low _ (i + 1) 4 (omega arith) (set_low l i 4 (omega arith) c))))
    where
      on : (t : Bool) → Codes N (four i 4 l) → Codes N (split_desc I i l t)
      on true d = set_high (four i 4 l) (4 * i) 6 (omega arith) (omega arith) d
      on false d = d

  -- a set's mark is at no place below 4
  pub far : (l : List ℕ) (i : ℕ) → Codes N l → 5 ≤ get_or l i 0 → 4 ≤ i
  far l i c h = ⊎_elim (λ o. o) (λ o. absurd (omega (arith, h, c.low i o))) (order 4 i)

  pub codes_roots : (n i : ℕ) (l : List ℕ) → 4 ≤ i → Codes N l → Codes N (push_roots I n i l)
  unfolding push_roots
  codes_roots zero i l h c = c
  codes_roots (suc n) i l h c = codes_roots n (i + 4) (push I i (set l i 5)) (omega arith) (codes_pushed i l h c)
