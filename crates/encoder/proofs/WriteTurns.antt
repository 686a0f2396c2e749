-- The turns of the encoder's loops, from what a visit ensures.
use Prim.Native.Nat.{ℕ, ◌+◌, ◌-◌, ◌≤◌, ◌<◌}
use mathlib.Core.Path.{◌≡◌, refl, sym, subst}
use mathlib.Core.List.{List}
use native.Mathlib.Omega.{arith}
use lib.IntN.{ℤ}
use lib.ListN.{length}
use Rattle.walk.specs.Scans.{Seen, halt, refuse, move, Scan, Ran, Leads, Resumes, left_at, pass_at}
use Rattle.walk.specs.Visits.{Sv, visit_seen, scan_of}
use Rattle.walk.proofs.Turns.{at_go, resume_stop, Carries}
use Rattle.encoder.specs.Writing.{Bytes, writer, st, left_by, step_of, Falls, Clean, Does, Holds}
use Rattle.encoder.specs.declared.Step.{Step}
use Rattle.encoder.specs.declared.Step.TheVariants.{Stop, Go}

seen_go : (place : ℕ) (S : Seen (Sv Bytes)) (r : Step) (k p : ℕ) (m o : List ℕ) → r ≡ step_of place S → m ≡ (left_by S).marks → o ≡ (left_by S).rest.out → Clean S → r ≡ Go k p → S ≡ move p (st m o k)
seen_go place (halt t) r k p m o e em eo z g = let z : ◌≡◌ {A = ℕ} 0 1 = cc in absurd (omega arith)
seen_go place (refuse t) r k p m o e em eo z g = absurd z
seen_go place (move q t) r k p m o e em eo z g =
    let ep : q ≡ p = cc in
    let ek : t.rest.n ≡ k = cc in
    λ i. move (ep i) (st (sym em i) (sym eo i) (ek i))

seen_stop : (place : ℕ) (S : Seen (Sv Bytes)) (r : Step) (k p : ℕ) (m o : List ℕ) → r ≡ step_of place S → m ≡ (left_by S).marks → o ≡ (left_by S).rest.out → Clean S → r ≡ Stop k p → S ≡ halt (st m o k)
seen_stop place (halt t) r k p m o e em eo z g =
    let ek : t.rest.n ≡ k = cc in
    λ i. halt (st (sym em i) (sym eo i) (ek i))
seen_stop place (refuse t) r k p m o e em eo z g = absurd z
seen_stop place (move q t) r k p m o e em eo z g = let z : ◌≡◌ {A = ℕ} 0 1 = cc in absurd (omega arith)

-- what is left of the budget, and the lengths
pub record Fit (m₀ o₀ m o : List ℕ) (budget n : ℕ) : Type 0 where
  pub marks : length m ≡ length m₀
  pub bytes : length o ≡ length o₀
  pub spent : n ≤ budget

pub falls_go : (budget place n : ℕ) (r : Step) (k p : ℕ) → Falls budget place n r → r ≡ Go k p → (place ≤ p) × (n ≤ k) × (k ≤ budget) × (place + n < p + k)
falls_go budget place n r k p f e = rw e at f

module _ (A : List ℤ) (d g : List ℕ) (all budget b pass place : ℕ) (m₀ o₀ : List ℕ) (n : ℕ) (r : Step) (m o : List ℕ) where
  abbrev E : Scan (Sv Bytes)
  E = scan_of (writer A d g budget) all

  -- where the number of marks is spelled otherwise
  pub among : (k : ℕ) → k ≡ all → Does (visit_seen (writer A d g budget) k b pass place (st m₀ o₀ n)) budget place n r m o
      → Does (visit_seen (writer A d g budget) all b pass place (st m₀ o₀ n)) budget place n r m o
  among k e s = subst (λ (x : ℕ). Does (visit_seen (writer A d g budget) x b pass place (st m₀ o₀ n)) budget place n r m o) e s

  pub turn_go : (k p : ℕ) → Does (visit_seen (writer A d g budget) all b pass place (st m₀ o₀ n)) budget place n r m o → r ≡ Go k p → place < all
      → Leads (scan_of (writer A d g budget) all) b pass place (st m₀ o₀ n) p (st m o k)
  turn_go k p s e h Y i =
      let f = falls_go budget place n r k p s.falls e in
      at_go E b pass place (st m₀ o₀ n) p (st m o k) Y i (seen_go place _ r k p m o s.answered s.marked s.wrote s.clean e) h f.0 f.1 f.2 f.3

  pub turn_stop : (k p : ℕ) → Does (visit_seen (writer A d g budget) all b pass place (st m₀ o₀ n)) budget place n r m o → r ≡ Stop k p
      → visit_seen (writer A d g budget) all b pass place (st m₀ o₀ n) ≡ halt (st m o k)
  turn_stop k p s e = seen_stop place _ r k p m o s.answered s.marked s.wrote s.clean e

-- the end: no pass is left, or a bit exceeds the budget
module _ (E : Scan (Sv Bytes)) (k₀ p₀ : ℕ) (t₀ : Sv Bytes) (k p : ℕ) (m o : List ℕ) (n : ℕ) (c : Carries E k₀ p₀ t₀ k p (st m o n)) where
  pub carry_over : k ≤ 0 → (X : Ran (Sv Bytes)) (L : ℕ) → Resumes E (left_at k₀) (pass_at k₀) p₀ t₀ X L → Holds X n m o
  carry_over h X L r = rw ((c X L r).over (omega arith)).0 (record { count = refl; marked = refl; wrote = refl })

  pub carry_stop : 0 < k → p < E.all → (m₁ o₁ : List ℕ) (n₁ : ℕ) → E.visit (left_at k - 1) (pass_at k) p (st m o n) ≡ halt (st m₁ o₁ n₁)
      → (X : Ran (Sv Bytes)) (L : ℕ) → Resumes E (left_at k₀) (pass_at k₀) p₀ t₀ X L → Holds X n₁ m₁ o₁
  carry_stop h l m₁ o₁ n₁ v X L r =
      rw (resume_stop E (left_at k) (pass_at k) p (st m o n) X L (c X L r) (omega arith) (st m₁ o₁ n₁) v l).0 (record { count = refl; marked = refl; wrote = refl })
