-- The decoder's scan from a place on: how it ends, and how a pass goes on by steps.
use Prim.Native.Nat.{ℕ, ◌+◌, ◌*◌, ◌-◌, ◌≤◌, ◌<◌}
use mathlib.Core.Path.{◌≡◌, refl, sym, ap}
use mathlib.Core.Bool.{true, false}
use mathlib.Core.List.{List}
use native.Mathlib.Nat.{mul-le-mul_right}
use native.Mathlib.Omega.{arith}
use lib.IntN.{ℤ}
use Rattle.walk.specs.Scans.{Ran, Scan, Resumes, left_at, pass_at}
use Rattle.walk.specs.Visits.{Sv, visit_seen, scan_of}
use Rattle.walk.proofs.Turns.{resume_over, resume_go, resume_stop, resume_bad}
use Rattle.walk.proofs.Fours.{leads_on}
use Rattle.reading.specs.Reading.{Read, reader, st, Does, Holds}
use Rattle.reading.specs.Siblings.{Led, Gone}
use Rattle.reading.specs.declared.Turn.{Turn}
use Rattle.reading.specs.declared.Turn.TheVariants.{Stop, Bad, Go}
use Rattle.reading.specs.declared.Went.{Went}
use Rattle.reading.proofs.ReadTurns.{stops_here, turn_go, turn_stop, turn_bad}

pub in_plane : (k all : ℕ) → pass_at k * all ≤ 2 * all
in_plane k all = mul-le-mul_right {m = pass_at k} {n = 2} all (omega arith)

module _ (body : List ℕ) (usable all D P : ℕ) where
  abbrev E : Scan (Sv Read)
  E = scan_of (reader body usable all D P) all

  module _ (k place : ℕ) (m : List ℕ) (v : List ℤ) (n : ℕ) (X : Ran (Sv Read)) (L : ℕ) (w : Resumes E (left_at k) (pass_at k) place (st m v n) X L) where
    pub ends_over : k ≡ 0 → Holds X L n 0 0 false m v
    ends_over e =
        let o = resume_over E (left_at k) (pass_at k) place (st m v n) X L w (omega (arith, e)) in
        rw o.0 (record { count = refl; lefts = sym o.1; stands = refl; ended = λ _. refl; refuses = refl; marked = refl; valued = refl })

    module _ (r : Turn) (m₁ : List ℕ) (v₁ : List ℤ) (i q : ℕ) (d : Does (visit_seen (reader body usable all D P) all (left_at k - 1) (pass_at k) place (st m v n)) usable place n r m₁ v₁) where
      pub goes_on : r ≡ Go i q → 0 < k → place < all → Resumes E (left_at k) (pass_at k) q (st m₁ v₁ i) X L
      goes_on e h l = resume_go E (left_at k) (pass_at k) place (st m v n) X L w (omega arith) q (st m₁ v₁ i) (turn_go body usable all D P (left_at k - 1) (pass_at k) place m v n r m₁ v₁ i q d e l)

      pub ends_stop : r ≡ Stop i q → 0 < k → place < all → Holds X L i (left_at k) (pass_at k * all + q) false m₁ v₁
      ends_stop e h l =
          let s = turn_stop body usable all D P (left_at k - 1) (pass_at k) place m v n r m₁ v₁ i q d e in
          let o = resume_stop E (left_at k) (pass_at k) place (st m v n) X L w (omega arith) (st m₁ v₁ i) s l in
          rw o.0 (record { count = refl; lefts = sym o.1; stands = ap (λ (p : ℕ). pass_at k * all + p) (stops_here _ usable place n r m₁ v₁ i q d e); ended = λ z. absurd (omega (arith, h, z)); refuses = refl; marked = refl; valued = refl })

      pub ends_bad : r ≡ Bad i q → 0 < k → place < all → Holds X L i (left_at k) 0 true m₁ v₁
      ends_bad e h l =
          let s = turn_bad body usable all D P (left_at k - 1) (pass_at k) place m v n r m₁ v₁ i q d e in
          let o = resume_bad E (left_at k) (pass_at k) place (st m v n) X L w (omega arith) (st m₁ v₁ i) s l in
          rw o.0 (record { count = refl; lefts = sym o.1; stands = refl; ended = λ _. refl; refuses = refl; marked = refl; valued = refl })

  -- a step more
  pub led_on : (b pass p : ℕ) (m : List ℕ) (v : List ℤ) (n place : ℕ) (m₁ : List ℕ) (v₁ : List ℤ) (n₁ : ℕ) (r : Went) (m₂ : List ℕ) (v₂ : List ℤ)
      → Led body all D P usable b pass p m v n place n₁ m₁ v₁ → Gone body all D P usable b pass place m₁ v₁ n₁ r m₂ v₂
      → Led body all D P usable b pass p m v n r.place r.n m₂ v₂
  led_on b pass p m v n place m₁ v₁ n₁ r m₂ v₂ l g =
      record { leads = leads_on E b pass p place r.place (st m v n) (st m₁ v₁ n₁) (st m₂ v₂ r.n) l.leads g.led.leads; spent = g.led.spent }
