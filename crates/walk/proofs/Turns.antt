-- The turns of the scan's three loops, over any state and any visit.
use Prim.Native.Nat.{ℕ, zero, suc, ◌+◌, ◌*◌, ◌-◌, ◌≤◌, ◌<◌}
use mathlib.Core.Path.{◌≡◌, refl, sym, ◌∙◌, subst}
use mathlib.Core.Logic.{◌⊎◌, inl, inr}
use native.Mathlib.Omega.{arith}
use borrow.Author.Tests.{lt-ltb, le-ltb}
use Rattle.nls.proofs.Counting.Sums.{order}
use Rattle.walk.specs.Scans.{halt, refuse, move, Ran, out, bad, on, Scan, then, places, passes, planes, unfinished, left_of, At, Leads, of_plane, Within, Resumes, left_at, pass_at}

module _ {S : Type 0} (E : Scan S) (b pass : ℕ) where
  places_end : (f place : ℕ) (t : S) → E.all ≤ place → places E b pass f place t ≡ on t
  unfolding places
  places_end zero place t h = refl
  places_end (suc f) place t h = rw (le-ltb place E.all h, places)

  places_go : (f place : ℕ) (t : S) (p : ℕ) (u : S) → E.visit b pass place t ≡ move p u → place < E.all → places E b pass (suc f) place t ≡ places E b pass f p u
  unfolding places
  places_go f place t p u e h = rw (lt-ltb place E.all h, places) (rw e)

  places_stop : (f place : ℕ) (t u : S) → E.visit b pass place t ≡ halt u → place < E.all → places E b pass (suc f) place t ≡ out (pass * E.all + place) u
  unfolding places
  places_stop f place t u e h = rw (lt-ltb place E.all h, places) (rw e)

  go_fuel : (f place : ℕ) (t : S) (p : ℕ) (u : S) (Y : Ran S) → places E b pass f place t ≡ Y → E.visit b pass place t ≡ move p u
      → (E.all - place) + (E.budget - E.used t) ≤ f → place < E.all → place ≤ p → E.used t ≤ E.used u → E.used u ≤ E.budget → place + E.used t < p + E.used u → At E b pass p u Y
  go_fuel zero place t p u Y e v en h a c d g = absurd (omega arith)
  go_fuel (suc f) place t p u Y e v en h a c d g = record { fuel = f; enough = omega arith; same = sym (places_go f place t p u v h) ∙ e }

  pub at_go : (place : ℕ) (t : S) (p : ℕ) (u : S) (Y : Ran S) → At E b pass place t Y → E.visit b pass place t ≡ move p u
      → place < E.all → place ≤ p → E.used t ≤ E.used u → E.used u ≤ E.budget → place + E.used t < p + E.used u → At E b pass p u Y
  at_go place t p u Y i v h a c d g = go_fuel i.fuel place t p u Y i.same v i.enough h a c d g

  places_bad : (f place : ℕ) (t u : S) → E.visit b pass place t ≡ refuse u → place < E.all → places E b pass (suc f) place t ≡ bad u
  unfolding places
  places_bad f place t u e h = rw (lt-ltb place E.all h, places) (rw e)

  stop_fuel : (f place : ℕ) (t u : S) (Y : Ran S) → places E b pass f place t ≡ Y → E.visit b pass place t ≡ halt u
      → (E.all - place) + (E.budget - E.used t) ≤ f → place < E.all → Y ≡ out (pass * E.all + place) u
  stop_fuel zero place t u Y e v en h = absurd (omega arith)
  stop_fuel (suc f) place t u Y e v en h = sym e ∙ places_stop f place t u v h

  pub at_stop : (place : ℕ) (t u : S) (Y : Ran S) → At E b pass place t Y → E.visit b pass place t ≡ halt u → place < E.all → Y ≡ out (pass * E.all + place) u
  at_stop place t u Y i v h = stop_fuel i.fuel place t u Y i.same v i.enough h

  bad_fuel : (f place : ℕ) (t u : S) (Y : Ran S) → places E b pass f place t ≡ Y → E.visit b pass place t ≡ refuse u
      → (E.all - place) + (E.budget - E.used t) ≤ f → place < E.all → Y ≡ bad u
  bad_fuel zero place t u Y e v en h = absurd (omega arith)
  bad_fuel (suc f) place t u Y e v en h = sym e ∙ places_bad f place t u v h

  pub at_bad : (place : ℕ) (t u : S) (Y : Ran S) → At E b pass place t Y → E.visit b pass place t ≡ refuse u → place < E.all → Y ≡ bad u
  at_bad place t u Y i v h = bad_fuel i.fuel place t u Y i.same v i.enough h

  pub at_end : (place : ℕ) (t : S) (Y : Ran S) → At E b pass place t Y → E.all ≤ place → Y ≡ on t
  at_end place t Y i h = sym i.same ∙ places_end i.fuel place t h

  pub at_start : (t : S) → At E b pass 0 t (places E b pass (E.all + E.budget) 0 t)
  at_start t = record { fuel = E.all + E.budget; enough = omega arith; same = refl }

-- what a scan that resumes at a place does there
module _ {S : Type 0} (E : Scan S) where
  start_within : (b : ℕ) (t : S) → Within E b 0 0 t (planes E (suc b) t) (left_of E (suc b) t)
  unfolding planes left_of passes
  start_within b t = record { ends = places E b 0 (E.all + E.budget) 0 t; here = at_start E b 0 t; runs = refl; lefts = refl }

  pub resume_start : (left : ℕ) (t : S) → Resumes E left 0 0 t (planes E left t) (left_of E left t)
  unfolding planes left_of
  resume_start zero t = record { over = λ e. (refl, refl); within = λ h. absurd (omega (arith, h)) }
  resume_start (suc b) t =
      let e : suc b - 1 ≡ b = omega arith in
      record { over = λ z. absurd (omega (arith, z)); within = λ h. subst (λ (k : ℕ). Within E k 0 0 t (planes E (suc b) t) (left_of E (suc b) t)) (sym e) (start_within b t) }

  module _ (left pass place : ℕ) (t : S) (X : Ran S) (L : ℕ) (r : Resumes E left pass place t X L) where
    pub resume_over : left ≡ 0 → (X ≡ on t) × (L ≡ 0)
    resume_over e = r.over e

    module _ (h : 0 < left) where
      w : Within E (left - 1) pass place t X L
      w = r.within h

      pub resume_go : (q : ℕ) (u : S) → Leads E (left - 1) pass place t q u → Resumes E left pass q u X L
      resume_go q u l =
          record { over = λ e. absurd (omega (arith, e, h)); within = λ _. record { ends = w.ends; here = l w.ends w.here; runs = w.runs; lefts = w.lefts } }

      pub resume_stop : (u : S) → E.visit (left - 1) pass place t ≡ halt u → place < E.all → (X ≡ out (pass * E.all + place) u) × (L ≡ left)
      resume_stop u v k = stop w.ends (at_stop E (left - 1) pass place t u w.ends w.here v k) w.runs w.lefts
        where
          stop : (Y : Ran S) → Y ≡ out (pass * E.all + place) u → then (of_plane E (left - 1) pass Y) (λ s. planes E (left - 1) s) ≡ X → unfinished (left - 1) (λ s. left_of E (left - 1) s) (of_plane E (left - 1) pass Y) ≡ L
              → (X ≡ out (pass * E.all + place) u) × (L ≡ left)
          stop Y e x l = (sym (rw e at x), omega (arith, h, rw e at l))

      pub resume_bad : (u : S) → E.visit (left - 1) pass place t ≡ refuse u → place < E.all → (X ≡ bad u) × (L ≡ left)
      resume_bad u v k = stop w.ends (at_bad E (left - 1) pass place t u w.ends w.here v k) w.runs w.lefts
        where
          stop : (Y : Ran S) → Y ≡ bad u → then (of_plane E (left - 1) pass Y) (λ s. planes E (left - 1) s) ≡ X → unfinished (left - 1) (λ s. left_of E (left - 1) s) (of_plane E (left - 1) pass Y) ≡ L
              → (X ≡ bad u) × (L ≡ left)
          stop Y e x l = (sym (rw e at x), omega (arith, h, rw e at l))

      -- the pass is at its end: the next one begins, and after the last one the next plane
      module _ (k : E.all ≤ place) where
        done : w.ends ≡ on t
        done = at_end E (left - 1) pass place t w.ends w.here k

        next_pass : pass < 2 → Within E (left - 1) (pass + 1) 0 t X L
        unfolding passes
        next_pass p =
            let s : 2 - pass ≡ suc (2 - (pass + 1)) = omega arith in
            let x = w.runs in
            let l = w.lefts in
            record { ends = places E (left - 1) (pass + 1) (E.all + E.budget) 0 t; here = at_start E (left - 1) (pass + 1) t; runs = rw (done, s) at x; lefts = rw (done, s) at l }

        pub resume_pass : pass < 2 → Resumes E left (pass + 1) 0 t X L
        resume_pass p = record { over = λ e. absurd (omega (arith, e, h)); within = λ _. next_pass p }

        last_runs : 2 ≤ pass → planes E (left - 1) t ≡ X
        unfolding passes
        last_runs p = let s : 2 - pass ≡ 0 = omega arith in let x = w.runs in rw (done, s) at x

        last_lefts : 2 ≤ pass → left_of E (left - 1) t ≡ L
        unfolding passes
        last_lefts p = let s : 2 - pass ≡ 0 = omega arith in let l = w.lefts in rw (done, s) at l

        pub resume_plane : 2 ≤ pass → Resumes E (left - 1) 0 0 t X L
        resume_plane p =
            let r₁ = resume_start (left - 1) t in
            subst (λ (Z : Ran S). Resumes E (left - 1) 0 0 t Z L) (last_runs p) (subst (λ (l : ℕ). Resumes E (left - 1) 0 0 t (planes E (left - 1) t) l) (last_lefts p) r₁)

-- the next pass, by the passes that are not finished
module _ {S : Type 0} (E : Scan S) where
  pub resume_all : (planes₀ : ℕ) (t : S) → Resumes E (left_at (3 * planes₀)) (pass_at (3 * planes₀)) 0 t (planes E planes₀ t) (left_of E planes₀ t)
  resume_all k t =
      let e : left_at (3 * k) ≡ k = omega arith in
      let f : pass_at (3 * k) ≡ 0 = omega arith in
      rw (f, e) (resume_start E k t)

  pub resume_next : (k place : ℕ) (t : S) (X : Ran S) (L : ℕ) → Resumes E (left_at k) (pass_at k) place t X L → 0 < k → E.all ≤ place → Resumes E (left_at (k - 1)) (pass_at (k - 1)) 0 t X L
  resume_next k place t X L r h a = on (order (pass_at k) 1)
    where
      positive : 0 < left_at k
      positive = omega arith

      on : (pass_at k ≤ 1) ⊎ (1 < pass_at k) → Resumes E (left_at (k - 1)) (pass_at (k - 1)) 0 t X L
      on (inl p) =
          let e : left_at (k - 1) ≡ left_at k = omega arith in
          let f : pass_at (k - 1) ≡ pass_at k + 1 = omega arith in
          subst (λ (l : ℕ). Resumes E l (pass_at (k - 1)) 0 t X L) (sym e) (subst (λ (q : ℕ). Resumes E (left_at k) q 0 t X L) (sym f) (resume_pass E (left_at k) (pass_at k) place t X L r positive a (omega arith)))
      on (inr p) =
          let e : left_at (k - 1) ≡ left_at k - 1 = omega arith in
          let f : pass_at (k - 1) ≡ 0 = omega arith in
          subst (λ (l : ℕ). Resumes E l (pass_at (k - 1)) 0 t X L) (sym e) (subst (λ (q : ℕ). Resumes E (left_at k - 1) q 0 t X L) (sym f) (resume_plane E (left_at k) (pass_at k) place t X L r positive a (omega arith)))

-- with k passes not finished the scan gets from place p and state t to place q and state u, with j not finished
abbrev pub Carries : {S : Type 0} → Scan S → ℕ → ℕ → S → ℕ → ℕ → S → Type 0
Carries {S} E k p t j q u = (X : Ran S) (L : ℕ) → Resumes E (left_at k) (pass_at k) p t X L → Resumes E (left_at j) (pass_at j) q u X L

module _ {S : Type 0} (E : Scan S) (k₀ p₀ : ℕ) (t₀ : S) (k p : ℕ) (t : S) (c : Carries E k₀ p₀ t₀ k p t) where
  pub carry_go : 0 < k → (q : ℕ) (u : S) → Leads E (left_at k - 1) (pass_at k) p t q u → Carries E k₀ p₀ t₀ k q u
  carry_go h q u l X L r = resume_go E (left_at k) (pass_at k) p t X L (c X L r) (omega arith) q u l

  -- the next pass
  pub carry_next : (k₁ p₁ : ℕ) (t₁ : S) → Carries E k p t k₁ p₁ t₁ → 0 < k₁ → E.all ≤ p₁ → Carries E k₀ p₀ t₀ (k₁ - 1) 0 t₁
  carry_next k₁ p₁ t₁ f h l X L r = resume_next E k₁ p₁ t₁ X L (f X L (c X L r)) h l
