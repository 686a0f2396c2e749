-- The whole scan: what the machine keeps holds where the scan ends.
use Prim.Native.Nat.{ℕ, zero, suc, ◌+◌, ◌*◌, ◌-◌, ◌^◌, ◌≤◌, ◌<◌}
use mathlib.Core.Path.{◌≡◌, refl, subst}
use mathlib.Core.Bool.{Bool, true, false}
use native.Mathlib.Omega.{arith}
use lib.Dec.{ltb, eqb, lit≤}
use borrow.Author.Tests.{le-ltb, ltb-true, ltb-false, ne_eqb}
use Rattle.sizes.specs.Sizes.{least_n, most_n}
use Rattle.nls.specs.Scan.{Pass, pixels, sets, refining, State}
use Rattle.nls.specs.Turns.{standing}
use Rattle.walk.specs.Scans.{Seen, halt, refuse, move, Scan, Ran, out, bad, on, then, follow, places, passes, planes, unfinished, left_of}
use Rattle.walk.specs.Visits.{Source, Sv, visit_seen, scan_of}
use Rattle.walk.proofs.Good.{Keeps, Stopped, Barred, Stands, Good, pixels_good, sets_good, refining_good}

abbrev pub pass_of : ℕ → Pass
pass_of zero = pixels
pass_of (suc zero) = sets
pass_of (suc (suc n)) = refining

-- where the code says that it stands, the machine does
stands_at : (I pass place : ℕ) → pass ≤ 2 → standing I (pass_of pass) place ≡ pass * I + place
stands_at I zero place h = omega arith
stands_at I (suc zero) place h = omega arith
stands_at I (suc (suc zero)) place h = refl
stands_at I (suc (suc (suc n))) place h = absurd (omega arith)

module _ {O : Type 0} (K : Source O) (N : ℕ) (P : State → O → Type 0) where
  abbrev Here : ℕ → Pass → ℕ → Sv O → Type 0
  Here l p i v = Stands K N P l p i v

  pub record Past (b pass : ℕ) (v : Sv O) : Type 0 where
    pub place : ℕ
    pub beyond : 4 ^ N ≤ place
    pub here : Here (suc b) (pass_of pass) place v

  abbrev PlacesGood : ℕ → ℕ → Ran (Sv O) → Type 0
  PlacesGood b pass (out now v) = Stopped K (4 ^ N) P (suc b) now v
  PlacesGood b pass (bad v) = Barred K (4 ^ N) P (suc b) v
  PlacesGood b pass (on v) = Past b pass v

  abbrev PassesGood : ℕ → Ran (Sv O) → Type 0
  PassesGood b (out now v) = Stopped K (4 ^ N) P (suc b) now v
  PassesGood b (bad v) = Barred K (4 ^ N) P (suc b) v
  PassesGood b (on v) = Here b pixels 0 v

  -- how a scan ends, with l planes not finished: for want of a bit, at a refused 0, or after plane 0
  abbrev pub Ended : ℕ → Ran (Sv O) → Type 0
  Ended l (out now v) = Stopped K (4 ^ N) P l now v
  Ended l (bad v) = Barred K (4 ^ N) P l v
  Ended l (on v) = (l ≡ 0) × Here 0 pixels 0 v

module _ {O : Type 0} (K : Source O) (N : ℕ) (P : State → O → Type 0) (w : Keeps K (4 ^ N) P) (two : least_n ≤ N) (most : N ≤ most_n) where
  abbrev I : ℕ
  I = 4 ^ N

  abbrev E : Scan (Sv O)
  E = scan_of K I

  visit_good : (b pass i : ℕ) (v : Sv O) → Here K N P (suc b) (pass_of pass) i v → i < I → Good K N P b (pass_of pass) i (K.used v.rest) (visit_seen K I b pass i v)
  unfolding visit_seen
  visit_good b zero i v h l = pixels_good K N P w two most b i v.marks v.rest h.codes l h.cap h.held
  visit_good b (suc zero) i v h l = sets_good K N P w two most b i v.marks v.rest h.codes l h.cap h.held
  visit_good b (suc (suc n)) i v h l =
      let z0 : eqb (suc (suc n)) 0 ≡ false = ne_eqb (suc (suc n)) 0 (λ e. absurd (omega (arith, e))) in
      let z1 : eqb (suc (suc n)) 1 ≡ false = ne_eqb (suc (suc n)) 1 (λ e. absurd (omega (arith, e))) in
      rw (z0, z1) (refining_good K N P w two most b i v.marks v.rest h.codes l h.cap h.held)

  places_good : (f b pass i : ℕ) (v : Sv O) → pass ≤ 2 → Here K N P (suc b) (pass_of pass) i v → (I - i) + (K.budget - K.used v.rest) ≤ f
      → PlacesGood K N P b pass (places E b pass f i v)
  unfolding places
  places_good zero b pass i v few h e = record { place = i; beyond = omega (arith, e); here = h }
  places_good (suc f) b pass i v few h e = go (ltb i I) refl (λ j u. places_good f b pass j u few)
    where
      on_seen : (s : Seen (Sv O)) → Good K N P b (pass_of pass) i (K.used v.rest) s → i < I
          → ((j : ℕ) (u : Sv O) → Here K N P (suc b) (pass_of pass) j u → (I - j) + (K.budget - K.used u.rest) ≤ f → PlacesGood K N P b pass (places E b pass f j u))
          → PlacesGood K N P b pass (follow (pass * I + i) (λ p u. places E b pass f p u) s)
      on_seen (halt u) g l ih = subst (λ (x : ℕ). Stopped K I P (suc b) x u) (stands_at I pass i few) g
      on_seen (refuse u) g l ih = g
      on_seen (move j u) g l ih = ih j u g.stands (omega (arith, e, l, g.forth, g.spent, g.falls, g.stands.cap, h.cap))

      go : (x : Bool) → ltb i I ≡ x
          → ((j : ℕ) (u : Sv O) → Here K N P (suc b) (pass_of pass) j u → (I - j) + (K.budget - K.used u.rest) ≤ f → PlacesGood K N P b pass (places E b pass f j u))
          → PlacesGood K N P b pass (elim x as (λ _. Ran (Sv O)) [ false ↦ on v | true ↦ follow (pass * I + i) (λ p u. places E b pass f p u) (visit_seen K I b pass i v) ])
      go true y ih = on_seen (visit_seen K I b pass i v) (visit_good b pass i v h (ltb-true i I y)) (ltb-true i I y) ih
      go false y ih = record { place = i; beyond = ltb-false i I y; here = h }

  -- the end of each pass is a silent move
  turn_pixels : (b : ℕ) (v : Sv O) → Past K N P b 0 v → Here K N P (suc b) sets 0 v
  turn_pixels b v h = record { held = w.silence _ _ v.rest h.here.held (rw (le-ltb h.place I h.beyond)); codes = h.here.codes; cap = h.here.cap }

  turn_sets : (b : ℕ) (v : Sv O) → Past K N P b 1 v → Here K N P (suc b) refining 0 v
  turn_sets b v h = record { held = w.silence _ _ v.rest h.here.held (rw (le-ltb h.place I h.beyond)); codes = h.here.codes; cap = h.here.cap }

  turn_refining : (b : ℕ) (v : Sv O) → Past K N P b 2 v → Here K N P b pixels 0 v
  turn_refining b v h = record { held = w.silence _ _ v.rest h.here.held (rw (le-ltb h.place I h.beyond)); codes = h.here.codes; cap = h.here.cap }

  pass_good : (b pass : ℕ) (v : Sv O) → pass ≤ 2 → Here K N P (suc b) (pass_of pass) 0 v → PlacesGood K N P b pass (places E b pass (I + K.budget) 0 v)
  pass_good b pass v few h = places_good (I + K.budget) b pass 0 v few h (omega arith)

  passes_good : (b : ℕ) (v : Sv O) → Here K N P (suc b) pixels 0 v → PassesGood K N P b (passes E b 3 0 v)
  unfolding passes
  passes_good b v h = first (places E b 0 (I + K.budget) 0 v) (pass_good b 0 v (lit≤ tt) h)
    where
      third : (r : Ran (Sv O)) → PlacesGood K N P b 2 r → PassesGood K N P b (then r (λ u. on u))
      third (out now u) g = g
      third (bad u) g = g
      third (on u) g = turn_refining b u g

      second : (r : Ran (Sv O)) → PlacesGood K N P b 1 r → PassesGood K N P b (then r (λ u. then (places E b 2 (I + K.budget) 0 u) (λ x. on x)))
      second (out now u) g = g
      second (bad u) g = g
      second (on u) g = third (places E b 2 (I + K.budget) 0 u) (pass_good b 2 u (lit≤ tt) (turn_sets b u g))

      first : (r : Ran (Sv O)) → PlacesGood K N P b 0 r
          → PassesGood K N P b (then r (λ u. then (places E b 1 (I + K.budget) 0 u) (λ x. then (places E b 2 (I + K.budget) 0 x) (λ y. on y))))
      first (out now u) g = g
      first (bad u) g = g
      first (on u) g = second (places E b 1 (I + K.budget) 0 u) (pass_good b 1 u (lit≤ tt) (turn_pixels b u g))

  -- for any source, and any P that the machine keeps
  pub scan_good : (b : ℕ) (v : Sv O) → Stands K N P b pixels 0 v → Ended K N P (left_of E b v) (planes E b v)
  unfolding planes left_of
  scan_good zero v h = (refl, h)
  scan_good (suc b) v h = go (passes E b 3 0 v) (passes_good b v h) (λ u. scan_good b u)
    where
      go : (r : Ran (Sv O)) → PassesGood K N P b r → ((u : Sv O) → Here K N P b pixels 0 u → Ended K N P (left_of E b u) (planes E b u))
          → Ended K N P (unfinished b (λ u. left_of E b u) r) (then r (λ u. planes E b u))
      go (out now u) g ih = g
      go (bad u) g ih = g
      go (on u) g ih = ih u g
