-- The turns of the decoder's loops, from what a visit ensures.
use Prim.Native.Nat.{ℕ, ◌+◌, ◌≤◌, ◌<◌}
use mathlib.Core.Path.{◌≡◌, sym}
use mathlib.Core.List.{List}
use native.Mathlib.Omega.{arith}
use lib.IntN.{ℤ}
use lib.ListN.{length}
use Rattle.walk.specs.Scans.{Seen, halt, refuse, move, Scan, Leads}
use Rattle.walk.specs.Visits.{Sv, visit_seen, scan_of}
use Rattle.reading.specs.Reading.{Read, reader, st, left_by, turn_of, Falls, Does}
use Rattle.reading.specs.declared.Turn.{Turn}
use Rattle.reading.specs.declared.Turn.TheVariants.{Stop, Bad, Go}
use Rattle.walk.proofs.Turns.{at_go}

module _ (r : Turn) (m : List ℕ) (v : List ℤ) (at k : ℕ) where
  seen_go : (S : Seen (Sv Read)) (q : ℕ) → r ≡ turn_of at S → m ≡ (left_by S).marks → v ≡ (left_by S).rest.codes → r ≡ Go k q → S ≡ move q (st m v k)
  seen_go (halt t) q e em ev g = let z : ◌≡◌ {A = ℕ} 0 1 = cc in absurd (omega arith)
  seen_go (refuse t) q e em ev g = let z : ◌≡◌ {A = ℕ} 0 1 = cc in absurd (omega arith)
  seen_go (move w t) q e em ev g =
      let eq : w ≡ q = cc in
      let ek : t.rest.n ≡ k = cc in
      λ i. move (eq i) (st (sym em i) (sym ev i) (ek i))

  seen_stop : (S : Seen (Sv Read)) (q : ℕ) → r ≡ turn_of at S → m ≡ (left_by S).marks → v ≡ (left_by S).rest.codes → r ≡ Stop k q → S ≡ halt (st m v k)
  seen_stop (halt t) q e em ev g =
      let ek : t.rest.n ≡ k = cc in
      λ i. halt (st (sym em i) (sym ev i) (ek i))
  seen_stop (refuse t) q e em ev g = let z : ◌≡◌ {A = ℕ} 0 1 = cc in absurd (omega arith)
  seen_stop (move w t) q e em ev g = let z : ◌≡◌ {A = ℕ} 0 1 = cc in absurd (omega arith)

  seen_bad : (S : Seen (Sv Read)) (q : ℕ) → r ≡ turn_of at S → m ≡ (left_by S).marks → v ≡ (left_by S).rest.codes → r ≡ Bad k q → S ≡ refuse (st m v k)
  seen_bad (halt t) q e em ev g = let z : ◌≡◌ {A = ℕ} 0 1 = cc in absurd (omega arith)
  seen_bad (refuse t) q e em ev g =
      let ek : t.rest.n ≡ k = cc in
      λ i. refuse (st (sym em i) (sym ev i) (ek i))
  seen_bad (move w t) q e em ev g = let z : ◌≡◌ {A = ℕ} 0 1 = cc in absurd (omega arith)

-- what is left of the usable bits, and the lengths
pub record Fit (m₀ : List ℕ) (v₀ : List ℤ) (m : List ℕ) (v : List ℤ) (usable n : ℕ) : Type 0 where
  pub marks : length m ≡ length m₀
  pub values : length v ≡ length v₀
  pub spent : n ≤ usable

-- a visit that stops does so at its place
pub stops_here : (s : Seen (Sv Read)) (usable place n : ℕ) (r : Turn) (m : List ℕ) (v : List ℤ) (k q : ℕ) → Does s usable place n r m v → r ≡ Stop k q → q ≡ place
stops_here s usable place n r m v k q d e = go s d.answered
  where
    go : (s : Seen (Sv Read)) → r ≡ turn_of place s → q ≡ place
    go (halt t) a = let z : place ≡ q = cc in sym z
    go (refuse t) a = let z : ◌≡◌ {A = ℕ} 0 1 = cc in absurd (omega arith)
    go (move w t) a = let z : ◌≡◌ {A = ℕ} 0 1 = cc in absurd (omega arith)

pub falls_go : (usable place n : ℕ) (r : Turn) (k q : ℕ) → Falls usable place n r → r ≡ Go k q → (place ≤ q) × (n ≤ k) × (k ≤ usable) × (place + n < q + k)
falls_go usable place n r k q f e = rw e at f

module _ (body : List ℕ) (usable all D P b pass place : ℕ) (m₀ : List ℕ) (v₀ : List ℤ) (n : ℕ) (r : Turn) (m : List ℕ) (v : List ℤ) where
  abbrev E : Scan (Sv Read)
  E = scan_of (reader body usable all D P) all

  abbrev Visited : Type 0
  Visited = Does (visit_seen (reader body usable all D P) all b pass place (st m₀ v₀ n)) usable place n r m v

  pub turn_go : (k q : ℕ) → Visited → r ≡ Go k q → place < all → Leads (scan_of (reader body usable all D P) all) b pass place (st m₀ v₀ n) q (st m v k)
  turn_go k q s e h Y i =
      let f = falls_go usable place n r k q s.falls e in
      at_go E b pass place (st m₀ v₀ n) q (st m v k) Y i (seen_go r m v place k _ q s.answered s.marked s.valued e) h f.0 f.1 f.2 f.3

  pub turn_stop : (k q : ℕ) → Visited → r ≡ Stop k q → visit_seen (reader body usable all D P) all b pass place (st m₀ v₀ n) ≡ halt (st m v k)
  turn_stop k q s e = seen_stop r m v place k _ q s.answered s.marked s.valued e

  pub turn_bad : (k q : ℕ) → Visited → r ≡ Bad k q → visit_seen (reader body usable all D P) all b pass place (st m₀ v₀ n) ≡ refuse (st m v k)
  turn_bad k q s e = seen_bad r m v place k _ q s.answered s.marked s.valued e
