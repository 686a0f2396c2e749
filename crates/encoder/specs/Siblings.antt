-- Words of the encoder's inner contracts, which no promise to a caller uses: steps over four places at once, while there is room.
use Rattle.std.specs.Prelude.{ℕ, ◌+◌, ◌*◌, ◌<◌, ◌≤◌, ◌≡◌, true, List, ℤ, length}
use Rattle.sizes.specs.Sizes.{most_n, most_planes, all_of}
use Rattle.bits.specs.Bits.{bit}
use Rattle.coef.specs.Coef.{at, mag_at, negative}
use Rattle.walk.specs.Scans.{Leads}
use Rattle.walk.specs.Visits.{sv, scan_of}
use Rattle.fours.specs.Words.{nibble_of}
use Rattle.encoder.specs.Writing.{writer}
use Rattle.encoder.specs.Sinks.{Holding, held}
use Rattle.encoder.specs.declared.Sink.{Sink}
use Rattle.encoder.specs.declared.Went.{Went}

-- bit b of four magnitudes, and four signs
abbrev pub bits_at : List ℤ → ℕ → ℕ → ℕ
bits_at A b i = nibble_of (bit (mag_at A i) b) (bit (mag_at A (i + 1)) b) (bit (mag_at A (i + 2)) b) (bit (mag_at A (i + 3)) b)

abbrev pub signs_at : List ℤ → ℕ → ℕ
signs_at A i = nibble_of (negative (at A i)) (negative (at A (i + 1))) (negative (at A (i + 2))) (negative (at A (i + 3)))

-- what is held and written leaves room: the bits of one step more than are there now end before the budget does
pub record Easy (budget : ℕ) (s : Sink) : Type 0 where
  pub holds : Holding s 0
  pub few : s.n ≤ 31
  pub spent : 8 * s.at + s.n + 24 ≤ budget

-- what a step asks
pub record Ahead (A : List ℤ) (m o : List ℕ) (all budget safe b place : ℕ) (s : Sink) : Type 0 where
  pub below : place + 3 < all
  pub size : length m ≡ all
  pub near : all ≤ all_of most_n
  pub in_coefs : all ≤ length A
  pub room : budget ≤ 8 * length o
  pub margin : 8 * safe + 64 ≤ budget
  pub plane : b < most_planes
  pub easy : Easy budget s

-- the pass got from a place to another, and there is room still
pub record Led (A : List ℤ) (d g : List ℕ) (all budget b pass place : ℕ) (m o : List ℕ) (s : Sink) (place₁ : ℕ) (s₁ : Sink) (m₁ o₁ : List ℕ) : Type 0 where
  pub leads : Leads (scan_of (writer A d g budget) all) b pass place (sv m (held o s)) place₁ (sv m₁ (held o₁ s₁))
  pub easy : Easy budget s₁

-- what a step leaves; one that goes on goes on at a later place or has put a bit
pub record Gone (A : List ℤ) (d g : List ℕ) (all budget b pass place : ℕ) (m o : List ℕ) (s : Sink) (r : Went) (m₁ o₁ : List ℕ) : Type 0 where
  pub led : Led A d g all budget b pass place m o s r.place r.sink m₁ o₁
  pub falls : r.on ≡ true → (place ≤ r.place) × (8 * s.at + s.n ≤ 8 * r.sink.at + r.sink.n) × (place + (8 * s.at + s.n) < r.place + (8 * r.sink.at + r.sink.n))
