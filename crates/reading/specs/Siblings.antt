-- Words of the decoder's inner contracts, which no promise to a caller uses: four places at once.
use Rattle.std.specs.Prelude.{ℕ, ◌+◌, ◌-◌, ◌*◌, ◌<◌, ◌≤◌, ◌≡◌, Bool, true, false, cond, List, ℤ, length, set}
use Rattle.sizes.specs.Sizes.{most_n, most_planes, all_of}
use Rattle.bits.specs.Bits.{bit, bit_at}
use Rattle.coef.specs.Coef.{at}
use Rattle.walk.specs.Scans.{Leads}
use Rattle.walk.specs.Visits.{scan_of}
use Rattle.reading.specs.Reading.{new_code, more_code, reader, st}
use Rattle.reading.specs.declared.Went.{Went}

-- the codes of four places become x, y, z, t
abbrev pub put_codes : List ℤ → ℕ → ℤ → ℤ → ℤ → ℤ → List ℤ
put_codes v i x y z t = set (set (set (set v i x) (i + 1) y) (i + 2) z) (i + 3) t

-- those of a are found in plane b, with the signs of s
abbrev pub found_at : List ℤ → ℕ → ℕ → Bool → Bool → ℤ
found_at v i b x minus = cond x (new_code minus b) (at v i)

abbrev pub found_four : List ℤ → ℕ → ℕ → ℕ → ℕ → List ℤ
found_four v i b a s = put_codes v i (found_at v i b (bit a 0) (bit s 0)) (found_at v (i + 1) b (bit a 1) (bit s 1)) (found_at v (i + 2) b (bit a 2) (bit s 2)) (found_at v (i + 3) b (bit a 3) (bit s 3))

-- bit b of those that are refined is put into their codes: a has a 1 where it is 1
abbrev pub refined_four : List ℤ → ℕ → ℕ → ℕ → List ℤ
refined_four v i b a = put_codes v i (more_code (bit a 0) b (at v i)) (more_code (bit a 1) b (at v (i + 1))) (more_code (bit a 2) b (at v (i + 2))) (more_code (bit a 3) b (at v (i + 3)))

-- four codes stay as they are where no bit is put: they are numbers of 32 bits
pub record Fixed (v : List ℤ) (i b : ℕ) : Type 0 where
  pub first : more_code false b (at v i) ≡ at v i
  pub second : more_code false b (at v (i + 1)) ≡ at v (i + 1)
  pub third : more_code false b (at v (i + 2)) ≡ at v (i + 2)
  pub fourth : more_code false b (at v (i + 3)) ≡ at v (i + 3)

-- a number of 16 bits begins with the nine bits of a body from bit n on
pub record Shows (body : List ℕ) (n w : ℕ) : Type 0 where
  pub small : w < 65536
  pub bits : (j : ℕ) → j < 9 → bit w (15 - j) ≡ bit_at body (n + j)

-- what a step says: it goes on, or it does not
abbrev pub goes : ℕ → ℕ → Went
goes n place = record { on = true; n = n; place = place }

abbrev pub rests : ℕ → ℕ → Went
rests n place = record { on = false; n = n; place = place }

-- what a step asks
pub record Ahead (body m : List ℕ) (v : List ℤ) (all usable safe b place n : ℕ) : Type 0 where
  pub below : place + 3 < all
  pub size : length m ≡ all
  pub in_values : length v ≡ all
  pub near : all ≤ all_of most_n
  pub there : usable ≤ 8 * length body
  pub margin : safe + 128 ≤ usable
  pub plane : b < most_planes
  pub spent : n ≤ usable

-- the pass got from a place to another
pub record Led (body : List ℕ) (all D P usable b pass place : ℕ) (m : List ℕ) (v : List ℤ) (n place₁ n₁ : ℕ) (m₁ : List ℕ) (v₁ : List ℤ) : Type 0 where
  pub leads : Leads (scan_of (reader body usable all D P) all) b pass place (st m v n) place₁ (st m₁ v₁ n₁)
  pub spent : n₁ ≤ usable

-- what a step leaves; one that goes on goes on at a later place or has used a bit
pub record Gone (body : List ℕ) (all D P usable b pass place : ℕ) (m : List ℕ) (v : List ℤ) (n : ℕ) (r : Went) (m₁ : List ℕ) (v₁ : List ℤ) : Type 0 where
  pub led : Led body all D P usable b pass place m v n r.place r.n m₁ v₁
  pub falls : r.on ≡ true → (place ≤ r.place) × (n ≤ r.n) × (place + n < r.place + r.n)
