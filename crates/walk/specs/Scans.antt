-- Words of the inner contracts, which no promise to a caller uses: a scan over any state, by planes, passes and places.
use Rattle.std.specs.Prelude.{ℕ, zero, suc, ◌+◌, ◌*◌, ◌-◌, ◌/◌, ◌≤◌, ◌<◌, ◌≡◌, Bool, true, false, ltb}

-- a visit ends the scan for want of a bit, ends it at a bit that fits no array, or goes on at a place
pub data Seen (S : Type 0) : Type 0 where
  halt : S → Seen S
  refuse : S → Seen S
  move : ℕ → S → Seen S

-- a part of the scan: it was ended by a visit of one of these kinds, or ran to its end. Where a bit is wanting, the number is where the scan
-- stands in its plane, pass times I and the place
pub data Ran (S : Type 0) : Type 0 where
  out : ℕ → S → Ran S
  bad : S → Ran S
  on : S → Ran S

-- how many places and bits there are, the bits used so far, and what a visit does (plane, pass, place)
pub record Scan (S : Type 0) : Type 0 where
  pub all : ℕ
  pub budget : ℕ
  pub used : S → ℕ
  pub visit : ℕ → ℕ → ℕ → S → Seen S

-- the state where a part of the scan ended, where it stands there (0 but where a bit is wanting), and whether it ended at a bit that fits no array
abbrev pub last : {S : Type 0} → Ran S → S
last (out now t) = t
last (bad t) = t
last (on t) = t

abbrev pub now_of : {S : Type 0} → Ran S → ℕ
now_of (out now t) = now
now_of (bad t) = 0
now_of (on t) = 0

abbrev pub is_bad : {S : Type 0} → Ran S → Bool
is_bad (out now t) = false
is_bad (bad t) = true
is_bad (on t) = false

abbrev pub then : {S : Type 0} → Ran S → (S → Ran S) → Ran S
then (out now t) f = out now t
then (bad t) f = bad t
then (on t) f = f t

abbrev pub follow : {S : Type 0} → ℕ → (ℕ → S → Ran S) → Seen S → Ran S
follow now g (halt u) = out now u
follow now g (refuse u) = bad u
follow now g (move p u) = g p u

-- the places from one on, in at most f visits
unfoldable pub places : {S : Type 0} → Scan S → ℕ → ℕ → ℕ → ℕ → S → Ran S
places E b pass zero place t = on t
places E b pass (suc f) place t = elim (ltb place E.all) [ false ↦ on t | true ↦ follow (pass * E.all + place) (λ p u. places E b pass f p u) (E.visit b pass place t) ]

-- k passes from one on. No pass has more visits than there are places and bits.
unfoldable pub passes : {S : Type 0} → Scan S → ℕ → ℕ → ℕ → S → Ran S
passes E b zero pass t = on t
passes E b (suc k) pass t = then (places E b pass (E.all + E.budget) 0 t) (λ u. passes E b k (pass + 1) u)

-- the planes b - 1 to 0
unfoldable pub planes : {S : Type 0} → Scan S → ℕ → S → Ran S
planes E zero t = on t
planes E (suc b) t = then (passes E b 3 0 t) (λ u. planes E b u)

-- how many planes are not finished where the scan ends: b + 1 where a pass of plane b was ended, else what `rest` says
abbrev pub unfinished : {S : Type 0} → ℕ → (S → ℕ) → Ran S → ℕ
unfinished b rest (out now t) = suc b
unfinished b rest (bad t) = suc b
unfinished b rest (on t) = rest t

unfoldable pub left_of : {S : Type 0} → Scan S → ℕ → S → ℕ
left_of E zero t = 0
left_of E (suc b) t = unfinished b (λ u. left_of E b u) (passes E b 3 0 t)

-- the places from one on end as Y, with visits enough
pub record At {S : Type 0} (E : Scan S) (b pass place : ℕ) (t : S) (Y : Ran S) : Type 0 where
  pub fuel : ℕ
  pub enough : (E.all - place) + (E.budget - E.used t) ≤ fuel
  pub same : places E b pass fuel place t ≡ Y

-- a pass gets from place p and state t to place q and state u: whatever it ends as from the first, it ends as from the second
abbrev pub Leads : {S : Type 0} → Scan S → ℕ → ℕ → ℕ → S → ℕ → S → Type 0
Leads {S} E b pass p t q u = (Y : Ran S) → At E b pass p t Y → At E b pass q u Y

-- what is left of a plane where a pass of it ends as Y
abbrev pub of_plane : {S : Type 0} → Scan S → ℕ → ℕ → Ran S → Ran S
of_plane E b pass Y = then Y (λ u. passes E b (2 - pass) (pass + 1) u)

-- from a place of plane b on the scan ends as X, with L planes not finished
pub record Within {S : Type 0} (E : Scan S) (b pass place : ℕ) (t : S) (X : Ran S) (L : ℕ) : Type 0 where
  pub ends : Ran S
  pub here : At E b pass place t ends
  pub runs : then (of_plane E b pass ends) (λ u. planes E b u) ≡ X
  pub lefts : unfinished b (λ u. left_of E b u) (of_plane E b pass ends) ≡ L

-- the same where `left` planes are not finished, be it none
pub record Resumes {S : Type 0} (E : Scan S) (left pass place : ℕ) (t : S) (X : Ran S) (L : ℕ) : Type 0 where
  pub over : left ≡ 0 → (X ≡ on t) × (L ≡ 0)
  pub within : 0 < left → Within E (left - 1) pass place t X L

-- the passes that are not finished, counted down, three for each plane: how many planes these are, and which pass of the first it is
abbrev pub left_at : ℕ → ℕ
left_at k = (k + 2) / 3

abbrev pub pass_at : ℕ → ℕ
pass_at k = 3 * left_at k - k
