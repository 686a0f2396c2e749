-- Words of the decoder's inner contracts, which no promise to a caller uses: the body answers, and a code of what is known of each coefficient is kept.
use Rattle.std.specs.Prelude.{ℕ, suc, ◌+◌, ◌*◌, ◌-◌, ◌/◌, ◌%◌, ◌^◌, ◌≤◌, ◌<◌, min, ◌≡◌, Bool, true, false, ◌&&◌, cond, List, [], ◌∷◌, ltb, leb, eqb, ℤ, pos, length, get_or, set}
use Rattle.std.specs.Int.Bits.{bit_or}
use Rattle.std.specs.Int.{w32}
use Rattle.std.proofs.Common.{of_z, to_z}
use Rattle.sizes.specs.Sizes.{most_n, most_planes, all_of}
use Rattle.bits.specs.Bits.{digit, bit_at}
use Rattle.coef.specs.Coef.{at, magnitude, negative}
use Rattle.nls.specs.Marks.{MIP, MCP, MD, MG}
use Rattle.nls.specs.Scan.{Question, bit_of, sign_of, in_desc, in_grand, Pass, pixels, sets, refining}
use Rattle.walk.specs.Scans.{Seen, halt, refuse, move, Ran, last, now_of, is_bad, planes, left_of}
use Rattle.walk.specs.Visits.{Source, Sv, sv, scan_of}
use Rattle.reading.specs.declared.Reached.{Reached}
use Rattle.reading.specs.declared.Turn.{Turn}
use Rattle.reading.specs.declared.Turn.TheVariants.{Stop, Bad, Go}

-- the codes of what is known, and the number of bits used
pub record Read : Type 0 where
  pub codes : List ℤ
  pub n : ℕ

abbrev pub read : List ℤ → ℕ → Read
read v n = record { codes = v; n = n }

-- While the scan runs a value is kept as a code: twice its magnitude, and 1 more where it is below 0.
abbrev pub coded : ℤ → ℤ
coded z = pos (2 * magnitude z + digit (negative z))

unfoldable pub codes : List ℤ → List ℤ
codes [] = []
codes (z ∷ rest) = coded z ∷ codes rest

-- the code of a coefficient found in plane b
abbrev pub new_code : Bool → ℕ → ℤ
new_code below b = pos (2 * 2 ^ b + digit below)

-- a code with bit b of the magnitude put into its word
unfoldable pub more_code : Bool → ℕ → ℤ → ℤ
more_code x b z = to_z w32 (bit_or (of_z w32 z) (digit x * 2 ^ (b + 1)))

-- what is kept of an answer: the bits of `learn` of nls, in codes. The planes are made in the end, from the marks.
abbrev pub keep : Pass → ℕ → Question → Bool → List ℤ → List ℤ
keep refining b (bit_of i c) a v = set v i (more_code a b (at v i))
keep pixels b (bit_of i c) a v = v
keep sets b (bit_of i c) a v = v
keep pass b (sign_of i) a v = set v i (new_code a b)
keep pass b (in_desc g c) a v = v
keep pass b (in_grand g c) a v = v

-- Refusal 12: the zeros that no array fits, by the question, the place and the marks.
-- place t has the mark v
abbrev pub is : List ℕ → ℕ → ℕ → Bool
is m t v = eqb (get_or m t 0) v

-- the fourth child, where the others were just found 0 and nothing lies below them
unfoldable pub child_clash : ℕ → ℕ → List ℕ → Bool
child_clash I t m = eqb (t % 4) 3 && (leb I (16 * (t / 4)) && (is m (t - 1) MIP && (is m (t - 2) MIP && is m (t - 3) MIP)))

-- a GRAND, where the four children were just found 0
unfoldable pub grand_clash : ℕ → List ℕ → Bool
grand_clash t m = is m (4 * (t / 16)) MIP && (is m (4 * (t / 16) + 1) MIP && (is m (4 * (t / 16) + 2) MIP && is m (4 * (t / 16) + 3) MIP))

-- the fourth DESC of a split GRAND, where the others were just answered 0; or the last root of plane P-1, where all bits so far were 0
unfoldable pub last_clash : ℕ → List ℕ → Bool
last_clash t m = eqb (t / 4 % 4) 3 && (is m (4 * (t / 4 - 1)) MD && (is m (4 * (t / 4 - 2)) MD && is m (4 * (t / 4 - 3)) MD))

unfoldable pub root_clash : ℕ → ℕ → ℕ → ℕ → ℕ → Bool
root_clash D P b used t = eqb (t + 4) (4 * D) && (eqb (suc b) P && eqb used (D + 3 * D / 4 - 1))

unfoldable pub desc_clash : ℕ → ℕ → ℕ → ℕ → ℕ → List ℕ → Bool
desc_clash D P b used t m = cond (leb (4 * D) t) (last_clash t m) (root_clash D P b used t)

abbrev pub bars : ℕ → ℕ → ℕ → ℕ → Question → ℕ → List ℕ → ℕ → Bool
bars I D P b (bit_of j c) t m used = child_clash I t m
bars I D P b (sign_of j) t m used = false
bars I D P b (in_desc g c) t m used = desc_clash D P b used t m
bars I D P b (in_grand g c) t m used = grand_clash t m

-- The same by the mark at place t of the set pass, with `left` planes not finished: what the stepped decoder asks, in any table of marks. Sizes
-- and places at which no scan stands bar nothing.
unfoldable pub bars_at : ℕ → ℕ → ℕ → ℕ → ℕ → ℕ → List ℕ → Bool
bars_at I D P b used t m = cond (is m t MCP) (child_clash I t m) (cond (is m t MD) (desc_clash D P b used t m) (cond (is m t MG) (grand_clash t m) false))

unfoldable pub bars_fit : ℕ → ℕ → ℕ → ℕ → ℕ → Bool
bars_fit I D P left t =
    leb I (all_of most_n) && (leb 4 D && (leb (4 * D) I && (leb P most_planes && (leb 1 left && (leb left most_planes && ltb t I)))))

abbrev pub bars_zero : ℕ → ℕ → ℕ → ℕ → ℕ → ℕ → List ℕ → Bool
bars_zero I D P left used t m = bars_fit I D P left t && bars_at I D P (left - 1) used t m

abbrev pub reader : List ℕ → ℕ → ℕ → ℕ → ℕ → Source Read
reader body usable I D P =
    record {
      budget = usable;
      used = λ o. o.n;
      next = λ q o. bit_at body o.n;
      keep = λ p b q x o. record { codes = keep p b q x o.codes; n = o.n + 1 };
      bars = λ b q t m o. bars I D P b q t m o.n;
    }

abbrev pub st : List ℕ → List ℤ → ℕ → Sv Read
st m v n = sv m (read v n)

abbrev pub left_by : Seen (Sv Read) → Sv Read
left_by (halt t) = t
left_by (refuse t) = t
left_by (move p t) = t

-- the bits used, and the place: where it stopped, or where to go on
abbrev pub turn_of : ℕ → Seen (Sv Read) → Turn
turn_of place (halt t) = Stop t.rest.n place
turn_of place (refuse t) = Bad t.rest.n place
turn_of place (move p t) = Go t.rest.n p

abbrev pub Falls : ℕ → ℕ → ℕ → Turn → Type 0
Falls usable place n (Stop k p) = (n ≤ k) × (k ≤ usable)
Falls usable place n (Bad k p) = (n ≤ k) × (k ≤ usable)
Falls usable place n (Go k p) = (place ≤ p) × (n ≤ k) × (k ≤ usable) × (place + n < p + k)

-- the answer r, and the marks and codes left behind, are those of s
pub record Does (s : Seen (Sv Read)) (usable place n : ℕ) (r : Turn) (m : List ℕ) (v : List ℤ) : Type 0 where
  pub answered : r ≡ turn_of place s
  pub marked : m ≡ (left_by s).marks
  pub valued : v ≡ (left_by s).rest.codes
  pub falls : Falls usable place n r

-- what a visit asks of its room
pub record Room (body m : List ℕ) (v : List ℤ) (all usable place n b : ℕ) : Type 0 where
  pub below : place < all
  pub size : length m ≡ all
  pub in_values : length v ≡ all
  pub near : all ≤ all_of most_n
  pub spent : n ≤ usable
  pub held : usable ≤ 8 * length body
  pub plane : b < most_planes

-- the sizes, in range
pub record Sizes (all coarsest top : ℕ) : Type 0 where
  pub near : all ≤ all_of most_n
  pub wide : 4 ≤ coarsest
  pub room : 4 * coarsest ≤ all
  pub tops : top ≤ most_planes

-- the count n, the planes left, where it stands, the refusal, and the tables are those where the scan ended
pub record Holds (ran : Ran (Sv Read)) (l : ℕ) (n left now : ℕ) (bad : Bool) (m : List ℕ) (v : List ℤ) : Type 0 where
  pub count : n ≡ (last ran).rest.n
  pub lefts : left ≡ l
  pub stands : now ≡ now_of ran
  pub ended : left ≡ 0 → now ≡ 0
  pub refuses : bad ≡ is_bad ran
  pub marked : m ≡ (last ran).marks
  pub valued : v ≡ (last ran).rest.codes

-- The sizes that a scan asks for: as many values as marks, and the numbers in range.
unfoldable pub scan_fits : ℕ → ℕ → ℕ → ℕ → Bool
scan_fits I values D P = eqb values I && (leb I (all_of most_n) && (leb 4 D && (leb (4 * D) I && leb P most_planes)))

-- Any scan, by this test: the planes of the whole tables are read by u usable bits, or nothing is.
abbrev pub ScannedBy : Bool → List ℕ → ℕ → ℕ → ℕ → List ℕ → List ℤ → Reached → List ℕ → List ℤ → Type 0
ScannedBy true body u D P m₀ v₀ r m v =
    Holds (planes (scan_of (reader body u (length m₀) D P) (length m₀)) P (st m₀ v₀ 0)) (left_of (scan_of (reader body u (length m₀) D P) (length m₀)) P (st m₀ v₀ 0)) r.bits r.left r.stop r.bad m v
ScannedBy false body u D P m₀ v₀ r m v = (r ≡ record { bits = 0; left = 0; stop = 0; bad = false }) × (m ≡ m₀) × (v ≡ v₀)

abbrev pub Scanned : List ℕ → ℕ → ℕ → ℕ → List ℕ → List ℤ → Reached → List ℕ → List ℤ → Type 0
Scanned body usable D P m₀ v₀ r m v = ScannedBy (scan_fits (length m₀) (length v₀) D P) body (min usable (8 * length body)) D P m₀ v₀ r m v
