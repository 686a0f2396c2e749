-- Words of the encoder's inner contracts, which no promise to a caller uses: the array and its summaries answer, and each bit is put.
use Rattle.std.specs.Prelude.{ℕ, ◌+◌, ◌*◌, ◌≤◌, ◌<◌, ◌≡◌, Bool, false, List, [], ℤ, length, get_or}
use Rattle.sizes.specs.Sizes.{most_n, all_of}
use Rattle.bits.specs.Bits.{bit, with_bit}
use Rattle.coef.specs.Coef.{at, mag_at, negative}
use Rattle.nls.specs.Scan.{Question, bit_of, sign_of, in_desc, in_grand}
use Rattle.walk.specs.Scans.{Seen, halt, refuse, move, Ran, last}
use Rattle.walk.specs.Visits.{Source, Sv, sv}
use Rattle.encoder.specs.declared.Step.{Step}
use Rattle.encoder.specs.declared.Step.TheVariants.{Stop, Go}

-- the bytes, and the number of bits put
pub record Bytes : Type 0 where
  pub out : List ℕ
  pub n : ℕ

abbrev pub bytes : List ℕ → ℕ → Bytes
bytes o k = record { out = o; n = k }

abbrev pub replies : List ℤ → List ℕ → List ℕ → Question → Bool
replies A d g (bit_of i b) = bit (mag_at A i) b
replies A d g (sign_of i) = negative (at A i)
replies A d g (in_desc j b) = bit (get_or d j 0) b
replies A d g (in_grand j b) = bit (get_or g j 0) b

abbrev pub writer : List ℤ → List ℕ → List ℕ → ℕ → Source Bytes
writer A d g budget =
    record {
      budget = budget;
      used = λ o. o.n;
      next = λ q o. replies A d g q;
      keep = λ p b q x o. bytes (with_bit o.out o.n x) (o.n + 1);
      bars = λ b q i m o. false;
    }

-- for questions about coefficients alone
abbrev pub plain : List ℤ → ℕ → Source Bytes
plain A budget = writer A [] [] budget

abbrev pub st : List ℕ → List ℕ → ℕ → Sv Bytes
st m o n = sv m (bytes o n)

abbrev pub left_by : Seen (Sv Bytes) → Sv Bytes
left_by (halt t) = t
left_by (refuse t) = t
left_by (move p t) = t

-- what a visit of a place answers
abbrev pub step_of : ℕ → Seen (Sv Bytes) → Step
step_of place (halt t) = Stop t.rest.n place
step_of place (refuse t) = Stop t.rest.n place
step_of place (move p t) = Go t.rest.n p

-- a visit that goes on, goes on at a later place or has put a bit: what the scan's end rests on
abbrev pub Falls : ℕ → ℕ → ℕ → Step → Type 0
Falls budget place n (Stop k p) = (n ≤ k) × (k ≤ budget)
Falls budget place n (Go k p) = (place ≤ p) × (n ≤ k) × (k ≤ budget) × (place + n < p + k)

-- no visit of the encoder refuses
abbrev pub Clean : Seen (Sv Bytes) → Type 0
Clean (halt t) = Unit {0}
Clean (refuse t) = ⊥
Clean (move p t) = Unit {0}

-- the answer r, and the marks m and bytes o left behind, are those of s
pub record Does (s : Seen (Sv Bytes)) (budget place n : ℕ) (r : Step) (m o : List ℕ) : Type 0 where
  pub answered : r ≡ step_of place s
  pub marked : m ≡ (left_by s).marks
  pub wrote : o ≡ (left_by s).rest.out
  pub falls : Falls budget place n r
  pub clean : Clean s

-- what a visit asks of its room
pub record Room (A : List ℤ) (m o : List ℕ) (all budget place n : ℕ) : Type 0 where
  pub below : place < all
  pub size : length m ≡ all
  pub near : all ≤ all_of most_n
  pub in_coefs : all ≤ length A
  pub spent : n ≤ budget
  pub room : budget ≤ 8 * length o

pub record Summed (d g : List ℕ) (all : ℕ) : Type 0 where
  pub descs : all ≤ length d * 4
  pub grands : all ≤ length g * 16

-- the count r, the marks m and the bytes o are those where the scan ended
pub record Holds (ran : Ran (Sv Bytes)) (r : ℕ) (m o : List ℕ) : Type 0 where
  pub count : r ≡ (last ran).rest.n
  pub marked : m ≡ (last ran).marks
  pub wrote : o ≡ (last ran).rest.out
