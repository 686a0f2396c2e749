-- Reading a cut stream (document 01, "Reading a cut stream"; document 02, T-04).
use mathlib.Core.{Path.◌≡◌, Bool.Bool, Bool.true, Bool.false, Bool.cond, Bool.◌&&◌, Bool.not, Option.Option, Option.none, Option.some, List.List, List.[], List.◌∷◌}
use Rattle.std.specs.Prelude.{ℕ, ◌+◌, ◌*◌, ◌-◌, ◌/◌, ◌^◌, ◌≤◌, ◌<◌, min}
use lib.{Dec.eqb, IntN.ℤ, IntN.pos, ListN.length, ListN.get_or, ListN.set, ListN.replicate, ListN.take}
use Rattle.sizes.specs.{Sizes.all_of, Tables.table}
use Rattle.bits.specs.Bits.{digit}
use Rattle.coef.specs.Coef.{at, magnitude, negative, signed}
use Rattle.tree.specs.Tree.{desc, grand, any_in}
use Rattle.nls.specs.{Scan.Question, Scan.bit_of, Scan.sign_of, Scan.in_desc, Scan.in_grand, Scan.Pass, Scan.pixels, Scan.sets, Scan.refining, Scan.State, Scan.ask, Scan.next, Stream.begin, Stream.after}

-- What has been read of each coefficient: its known bits with their sign, and the last plane in which its own bit was read or a set that
-- holds it was tested 0, P before any.
pub record Known : Type 0 where
  pub bits : List ℤ
  pub planes : List ℕ

abbrev pub nothing : ℕ → ℕ → Known
nothing N P = record { bits = replicate (all_of N) (pos 0); planes = replicate (all_of N) P }

-- the coefficient at i now has the known bits z, down to plane b
abbrev pub noted : ℕ → ℤ → ℕ → Known → Known
noted i z b k = record { bits = set k.bits i z; planes = set k.planes i b }

-- the entries at the places of a list become b
unfoldable pub set_each : List ℕ → ℕ → List ℕ → List ℕ
set_each [] b planes = planes
set_each (i ∷ rest) b planes = set_each rest b (set planes i b)

-- a set was tested 0 in plane b: each of its members is known down to b, "since such coefficients are 0"
abbrev pub tested_zero : List ℕ → ℕ → Known → Known
tested_zero members b k = record { bits = k.bits; planes = set_each members b k.planes }

module _ (N L : ℕ) where
  -- An answer in plane b. A test bit 1 counts "with its sign, where one follows"; a refinement bit adds to the known bits;
  -- "a set that holds it was tested 0" counts for each member.
  abbrev pub learn : Pass → ℕ → Question → Bool → Known → Known
  learn refining b (bit_of i c) a k = noted i (signed (negative (at k.bits i)) (magnitude (at k.bits i) + digit a * 2 ^ b)) b k
  learn pixels b (bit_of i c) false k = record { bits = k.bits; planes = set k.planes i b }
  learn pixels b (bit_of i c) true k = k
  learn sets b (bit_of i c) false k = record { bits = k.bits; planes = set k.planes i b }
  learn sets b (bit_of i c) true k = k
  learn pass b (sign_of i) a k = noted i (signed a (2 ^ b)) b k
  learn pass b (in_desc g c) false k = tested_zero (desc N L g) b k
  learn pass b (in_desc g c) true k = k
  learn pass b (in_grand g c) false k = tested_zero (grand N L g) b k
  learn pass b (in_grand g c) true k = k

  abbrev pub learn_at : Option Question → State → Bool → Known → Known
  learn_at none s a k = k
  learn_at (some q) s a k = learn s.pass (s.left - 1) q a k

  -- after the bits u, from a settled state on
  unfoldable pub learned : State → Known → List Bool → Known
  learned s k [] = k
  learned s k (a ∷ u) = learned (next (all_of N) s a) (learn_at (ask (all_of N) s) s a k) u

  abbrev pub known : ℕ → List Bool → Known
  known P u = learned (begin N L P) (nothing N P) u

-- A rule makes a magnitude of known bits m, not 0, at precision k. Document 02, T-07: "The default becomes m itself"
abbrev pub lower : ℕ → ℕ → ℕ
lower k m = m

-- and "midpoint stays by name": "m + 2^(k-1) .. for k = 0 it is m"
abbrev pub midpoint : ℕ → ℕ → ℕ
midpoint k m = cond (eqb k 0) m (m + 2 ^ (k - 1))

-- "if m is 0 the value is 0, else .. with its sign"
unfoldable pub value_by : (ℕ → ℕ → ℕ) → ℕ → ℤ → ℤ
value_by rule k z = cond (eqb (magnitude z) 0) (pos 0) (signed (negative z) (rule k (magnitude z)))

-- document 02, T-07: "any rule that gives 0 for m = 0 and else stays from m to m + 2^k - 1"; for m = 0 no rule is asked
pub record Between (rule : ℕ → ℕ → ℕ) : Type 0 where
  pub low : (k m : ℕ) → 1 ≤ m → m ≤ rule k m
  pub high : (k m : ℕ) → 1 ≤ m → rule k m ≤ m + (2 ^ k - 1)

-- "Known bits m": the bits k and above of the magnitude, with the sign
unfoldable pub high_bits : ℕ → ℤ → ℤ
high_bits k z = signed (negative z) (magnitude z / 2 ^ k * 2 ^ k)

module _ (N L P : ℕ) (u : List Bool) where
  -- the number of the last finished plane, or P if none
  abbrev pub last_plane : ℕ
  last_plane = (after N L P u).left

  -- "b if its own bit of the plane b in progress was read (with its sign, where one follows) .. also .. when a set that holds it was tested 0
  -- in the plane in progress"; "else the number of the last finished plane, or P if none"
  abbrev pub precision_at : ℕ → ℕ
  precision_at i = min (get_or (known N L P u).planes i 0) last_plane

  -- what decoding gives back: values by a rule, precisions, marks, planes finished, and "the worst error 2^k - 1"
  abbrev pub values_by : (ℕ → ℕ → ℕ) → List ℤ
  values_by rule = table (all_of N) (λ i. value_by rule (precision_at i) (at (known N L P u).bits i))

  abbrev pub precisions : List ℕ
  precisions = table (all_of N) (λ i. precision_at i)

  abbrev pub planes_finished : ℕ
  planes_finished = P - last_plane

  abbrev pub worst_error : ℕ
  worst_error = 2 ^ last_plane - 1

-- What makes the coefficient at i known down to the plane in progress, by the answer in a pass: "its own bit .. was read (with its sign, where
-- one follows)", that is its sign, its refinement bit or its test bit 0; or "a set that holds it was tested 0"
module _ (N L : ℕ) where
  abbrev pub completes : Pass → Question → Bool → ℕ → Bool
  completes refining (bit_of j c) a i = eqb j i
  completes pixels (bit_of j c) a i = eqb j i && not a
  completes sets (bit_of j c) a i = eqb j i && not a
  completes pass (sign_of j) a i = eqb j i
  completes pass (in_desc g c) a i = any_in (λ j. eqb j i) (desc N L g) && not a
  completes pass (in_grand g c) a i = any_in (λ j. eqb j i) (grand N L g) && not a

-- bit number k of u was taken in the plane that is in progress after u, and completed the coefficient at i;
-- that `precision_at` goes by this is `precision_read` and `precision_unread` of proofs/Demands.antt
pub record CompletedBy (N L P : ℕ) (u : List Bool) (i k : ℕ) : Type 0 where
  pub there : k < length u
  pub question : Question
  pub asked : ask (all_of N) (after N L P (take k u)) ≡ some question
  pub completed : completes N L (after N L P (take k u)).pass question (get_or u k false) i ≡ true
  pub same_plane : (after N L P (take k u)).left ≡ (after N L P u).left
