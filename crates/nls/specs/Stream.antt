-- The stream of an array: the answers that it gives to the scan's questions.
use mathlib.Core.{Bool.Bool, Option.none, Option.some, List.List, List.[], List.◌∷◌, Bool.cond}
use Rattle.std.specs.Prelude.{ℕ, zero, suc, ◌+◌, ◌*◌, ◌-◌, ◌/◌}
use lib.{Dec.eqb, IntN.ℤ}
use Rattle.sizes.specs.Sizes.{all_of, coarsest_of}
use Rattle.bits.specs.Bits.{bit}
use Rattle.coef.specs.Coef.{at, mag_at, negative}
use Rattle.tree.specs.Summaries.{desc_or, grand_or}
use Rattle.nls.specs.Scan.{Question, bit_of, sign_of, in_desc, in_grand, State, ask, next, reach, start}

-- "write the magnitude's bit b; after a 1, write the sign (1 is negative)"; "write whether DESC(i/4) has bit b"
unfoldable pub answer : ℕ → ℕ → List ℤ → Question → Bool
answer N L A (bit_of i b) = bit (mag_at A i) b
answer N L A (sign_of i) = negative (at A i)
answer N L A (in_desc g b) = bit (desc_or N L A g) b
answer N L A (in_grand g b) = bit (grand_or N L A g) b

-- the answers of A from a settled state on, at most n of them
unfoldable pub answers : ℕ → ℕ → List ℤ → ℕ → State → List Bool
answers N L A zero s = []
answers N L A (suc n) s = elim (ask (all_of N) s) [
  | none ↦ []
  | some q ↦ answer N L A q ∷ answers N L A n (next (all_of N) s (answer N L A q))
]

-- the scan before its first bit, and after the bits u
abbrev pub begin : ℕ → ℕ → ℕ → State
begin N L P = start (all_of N) (coarsest_of N L) P

abbrev pub after : ℕ → ℕ → ℕ → List Bool → State
after N L P u = reach (all_of N) (begin N L P) u

-- the whole stream of an array of P planes: its answers until the scan ends. In a plane each place is asked about at most
-- four times, for its bit, its sign, its DESC and its GRAND, so there are no more
unfoldable pub stream : ℕ → ℕ → ℕ → List ℤ → List Bool
stream N L P A = answers N L A (4 * all_of N * P) (begin N L P)

-- "Worst body: 0 for P = 0, else the bound of demand 3": I(P+1) + (I-D)/4 + (I-4D)/16
unfoldable pub worst_body : ℕ → ℕ → ℕ → ℕ
worst_body N L P =
    cond (eqb P 0) 0 (all_of N * (P + 1) + (all_of N - coarsest_of N L) / 4 + (all_of N - 4 * coarsest_of N L) / 16)

-- the bits of u that are taken while plane b is in progress, from a settled state on
unfoldable pub during : ℕ → ℕ → State → List Bool → List Bool
during N b s [] = []
during N b s (a ∷ u) = cond (eqb s.left (suc b)) (a ∷ during N b (next (all_of N) s a) u) (during N b (next (all_of N) s a) u)
