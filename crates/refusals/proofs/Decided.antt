-- What it means that a contract decides its outcome; and that the contract of each public function of this crate does.
use mathlib.Core.Path.{◌≡◌, sym, ◌∙◌}
use Rattle.refusals.proofs.number.Reads as number
use Rattle.refusals.proofs.place.Reads as place

-- two answers that a contract allows for the same arguments are equal; `allowed` is what the contract ensures of the arguments, the answer and the parameters as the call leaves them
abbrev pub OneAnswer : {K : Type 0} {Args Answer After : K → Type 0} → ((k : K) → Args k → Answer k → After k → Type 0) → Type 0
OneAnswer {K} {Args} {Answer} {After} allowed =
    (k : K) (args : Args k) (r r' : Answer k) (s s' : After k) → allowed k args r s → allowed k args r' s' → r ≡ r'

-- and so is what is lent to be written, which `held` takes from those parameters
abbrev pub OneOutcome : {K : Type 0} {Args Answer After : K → Type 0} {Lent : Type 0}
    → ((k : K) → Args k → Answer k → After k → Type 0) → ((k : K) → After k → Lent) → Type 0
OneOutcome {K} {Args} {Answer} {After} allowed held =
    (k : K) (args : Args k) (r r' : Answer k) (s s' : After k) → allowed k args r s → allowed k args r' s' → (r ≡ r') × (held k s ≡ held k s')

pub number_decided : OneAnswer number.Learnt
number_decided k args r r' s s' p q = p ∙ sym q

pub place_decided : OneAnswer place.Learnt
place_decided k args r r' s s' p q = p ∙ sym q
