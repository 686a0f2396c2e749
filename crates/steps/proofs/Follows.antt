-- The promises of the steps and of a turn, in the words of decoding, from what each leaves.
use Prim.Native.Nat.{ℕ, ◌+◌, ◌-◌, ◌≤◌, ◌<◌, min}
use mathlib.Core.Path.{◌≡◌, sym, subst}
use mathlib.Core.List.{List}
use native.Mathlib.Omega.{arith}
use Rattle.nls.specs.Reading.{midpoint}
use Rattle.decoder.specs.{Body.Tables, Body.ReadsBy, Ending.ending, Body.ReadAnswer}
use Rattle.steps.specs.Records.{Step, step}
use Rattle.steps.specs.Steps.{usable_bits, forward_of, back_of, turn_of, Reached, Follows, TurnsTo, Forwards, Backs, Turns}
use Rattle.steps.specs.declared.Record.{Record}
use Rattle.steps.proofs.Good.{good_of}
use Rattle.steps.proofs.OneBit.{forward_good, back_good}
use Rattle.steps.proofs.Turned.{turn_good}

module _ (declared : ℕ) (body : List ℕ) (r : Record) (held : Tables) (s : Step) where
  pub forward_follows : s ≡ forward_of declared body r held → (N L P n : ℕ) → Reached N L P body n r held → n < usable_bits declared body → Follows N L P declared body (n + 1) r held s
  forward_follows e N L P n w h =
      subst (λ (x : Step). Follows N L P declared body (n + 1) r held x) (sym e) (forward_good N L P declared body n r held (good_of N L P body n r held w (omega (arith, h))) h)

  pub back_follows : s ≡ back_of declared body r held → (N L P n : ℕ) → Reached N L P body n r held → n ≤ usable_bits declared body → 0 < n → Follows N L P declared body (n - 1) r held s
  back_follows e N L P n w h k =
      subst (λ (x : Step). Follows N L P declared body (n - 1) r held x) (sym e) (back_good N L P declared body n r held (good_of N L P body n r held w (omega (arith, h))) h k)

  pub turn_follows : (to : ℕ) → s ≡ turn_of declared to body r held → (N L P n : ℕ) → Reached N L P body n r held → n ≤ usable_bits declared body
      → (said : ReadAnswer) (t : Tables) → ReadsBy midpoint (ending declared body) N L P (min to (usable_bits declared body)) body held said t → TurnsTo said t N L P (usable_bits declared body) to body held s
  turn_follows to e N L P n w h said t p =
      subst (λ (x : Step). TurnsTo said t N L P (usable_bits declared body) to body held x) (sym e) (turn_good N L P declared body to n r held (good_of N L P body n r held w (omega (arith, h))) h said t p)

-- ---- the contracts, from what a call leaves

module _ {declared : ℕ} {body : List ℕ} {r : Record} {held : Tables} {answer : ReadAnswer} {dial : Record} {left : Tables} where
  pub forwards : step answer dial left ≡ forward_of declared body r held → Forwards declared body r held answer dial left
  forwards e = record { follows = forward_follows declared body r held (step answer dial left) e; decided = e }

  pub backs : step answer dial left ≡ back_of declared body r held → Backs declared body r held answer dial left
  backs e = record { follows = back_follows declared body r held (step answer dial left) e; decided = e }

  pub turns : {to : ℕ} → step answer dial left ≡ turn_of declared to body r held → Turns declared to body r held answer dial left
  turns {to = to} e = record { follows = turn_follows declared body r held (step answer dial left) to e; decided = e }
