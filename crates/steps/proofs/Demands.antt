-- The theorems on the stepped decoder (document 02, T-01): what its steps and turns leave is what decoding leaves, and a step is undone by
-- one the other way. And on its word for why the bits ended (document 02, T-06): it is that of the position reached in the body at hand.
use Prim.Native.Nat.{ℕ, ◌+◌, ◌-◌, ◌≤◌, ◌<◌, min}
use mathlib.Core.Path.{◌≡◌, refl, sym, ap, subst, ◌∙◌}
use mathlib.Core.Bool.{Bool}
use mathlib.Core.List.{List}
use native.Mathlib.Decide.{dec_lt}
use native.Mathlib.Omega.{arith}
use lib.ListN.{length}
use Rattle.std.specs.Prelude.{Ok, Err}
use Rattle.refusals.specs.Checks.{first_failing, Outcome}
use Rattle.sizes.specs.Sizes.{all_of}
use Rattle.sizes.proofs.Laws.{sized}
use Rattle.bits.specs.Bits.{bits_of}
use Rattle.bits.proofs.Laws.{bits_of_length}
use Rattle.nls.specs.Reading.{midpoint, last_plane, planes_finished, worst_error}
use Rattle.nls.specs.Judging.{Verdict, taken, contradiction, beyond, Judged}
use Rattle.nls.proofs.Verdicts.{judged_only}
use Rattle.room.specs.Room.{read_checks, body_bits}
use Rattle.reading.proofs.NextBit.{next_beyond}
use Rattle.decoder.specs.Body.{read_answer, Tables, own_tables, over, ReadsTo, ReadsBy, Reads, ReadAnswer}
use Rattle.decoder.specs.Ending.{ending}
use Rattle.decoder.specs.declared.ending.Ending.{Ending}
use Rattle.decoder.specs.declared.ending.Ending.TheVariants.{GoesOn}
use Rattle.decoder.proofs.Endings.{ending_goes_on}
use Rattle.decoder.specs.declared.body.ReadTo.{ReadTo}
use Rattle.steps.specs.Records.{Step, step}
use Rattle.steps.specs.Steps.{usable_bits, forward_of, back_of, turn_of, Reached, Follows, TurnsTo, Starts}
use Rattle.steps.specs.declared.Record.{Record}
use Rattle.steps.proofs.Good.{Good, body_bits_lem, good_of, good_reached, good_at, start_good}
use Rattle.steps.proofs.OneBit.{decoded, stopped_over, stopped_here, Forward, goes, clashes, ends, forward_by, fits_before, back_by}
use Rattle.steps.proofs.Turned.{turn_said}
use Rattle.steps.proofs.Follows as follows

-- a start that is done has read no bit
pub start_reached : (N L P : ℕ) (r : Record) (held : Tables) (answer : ReadAnswer) (dial : Record) (left : Tables) → Starts N L P r held answer dial left → (d : ReadTo) → answer ≡ Ok d
    → (body : List ℕ) → Reached N L P body 0 dial left
start_reached N L P r held answer dial left p d is body =
    good_reached N L P body 0 dial left (start_good N L P r held answer dial left p d is body) (omega arith)

-- What `Follows` promises of a reading of n bits is about something: whatever decoding them leaves, the same tables are also left with the
-- word that this position has in a body of `declared` bits.
pub prefix_read : (N L P n declared : ℕ) (body : List ℕ) (held : Tables) (answer : ReadAnswer) (t : Tables) → Reads midpoint N L P n body held answer t
    → (said : ReadAnswer) × ReadsBy midpoint (ending declared body) N L P n body held said t
prefix_read N L P n declared body held answer t = tell (first_failing (read_checks N L P (length held.values) (length held.precisions) (length held.marks)))
  where
    tell : (o : Outcome) → ReadsTo o midpoint (ending n body) N L P (body_bits n body) held answer t → (said : ReadAnswer) × ReadsTo o midpoint (ending declared body) N L P (body_bits n body) held said t
    tell (Ok tt) p =
        (read_answer (ending declared body) N L P (body_bits n body) p.verdict, record { verdict = p.verdict; judged = p.judged; answered = refl; filled = p.filled })
    tell (Err why) p = (Err why, (refl, p.1))

-- what an answer of decoding k bits says: the bits used, and the word for them and the planes left
module _ (word : ℕ → ℕ → Ending) (N L P : ℕ) (body : List ℕ) (k : ℕ) (d : ReadTo) where
  answer_says : Ok d ≡ read_answer word N L P (bits_of k body) taken → (d.used ≡ k) × (d.ending ≡ word d.used (last_plane N L P (bits_of k body)))
  answer_says e =
      let u : List Bool = bits_of k body in
      let same : d ≡ record { used = length u; finished = planes_finished N L P u; error = worst_error N L P u; ending = word (length u) (last_plane N L P u) } = cc in
      let used : d.used ≡ length u = ap (λ (x : ReadTo). x.used) same in
      (used ∙ bits_of_length k body, ap (λ (x : ReadTo). x.ending) same ∙ ap (λ (m : ℕ). word m (last_plane N L P u)) (sym used))

module _ (N L P declared : ℕ) (body : List ℕ) (n : ℕ) (r : Record) (held : Tables) (there : Reached N L P body n r held) where
  abbrev most : ℕ
  most = usable_bits declared body

  -- "One bit forward, or one back with the body at hand, leaves record and buffers as decoding that prefix leaves them."
  pub forward_follows : n < usable_bits declared body → Follows N L P declared body (n + 1) r held (forward_of declared body r held)
  forward_follows h = follows.forward_follows declared body r held (forward_of declared body r held) refl N L P n there h

  pub back_follows : n ≤ usable_bits declared body → 0 < n → Follows N L P declared body (n - 1) r held (back_of declared body r held)
  back_follows h k = follows.back_follows declared body r held (back_of declared body r held) refl N L P n there h k

  -- a turn is as many steps, either way, as bring bits used to `to`
  pub turn_follows : (to : ℕ) → n ≤ usable_bits declared body → (said : ReadAnswer) (t : Tables) → ReadsBy midpoint (ending declared body) N L P (min to (usable_bits declared body)) body held said t
      → TurnsTo said t N L P (usable_bits declared body) to body held (turn_of declared to body r held)
  turn_follows to h said t p = follows.turn_follows declared body r held (turn_of declared to body r held) to refl N L P n there h said t p

  -- ---- a step and its way back

  good : n ≤ most → Good N L P (bits_of n body) r held
  good h = good_of N L P body n r held there (omega (arith, h))

  -- where decoding n bits leaves record and tables, by another way
  again : (k : ℕ) → n ≤ most → decoded (ending declared body) N L P body n (over (all_of N) (own_tables midpoint N L P (bits_of k body) taken) held) ≡ step (read_answer (ending declared body) N L P (body_bits n body) taken) r held
  again k h =
      stopped_over N L P body k (good h).levels (read_answer (ending declared body) N L P (bits_of n body) taken) n held
      ∙ sym (stopped_here N L P body n r held (good h) (read_answer (ending declared body) N L P (bits_of n body) taken))
      ∙ ap (λ (u : List Bool). step (read_answer (ending declared body) N L P u taken) r held) (sym (body_bits_lem n body (omega (arith, h))))

  went : (d : ReadTo) → (forward_of declared body r held).answer ≡ Ok d → Forward N L P declared body n r held
      → Judged N L P (bits_of (n + 1) body) taken × (forward_of declared body r held ≡ decoded (ending declared body) N L P body (n + 1) held)
  went d is (goes w e) = (w, e)
  went d is (clashes w e) = let z : ◌≡◌ {A = ℕ} 0 1 = cc in absurd (omega (arith, z))
  went d is (ends w e) = let z : ◌≡◌ {A = ℕ} 0 1 = cc in absurd (omega (arith, z))

  -- a step forward that is done, and the one back after it
  module _ (h : n < usable_bits declared body) (d : ReadTo) (is : (forward_of declared body r held).answer ≡ Ok d) where
    moved : Judged N L P (bits_of (n + 1) body) taken × (forward_of declared body r held ≡ decoded (ending declared body) N L P body (n + 1) held)
    moved = went d is (forward_by N L P declared body n r held (good (omega (arith, h))) h)

    later : Good N L P (bits_of (n + 1) body) (forward_of declared body r held).dial (forward_of declared body r held).held
    later =
        let g : Good N L P (bits_of n body) r held = good (omega (arith, h)) in
        subst (λ (s : Step). Good N L P (bits_of (n + 1) body) s.dial s.held) (sym moved.1) (good_at N L P g.side g.levels g.planes (bits_of (n + 1) body) moved.0 held)

    pub forward_reached : Reached N L P body (n + 1) (forward_of declared body r held).dial (forward_of declared body r held).held
    forward_reached = good_reached N L P body (n + 1) (forward_of declared body r held).dial (forward_of declared body r held).held later (omega (arith, h))

    pub forward_back : back_of declared body (forward_of declared body r held).dial (forward_of declared body r held).held ≡ step (read_answer (ending declared body) N L P (body_bits n body) taken) r held
    forward_back =
        back_by N L P declared body (n + 1) (forward_of declared body r held).dial (forward_of declared body r held).held later (omega (arith, h)) (omega arith)
        ∙ ap (λ (k : ℕ). decoded (ending declared body) N L P body k (forward_of declared body r held).held) {x = n + 1 - 1} {y = n} (omega arith)
        ∙ ap (λ (s : Step). decoded (ending declared body) N L P body n s.held) moved.1
        ∙ again (n + 1) (omega (arith, h))

    -- Document 02, T-06: "Every successful step answers with the word for the position it reached": a step forward,
    pub forward_says : (d.used ≡ n + 1) × (d.ending ≡ ending declared body d.used (last_plane N L P (bits_of (n + 1) body)))
    forward_says = answer_says (ending declared body) N L P body (n + 1) d (sym is ∙ ap (λ (s : Step). s.answer) moved.1)

  -- a step back, and the one forward after it
  module _ (h : n ≤ usable_bits declared body) (k : 0 < n) where
    came : back_of declared body r held ≡ decoded (ending declared body) N L P body (n - 1) held
    came = back_by N L P declared body n r held (good h) h k

    earlier : Good N L P (bits_of (n - 1) body) (back_of declared body r held).dial (back_of declared body r held).held
    earlier =
        subst (λ (s : Step). Good N L P (bits_of (n - 1) body) s.dial s.held) (sym came)
        (good_at N L P (good h).side (good h).levels (good h).planes (bits_of (n - 1) body) (fits_before N L P declared body n r held (good h) (n - 1) (omega (arith, k))) held)

    pub back_reached : Reached N L P body (n - 1) (back_of declared body r held).dial (back_of declared body r held).held
    back_reached = good_reached N L P body (n - 1) (back_of declared body r held).dial (back_of declared body r held).held earlier (omega (arith, h))

    one_more : n - 1 + 1 ≡ n
    one_more = omega (arith, k)

    only : (v : Verdict) → Judged N L P (bits_of (n - 1 + 1) body) v → v ≡ taken
    only v j = judged_only N L (sized N L (good h).levels) P (bits_of n body) v taken (subst (λ (x : ℕ). Judged N L P (bits_of x body) v) one_more j) (good h).fits

    pub back_forward : forward_of declared body (back_of declared body r held).dial (back_of declared body r held).held ≡ step (read_answer (ending declared body) N L P (body_bits n body) taken) r held
    back_forward = go (forward_by N L P declared body (n - 1) (back_of declared body r held).dial (back_of declared body r held).held earlier (omega (arith, h, k)))
      where
        go : Forward N L P declared body (n - 1) (back_of declared body r held).dial (back_of declared body r held).held
            → forward_of declared body (back_of declared body r held).dial (back_of declared body r held).held ≡ step (read_answer (ending declared body) N L P (body_bits n body) taken) r held
        go (goes w e) =
            e
            ∙ ap (λ (x : ℕ). decoded (ending declared body) N L P body x (back_of declared body r held).held) one_more
            ∙ ap (λ (s : Step). decoded (ending declared body) N L P body n s.held) came
            ∙ again (n - 1) h
        go (clashes w e) = let no_clash : contradiction (n - 1) ≡ taken = only (contradiction (n - 1)) w in let z : ◌≡◌ {A = ℕ} 0 1 = cc in absurd (omega (arith, z))
        go (ends w e) = let no_end : beyond (n - 1) ≡ taken = only (beyond (n - 1)) w in let z : ◌≡◌ {A = ℕ} 0 1 = cc in absurd (omega (arith, z))

    -- a step back,
    pub back_says : (d : ReadTo) → (back_of declared body r held).answer ≡ Ok d → (d.used ≡ n - 1) × (d.ending ≡ ending declared body d.used (last_plane N L P (bits_of (n - 1) body)))
    back_says d is = answer_says (ending declared body) N L P body (n - 1) d (sym is ∙ ap (λ (s : Step). s.answer) came)

    -- whose word is that bits go on: the bit taken back is usable, and was asked for in a plane
    pub goes_on : (d : ReadTo) → (back_of declared body r held).answer ≡ Ok d → d.ending ≡ GoesOn
    goes_on d is = (back_says d is).1 ∙ ending_goes_on declared body d.used left (tell (dec_lt 0 left)) (omega (arith, (back_says d is).0, h, k))
      where
        left : ℕ
        left = last_plane N L P (bits_of (n - 1) body)

        tell : Dec (0 < left) → 0 < left
        tell (yes l) = l
        tell (no l) =
            let w : Judged N L P (bits_of (n - 1) body) taken = fits_before N L P declared body n r held (good h) (n - 1) (omega (arith, k)) in
            let no_end : beyond (n - 1) ≡ taken = only (beyond (n - 1)) (next_beyond N L (sized N L (good h).levels) P body (n - 1) w (omega (arith, l))) in
            let z : ◌≡◌ {A = ℕ} 0 1 = cc in
            absurd (omega (arith, z))

  -- and a turn
  pub turn_says : (to : ℕ) → n ≤ usable_bits declared body → (d : ReadTo) → (turn_of declared to body r held).answer ≡ Ok d
      → (d.used ≡ to) × (d.ending ≡ ending declared body d.used (last_plane N L P (bits_of to body)))
  turn_says to h d is = answer_says (ending declared body) N L P body to d (turn_said N L P declared body to n r held (good h) h d is).1
