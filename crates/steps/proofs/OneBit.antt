-- A step from where decoding some bits leaves record and tables: its three ways forward, and its way back.
use Prim.Native.Nat.{ℕ, ◌+◌, ◌-◌, ◌≤◌, ◌<◌}
use mathlib.Core.Path.{◌≡◌, refl, sym, ap, subst, ◌∙◌}
use mathlib.Core.Bool.{Bool, true, false, not, cond, ◌&&◌}
use mathlib.Core.List.{List, [], ◌∷◌, ◌++◌}
use native.Mathlib.Omega.{arith}
use borrow.Author.Tests.{eqb-true, eqb-false, eq-eqb, ne_eqb, lt-ltb}
use lib.Dec.{ltb, eqb}
use lib.ListN.{length, take}
use Rattle.std.specs.Prelude.{Ok}
use Rattle.refusals.specs.Checks.{need, first_failing, Outcome}
use Rattle.refusals.specs.declared.Refusal.{Refusal}
use Rattle.refusals.specs.declared.Refusal.TheVariants.{Contradiction, Beyond, First, Spent}
use Rattle.refusals.proofs.Laws.{first_holds, first_none, first_then_done}
use Rattle.sizes.specs.Sizes.{all_of, coarsest_of, levels_fit}
use Rattle.sizes.proofs.Laws.{sized, side_most}
use Rattle.bits.specs.Bits.{bit_at, bits_of}
use Rattle.bits.proofs.Laws.{bits_of_length, take_bits_of}
use Rattle.nls.specs.Reading.{midpoint}
use Rattle.nls.specs.Scan.{State}
use Rattle.nls.specs.Stream.{after}
use Rattle.nls.specs.Judging.{Begins, Fits, Verdict, taken, contradiction, beyond, Judged}
use Rattle.nls.proofs.Verdicts.{fits_fewer}
use Rattle.room.specs.Room.{body_bits}
use Rattle.reading.specs.Reading.{bars_zero}
use Rattle.reading.proofs.NextBit.{bars_next, next_beyond, next_taken, next_barred}
use Rattle.reading.proofs.Received.{bits_more}
use Rattle.decoder.specs.Body.{read_answer, Tables, own_tables, over, ReadAnswer}
use Rattle.decoder.specs.Ending.{ending}
use Rattle.decoder.specs.declared.ending.Ending.{Ending}
use Rattle.decoder.proofs.Decided.{reads_one}
use Rattle.steps.specs.Records.{record_after, state_in, Step, step, stays}
use Rattle.steps.specs.Moved.{barred, raised_to, raised, lowered}
use Rattle.steps.specs.Steps.{usable_bits, record_checks, forward_checks, back_checks, own_of, within, forward_to, forward_of, back_to, back_of, FollowsTo, Follows}
use Rattle.steps.specs.declared.Record.{Record}
use Rattle.steps.proofs.CallLaws.{checks_done, forward_at_end}
use Rattle.steps.proofs.Core.{raised_next, lowered_prior}
use Rattle.steps.proofs.Good.{Good, own_tables_lem, over_over, body_bits_lem, reads_judged, good_side, good_levels, good_planes, good_used, good_range, good_own, good_state}

-- ---- the three ways of a bit forward

module _ (r : Record) (word : ℕ → ℕ → Ending) (s : State) (a : Bool) (t : Tables) where
  raised_over : s.left ≡ 0 → raised r word s a t ≡ stays (Beyond r.used) r t
  raised_over e = ap (λ (x : Bool). cond x (stays (Beyond r.used) r t) (cond (barred r s a) (stays (Contradiction r.used) r t) (raised_to r word s a t))) (eq-eqb s.left 0 e)

  raised_on : (s.left ≡ 0 → ⊥) → raised r word s a t ≡ cond (barred r s a) (stays (Contradiction r.used) r t) (raised_to r word s a t)
  raised_on h = ap (λ (x : Bool). cond x (stays (Beyond r.used) r t) (cond (barred r s a) (stays (Contradiction r.used) r t) (raised_to r word s a t))) (ne_eqb s.left 0 h)

  raised_by : (x : Bool) → barred r s a ≡ x → (s.left ≡ 0 → ⊥) → raised r word s a t ≡ cond x (stays (Contradiction r.used) r t) (raised_to r word s a t)
  raised_by x e h = raised_on h ∙ ap (λ (y : Bool). cond y (stays (Contradiction r.used) r t) (raised_to r word s a t)) e

-- ---- the checks hold

module _ (N L P : ℕ) (u : List Bool) (r : Record) (held : Tables) (g : Good N L P u r held) (declared : ℕ) (body : List ℕ) where
  abbrev most : ℕ
  most = usable_bits declared body

  pub record_done : length u ≤ usable_bits declared body → first_failing (record_checks r (usable_bits declared body) (length held.values) (length held.precisions) (length held.marks)) ≡ Ok tt
  record_done h =
      let e : all_of r.n ≡ all_of N = ap all_of (good_side N L P u r held g) in
      checks_done r most (length held.values) (length held.precisions) (length held.marks) (good_range N L P u r held g) (omega (arith, good_used N L P u r held g, h))
      (omega (arith, e, g.values_room)) (omega (arith, e, g.precisions_room)) (omega (arith, e, g.marks_room))

  forward_done : length u < most → first_failing (forward_checks r most (length held.values) (length held.precisions) (length held.marks)) ≡ Ok tt
  forward_done h =
      first_then_done (record_checks r most (length held.values) (length held.precisions) (length held.marks)) (need (ltb r.used most) Spent ∷ []) (record_done (omega (arith, h)))
      ∙ first_holds (ltb r.used most) Spent [] (lt-ltb r.used most (omega (arith, good_used N L P u r held g, h)))
      ∙ first_none

  -- no usable bit is left
  pub forward_spent : length u ≡ usable_bits declared body → forward_of declared body r held ≡ stays Spent r held
  forward_spent h = sym (forward_at_end declared body r held most refl (sym (record_done (omega (arith, h)))) (good_used N L P u r held g ∙ h))

  back_done : length u ≤ most → 0 < length u → first_failing (back_checks r most (length held.values) (length held.precisions) (length held.marks)) ≡ Ok tt
  back_done h k =
      first_then_done (record_checks r most (length held.values) (length held.precisions) (length held.marks)) (need (ltb 0 r.used) First ∷ []) (record_done h)
      ∙ first_holds (ltb 0 r.used) First [] (lt-ltb 0 r.used (omega (arith, good_used N L P u r held g, k)))
      ∙ first_none

  -- a step is one over the entries that decoding leaves
  forward_is : length u < most → forward_of declared body r held ≡ within (all_of N) held (raised r (ending declared body) (after N L P u) (bit_at body (length u)) (own_tables midpoint N L P u taken))
  forward_is h =
      ap (λ (o : Outcome). forward_to o declared body r held) (forward_done h)
      ∙ ap (λ (x : ℕ). within (all_of x) held (raised r (ending declared body) (state_in r (take (all_of x) held.marks)) (bit_at body r.used) (own_of (all_of x) held))) (good_side N L P u r held g)
      ∙ ap (λ (s : State). within (all_of N) held (raised r (ending declared body) s (bit_at body r.used) (own_of (all_of N) held))) (good_state N L P u r held g)
      ∙ ap (λ (t : Tables). within (all_of N) held (raised r (ending declared body) (after N L P u) (bit_at body r.used) t)) (good_own N L P u r held g)
      ∙ ap (λ (k : ℕ). within (all_of N) held (raised r (ending declared body) (after N L P u) (bit_at body k) (own_tables midpoint N L P u taken))) (good_used N L P u r held g)

  back_is : length u ≤ most → 0 < length u → back_of declared body r held ≡ within (all_of N) held (lowered r (ending declared body) (after N L P u) (bit_at body (length u - 1)) (own_tables midpoint N L P u taken))
  back_is h k =
      ap (λ (o : Outcome). back_to o declared body r held) (back_done h k)
      ∙ ap (λ (x : ℕ). within (all_of x) held (lowered r (ending declared body) (state_in r (take (all_of x) held.marks)) (bit_at body (r.used - 1)) (own_of (all_of x) held))) (good_side N L P u r held g)
      ∙ ap (λ (s : State). within (all_of N) held (lowered r (ending declared body) s (bit_at body (r.used - 1)) (own_of (all_of N) held))) (good_state N L P u r held g)
      ∙ ap (λ (t : Tables). within (all_of N) held (lowered r (ending declared body) (after N L P u) (bit_at body (r.used - 1)) t)) (good_own N L P u r held g)
      ∙ ap (λ (k : ℕ). within (all_of N) held (lowered r (ending declared body) (after N L P u) (bit_at body (k - 1)) (own_tables midpoint N L P u taken))) (good_used N L P u r held g)

  -- a refusal changes nothing
  within_stays : (why : Refusal) → within (all_of N) held (stays why r (own_tables midpoint N L P u taken)) ≡ stays why r held
  within_stays why = ap (λ (t : Tables). stays why r t) (sym g.filled)

  -- a step leaves what decoding leaves, if it leaves what the verdict says
  follow : (k : ℕ) (w : List Bool) → body_bits k body ≡ w → (v : Verdict) → Judged N L P w v → (s : Step)
      → FollowsTo (read_answer (ending declared body) N L P w v) (over (all_of N) (own_tables midpoint N L P w v) held) (record_after N L P w) r held s → Follows N L P declared body k r held s
  follow k w e v j s x answer t p =
      let b : List Bool = body_bits k body in
      let one : (answer ≡ read_answer (ending declared body) N L P b v) × (t ≡ over (all_of N) (own_tables midpoint N L P b v) held) =
      reads_one midpoint (ending declared body) N L P k body held answer (read_answer (ending declared body) N L P b v) t (over (all_of N) (own_tables midpoint N L P b v) held) p
      (reads_judged N L P u r held g (ending declared body) body k v (subst (λ (c : List Bool). Judged N L P c v) (sym e) j)) in
      subst (λ (y : ReadAnswer). FollowsTo y t (record_after N L P b) r held s) (sym one.0)
      (subst (λ (y : Tables). FollowsTo (read_answer (ending declared body) N L P b v) y (record_after N L P b) r held s) (sym one.1)
      (subst (λ (c : List Bool). FollowsTo (read_answer (ending declared body) N L P c v) (over (all_of N) (own_tables midpoint N L P c v) held) (record_after N L P c) r held s) (sym e) x))

-- ---- at the first n bits of a body

-- record and tables as decoding the first k bits leaves them, with an answer; and with that of decoding
abbrev pub stopped : ℕ → ℕ → ℕ → List ℕ → ReadAnswer → ℕ → Tables → Step
stopped N L P body answer k held = step answer (record_after N L P (bits_of k body)) (over (all_of N) (own_tables midpoint N L P (bits_of k body) taken) held)

abbrev pub decoded : (ℕ → ℕ → Ending) → ℕ → ℕ → ℕ → List ℕ → ℕ → Tables → Step
decoded word N L P body k held = stopped N L P body (read_answer word N L P (bits_of k body) taken) k held

module _ (N L P : ℕ) (body : List ℕ) (n : ℕ) where
  -- what was laid over the tables before is laid over again
  pub stopped_over : levels_fit N L ≡ true → (answer : ReadAnswer) (k : ℕ) (held : Tables) → stopped N L P body answer k (over (all_of N) (own_tables midpoint N L P (bits_of n body) taken) held) ≡ stopped N L P body answer k held
  stopped_over l answer k held =
      ap (λ (t : Tables). step answer (record_after N L P (bits_of k body)) t)
      (over_over (all_of N) (own_tables midpoint N L P (bits_of n body) taken) (own_tables_lem N L P l (bits_of n body)) held (own_tables midpoint N L P (bits_of k body) taken))

  pub stopped_here : (r : Record) (held : Tables) → Good N L P (bits_of n body) r held → (answer : ReadAnswer) → step answer r held ≡ stopped N L P body answer n held
  stopped_here r held g answer = ap (λ (x : Record). step answer x held) g.recorded ∙ ap (λ (t : Tables). step answer (record_after N L P (bits_of n body)) t) g.filled

-- the ways of a bit forward, with the verdict on the bits up to it
pub data Forward (N L P declared : ℕ) (body : List ℕ) (n : ℕ) (r : Record) (held : Tables) : Type 0 where
  goes : Judged N L P (bits_of (n + 1) body) taken → forward_of declared body r held ≡ decoded (ending declared body) N L P body (n + 1) held → Forward N L P declared body n r held
  clashes : Judged N L P (bits_of (n + 1) body) (contradiction n) → forward_of declared body r held ≡ stays (Contradiction n) r held → Forward N L P declared body n r held
  ends : Judged N L P (bits_of (n + 1) body) (beyond n) → forward_of declared body r held ≡ stays (Beyond n) r held → Forward N L P declared body n r held

module _ (N L P declared : ℕ) (body : List ℕ) (n : ℕ) (r : Record) (held : Tables) (g : Good N L P (bits_of n body) r held) where
  abbrev u : List Bool
  u = bits_of n body

  abbrev s : State
  s = after N L P (bits_of n body)

  abbrev own : Tables
  own = own_tables midpoint N L P (bits_of n body) taken

  barred_next : barred r s (bit_at body n) ≡ bars_next N L P body n
  barred_next =
      ap (λ (x : ℕ). not (bit_at body n) && (not s.pending && bars_zero (all_of x) (coarsest_of x r.l) r.p s.left r.used s.place s.marks)) (good_side N L P u r held g)
      ∙ ap (λ (x : ℕ). not (bit_at body n) && (not s.pending && bars_zero (all_of N) (coarsest_of N x) r.p s.left r.used s.place s.marks)) (good_levels N L P u r held g)
      ∙ ap (λ (x : ℕ). not (bit_at body n) && (not s.pending && bars_zero (all_of N) (coarsest_of N L) x s.left r.used s.place s.marks)) (good_planes N L P u r held g)
      ∙ ap (λ (x : ℕ). not (bit_at body n) && (not s.pending && bars_zero (all_of N) (coarsest_of N L) P s.left x s.place s.marks)) (good_used N L P u r held g ∙ bits_of_length n body)

  used_n : r.used ≡ n
  used_n = good_used N L P u r held g ∙ bits_of_length n body

  -- a bit that fits some array
  raised_fits : Fits N L P (bits_of (n + 1) body) → within (all_of N) held (raised_to r (ending declared body) s (bit_at body n) own) ≡ decoded (ending declared body) N L P body (n + 1) held
  raised_fits w =
      let a : Bool = bit_at body n in
      ap (λ (x : Record). within (all_of N) held (raised_to x (ending declared body) s a own)) g.recorded
      ∙ ap (λ (x : Step). within (all_of N) held x)
      (raised_next (ending declared body) N L (sized N L g.levels) (side_most N g.side) P g.planes w.0 u a (subst (λ (v : List Bool). Begins N L P w.0 v) (bits_more n body) w.1))
      ∙ ap (λ (v : List Bool). step (read_answer (ending declared body) N L P v taken) (record_after N L P v) (over (all_of N) (own_tables midpoint N L P v taken) held)) (sym (bits_more n body))

  pub forward_by : n < usable_bits declared body → Forward N L P declared body n r held
  forward_by h = go (eqb s.left 0) refl
    where
      from : forward_of declared body r held ≡ within (all_of N) held (raised r (ending declared body) s (bit_at body n) own)
      from =
          forward_is N L P u r held g declared body (omega (arith, h, bits_of_length n body))
          ∙ ap (λ (k : ℕ). within (all_of N) held (raised r (ending declared body) s (bit_at body k) own)) (bits_of_length n body)

      on : (s.left ≡ 0 → ⊥) → (y : Bool) → bars_next N L P body n ≡ y → Forward N L P declared body n r held
      on k true e =
          clashes (next_barred N L (sized N L g.levels) P body n g.fits (side_most N g.side) g.planes (omega (arith, k)) e)
          (from ∙ ap (λ (x : Step). within (all_of N) held x) (raised_by r (ending declared body) s (bit_at body n) own true (barred_next ∙ e) k)
          ∙ within_stays N L P u r held g declared body (Contradiction r.used) ∙ ap (λ (x : ℕ). stays (Contradiction x) r held) used_n)
      on k false e =
          let w : Fits N L P (bits_of (n + 1) body) = next_taken N L (sized N L g.levels) P body n g.fits (side_most N g.side) g.planes (omega (arith, k)) e in
          goes w (from ∙ ap (λ (x : Step). within (all_of N) held x) (raised_by r (ending declared body) s (bit_at body n) own false (barred_next ∙ e) k) ∙ raised_fits w)

      go : (y : Bool) → eqb s.left 0 ≡ y → Forward N L P declared body n r held
      go true e =
          ends (next_beyond N L (sized N L g.levels) P body n g.fits (eqb-true s.left 0 e))
          (from ∙ ap (λ (x : Step). within (all_of N) held x) (raised_over r (ending declared body) s (bit_at body n) own (eqb-true s.left 0 e))
          ∙ within_stays N L P u r held g declared body (Beyond r.used) ∙ ap (λ (x : ℕ). stays (Beyond x) r held) used_n)
      go false e = on (eqb-false s.left 0 e) (bars_next N L P body n) refl

  -- any fewer bits fit
  pub fits_before : (k : ℕ) → k ≤ n → Fits N L P (bits_of k body)
  fits_before k h = subst (λ (v : List Bool). Fits N L P v) (take_bits_of k n body h) (fits_fewer N L (sized N L g.levels) P k u g.fits)

  pub back_by : n ≤ usable_bits declared body → 0 < n → back_of declared body r held ≡ decoded (ending declared body) N L P body (n - 1) held
  back_by h k =
      let a : Bool = bit_at body (n - 1) in
      let e : bits_of n body ≡ bits_of (n - 1) body ++ (a ∷ []) = ap {B = List Bool} (λ (x : ℕ). bits_of x body) {x = n} {y = n - 1 + 1} (omega (arith, k)) ∙ bits_more (n - 1) body in
      back_is N L P u r held g declared body (omega (arith, h, bits_of_length n body)) (omega (arith, k, bits_of_length n body))
      ∙ ap (λ (x : ℕ). within (all_of N) held (lowered r (ending declared body) s (bit_at body (x - 1)) own)) (bits_of_length n body)
      ∙ ap (λ (x : Record). within (all_of N) held (lowered x (ending declared body) s a own)) g.recorded
      ∙ ap (λ (v : List Bool). within (all_of N) held (lowered (record_after N L P v) (ending declared body) (after N L P v) a (own_tables midpoint N L P v taken))) e
      ∙ ap (λ (x : Step). within (all_of N) held x)
      (lowered_prior (ending declared body) N L (sized N L g.levels) (side_most N g.side) P g.planes g.fits.0 (bits_of (n - 1) body) a (subst (λ (v : List Bool). Begins N L P g.fits.0 v) e g.fits.1))

  -- the promises of both
  pub forward_good : n < usable_bits declared body → Follows N L P declared body (n + 1) r held (forward_of declared body r held)
  forward_good h = go (forward_by h)
    where
      go : Forward N L P declared body n r held → Follows N L P declared body (n + 1) r held (forward_of declared body r held)
      go (goes j e) = follow N L P u r held g declared body (n + 1) (bits_of (n + 1) body) (body_bits_lem (n + 1) body (omega (arith, h))) taken j (forward_of declared body r held) e
      go (clashes j e) = follow N L P u r held g declared body (n + 1) (bits_of (n + 1) body) (body_bits_lem (n + 1) body (omega (arith, h))) (contradiction n) j (forward_of declared body r held) e
      go (ends j e) = follow N L P u r held g declared body (n + 1) (bits_of (n + 1) body) (body_bits_lem (n + 1) body (omega (arith, h))) (beyond n) j (forward_of declared body r held) e

  pub back_good : n ≤ usable_bits declared body → 0 < n → Follows N L P declared body (n - 1) r held (back_of declared body r held)
  back_good h k =
      follow N L P u r held g declared body (n - 1) (bits_of (n - 1) body) (body_bits_lem (n - 1) body (omega (arith, h))) taken (fits_before (n - 1) (omega (arith, k))) (back_of declared body r held) (back_by h k)
