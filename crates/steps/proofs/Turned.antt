-- A turn leaves what decoding as many bits leaves, by its single steps.
use Prim.Native.Nat.{ℕ, zero, suc, ◌+◌, ◌*◌, ◌-◌, ◌≤◌, ◌<◌, min}
use mathlib.Core.Path.{◌≡◌, refl, sym, ap, subst, ◌∙◌}
use mathlib.Core.Bool.{Bool, true, false, cond}
use mathlib.Core.List.{List}
use native.Mathlib.Decide.{dec_lt}
use native.Mathlib.Omega.{arith}
use borrow.Author.Tests.{leb-true, le-leb, lt-leb}
use lib.Dec.{leb}
use lib.ListN.{length, take}
use Rattle.std.specs.Prelude.{Ok, Err}
use Rattle.refusals.specs.declared.Refusal.{Refusal}
use Rattle.refusals.specs.declared.Refusal.TheVariants.{Contradiction, Beyond, Spent}
use Rattle.refusals.specs.Checks.{Outcome}
use Rattle.sizes.specs.Sizes.{all_of, levels_fit}
use Rattle.sizes.proofs.Laws.{sized}
use Rattle.bits.specs.Bits.{bits_of}
use Rattle.bits.proofs.Laws.{bits_of_length, take_bits_of}
use Rattle.nls.specs.Reading.{midpoint}
use Rattle.nls.specs.Scan.{State}
use Rattle.nls.specs.Stream.{after}
use Rattle.nls.specs.Judging.{Fits, Verdict, taken, contradiction, beyond, Contradicts, IsBeyond, Judged}
use Rattle.nls.proofs.Verdicts.{verdict, verdict_judged, judged_only}
use Rattle.room.specs.Room.{body_bits}
use Rattle.decoder.specs.{Body.read_answer, Body.Tables, Body.own_tables, Body.over, Body.ReadsBy, Body.Reads, Ending.ending, declared.ending.Ending.Ending, Body.ReadAnswer}
use Rattle.decoder.specs.declared.body.ReadTo.{ReadTo}
use Rattle.decoder.proofs.Decided.{reads_one}
use Rattle.steps.specs.Records.{record_after, stand_in, Step, step}
use Rattle.steps.specs.Moved.{reached}
use Rattle.steps.specs.Steps.{usable_bits, forward_of, back_of, steps_of, position_of, turn_to, turn_of, TurnsTo}
use Rattle.steps.specs.declared.Record.{Record}
use Rattle.steps.proofs.Good.{Good, body_bits_lem, reads_judged, good_planes, good_used, good_state, good_at}
use Rattle.steps.proofs.OneBit.{stopped, decoded, stopped_over, stopped_here, Forward, goes, clashes, ends, record_done, forward_spent, forward_by, fits_before, back_by}

-- ---- one step of a turn

module _ (f : Record → Tables → Step) (k : ℕ) (s : Step) (r : Record) (t : Tables) where
  steps_done : (d : ReadTo) → f s.dial s.held ≡ step (Ok d) r t → steps_of f (suc k) s ≡ steps_of f k (step (Ok d) r t)
  unfolding steps_of
  steps_done d e = ap (λ (x : Step). elim x.answer as (λ _. Step) [ Ok c ↦ steps_of f k x | Err why ↦ x ]) e

  steps_refused : (why : Refusal) → f s.dial s.held ≡ step (Err why) r t → steps_of f (suc k) s ≡ step (Err why) r t
  unfolding steps_of
  steps_refused why e = ap (λ (x : Step). elim x.answer as (λ _. Step) [ Ok c ↦ steps_of f k x | Err why ↦ x ]) e

steps_none : (f : Record → Tables → Step) (s : Step) → steps_of f 0 s ≡ s
unfolding steps_of
steps_none f s = refl

-- ---- a refusal of a bit is one of any more bits

module _ (N L P : ℕ) (body : List ℕ) (n e : ℕ) (h : n < e) where
  same_cut : (k : ℕ) → k ≤ n + 1 → take k (bits_of (n + 1) body) ≡ take k (bits_of e body)
  same_cut k l = take_bits_of k (n + 1) body l ∙ sym (take_bits_of k e body (omega (arith, l, h)))

  longer_12 : Contradicts N L P (bits_of (n + 1) body) n → Contradicts N L P (bits_of e body) n
  longer_12 c =
      record {
        there = omega (arith, h, bits_of_length e body);
        before = subst (λ (v : List Bool). Fits N L P v) (same_cut n (omega arith)) c.before;
        none = λ w. c.none (subst (λ (v : List Bool). Fits N L P v) (sym (same_cut (suc n) (omega arith))) w);
        in_plane = subst (λ (v : List Bool). 0 < (after N L P v).left) (same_cut n (omega arith)) c.in_plane;
      }

  longer_13 : IsBeyond N L P (bits_of (n + 1) body) n → IsBeyond N L P (bits_of e body) n
  longer_13 c =
      record {
        there = omega (arith, h, bits_of_length e body);
        before = subst (λ (v : List Bool). Fits N L P v) (same_cut n (omega arith)) c.before;
        ended = subst (λ (v : List Bool). (after N L P v).left ≡ 0) (same_cut n (omega arith)) c.ended;
      }

-- ---- where a turn ends

module _ (N L P declared : ℕ) (body : List ℕ) where
  abbrev most : ℕ
  most = usable_bits declared body

  abbrev word : ℕ → ℕ → Ending
  word = ending declared body

  -- by the verdict on the bits of the turn
  abbrev ends_at : Verdict → ℕ → Tables → Step
  ends_at taken to held = stopped N L P body (cond (leb to most) (read_answer word N L P (bits_of (min to most) body) taken) (Err Spent)) (min to most) held
  ends_at (contradiction k) to held = stopped N L P body (Err (Contradiction k)) k held
  ends_at (beyond k) to held = stopped N L P body (Err (Beyond k)) k held

  module _ (l : levels_fit N L ≡ true) (n : ℕ) (held : Tables) where
    ends_over : (v : Verdict) (to : ℕ) → ends_at v to (over (all_of N) (own_tables midpoint N L P (bits_of n body) taken) held) ≡ ends_at v to held
    ends_over taken to = stopped_over N L P body n l (cond (leb to most) (read_answer word N L P (bits_of (min to most) body) taken) (Err Spent)) (min to most) held
    ends_over (contradiction k) to = stopped_over N L P body n l (Err (Contradiction k)) k held
    ends_over (beyond k) to = stopped_over N L P body n l (Err (Beyond k)) k held

  module _ (n : ℕ) (r : Record) (held : Tables) (g : Good N L P (bits_of n body) r held) where
    only_taken : (e : ℕ) → e ≤ n → (v : Verdict) → Judged N L P (bits_of e body) v → v ≡ taken
    only_taken e h v j = judged_only N L (sized N L g.levels) P (bits_of e body) v taken j (fits_before N L P declared body n r held g e h)

  ends_all : (to : ℕ) (held : Tables) → to ≤ most → ends_at taken to held ≡ decoded word N L P body to held
  ends_all to held h =
      ap (λ (x : Bool). stopped N L P body (cond x (read_answer word N L P (bits_of (min to most) body) taken) (Err Spent)) (min to most) held) (le-leb to most h)
      ∙ ap (λ (k : ℕ). decoded word N L P body k held) {x = min to most} {y = to} (omega (arith, h))

  -- ---- steps back

  abbrev BackRuns : ℕ → Type 0
  BackRuns k = (n : ℕ) (r : Record) (held : Tables) → Good N L P (bits_of n body) r held → n ≤ most → k ≤ n
      → steps_of (back_of declared body) k (step (read_answer word N L P (bits_of n body) taken) r held) ≡ decoded word N L P body (n - k) held

  back_none : BackRuns 0
  back_none n r held g h l =
      steps_none (back_of declared body) (step (read_answer word N L P (bits_of n body) taken) r held)
      ∙ stopped_here N L P body n r held g (read_answer word N L P (bits_of n body) taken)
      ∙ ap (λ (k : ℕ). decoded word N L P body k held) {x = n} {y = n - 0} (omega arith)

  back_more : (k : ℕ) → BackRuns k → BackRuns (suc k)
  back_more k more n r held g h l =
      let own : Tables = over (all_of N) (own_tables midpoint N L P (bits_of (n - 1) body) taken) held in
      let w : Fits N L P (bits_of (n - 1) body) = fits_before N L P declared body n r held g (n - 1) (omega arith) in
      let there : Good N L P (bits_of (n - 1) body) (record_after N L P (bits_of (n - 1) body)) own = good_at N L P g.side g.levels g.planes (bits_of (n - 1) body) w held in
      steps_done (back_of declared body) k (step (read_answer word N L P (bits_of n body) taken) r held) (record_after N L P (bits_of (n - 1) body)) own _ (back_by N L P declared body n r held g h (omega (arith, l)))
      ∙ more (n - 1) (record_after N L P (bits_of (n - 1) body)) own there (omega (arith, h)) (omega (arith, l))
      ∙ ap (λ (x : ℕ). decoded word N L P body x own) {x = n - 1 - k} {y = n - suc k} (omega (arith, l))
      ∙ stopped_over N L P body (n - 1) g.levels (read_answer word N L P (bits_of (n - suc k) body) taken) (n - suc k) held

  back_steps : (k : ℕ) → BackRuns k
  back_steps zero = back_none
  back_steps (suc k) = back_more k (back_steps k)

  -- ---- steps forward

  abbrev ForwardRuns : ℕ → Type 0
  ForwardRuns k = (n : ℕ) (r : Record) (held : Tables) → Good N L P (bits_of n body) r held → n ≤ most → (v : Verdict) → Judged N L P (bits_of (min (n + k) most) body) v
      → steps_of (forward_of declared body) k (step (read_answer word N L P (bits_of n body) taken) r held) ≡ ends_at v (n + k) held

  forward_none : ForwardRuns 0
  forward_none n r held g h v j =
      steps_none (forward_of declared body) (step (read_answer word N L P (bits_of n body) taken) r held)
      ∙ stopped_here N L P body n r held g (read_answer word N L P (bits_of n body) taken)
      ∙ ap (λ (k : ℕ). decoded word N L P body k held) {x = n} {y = n + 0} (omega arith)
      ∙ sym (ends_all (n + 0) held (omega (arith, h)))
      ∙ ap (λ (x : Verdict). ends_at x (n + 0) held) (sym (only_taken n r held g (min (n + 0) most) (omega (arith, h)) v j))

  forward_more : (k : ℕ) → ForwardRuns k → ForwardRuns (suc k)
  forward_more k more n r held g h v j = go (dec_lt n most)
    where
      first : Step
      first = step (read_answer word N L P (bits_of n body) taken) r held

      -- no bit is left
      spent : (n < most → ⊥) → steps_of (forward_of declared body) (suc k) first ≡ ends_at v (n + suc k) held
      spent x =
          steps_refused (forward_of declared body) k first r held Spent (forward_spent N L P (bits_of n body) r held g declared body (omega (arith, h, x, bits_of_length n body)))
          ∙ stopped_here N L P body n r held g (Err Spent)
          ∙ ap (λ (e : ℕ). stopped N L P body (Err Spent) e held) {x = n} {y = min (n + suc k) most} (omega (arith, h, x))
          ∙ ap (λ (t : Bool). stopped N L P body (cond t (read_answer word N L P (bits_of (min (n + suc k) most) body) taken) (Err Spent)) (min (n + suc k) most) held) (sym (lt-leb (n + suc k) most (omega (arith, h, x))))
          ∙ ap (λ (x : Verdict). ends_at x (n + suc k) held) (sym (only_taken n r held g (min (n + suc k) most) (omega (arith, h, x)) v j))

      -- the same verdict on all bits
      verdict_is : (w : Verdict) → Judged N L P (bits_of (min (n + suc k) most) body) w → ends_at w (n + suc k) held ≡ ends_at v (n + suc k) held
      verdict_is w i = ap (λ (x : Verdict). ends_at x (n + suc k) held) (judged_only N L (sized N L g.levels) P (bits_of (min (n + suc k) most) body) w v i j)

      on : n < most → Forward N L P declared body n r held → steps_of (forward_of declared body) (suc k) first ≡ ends_at v (n + suc k) held
      on x (goes w e) =
          let later : Tables = over (all_of N) (own_tables midpoint N L P (bits_of (n + 1) body) taken) held in
          let same : n + 1 + k ≡ n + suc k = omega arith in
          steps_done (forward_of declared body) k first (record_after N L P (bits_of (n + 1) body)) later _ e
          ∙ more (n + 1) (record_after N L P (bits_of (n + 1) body)) later (good_at N L P g.side g.levels g.planes (bits_of (n + 1) body) w held) (omega (arith, x)) v
          (subst (λ (i : ℕ). Judged N L P (bits_of (min i most) body) v) (sym same) j)
          ∙ ap (λ (i : ℕ). ends_at v i later) same
          ∙ ends_over g.levels (n + 1) held v (n + suc k)
      on x (clashes w e) =
          steps_refused (forward_of declared body) k first r held (Contradiction n) e
          ∙ stopped_here N L P body n r held g (Err (Contradiction n))
          ∙ verdict_is (contradiction n) (longer_12 N L P body n (min (n + suc k) most) (omega (arith, x)) w)
      on x (ends w e) =
          steps_refused (forward_of declared body) k first r held (Beyond n) e
          ∙ stopped_here N L P body n r held g (Err (Beyond n))
          ∙ verdict_is (beyond n) (longer_13 N L P body n (min (n + suc k) most) (omega (arith, x)) w)

      go : Dec (n < most) → steps_of (forward_of declared body) (suc k) first ≡ ends_at v (n + suc k) held
      go (yes x) = on x (forward_by N L P declared body n r held g x)
      go (no x) = spent x

  forward_steps : (k : ℕ) → ForwardRuns k
  forward_steps zero = forward_none
  forward_steps (suc k) = forward_more k (forward_steps k)

  -- ---- the whole turn

  module _ (to n : ℕ) (r : Record) (held : Tables) (g : Good N L P (bits_of n body) r held) (h : n ≤ most) where
    position_is : position_of word r ≡ read_answer word N L P (bits_of n body) taken
    position_is =
        ap (λ (x : ℕ). reached word x r.used (stand_in r).left) (good_planes N L P (bits_of n body) r held g)
        ∙ ap (λ (x : ℕ). reached word P x (stand_in r).left) (good_used N L P (bits_of n body) r held g)
        ∙ ap (λ (s : State). reached word P (length (bits_of n body)) s.left) (good_state N L P (bits_of n body) r held g)

    used_n : r.used ≡ n
    used_n = good_used N L P (bits_of n body) r held g ∙ bits_of_length n body

    turn_is : turn_of declared to body r held ≡ cond (leb to n)
        (steps_of (back_of declared body) (n - to) (step (read_answer word N L P (bits_of n body) taken) r held))
        (steps_of (forward_of declared body) (to - n) (step (read_answer word N L P (bits_of n body) taken) r held))
    turn_is =
        ap (λ (o : Outcome). turn_to o declared to body r held) (record_done N L P (bits_of n body) r held g declared body (omega (arith, h, bits_of_length n body)))
        ∙ ap (λ (x : ℕ). cond (leb to x) (steps_of (back_of declared body) (x - to) (step (position_of word r) r held)) (steps_of (forward_of declared body) (to - x) (step (position_of word r) r held))) used_n
        ∙ ap (λ (a : ReadAnswer). cond (leb to n) (steps_of (back_of declared body) (n - to) (step a r held)) (steps_of (forward_of declared body) (to - n) (step a r held))) position_is

    turn_ends : (v : Verdict) → Judged N L P (bits_of (min to most) body) v → turn_of declared to body r held ≡ ends_at v to held
    turn_ends v j = turn_is ∙ go (dec_lt n to)
      where
        first : Step
        first = step (read_answer word N L P (bits_of n body) taken) r held

        go : Dec (n < to) → cond (leb to n) (steps_of (back_of declared body) (n - to) first) (steps_of (forward_of declared body) (to - n) first) ≡ ends_at v to held
        go (yes x) =
            let same : n + (to - n) ≡ to = omega (arith, x) in
            ap (λ (t : Bool). cond t (steps_of (back_of declared body) (n - to) first) (steps_of (forward_of declared body) (to - n) first)) (lt-leb to n x)
            ∙ forward_steps (to - n) n r held g h v (subst (λ (i : ℕ). Judged N L P (bits_of (min i most) body) v) (sym same) j)
            ∙ ap (λ (i : ℕ). ends_at v i held) same
        go (no x) =
            ap (λ (t : Bool). cond t (steps_of (back_of declared body) (n - to) first) (steps_of (forward_of declared body) (to - n) first)) (le-leb to n (omega (arith, x)))
            ∙ back_steps (n - to) n r held g h (omega arith)
            ∙ ap (λ (i : ℕ). decoded word N L P body i held) {x = n - (n - to)} {y = to} (omega (arith, x))
            ∙ sym (ends_all to held (omega (arith, h, x)))
            ∙ ap (λ (w : Verdict). ends_at w to held) (sym (only_taken n r held g (min to most) (omega (arith, x)) v j))

    -- where a bit is refused: decoding those before it
    refused_at : (why : Refusal) (k e : ℕ) → k < e → e ≤ 8 * length body → Fits N L P (take k (bits_of e body)) → turn_of declared to body r held ≡ stopped N L P body (Err why) k held
        → (answer : ReadAnswer) (last : Tables) → Reads midpoint N L P k body held answer last → turn_of declared to body r held ≡ step (Err why) (record_after N L P (body_bits k body)) last
    refused_at why k e l i w t answer last p =
        let b : bits_of k body ≡ body_bits k body = sym (body_bits_lem k body (omega (arith, l, i))) in
        let fits : Fits N L P (body_bits k body) = subst (λ (x : List Bool). Fits N L P x) (take_bits_of k e body (omega (arith, l)) ∙ b) w in
        let one : (answer ≡ read_answer (ending k body) N L P (body_bits k body) taken) × (last ≡ over (all_of N) (own_tables midpoint N L P (body_bits k body) taken) held) =
        reads_one midpoint (ending k body) N L P k body held answer (read_answer (ending k body) N L P (body_bits k body) taken) last (over (all_of N) (own_tables midpoint N L P (body_bits k body) taken) held) p
        (reads_judged N L P (bits_of n body) r held g (ending k body) body k taken fits) in
        t
        ∙ ap (λ (x : List Bool). step (Err why) (record_after N L P x) (over (all_of N) (own_tables midpoint N L P x taken) held)) b
        ∙ ap (λ (x : Tables). step (Err why) (record_after N L P (body_bits k body)) x) (sym one.1)

    turned : (v : Verdict) → Judged N L P (bits_of (min to most) body) v
        → TurnsTo (read_answer word N L P (bits_of (min to most) body) v) (over (all_of N) (own_tables midpoint N L P (bits_of (min to most) body) v) held) N L P most to body held (turn_of declared to body r held)
    turned taken j =
        turn_ends taken j
        ∙ ap (λ (x : List Bool). step (cond (leb to most) (read_answer word N L P (bits_of (min to most) body) taken) (Err Spent)) (record_after N L P x) (over (all_of N) (own_tables midpoint N L P (bits_of (min to most) body) taken) held))
        (sym (body_bits_lem (min to most) body (omega arith)))
    turned (contradiction k) j = refused_at (Contradiction k) k (min to most) (omega (arith, j.there, bits_of_length (min to most) body)) (omega arith) j.before (turn_ends (contradiction k) j)
    turned (beyond k) j = refused_at (Beyond k) k (min to most) (omega (arith, j.there, bits_of_length (min to most) body)) (omega arith) j.before (turn_ends (beyond k) j)

    pub turn_good : (said : ReadAnswer) (t : Tables) → ReadsBy midpoint (ending declared body) N L P (min to (usable_bits declared body)) body held said t → TurnsTo said t N L P (usable_bits declared body) to body held (turn_of declared to body r held)
    turn_good said t p =
        let e : ℕ = min to most in
        let same : body_bits e body ≡ bits_of e body = body_bits_lem e body (omega arith) in
        let v : Verdict = verdict N L P (bits_of e body) in
        let j : Judged N L P (bits_of e body) v = verdict_judged N L (sized N L g.levels) P (bits_of e body) in
        let one : (said ≡ read_answer word N L P (body_bits e body) v) × (t ≡ over (all_of N) (own_tables midpoint N L P (body_bits e body) v) held) =
        reads_one midpoint word N L P e body held said (read_answer word N L P (body_bits e body) v) t (over (all_of N) (own_tables midpoint N L P (body_bits e body) v) held) p
        (reads_judged N L P (bits_of n body) r held g word body e v (subst (λ (x : List Bool). Judged N L P x v) (sym same) j)) in
        subst (λ (a : ReadAnswer). TurnsTo a t N L P most to body held (turn_of declared to body r held)) (sym (one.0 ∙ ap (λ (x : List Bool). read_answer word N L P x v) same))
        (subst (λ (x : Tables). TurnsTo (read_answer word N L P (bits_of e body) v) x N L P most to body held (turn_of declared to body r held)) (sym (one.1 ∙ ap (λ (x : List Bool). over (all_of N) (own_tables midpoint N L P x v) held) same))
        (turned v j))

    -- a turn that is done ends behind `to` bits, and answers as decoding them does, with the word of that position in the body at hand
    pub turn_said : (d : ReadTo) → (turn_of declared to body r held).answer ≡ Ok d → (to ≤ usable_bits declared body) × (Ok d ≡ read_answer (ending declared body) N L P (bits_of to body) taken)
    turn_said d is = on (verdict N L P (bits_of (min to most) body)) (verdict_judged N L (sized N L g.levels) P (bits_of (min to most) body))
      where
        at : (v : Verdict) → Judged N L P (bits_of (min to most) body) v → Ok d ≡ (ends_at v to held).answer
        at v j = sym is ∙ ap (λ (s : Step). s.answer) (turn_ends v j)

        tell : (x : Bool) → leb to most ≡ x → Ok d ≡ cond x (read_answer word N L P (bits_of (min to most) body) taken) (Err Spent)
            → (to ≤ most) × (Ok d ≡ read_answer word N L P (bits_of to body) taken)
        tell true q e =
            let l : to ≤ most = leb-true to most q in
            (l, e ∙ ap (λ (k : ℕ). read_answer word N L P (bits_of k body) taken) {x = min to most} {y = to} (omega (arith, l)))
        tell false q e = let z : ◌≡◌ {A = ℕ} 0 1 = cc in absurd (omega (arith, z))

        on : (v : Verdict) → Judged N L P (bits_of (min to most) body) v → (to ≤ most) × (Ok d ≡ read_answer word N L P (bits_of to body) taken)
        on taken j = tell (leb to most) refl (at taken j)
        on (contradiction k) j = let e : Ok d ≡ Err (Contradiction k) = at (contradiction k) j in let z : ◌≡◌ {A = ℕ} 0 1 = cc in absurd (omega (arith, z))
        on (beyond k) j = let e : Ok d ≡ Err (Beyond k) = at (beyond k) j in let z : ◌≡◌ {A = ℕ} 0 1 = cc in absurd (omega (arith, z))
