-- What the contracts of `encode` and `decode` give together: demand 2 at the level of the calls. The hypotheses are the two contracts.
use Prim.Native.Nat.{ℕ, ◌+◌, ◌*◌, ◌-◌, ◌^◌, ◌≤◌, ◌<◌, min}
use mathlib.Core.Path.{◌≡◌, refl, sym, ap, subst, ◌∙◌}
use mathlib.Core.Bool.{Bool}
use mathlib.Core.List.{List, ◌++◌}
use native.Mathlib.Decide.{dec_lt}
use native.Mathlib.Omega.{arith}
use lib.IntN.{ℤ, pos, nat_abs, ◌-ℤ◌}
use lib.ListN.{length, get_or, take, drop, replicate, length-append, length-take, get_or-append}
use lib.Seq.{take_all, length-take-le, drop_at}
use Rattle.std.specs.Prelude.{Ok, Err}
use Rattle.refusals.specs.Checks.{first_failing, Outcome}
use Rattle.refusals.specs.declared.Refusal.TheVariants.{Contradiction, Beyond}
use Rattle.sizes.specs.Sizes.{all_of, Sized}
use Rattle.sizes.specs.Tables.{table}
use Rattle.sizes.proofs.Laws.{sized}
use Rattle.sizes.proofs.Tables.{table_length, table_front}
use Rattle.bits.specs.Bits.{packed}
use Rattle.bits.proofs.Laws.{packed_length, bits_of_append, bits_of_packed}
use Rattle.coef.specs.Coef.{at, magnitude, planes_of}
use Rattle.coef.proofs.Laws.{planes_of_lem}
use Rattle.nls.specs.Stream.{stream}
use Rattle.nls.specs.Reading.{last_plane, lower, midpoint, value_by, Between, high_bits, precision_at, values_by, precisions, planes_finished, worst_error}
use Rattle.nls.specs.Judging.{Begins, Fits, Contradicts, IsBeyond, Verdict, taken, contradiction, beyond, Judged}
use Rattle.nls.proofs.Demands as demands
use Rattle.nls.proofs.Verdicts.{judged_only}
use Rattle.room.specs.Room.{read_checks, body_bits}
use Rattle.room.specs.Ready.{EncodeReady}
use Rattle.room.proofs.Laws.{encode_ready, decode_well}
use Rattle.encoder.specs.Body.{sent_bits, write_answer, sent_marks, output_after, Loan, write_outcome, Writes, WriteAnswer}
use Rattle.encoder.specs.declared.body.Written.{Written}
use Rattle.encoder.proofs.EncodeLaws.{planes_near}
use Rattle.decoder.specs.Body.{read_answer, Tables, tables, own_tables, over, BodyRead, ReadsTo, Reads, ReadAnswer}
use Rattle.decoder.specs.Ending.{ending}
use Rattle.decoder.specs.declared.ending.Ending.{Ending}
use Rattle.decoder.specs.declared.ending.Ending.TheVariants.{Whole, Budget}
use Rattle.decoder.specs.declared.body.ReadTo.{ReadTo}
use Rattle.decoder.proofs.Endings.{ending_budget, some_left, all_whole}

-- ---- a call of `decode` whose checks hold, or of `decode_midpoint`: any rule may be named

module _ (rule : ℕ → ℕ → ℕ) (word : ℕ → ℕ → Ending) (N L P : ℕ) (z : Sized N L) (u : List Bool) (held : Tables) (answer : ReadAnswer) (left : Tables) (d : BodyRead rule word N L P u held answer left) where
  -- the bits fit some array: what they give
  pub taken_so : Fits N L P u → (answer ≡ read_answer word N L P u taken) × (left ≡ over (all_of N) (own_tables rule N L P u taken) held)
  taken_so f =
      let e : d.verdict ≡ taken = judged_only N L z P u d.verdict taken d.judged f in
      (d.answered ∙ ap (λ (v : Verdict). read_answer word N L P u v) e, d.filled ∙ ap (λ (v : Verdict). over (all_of N) (own_tables rule N L P u v) held) e)

  -- REFUSED EXACTLY: a body is taken if and only if some array fits, and refused as 12 or 13 at the bit that document 01 says
  pub done_fits : (r : ReadTo) → answer ≡ Ok r → Fits N L P u
  done_fits r e = go d.verdict d.judged (sym d.answered ∙ e)
    where
      go : (v : Verdict) → Judged N L P u v → read_answer word N L P u v ≡ Ok r → Fits N L P u
      go taken j f = j
      go (contradiction k) j f = absurd (let z : ◌≡◌ {A = ℕ} 0 1 = cc in omega arith)
      go (beyond k) j f = absurd (let z : ◌≡◌ {A = ℕ} 0 1 = cc in omega arith)

  pub fits_done : Fits N L P u → answer ≡ Ok (record { used = length u; finished = planes_finished N L P u; error = worst_error N L P u; ending = word (length u) (last_plane N L P u) })
  fits_done f = (taken_so f).0

  pub twelve : (k : ℕ) → answer ≡ Err (Contradiction k) → Contradicts N L P u k
  twelve k e = go d.verdict d.judged (sym d.answered ∙ e)
    where
      go : (v : Verdict) → Judged N L P u v → read_answer word N L P u v ≡ Err (Contradiction k) → Contradicts N L P u k
      go taken j f = absurd (let z : ◌≡◌ {A = ℕ} 0 1 = cc in omega arith)
      go (contradiction n) j f = let e : n ≡ k = cc in subst (λ (x : ℕ). Contradicts N L P u x) e j
      go (beyond n) j f = absurd (let z : ◌≡◌ {A = ℕ} 0 1 = cc in omega arith)

  pub thirteen : (k : ℕ) → answer ≡ Err (Beyond k) → IsBeyond N L P u k
  thirteen k e = go d.verdict d.judged (sym d.answered ∙ e)
    where
      go : (v : Verdict) → Judged N L P u v → read_answer word N L P u v ≡ Err (Beyond k) → IsBeyond N L P u k
      go taken j f = absurd (let z : ◌≡◌ {A = ℕ} 0 1 = cc in omega arith)
      go (contradiction n) j f = absurd (let z : ◌≡◌ {A = ℕ} 0 1 = cc in omega arith)
      go (beyond n) j f = let e : n ≡ k = cc in subst (λ (x : ℕ). IsBeyond N L P u x) e j

  -- CUT: for every array whose stream begins so, the values are the rule's at its own bits and the precisions, and none is further off than the worst error,
  -- nor as far as its own precision says
  module _ (A : List ℤ) (b : Begins N L P A u) where
    pub cut : left.values ≡ table (all_of N) (λ i. value_by rule (precision_at N L P u i) (high_bits (precision_at N L P u i) (at A i))) ++ drop (all_of N) held.values
    cut = ap (λ (t : Tables). t.values) (taken_so (A, b)).1 ∙ ap (λ (l : List ℤ). l ++ drop (all_of N) held.values) (demands.cut_by N L P z A u b rule)

    -- the value and the precision at i, of the entries that decoding fills
    pub value_at : (i : ℕ) → i < all_of N → at left.values i ≡ at (values_by N L P u rule) i
    value_at i h =
        let long : length (values_by N L P u rule) ≡ all_of N = table_length (all_of N) _ in
        ap (λ (t : Tables). at t.values i) (taken_so (A, b)).1 ∙ get_or-append (values_by N L P u rule) (drop (all_of N) held.values) (pos 0) i (omega (arith, h, long))

    pub precision_at_lem : (i : ℕ) → i < all_of N → get_or left.precisions i 0 ≡ precision_at N L P u i
    precision_at_lem i h = ap (λ (t : Tables). get_or t.precisions i 0) (taken_so (A, b)).1 ∙ table_front (all_of N) _ _ i 0 h

    pub near : Between rule → (i : ℕ) → i < all_of N → nat_abs (at left.values i -ℤ at A i) ≤ worst_error N L P u
    near fair i h = subst (λ (y : ℤ). nat_abs (y -ℤ at A i) ≤ worst_error N L P u) (sym (value_at i h)) (demands.near N L P z A u b rule fair i h)

    -- "each coefficient is wrong by less than 2^k of its own k", k as the call leaves it in the lent precisions
    pub own_near : Between rule → (i : ℕ) → i < all_of N → nat_abs (at left.values i -ℤ at A i) < 2 ^ get_or left.precisions i 0
    own_near fair i h = rw (value_at i h, precision_at_lem i h) (demands.own_near N L P z A u b rule fair i h)

-- with `decode` no value is larger in magnitude than the true one; with `decode_midpoint` one that is not 0, at a precision k > 0, is wrong by at most 2^(k-1)
module _ (word : ℕ → ℕ → Ending) (N L P : ℕ) (z : Sized N L) (u : List Bool) (held : Tables) (answer : ReadAnswer) (left : Tables) (A : List ℤ) (b : Begins N L P A u) where
  pub lower_under : BodyRead lower word N L P u held answer left → (i : ℕ) → i < all_of N → magnitude (at left.values i) ≤ magnitude (at A i)
  lower_under d i h = rw (value_at lower word N L P z u held answer left d A b i h) (demands.lower_under N L P z A u b i h)

  pub midpoint_half : BodyRead midpoint word N L P u held answer left → (i : ℕ) → i < all_of N → 1 ≤ get_or left.precisions i 0 → (at left.values i ≡ pos 0 → ⊥)
      → nat_abs (at left.values i -ℤ at A i) ≤ 2 ^ (get_or left.precisions i 0 - 1)
  midpoint_half d i h some found =
      let v : at left.values i ≡ at (values_by N L P u midpoint) i = value_at midpoint word N L P z u held answer left d A b i h in
      let k : get_or left.precisions i 0 ≡ precision_at N L P u i = precision_at_lem midpoint word N L P z u held answer left d A b i h in
      rw (v, k) (demands.midpoint_half N L P z A u b i h (omega (arith, some, k)) (λ e. found (v ∙ e)))

-- the word of an answer
told_word : (answer : ReadAnswer) (d' d : ReadTo) → answer ≡ Ok d → answer ≡ Ok d' → d.ending ≡ d'.ending
told_word answer d' d is so =
    let same : Ok d ≡ Ok d' = sym is ∙ so in
    cc

-- ---- `decode` of what `encode` wrote

module _ (N L : ℕ) (A : List ℤ) (offset budget : ℕ) (held left : Loan) (wrote : WriteAnswer) (writes : Writes N L A offset budget held wrote left)
    (w : Written) (done : wrote ≡ Ok w) where
  done_so : (o : Outcome) → write_answer N L A budget o ≡ Ok w → (o ≡ Ok tt) × (w ≡ record { planes = planes_of A; bits = length (sent_bits N L A budget) })
  done_so (Ok tt) e = (refl, cc)
  done_so (Err why) e = absurd (let z : ◌≡◌ {A = ℕ} 0 1 = cc in omega arith)

  checked : (write_outcome N L A offset budget held ≡ Ok tt) × (w ≡ record { planes = planes_of A; bits = length (sent_bits N L A budget) })
  checked = done_so (write_outcome N L A offset budget held) (sym writes.answered ∙ done)

  ready : EncodeReady N L A (length held.descs) (length held.grands) (length held.out - offset) budget × (all_of N ≤ length held.marks) × (offset ≤ length held.out)
  ready = encode_ready N L A (length held.descs) (length held.grands) (length held.marks) (length held.out) offset budget (sym checked.0)

  z : Sized N L
  z = sized N L ready.0.levels

  abbrev P : ℕ
  P = planes_of A

  abbrev S : List Bool
  S = stream N L (planes_of A) A

  abbrev u : List Bool
  u = sent_bits N L A budget

  -- the bits written begin the array's stream
  pub begins : Begins N L (planes_of A) A (sent_bits N L A budget)
  begins = record { size = ready.0.whole; planes = planes_of_lem A; same = go (dec_lt budget (length S)) }
    where
      go : Dec (budget < length S) → take (length u) S ≡ u
      go (yes h) = ap (λ (k : ℕ). take k S) {x = length u} {y = budget} (omega (arith, length-take budget S))
      go (no h) = take_all (length u) S (omega (arith, length-take budget S)) ∙ sym (take_all budget S (omega arith))

  -- and they are what `decode` reads where they were put
  pub same_bits : body_bits w.bits (drop offset left.out) ≡ sent_bits N L A budget
  same_bits =
      let rest : List ℕ = drop (offset + length (packed u)) held.out in
      let put : left.out ≡ take offset held.out ++ (packed u ++ rest) =
      ap (λ (x : Loan). x.out) writes.filled ∙ ap (λ (o : Outcome). output_after o offset (packed u) held.out) checked.0 in
      let there : drop offset left.out ≡ packed u ++ rest =
      ap (λ (l : List ℕ). drop offset l) put ∙ drop_at (take offset held.out) (packed u ++ rest) offset (length-take-le offset held.out ready.2) in
      let bits : w.bits ≡ length u = ap (λ (x : Written). x.bits) checked.1 in
      let most : min (length u) (8 * length (packed u ++ rest)) ≡ length u = omega (arith, length-append (packed u) rest, packed_length u) in
      rw (bits, there, most) (bits_of_append (length u) (packed u) rest (omega (arith, packed_length u)) ∙ bits_of_packed u)

  -- Why they ended, by the bits used and the planes left (document 02, T-06): `whole` where the budget cut nothing, else `budget`
  abbrev word : ℕ → ℕ → Ending
  word = ending w.bits (drop offset left.out)

  pub written_whole : length (stream N L (planes_of A) A) ≤ budget
      → ending w.bits (drop offset left.out) (length (sent_bits N L A budget)) (last_plane N L (planes_of A) (sent_bits N L A budget)) ≡ Whole
  written_whole h = all_whole N L P w.bits (drop offset left.out) u z A begins (omega (arith, h, length-take budget S))

  pub written_budget : budget < length (stream N L (planes_of A) A)
      → ending w.bits (drop offset left.out) (length (sent_bits N L A budget)) (last_plane N L (planes_of A) (sent_bits N L A budget)) ≡ Budget
  written_budget h =
      let bits : w.bits ≡ length u = ap (λ (x : Written). x.bits) checked.1 in
      ending_budget w.bits (drop offset left.out) (length u) (last_plane N L P u)
      (some_left N L P w.bits (drop offset left.out) u z A begins (omega (arith, h, length-take budget S))) (omega (arith, bits))

  module _ (rule : ℕ → ℕ → ℕ) (given after : Tables) (read : ReadAnswer) (hv : all_of N ≤ length given.values) (hp : all_of N ≤ length given.precisions) (hm : all_of N ≤ length given.marks)
      (decoded : Reads rule N L w.planes w.bits (drop offset left.out) given read after) where
    so : BodyRead rule word N L P u given read after
    so =
        let planes : w.planes ≡ P = ap (λ (x : Written). x.planes) checked.1 in
        let few = planes_near N L A (length held.descs) (length held.grands) (length held.out - offset) budget ready.0 in
        let well : first_failing (read_checks N L P (length given.values) (length given.precisions) (length given.marks)) ≡ Ok tt =
        sym (decode_well N L P (length given.values) (length given.precisions) (length given.marks) ready.0.side ready.0.levels few hv hp hm) in
        subst (λ (o : Outcome). ReadsTo o rule word N L P u given read after) well
        (subst (λ (b : List Bool). ReadsTo (first_failing (read_checks N L P (length given.values) (length given.precisions) (length given.marks))) rule word N L P b given read after) same_bits
        (subst (λ (p : ℕ). Reads rule N L p w.bits (drop offset left.out) given read after) planes decoded))

    -- IN STEP: what was written is taken, whatever the budget, and the decoder's marks are the encoder's
    pub back : (read ≡ Ok (record {
      used = length (sent_bits N L A budget);
      finished = planes_finished N L (planes_of A) (sent_bits N L A budget);
      error = worst_error N L (planes_of A) (sent_bits N L A budget);
      ending = ending w.bits (drop offset left.out) (length (sent_bits N L A budget)) (last_plane N L (planes_of A) (sent_bits N L A budget));
    }))
        × (after ≡ over (all_of N) (tables (values_by N L (planes_of A) (sent_bits N L A budget) rule) (precisions N L (planes_of A) (sent_bits N L A budget)) (sent_marks N L A budget)) given)
    back = taken_so rule word N L P z u given read after so (A, begins)

    -- WHOLE: with a budget that does not cut, the array itself, to the last bit
    pub whole : Between rule → length (stream N L (planes_of A) A) ≤ budget
        → (read ≡ Ok (record { used = length (stream N L (planes_of A) A); finished = planes_of A; error = 0; ending = Whole }))
        × (after ≡ over (all_of N) (tables A (replicate (all_of N) 0) (sent_marks N L A budget)) given)
    whole fair h =
        let all : u ≡ S = take_all budget S h in
        let size = ready.0.whole in
        let finished : planes_finished N L P u ≡ P = ap (λ (b : List Bool). planes_finished N L P b) all ∙ demands.whole_finished N L P z A size (planes_of_lem A) in
        let error : worst_error N L P u ≡ 0 = ap (λ (b : List Bool). worst_error N L P b) all ∙ demands.whole_error N L P z A size (planes_of_lem A) in
        let values : values_by N L P u rule ≡ A = ap (λ (b : List Bool). values_by N L P b rule) all ∙ demands.whole_by N L P z A size (planes_of_lem A) rule fair in
        let exact : precisions N L P u ≡ replicate (all_of N) 0 = ap (λ (b : List Bool). precisions N L P b) all ∙ demands.whole_precisions N L P z A size (planes_of_lem A) in (
          back.0 ∙ (λ i. Ok (record { used = length (all i); finished = finished i; error = error i; ending = written_whole h i })),
          back.1 ∙ (λ i. over (all_of N) (tables (values i) (exact i) (sent_marks N L A budget)) given),
        )

    -- BUDGET: where it cut something, the answer says so
    pub budget_word : budget < length (stream N L (planes_of A) A) → (d : ReadTo) → read ≡ Ok d → d.ending ≡ Budget
    budget_word h d is = told_word read _ d is back.0 ∙ written_budget h
