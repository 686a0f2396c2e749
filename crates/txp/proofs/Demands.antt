-- What is proved of files: demands 2 and 3 of document 01 at the level of bytes and of the calls. `file_of` is what encoding writes.
use mathlib.Core.Path.{◌≡◌, refl, sym, ap, subst, ◌∙◌}
use mathlib.Core.Bool.{Bool, true, false}
use mathlib.Core.Logic.{◌⊎◌, inl, inr}
use mathlib.Core.Option.{none}
use mathlib.Core.List.{List, [], ◌∷◌, ◌++◌}
use Prim.Native.Nat.{ℕ, zero, suc, ◌+◌, ◌-◌, ◌*◌, ◌/◌, ◌^◌, min, ◌≤◌, ◌<◌}
use native.Mathlib.Decide.{dec_lt}
use native.Mathlib.Omega.{arith}
use borrow.Author.Tests.{le-leb, lt-leb, ne_eqb}
use lib.IntN.{ℤ, pos, nat_abs, ◌-ℤ◌}
use lib.Pow.{pow_mono}
use lib.ListN.{length, take, drop, replicate, length-take, length-append}
use lib.Seq.{take_all, take_at}
use Rattle.std.specs.Prelude.{Ok, Err}
use Rattle.refusals.specs.declared.Refusal.{Refusal}
use Rattle.refusals.specs.declared.Refusal.TheVariants.{Letters, Contradiction, Beyond}
use Rattle.refusals.specs.Refusals.{number_of}
use Rattle.refusals.specs.Checks.{first_failing, lent_after, Outcome}
use Rattle.sizes.specs.Sizes.{all_of, coarsest_of, side_fits, levels_fit, limit, most_planes, Sized}
use Rattle.sizes.specs.Tables.{table}
use Rattle.sizes.proofs.Laws.{side_most, sized}
use Rattle.bits.specs.Bits.{bit_at, bytes_for, packed}
use Rattle.bits.proofs.Laws.{packed_length, bits_of_length}
use Rattle.coef.specs.Coef.{at, magnitude, mag_at, planes_of, first_over, IsPlanes}
use Rattle.coef.proofs.Laws.{planes_of_lem, planes_most, first_all, first_none}
use Rattle.nls.specs.Scan.{ask}
use Rattle.nls.specs.Stream.{stream, after, worst_body}
use Rattle.nls.specs.Parts.{sum_to, parts, splits, nonzeros}
use Rattle.nls.specs.Reading.{last_plane, lower, midpoint, value_by, Between, high_bits, precision_at, values_by, precisions, planes_finished, worst_error}
use Rattle.nls.specs.Judging.{Begins, Fits, Verdict, taken, contradiction, beyond}
use Rattle.nls.proofs.Demands as scan
use Rattle.nls.proofs.Counts.{stream_bound}
use Rattle.nls.proofs.Streams.{marks_length}
use Rattle.nls.proofs.Values.{lower_between, midpoint_between}
use Rattle.room.specs.Room.{room_in}
use Rattle.room.specs.Ready.{EncodeReady}
use Rattle.room.proofs.Laws.{encode_ready}
use Rattle.encoder.specs.Body.{sent_bits, sent_marks, output_after, Loan}
use Rattle.decoder.specs.Body.{Tables, tables, own_tables, over}
use Rattle.decoder.specs.declared.ending.Ending.{Ending}
use Rattle.decoder.specs.declared.ending.Ending.TheVariants.{Whole, Budget, Cut}
use Rattle.decoder.proofs.Endings.{ending_whole, ending_budget, ending_cut, whole_asks_none, none_asked_whole, some_left, whole_all, all_whole}
use Rattle.txp.specs.declared.Header.{Header}
use Rattle.txp.specs.declared.Encoded.{Encoded}
use Rattle.txp.specs.declared.Decoded.{Decoded}
use Rattle.txp.specs.Header.{header_size, header_bytes, header_of, body_of, letters_fit}
use Rattle.txp.specs.File.{header_for, file_of, usable_bits, ending_of}
use Rattle.txp.specs.Calls.{encode_answer, encode_outcome, Encodes, padding_fits, decode_checks, decode_answer, DecodedFile, DecodesTo, Decodes, DecodeAnswer, EncodeAnswer}
use Rattle.txp.proofs.Headers as headers
use Rattle.txp.proofs.Headers.{header_length, letters_read, version_read, header_read, body_read}
use Rattle.txp.proofs.Files.{cut_file, cut_bits, all_bits, no_surplus, padding_zero, padding_refused, refused_padding}
use Rattle.txp.proofs.CallLaws.{in_range}

-- what is left of a list after two cuts begins it
prefix : (m n : ℕ) (s : List Bool) → take (length (take m (take n s))) s ≡ take m (take n s)
prefix zero n s = refl
prefix (suc m) zero s = refl
prefix (suc m) (suc n) [] = refl
prefix (suc m) (suc n) (x ∷ s) = ap {B = List Bool} (λ r. x ∷ r) (prefix m n s)

-- ---- THE FILE of an array that encoding takes: N and L in range, 4^N coefficients, all within the limit; and any 32-bit budget
module _ (N L : ℕ) (side : side_fits N ≡ true) (levels : levels_fit N L ≡ true) (A : List ℤ) (size : length A ≡ all_of N)
    (within : first_over A ≡ length A) (budget : ℕ) (narrow : budget < 2 ^ 32) where
  planes : IsPlanes A (planes_of A)
  planes = planes_of_lem A

  few : planes_of A ≤ most_planes
  few = planes_most planes (first_all A within)

  z : Sized N L
  z = sized N L levels

  fits : headers.Fits (header_for N L A budget)
  fits =
      record {
        n = omega (arith, side_most N side);
        l = omega (arith, side_most N side, z.most);
        p = omega (arith, few);
        declared = omega (arith, narrow, length-take budget (stream N L (planes_of A) A));
      }

  -- the bytes are 12 and those of the bits
  pub file_length : length (file_of N L A budget) ≡ header_size + bytes_for (length (sent_bits N L A budget))
  file_length =
      omega (arith, length-append (header_bytes (header_for N L A budget)) (packed (sent_bits N L A budget)), header_length (header_for N L A budget) [], packed_length (sent_bits N L A budget))

  -- and check 6's room is always enough for them: demand 3's bound makes it so
  pub room_enough : header_size + bytes_for (length (sent_bits N L A budget)) ≤ header_size + bytes_for (min budget (worst_body N L (planes_of A)))
  room_enough = omega (arith, length-take budget (stream N L (planes_of A) A), stream_bound N L (planes_of A) z A planes)

  -- its usable bits are the bits that were written
  pub written_bits : usable_bits (file_of N L A budget) ≡ sent_bits N L A budget
  written_bits = all_bits (header_for N L A budget) fits (sent_bits N L A budget) refl

  -- with no budget cut they give the array back, by any rule that stays within what known bits leave open, so by the one in use, `lower`,
  -- and by `midpoint`
  pub whole_file_by : (rule : ℕ → ℕ → ℕ) → Between rule → length (stream N L (planes_of A) A) ≤ budget → values_by N L (planes_of A) (usable_bits (file_of N L A budget)) rule ≡ A
  whole_file_by rule fair h =
      ap (λ (v : List Bool). values_by N L (planes_of A) v rule) (written_bits ∙ take_all budget (stream N L (planes_of A) A) h)
      ∙ scan.whole_by N L (planes_of A) z A size planes rule fair

  pub whole_file : length (stream N L (planes_of A) A) ≤ budget → values_by N L (planes_of A) (usable_bits (file_of N L A budget)) lower ≡ A
  whole_file = whole_file_by lower lower_between

  pub whole_file_midpoint : length (stream N L (planes_of A) A) ≤ budget → values_by N L (planes_of A) (usable_bits (file_of N L A budget)) midpoint ≡ A
  whole_file_midpoint = whole_file_by midpoint midpoint_between

  -- Why its bits ended (document 02, T-06): `whole` exactly where the budget cut nothing, else `budget`
  written_begins : Begins N L (planes_of A) A (sent_bits N L A budget)
  written_begins =
      let s : List Bool = stream N L (planes_of A) A in
      record { size = size; planes = planes; same = subst (λ (v : List Bool). take (length (take budget v)) s ≡ take budget v) (take_all (length s) s (omega arith)) (prefix budget (length s) s) }

  pub written_whole : length (stream N L (planes_of A) A) ≤ budget
      → ending_of (file_of N L A budget) (length (sent_bits N L A budget)) (last_plane N L (planes_of A) (sent_bits N L A budget)) ≡ Whole
  written_whole h =
      all_whole N L (planes_of A) (header_of (file_of N L A budget)).declared (body_of (file_of N L A budget)) (sent_bits N L A budget) z A written_begins
      (omega (arith, h, length-take budget (stream N L (planes_of A) A)))

  pub written_budget : budget < length (stream N L (planes_of A) A)
      → ending_of (file_of N L A budget) (length (sent_bits N L A budget)) (last_plane N L (planes_of A) (sent_bits N L A budget)) ≡ Budget
  written_budget h =
      let declared : (header_of (file_of N L A budget)).declared ≡ length (sent_bits N L A budget) =
      ap (λ (x : Header). x.declared) (header_read (header_for N L A budget) (packed (sent_bits N L A budget)) fits) in
      ending_budget (header_of (file_of N L A budget)).declared (body_of (file_of N L A budget)) (length (sent_bits N L A budget)) (last_plane N L (planes_of A) (sent_bits N L A budget))
      (some_left N L (planes_of A) (header_of (file_of N L A budget)).declared (body_of (file_of N L A budget)) (sent_bits N L A budget) z A written_begins
      (omega (arith, h, length-take budget (stream N L (planes_of A) A))))
      (omega (arith, declared))

  -- A file cut after any byte of its body, or after none: no check of decoding but that of room refuses it
  module _ (k : ℕ) where
    pub cut_passes : (values precisions marks : ℕ) → room_in (all_of N) values precisions marks ≡ true
        → first_failing (decode_checks (take (header_size + k) (file_of N L A budget)) values precisions marks) ≡ Ok tt
    unfolding first_failing
    cut_passes values precisions marks room =
        rw (
          cut_file (header_for N L A budget) fits (sent_bits N L A budget) refl k,
          letters_read (header_for N L A budget) (take k (packed (sent_bits N L A budget))),
          version_read (header_for N L A budget) (take k (packed (sent_bits N L A budget))),
          header_read (header_for N L A budget) (take k (packed (sent_bits N L A budget))) fits,
          body_read (header_for N L A budget) (take k (packed (sent_bits N L A budget))),
          side,
          levels,
          le-leb (planes_of A) most_planes few,
          no_surplus (header_for N L A budget) fits (sent_bits N L A budget) refl k,
          padding_zero (header_for N L A budget) fits (sent_bits N L A budget) refl k,
          room,
        )

    -- the header is there
    pub cut_header : header_of (take (header_size + k) (file_of N L A budget)) ≡ header_for N L A budget
    cut_header =
        ap header_of (cut_file (header_for N L A budget) fits (sent_bits N L A budget) refl k)
        ∙ header_read (header_for N L A budget) (take k (packed (sent_bits N L A budget))) fits

    -- its usable bits begin A's stream, so values are by the rule, and near
    pub cut_begins : Begins N L (planes_of A) A (usable_bits (take (header_size + k) (file_of N L A budget)))
    cut_begins =
        let e : usable_bits (take (header_size + k) (file_of N L A budget)) ≡ take (8 * k) (sent_bits N L A budget) =
        ap usable_bits (cut_file (header_for N L A budget) fits (sent_bits N L A budget) refl k) ∙ cut_bits (header_for N L A budget) fits (sent_bits N L A budget) refl k in
        subst (λ (v : List Bool). Begins N L (planes_of A) A v) (sym e)
        (record { size = size; planes = planes; same = prefix (8 * k) budget (stream N L (planes_of A) A) })

    pub cut_values_by : (rule : ℕ → ℕ → ℕ)
        → values_by N L (planes_of A) (usable_bits (take (header_size + k) (file_of N L A budget))) rule
        ≡ table (all_of N) (λ i. value_by rule (precision_at N L (planes_of A) (usable_bits (take (header_size + k) (file_of N L A budget))) i)
        (high_bits (precision_at N L (planes_of A) (usable_bits (take (header_size + k) (file_of N L A budget))) i) (at A i)))
    cut_values_by = scan.cut_by N L (planes_of A) z A (usable_bits (take (header_size + k) (file_of N L A budget))) cut_begins

    -- by the rule in use, and by the midpoint
    pub cut_values : values_by N L (planes_of A) (usable_bits (take (header_size + k) (file_of N L A budget))) lower
        ≡ table (all_of N) (λ i. value_by lower (precision_at N L (planes_of A) (usable_bits (take (header_size + k) (file_of N L A budget))) i)
        (high_bits (precision_at N L (planes_of A) (usable_bits (take (header_size + k) (file_of N L A budget))) i) (at A i)))
    cut_values = cut_values_by lower

    pub cut_values_midpoint : values_by N L (planes_of A) (usable_bits (take (header_size + k) (file_of N L A budget))) midpoint
        ≡ table (all_of N) (λ i. value_by midpoint (precision_at N L (planes_of A) (usable_bits (take (header_size + k) (file_of N L A budget))) i)
        (high_bits (precision_at N L (planes_of A) (usable_bits (take (header_size + k) (file_of N L A budget))) i) (at A i)))
    cut_values_midpoint = cut_values_by midpoint

    module _ (rule : ℕ → ℕ → ℕ) (fair : Between rule) where
      pub cut_near : (i : ℕ) → i < all_of N
          → nat_abs (at (values_by N L (planes_of A) (usable_bits (take (header_size + k) (file_of N L A budget))) rule) i -ℤ at A i)
          ≤ worst_error N L (planes_of A) (usable_bits (take (header_size + k) (file_of N L A budget)))
      cut_near = scan.near N L (planes_of A) z A (usable_bits (take (header_size + k) (file_of N L A budget))) cut_begins rule fair

      pub cut_own_near : (i : ℕ) → i < all_of N
          → nat_abs (at (values_by N L (planes_of A) (usable_bits (take (header_size + k) (file_of N L A budget))) rule) i -ℤ at A i)
          < 2 ^ precision_at N L (planes_of A) (usable_bits (take (header_size + k) (file_of N L A budget))) i
      cut_own_near = scan.own_near N L (planes_of A) z A (usable_bits (take (header_size + k) (file_of N L A budget))) cut_begins rule fair

    -- with `lower` none is larger in magnitude than the true one; with `midpoint` one that is found, at a precision k > 0, is wrong by at most 2^(k-1)
    pub cut_under : (i : ℕ) → i < all_of N
        → magnitude (at (values_by N L (planes_of A) (usable_bits (take (header_size + k) (file_of N L A budget))) lower) i) ≤ magnitude (at A i)
    cut_under = scan.lower_under N L (planes_of A) z A (usable_bits (take (header_size + k) (file_of N L A budget))) cut_begins

    pub cut_half : (i : ℕ) → i < all_of N → 1 ≤ precision_at N L (planes_of A) (usable_bits (take (header_size + k) (file_of N L A budget))) i
        → (at (values_by N L (planes_of A) (usable_bits (take (header_size + k) (file_of N L A budget))) midpoint) i ≡ pos 0 → ⊥)
        → nat_abs (at (values_by N L (planes_of A) (usable_bits (take (header_size + k) (file_of N L A budget))) midpoint) i -ℤ at A i)
        ≤ 2 ^ (precision_at N L (planes_of A) (usable_bits (take (header_size + k) (file_of N L A budget))) i - 1)
    cut_half = scan.midpoint_half N L (planes_of A) z A (usable_bits (take (header_size + k) (file_of N L A budget))) cut_begins

    -- Cut in its body it says `cut`: each of its bytes has bits of the stream, so that not all of these are still there
    pub cut_says : k < bytes_for (length (sent_bits N L A budget))
        → ending_of (take (header_size + k) (file_of N L A budget)) (length (usable_bits (take (header_size + k) (file_of N L A budget))))
        (last_plane N L (planes_of A) (usable_bits (take (header_size + k) (file_of N L A budget)))) ≡ Cut
    cut_says h =
        let sent : List Bool = sent_bits N L A budget in
        let file : List ℕ = take (header_size + k) (file_of N L A budget) in
        let declared : (header_of file).declared ≡ length sent = ap (λ (x : Header). x.declared) cut_header in
        let body : length (body_of file) ≡ min k (bytes_for (length sent)) =
        ap (λ (f : List ℕ). length (body_of f)) (cut_file (header_for N L A budget) fits sent refl k) ∙ ap (λ (s : List ℕ). length s) (body_read (header_for N L A budget) (take k (packed sent)))
        ∙ length-take k (packed sent) ∙ ap (λ (n : ℕ). min k n) (packed_length sent) in
        let used : length (usable_bits file) ≡ min (8 * k) (length sent) =
        ap (λ (v : List Bool). length v) (ap usable_bits (cut_file (header_for N L A budget) fits sent refl k) ∙ cut_bits (header_for N L A budget) fits sent refl k) ∙ length-take (8 * k) sent in
        let fewer : 8 * k < length sent = omega (arith, h) in
        ending_cut (header_of file).declared (body_of file) (length (usable_bits file)) (last_plane N L (planes_of A) (usable_bits file))
        (some_left N L (planes_of A) (header_of file).declared (body_of file) (usable_bits file) z A cut_begins (omega (arith, used, fewer, length-take budget (stream N L (planes_of A) A))))
        (omega (arith, declared, used, fewer))
        (omega (arith, body, used, fewer, h))

    -- so whatever decoding may answer and leave, it took the bits
    pub cut_taken : (rule : ℕ → ℕ → ℕ) (held left : Tables) (answer : DecodeAnswer) → room_in (all_of N) (length held.values) (length held.precisions) (length held.marks) ≡ true
        → Decodes rule (take (header_size + k) (file_of N L A budget)) held answer left
        → (answer ≡ decode_answer (ending_of (take (header_size + k) (file_of N L A budget))) (header_for N L A budget) (usable_bits (take (header_size + k) (file_of N L A budget))) taken)
        × (left ≡ over (all_of N) (own_tables rule N L (planes_of A) (usable_bits (take (header_size + k) (file_of N L A budget))) taken) held)
    cut_taken rule held left answer room d =
        let got : DecodedFile rule (ending_of (take (header_size + k) (file_of N L A budget))) (header_for N L A budget) (usable_bits (take (header_size + k) (file_of N L A budget))) held answer left =
        subst (λ (h : Header). DecodedFile rule (ending_of (take (header_size + k) (file_of N L A budget))) h (usable_bits (take (header_size + k) (file_of N L A budget))) held answer left) cut_header
        (subst (λ (o : Outcome). DecodesTo o rule (ending_of (take (header_size + k) (file_of N L A budget))) (header_of (take (header_size + k) (file_of N L A budget))) (usable_bits (take (header_size + k) (file_of N L A budget))) held answer left)
        (cut_passes (length held.values) (length held.precisions) (length held.marks) room) d) in
        let v : got.verdict ≡ taken =
        (scan.refused_exactly N L (planes_of A) z (usable_bits (take (header_size + k) (file_of N L A budget))) got.verdict got.judged).1 (A, cut_begins) in
        (got.answered ∙ rw v, got.filled ∙ rw v)

  -- a cut before the body leaves no header
  pub cut_early : (k values precisions marks : ℕ) → k < header_size → first_failing (decode_checks (take k (file_of N L A budget)) values precisions marks) ≡ Err Letters
  unfolding first_failing letters_fit
  cut_early k values precisions marks h =
      rw (lt-leb header_size (length (take k (file_of N L A budget))) (omega (arith, h, length-take k (file_of N L A budget))))

-- the word of an answer
told_word : (answer : DecodeAnswer) (d' d : Decoded) → answer ≡ Ok d → answer ≡ Ok d' → d.ending ≡ d'.ending
told_word answer d' d is so =
    let same : Ok d ≡ Ok d' = sym is ∙ so in
    cc

-- ---- THE CALLS. Encoding, for which its contract allows the answer `r` and leaves `left` of what it is lent, answered that it is done.
module _ (N L : ℕ) (A : List ℤ) (budget : ℕ) (held left : Loan) (r : EncodeAnswer) (encodes : Encodes N L A budget held r left) (e : Encoded) (done : r ≡ Ok e) where
  told : (o : Outcome) → Ok e ≡ encode_answer N L A budget o → (o ≡ Ok tt)
      × (e ≡ record { planes = planes_of A; bits = length (sent_bits N L A budget); bytes = header_size + bytes_for (length (sent_bits N L A budget)) })
  told (Ok tt) q = (refl, cc)
  told (Err why) q =
      let bad : ◌≡◌ {A = ℕ} 0 1 = cc in
      absurd (omega arith)

  says : (encode_outcome N L A budget held ≡ Ok tt)
      × (e ≡ record { planes = planes_of A; bits = length (sent_bits N L A budget); bytes = header_size + bytes_for (length (sent_bits N L A budget)) })
  says = told (encode_outcome N L A budget held) (sym done ∙ encodes.answered)

  so : EncodeReady N L A (length held.descs) (length held.grands) (length held.out - header_size) budget
  so = (encode_ready N L A (length held.descs) (length held.grands) (length held.marks) (length held.out) header_size budget (sym says.0)).0

  -- its planes are "the least P with every magnitude below 2^P"
  pub done_planes : IsPlanes A e.planes
  done_planes = subst (λ (P : ℕ). IsPlanes A P) (sym (ap (λ (x : Encoded). x.planes) says.1)) (planes_of_lem A)

  -- its bits are the smaller of the budget and demand 3's sum: "The bit count of an uncut stream is parts standing, added over planes, plus splits plus nonzeros"
  pub done_bits : e.bits ≡ min budget (sum_to e.planes (λ b. parts N L A b) + splits N L A 0 + nonzeros N L A)
  done_bits =
      ap (λ (x : Encoded). x.bits) says.1
      ∙ length-take budget (stream N L (planes_of A) A)
      ∙ ap (λ (n : ℕ). min budget n) (scan.count N L (planes_of A) (sized N L so.levels) A (planes_of_lem A))
      ∙ ap (λ (P : ℕ). min budget (sum_to P (λ b. parts N L A b) + splits N L A 0 + nonzeros N L A)) (sym (ap (λ (x : Encoded). x.planes) says.1))

  pub done_bytes : e.bytes ≡ header_size + bytes_for e.bits
  done_bytes = ap (λ (x : Encoded). x.bytes) says.1 ∙ ap (λ (n : ℕ). header_size + bytes_for n) (sym (ap (λ (x : Encoded). x.bits) says.1))

  -- With any 32-bit budget the first bytes of the output, as many as it says, are a file.
  module _ (narrow : budget < 2 ^ 32) where
    pub file_stands : take e.bytes left.out ≡ file_of N L A budget
    file_stands =
        let file : List ℕ = file_of N L A budget in
        let n : e.bytes ≡ length file = ap {B = ℕ} (λ (x : Encoded). x.bytes) says.1 ∙ sym (file_length N L so.side so.levels A so.whole so.limited budget narrow) in
        let begins : left.out ≡ file ++ drop (0 + length file) held.out =
        ap (λ (x : Loan). x.out) encodes.filled ∙ ap (λ (o : Outcome). output_after o 0 file held.out) says.0 in
        ap (λ (k : ℕ). take k left.out) n ∙ ap (λ (s : List ℕ). take (length file) s) begins ∙ take_at file (drop (0 + length file) held.out) (length file) refl

    -- That file is decoded, by any rule, for which decode's contract allows the answer `answer` and leaves the tables `after`.
    module _ (rule : ℕ → ℕ → ℕ) (given after : Tables) (answer : DecodeAnswer)
        (room : room_in (all_of N) (length given.values) (length given.precisions) (length given.marks) ≡ true) where
      -- CUT after any byte of its body, or after none: its bits are taken, and they begin the stream of A
      pub cut_given : (k : ℕ) → Decodes rule (take (header_size + k) (take e.bytes left.out)) given answer after
          → (answer ≡ decode_answer (ending_of (take (header_size + k) (take e.bytes left.out))) (header_for N L A budget) (usable_bits (take (header_size + k) (take e.bytes left.out))) taken)
          × (after ≡ over (all_of N) (own_tables rule N L (planes_of A) (usable_bits (take (header_size + k) (take e.bytes left.out))) taken) given)
          × Begins N L (planes_of A) A (usable_bits (take (header_size + k) (take e.bytes left.out)))
      cut_given k d =
          let cut : take (header_size + k) (take e.bytes left.out) ≡ take (header_size + k) (file_of N L A budget) = ap (λ (s : List ℕ). take (header_size + k) s) file_stands in
          let t =
          cut_taken N L so.side so.levels A so.whole so.limited budget narrow k rule given after answer room (subst (λ (f : List ℕ). Decodes rule f given answer after) cut d) in
          rw cut (t.0, t.1, cut_begins N L so.side so.levels A so.whole so.limited budget narrow k)

      -- and if bytes of its body are missing, the answer says `cut`
      pub cut_word : (k : ℕ) → header_size + k < e.bytes → Decodes rule (take (header_size + k) (take e.bytes left.out)) given answer after
          → (d : Decoded) → answer ≡ Ok d → d.ending ≡ Cut
      cut_word k h p d is =
          let cut : take (header_size + k) (take e.bytes left.out) ≡ take (header_size + k) (file_of N L A budget) = ap (λ (s : List ℕ). take (header_size + k) s) file_stands in
          let fewer : k < bytes_for (length (sent_bits N L A budget)) = omega (arith, h, ap (λ (x : Encoded). x.bytes) says.1) in
          told_word answer _ d is (cut_given k p).0
          ∙ ap (λ (f : List ℕ). ending_of f (length (usable_bits f)) (last_plane N L (planes_of A) (usable_bits f))) cut
          ∙ cut_says N L so.side so.levels A so.whole so.limited budget narrow k fewer

      module _ (decodes : Decodes rule (take e.bytes left.out) given answer after) where
        -- UNCUT: its bits are taken, and they are those that were written
        pub all_taken : (answer ≡ decode_answer (ending_of (file_of N L A budget)) (header_for N L A budget) (sent_bits N L A budget) taken)
            × (after ≡ over (all_of N) (own_tables rule N L (planes_of A) (sent_bits N L A budget) taken) given)
        all_taken =
            let file : List ℕ = file_of N L A budget in
            let k : ℕ = bytes_for (length (sent_bits N L A budget)) in
            let uncut : take (header_size + k) file ≡ file =
            take_all (header_size + k) file (omega (arith, file_length N L so.side so.levels A so.whole so.limited budget narrow)) in
            let t =
            cut_taken N L so.side so.levels A so.whole so.limited budget narrow k rule given after answer room
            (subst (λ (f : List ℕ). Decodes rule f given answer after) (file_stands ∙ sym uncut) decodes) in
            let bits : usable_bits (take (header_size + k) file) ≡ sent_bits N L A budget =
            ap usable_bits uncut ∙ written_bits N L so.side so.levels A so.whole so.limited budget narrow in (
              t.0 ∙ ap (λ (f : List ℕ). decode_answer (ending_of f) (header_for N L A budget) (usable_bits (take (header_size + k) file)) taken) uncut
                  ∙ ap (λ (v : List Bool). decode_answer (ending_of file) (header_for N L A budget) v taken) bits,
              t.1 ∙ ap (λ (v : List Bool). over (all_of N) (own_tables rule N L (planes_of A) v taken) given) bits,
            )

        -- "After the same bits, encoder and decoder hold equal tables", whatever the budget
        pub in_step : take (all_of N) after.marks ≡ take (all_of N) left.marks
        in_step =
            let own : List ℕ = sent_marks N L A budget in
            let long : length own ≡ all_of N = marks_length N L (sized N L so.levels) (planes_of A) (sent_bits N L A budget) in
            let ours : left.marks ≡ own ++ drop (length own) held.marks =
            ap (λ (x : Loan). x.marks) encodes.filled ∙ ap (λ (o : Outcome). lent_after o own held.marks) says.0 in
            ap (λ (x : Tables). take (all_of N) x.marks) all_taken.1
            ∙ take_at own (drop (all_of N) given.marks) (all_of N) long
            ∙ sym (ap (λ (s : List ℕ). take (all_of N) s) ours ∙ take_at own (drop (length own) held.marks) (all_of N) long)

        -- WHOLE, where the budget cut nothing: the array, precisions 0, the encoder's marks; all planes finished, worst error 0
        pub given_back_by : Between rule → length (stream N L (planes_of A) A) ≤ budget
            → (answer ≡ Ok (record { n = N; l = L; p = e.planes; declared = e.bits; used = e.bits; finished = e.planes; error = 0; ending = Whole }))
            × (after ≡ over (all_of N) (tables A (replicate (all_of N) 0) (sent_marks N L A budget)) given)
        given_back_by fair h =
            let P : ℕ = planes_of A in
            let u : List Bool = sent_bits N L A budget in
            let z : Sized N L = sized N L so.levels in
            let whole : u ≡ stream N L P A = take_all budget (stream N L P A) h in
            let finished : planes_finished N L P u ≡ P = ap (λ (v : List Bool). planes_finished N L P v) whole ∙ scan.whole_finished N L P z A so.whole (planes_of_lem A) in
            let error : worst_error N L P u ≡ 0 = ap (λ (v : List Bool). worst_error N L P v) whole ∙ scan.whole_error N L P z A so.whole (planes_of_lem A) in
            let values : values_by N L P u rule ≡ A = ap (λ (v : List Bool). values_by N L P v rule) whole ∙ scan.whole_by N L P z A so.whole (planes_of_lem A) rule fair in
            let exact : precisions N L P u ≡ replicate (all_of N) 0 = ap (λ (v : List Bool). precisions N L P v) whole ∙ scan.whole_precisions N L P z A so.whole (planes_of_lem A) in
            let word : ending_of (file_of N L A budget) (length u) (last_plane N L P u) ≡ Whole =
            written_whole N L so.side so.levels A so.whole so.limited budget narrow h in
            let answered : decode_answer (ending_of (file_of N L A budget)) (header_for N L A budget) u taken ≡ Ok (record { n = N; l = L; p = e.planes; declared = e.bits; used = e.bits; finished = e.planes; error = 0; ending = Whole }) =
            rw says.1 cc in
            let filled : own_tables rule N L P u taken ≡ tables A (replicate (all_of N) 0) (sent_marks N L A budget) = cc in
            (all_taken.0 ∙ answered, all_taken.1 ∙ ap (λ (x : Tables). over (all_of N) x given) filled)

        -- and where it cut something the answer says `budget`
        pub budget_word : budget < length (stream N L (planes_of A) A) → (d : Decoded) → answer ≡ Ok d → d.ending ≡ Budget
        budget_word h d is = told_word answer _ d is all_taken.0 ∙ written_budget N L so.side so.levels A so.whole so.limited budget narrow h

    -- So `decode`, by the rule in use, and `decode_midpoint` give the array back.
    module _ (given after : Tables) (answer : DecodeAnswer)
        (room : room_in (all_of N) (length given.values) (length given.precisions) (length given.marks) ≡ true) where
      pub given_back : Decodes lower (take e.bytes left.out) given answer after → length (stream N L (planes_of A) A) ≤ budget
          → (answer ≡ Ok (record { n = N; l = L; p = e.planes; declared = e.bits; used = e.bits; finished = e.planes; error = 0; ending = Whole }))
          × (after ≡ over (all_of N) (tables A (replicate (all_of N) 0) (sent_marks N L A budget)) given)
      given_back d = given_back_by lower given after answer room d lower_between

      pub given_back_midpoint : Decodes midpoint (take e.bytes left.out) given answer after → length (stream N L (planes_of A) A) ≤ budget
          → (answer ≡ Ok (record { n = N; l = L; p = e.planes; declared = e.bits; used = e.bits; finished = e.planes; error = 0; ending = Whole }))
          × (after ≡ over (all_of N) (tables A (replicate (all_of N) 0) (sent_marks N L A budget)) given)
      given_back_midpoint d = given_back_by midpoint given after answer room d midpoint_between

-- "and the bound is reached for each N, L, P": by an array that passes checks 1 to 4
pub reached : (N L P : ℕ) → side_fits N ≡ true → levels_fit N L ≡ true → 1 ≤ P → P ≤ most_planes
    → (A : List ℤ) × (length A ≡ all_of N) × (first_over A ≡ length A) × IsPlanes A P
    × (sum_to P (λ b. parts N L A b) + splits N L A 0 + nonzeros N L A ≡ all_of N * (P + 1) + (all_of N - coarsest_of N L) / 4 + (all_of N - 4 * coarsest_of N L) / 16)
unfolding worst_body
reached N L P side levels some most =
    let A : List ℤ = replicate (all_of N) (pos (2 ^ (P - 1))) in
    let z : Sized N L = sized N L levels in
    let flat = scan.reached N L P z some in
    let within : first_over A ≡ length A =
    first_none A (λ i. le-leb (mag_at A i) limit (omega (arith, flat.1.below i, pow_mono {i = P} {j = most_planes} most))) in
    let worst : worst_body N L P ≡ all_of N * (P + 1) + (all_of N - coarsest_of N L) / 4 + (all_of N - 4 * coarsest_of N L) / 16 = rw (ne_eqb P 0 (λ e. omega (arith, e))) in
    (A, flat.0, within, flat.1, sym (scan.count N L P z A flat.1) ∙ flat.2 ∙ worst)

-- "11: all body bytes present, padding not 0": exactly where as many bytes are there as the declared bits need, and a bit behind these is 1
pub padding_exactly : (declared : ℕ) (body : List ℕ)
    → (padding_fits declared body ≡ false → (length body ≡ bytes_for declared) × ((k : ℕ) × (declared ≤ k) × (k < 8 * length body) × (bit_at body k ≡ true)))
    × ((length body ≡ bytes_for declared) × ((k : ℕ) × (declared ≤ k) × (k < 8 * length body) × (bit_at body k ≡ true)) → padding_fits declared body ≡ false)
padding_exactly declared body = (padding_refused declared body, λ p. refused_padding declared body p.0 p.1.0 p.1.1 p.1.2 p.1.3)

-- Any file whose checks hold, and what decode's contract allows: it is refused by 12 or 13 exactly if no array fits its usable bits.
abbrev pub Refuses : DecodeAnswer → Type 0
Refuses answer = (why : Refusal) × (answer ≡ Err why) × ((number_of why ≡ 12) ⊎ (number_of why ≡ 13))

module _ (rule : ℕ → ℕ → ℕ) (file : List ℕ) (held left : Tables) (answer : DecodeAnswer)
    (passes : first_failing (decode_checks file (length held.values) (length held.precisions) (length held.marks)) ≡ Ok tt) (decoded : Decodes rule file held answer left) where
  pub refused_exactly : (Refuses answer → Fits (header_of file).n (header_of file).l (header_of file).p (usable_bits file) → ⊥)
      × ((Fits (header_of file).n (header_of file).l (header_of file).p (usable_bits file) → ⊥) → Refuses answer)
  refused_exactly = (some, none)
    where
      got : DecodedFile rule (ending_of file) (header_of file) (usable_bits file) held answer left
      got = subst (λ (o : Outcome). DecodesTo o rule (ending_of file) (header_of file) (usable_bits file) held answer left) passes decoded

      exact : (got.verdict ≡ taken → Fits (header_of file).n (header_of file).l (header_of file).p (usable_bits file))
          × (Fits (header_of file).n (header_of file).l (header_of file).p (usable_bits file) → got.verdict ≡ taken)
      exact =
          scan.refused_exactly (header_of file).n (header_of file).l (header_of file).p
          (in_range file (length held.values) (length held.precisions) (length held.marks) passes) (usable_bits file) got.verdict got.judged

      some : Refuses answer → Fits (header_of file).n (header_of file).l (header_of file).p (usable_bits file) → ⊥
      some refuses w =
          let v : got.verdict ≡ taken = exact.1 w in
          let bad : Err refuses.0 ≡ decode_answer (ending_of file) (header_of file) (usable_bits file) taken = sym refuses.1 ∙ got.answered ∙ rw v in
          let z : ◌≡◌ {A = ℕ} 0 1 = cc in
          omega arith

      tell : (v : Verdict) → got.verdict ≡ v → (Fits (header_of file).n (header_of file).l (header_of file).p (usable_bits file) → ⊥) → Refuses answer
      tell taken e unfit = absurd (unfit (exact.0 e))
      tell (contradiction bit) e unfit = (Contradiction bit, got.answered ∙ rw e, inl refl)
      tell (beyond bit) e unfit = (Beyond bit, got.answered ∙ rw e, inr refl)

      none : (Fits (header_of file).n (header_of file).l (header_of file).p (usable_bits file) → ⊥) → Refuses answer
      none unfit = tell got.verdict refl unfit

-- Why the bits of any file ended: `whole` exactly where nothing is asked after its usable bits,
module _ (file : List ℕ) where
  abbrev pub word_in : Ending
  word_in = ending_of file (length (usable_bits file)) (last_plane (header_of file).n (header_of file).l (header_of file).p (usable_bits file))

  pub whole_exactly : (word_in ≡ Whole → ask (all_of (header_of file).n) (after (header_of file).n (header_of file).l (header_of file).p (usable_bits file)) ≡ none)
      × (ask (all_of (header_of file).n) (after (header_of file).n (header_of file).l (header_of file).p (usable_bits file)) ≡ none → word_in ≡ Whole)
  whole_exactly = (
    whole_asks_none (header_of file).n (header_of file).l (header_of file).p (header_of file).declared (body_of file) (usable_bits file),
    none_asked_whole (header_of file).n (header_of file).l (header_of file).p (header_of file).declared (body_of file) (usable_bits file),
  )

  -- and for any array whose stream begins with them exactly where they are all its bits, however many are declared
  pub whole_stream : Sized (header_of file).n (header_of file).l → (A : List ℤ) → Begins (header_of file).n (header_of file).l (header_of file).p A (usable_bits file)
      → (word_in ≡ Whole → length (stream (header_of file).n (header_of file).l (header_of file).p A) ≡ length (usable_bits file))
      × (length (stream (header_of file).n (header_of file).l (header_of file).p A) ≤ length (usable_bits file) → word_in ≡ Whole)
  whole_stream z A b = (
    whole_all (header_of file).n (header_of file).l (header_of file).p (header_of file).declared (body_of file) (usable_bits file) z A b,
    all_whole (header_of file).n (header_of file).l (header_of file).p (header_of file).declared (body_of file) (usable_bits file) z A b,
  )

  -- where it is not `whole`: `budget` where as many bytes are there as the declared bits need, else `cut`
  module _ (some : 0 < last_plane (header_of file).n (header_of file).l (header_of file).p (usable_bits file)) where
    pub budget_exactly : bytes_for (header_of file).declared ≤ length (body_of file) → word_in ≡ Budget
    budget_exactly h =
        ending_budget (header_of file).declared (body_of file) (length (usable_bits file)) _ some
        (omega (arith, h, bits_of_length (min (header_of file).declared (8 * length (body_of file))) (body_of file)))

    pub cut_exactly : length (body_of file) < bytes_for (header_of file).declared → word_in ≡ Cut
    cut_exactly h =
        ending_cut (header_of file).declared (body_of file) (length (usable_bits file)) _ some
        (omega (arith, h, bits_of_length (min (header_of file).declared (8 * length (body_of file))) (body_of file)))
        (omega (arith, h, bits_of_length (min (header_of file).declared (8 * length (body_of file))) (body_of file)))

  -- so it is one of the three: decoding has used all usable bits
  pub one_of_three : (word_in ≡ Whole) ⊎ ((word_in ≡ Budget) ⊎ (word_in ≡ Cut))
  one_of_three = go (last_plane (header_of file).n (header_of file).l (header_of file).p (usable_bits file)) refl (dec_lt (length (body_of file)) (bytes_for (header_of file).declared))
    where
      go : (l : ℕ) → last_plane (header_of file).n (header_of file).l (header_of file).p (usable_bits file) ≡ l → Dec (length (body_of file) < bytes_for (header_of file).declared)
          → (word_in ≡ Whole) ⊎ ((word_in ≡ Budget) ⊎ (word_in ≡ Cut))
      go zero e h = inl (ending_whole (header_of file).declared (body_of file) (length (usable_bits file)) _ e)
      go (suc l) e (yes h) = inr (inr (cut_exactly (omega (arith, e)) h))
      go (suc l) e (no h) = inr (inl (budget_exactly (omega (arith, e)) (omega (arith, h))))
