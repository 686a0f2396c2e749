-- What the decoder's scan leaves, by the verdict on the usable bits, and what the call makes of it.
use Prim.Native.Nat.{ℕ, ◌-◌, ◌*◌, ◌%◌, ◌^◌, ◌≤◌, ◌<◌, min}
use mathlib.Core.Path.{◌≡◌, refl, sym, ap, subst, ◌∙◌}
use mathlib.Core.Bool.{Bool, true, false, true≢false, false≢true}
use mathlib.Core.List.{List, ◌++◌}
use native.Mathlib.Nat.{one-le-pow}
use native.Mathlib.Omega.{arith}
use lib.IntN.{ℤ, pos}
use lib.ListN.{length, take, drop, replicate}
use lib.Seq.{length-take-le}
use Rattle.std.specs.Prelude.{Ok, Err}
use Rattle.refusals.specs.declared.Refusal.TheVariants.{Contradiction, Beyond}
use Rattle.sizes.specs.Sizes.{all_of, coarsest_of, Sized}
use Rattle.sizes.specs.Tables.{table}
use Rattle.sizes.proofs.Laws.{side_least, side_most, sized, coarsest_least}
use Rattle.bits.specs.Bits.{bits_of}
use Rattle.bits.proofs.Laws.{bits_of_length}
use Rattle.coef.specs.Coef.{at}
use Rattle.nls.specs.Marks.{start_marks}
use Rattle.nls.specs.Stream.{after}
use Rattle.nls.specs.Reading.{known, value_by, last_plane}
use Rattle.nls.specs.Turns.{standing, precision_by}
use Rattle.nls.specs.Judging.{Verdict, taken, contradiction, beyond, Judged}
use Rattle.nls.proofs.Known.{left_most}
use Rattle.nls.proofs.Verdicts.{verdict, verdict_judged}
use Rattle.room.specs.Room.{body_bits}
use Rattle.walk.specs.Scans.{Ran, last, now_of, is_bad, planes, left_of}
use Rattle.walk.specs.Visits.{Sv, scan_of}
use Rattle.reading.specs.Reading.{Read, codes, reader, st, Holds}
use Rattle.reading.proofs.ValueLaws.{level_one}
use Rattle.reading.proofs.Received.{Matches, reads}
use Rattle.decoder.specs.Finishing.{plain_of, Stood}
use Rattle.decoder.specs.Body.{Tables, tables, zeros, own_tables, over, BodyRead, ReadAnswer}
use Rattle.decoder.specs.Calls.{ReadReady}
use Rattle.decoder.specs.declared.ending.Ending.{Ending}
use Rattle.decoder.proofs.FinishLaws.{whole}
use Rattle.decoder.proofs.StoodLaws.{values_are, precisions_are}

-- three equal tables
same_tables : (v w : List ℤ) (p q m n : List ℕ) → v ≡ w → p ≡ q → m ≡ n → tables v p m ≡ tables w q n
same_tables v w p q m n a b c = λ i. tables (a i) (b i) (c i)

module _ (N L P values precisions marks : ℕ) (ready : ReadReady N L P values precisions marks) (body : List ℕ) (usable : ℕ) where
  abbrev pub z : Sized N L
  z = sized N L ready.levels

  -- where the scan ended: the bits used, the planes left, where it stands, whether a bit fits no array, and the tables
  module _ (n left now : ℕ) (bad : Bool) (m : List ℕ) (v : List ℤ) where
    pub record Took : Type 0 where
      pub used : n ≡ usable
      pub marked : m ≡ (after N L P (bits_of usable body)).marks
      pub valued : v ≡ codes (known N L P (bits_of usable body)).bits
      pub lefts : left ≡ last_plane N L P (bits_of usable body)
      pub stands : now ≡ standing (all_of N) (after N L P (bits_of usable body)).pass (after N L P (bits_of usable body)).place
      pub ended : left ≡ 0 → now ≡ 0

    abbrev pub Ends : Verdict → Type 0
    Ends taken = (bad ≡ false) × Took
    Ends (contradiction k) = (bad ≡ true) × (n ≡ k) × (k < usable)
    Ends (beyond k) = (bad ≡ false) × (n ≡ k) × (k < usable)

    pub ends : (m₀ : List ℕ) (v₀ : List ℤ) (all coarsest : ℕ) → all ≡ all_of N → coarsest ≡ coarsest_of N L
        → m₀ ≡ start_marks all coarsest → v₀ ≡ replicate (all_of N) (pos 0)
        → Holds (planes (scan_of (reader body usable all coarsest P) all) P (st m₀ v₀ 0)) (left_of (scan_of (reader body usable all coarsest P) all) P (st m₀ v₀ 0)) n left now bad m v
        → Ends (verdict N L P (bits_of usable body))
    ends m₀ v₀ all coarsest ea ec em ev h =
        go (verdict N L P (bits_of usable body))
        (reads N L P ready.planes body usable (omega (arith, side_least N ready.side)) (side_most N ready.side) (coarsest_least N L z))
      where
        begun : m₀ ≡ start_marks (all_of N) (coarsest_of N L)
        begun = em ∙ rw (ea, ec)

        E : Ran (Sv Read)
        E = planes (scan_of (reader body usable (all_of N) (coarsest_of N L) P) (all_of N)) P (st (start_marks (all_of N) (coarsest_of N L)) (replicate (all_of N) (pos 0)) 0)

        l : ℕ
        l = left_of (scan_of (reader body usable (all_of N) (coarsest_of N L) P) (all_of N)) P (st (start_marks (all_of N) (coarsest_of N L)) (replicate (all_of N) (pos 0)) 0)

        same : planes (scan_of (reader body usable all coarsest P) all) P (st m₀ v₀ 0) ≡ E
        same = rw (ea, ec, begun, ev)

        lefts : left ≡ l
        lefts = h.lefts ∙ rw (ea, ec, begun, ev)

        count : n ≡ (last E).rest.n
        count = h.count ∙ ap (λ (x : Ran (Sv Read)). (last x).rest.n) same

        refuses : bad ≡ is_bad E
        refuses = h.refuses ∙ ap (λ (x : Ran (Sv Read)). is_bad x) same

        go : (w : Verdict) → Matches N L P ready.planes body usable w E l → Ends w
        go taken (b, c, d, e, f, g) = (
          refuses ∙ b,
          record {
            used = count ∙ c;
            marked = h.marked ∙ ap (λ (x : Ran (Sv Read)). (last x).marks) same ∙ d;
            valued = h.valued ∙ ap (λ (x : Ran (Sv Read)). (last x).rest.codes) same ∙ e;
            lefts = lefts ∙ f;
            stands = h.stands ∙ ap (λ (x : Ran (Sv Read)). now_of x) same ∙ g;
            ended = h.ended;
          },
        )
        go (contradiction k) (b, c, d) = (refuses ∙ b, count ∙ c, d)
        go (beyond k) (b, c, d) = (refuses ∙ b, count ∙ c, d)

    module _ (e : Ends (verdict N L P (bits_of usable body))) where
      -- no more bits are used than there are
      pub bits_most : n ≤ usable
      bits_most = go (verdict N L P (bits_of usable body)) e
        where
          go : (w : Verdict) → Ends w → n ≤ usable
          go taken f = omega (arith, f.1.used)
          go (contradiction k) f = omega (arith, f.1, f.2)
          go (beyond k) f = omega (arith, f.1, f.2)

      judged_12 : bad ≡ true → Judged N L P (bits_of usable body) (contradiction n)
      judged_12 b = go (verdict N L P (bits_of usable body)) e (verdict_judged N L z P (bits_of usable body))
        where
          go : (w : Verdict) → Ends w → Judged N L P (bits_of usable body) w → Judged N L P (bits_of usable body) (contradiction n)
          go taken f j = absurd (true≢false (sym b ∙ f.0))
          go (contradiction k) f j = rw f.1 j
          go (beyond k) f j = absurd (true≢false (sym b ∙ f.0))

      judged_13 : bad ≡ false → n < usable → Judged N L P (bits_of usable body) (beyond n)
      judged_13 b h = go (verdict N L P (bits_of usable body)) e (verdict_judged N L z P (bits_of usable body))
        where
          go : (w : Verdict) → Ends w → Judged N L P (bits_of usable body) w → Judged N L P (bits_of usable body) (beyond n)
          go taken f j = absurd (omega (arith, h, f.1.used))
          go (contradiction k) f j = absurd (false≢true (sym b ∙ f.0))
          go (beyond k) f j = rw f.1 j

      pub judged_taken : bad ≡ false → usable ≤ n → Judged N L P (bits_of usable body) taken × Took
      judged_taken b h = go (verdict N L P (bits_of usable body)) e (verdict_judged N L z P (bits_of usable body))
        where
          go : (w : Verdict) → Ends w → Judged N L P (bits_of usable body) w → Judged N L P (bits_of usable body) taken × Took
          go taken f j = (j, f.1)
          go (contradiction k) f j = absurd (false≢true (sym b ∙ f.0))
          go (beyond k) f j = absurd (omega (arith, h, f.1, f.2))

      -- refused: the tables are cleared
      module _ (rule : ℕ → ℕ → ℕ) (word : ℕ → ℕ → Ending) (held : Tables) (hv : length held.values ≡ all_of N) (hp : length held.precisions ≡ all_of N) (hm : length held.marks ≡ all_of N)
          (w : List ℤ) (q o : List ℕ) (ew : w ≡ replicate (all_of N) (pos 0)) (eq : q ≡ replicate (all_of N) 0) (eo : o ≡ replicate (all_of N) 0) where
        cleared : tables w q o ≡ over (all_of N) (zeros (all_of N)) held
        cleared =
            same_tables w _ q _ o _ (ew ∙ sym (whole (all_of N) (replicate (all_of N) (pos 0)) held.values hv)) (eq ∙ sym (whole (all_of N) (replicate (all_of N) 0) held.precisions hp)) (eo ∙ sym (whole (all_of N) (replicate (all_of N) 0) held.marks hm))

        pub refused_12 : bad ≡ true → BodyRead rule word N L P (bits_of usable body) held (Err (Contradiction n)) (tables w q o)
        refused_12 b = record { verdict = contradiction n; judged = judged_12 b; answered = refl; filled = cleared }

        pub refused_13 : bad ≡ false → n < usable → BodyRead rule word N L P (bits_of usable body) held (Err (Beyond n)) (tables w q o)
        refused_13 b h = record { verdict = beyond n; judged = judged_13 b h; answered = refl; filled = cleared }

    -- taken
    module _ (t : Took) where
      pub left_in : left ≤ P
      left_in = omega (arith, t.lefts, left_most N L P (bits_of usable body))

      -- what the final pass asks
      abbrev pub stood : Judged N L P (bits_of usable body) taken → Stood m left now
      stood j =
          record {
            N = N;
            L = L;
            P = P;
            sized = z;
            most = side_most N ready.side;
            planes = ready.planes;
            bits = bits_of usable body;
            fits = j;
            marked = t.marked;
            lefts = t.lefts;
            stands = t.stands;
            ended = t.ended;
          }

      -- 2^left as the machine shifts it
      pub power : (1 * 2 ^ left) % 4294967296 ≡ 2 ^ left
      power = level_one left (omega (arith, left_in, ready.planes))

      pub power_one : 1 ≤ (1 * 2 ^ left) % 4294967296
      power_one = omega (arith, power, one-le-pow left 2 (omega arith))

      -- and what it leaves
      pub accepted : Judged N L P (bits_of usable body) taken → (rule : ℕ → ℕ → ℕ) (word : ℕ → ℕ → Ending) (said : Ending) → said ≡ word n left → (held : Tables) → length held.values ≡ all_of N → length held.precisions ≡ all_of N → length held.marks ≡ all_of N
          → (w : List ℤ) (q : List ℕ) (all : ℕ) → all ≡ all_of N
          → w ≡ table all (λ i. value_by rule (precision_by all m left now i) (plain_of (at v i))) → q ≡ table all (λ i. precision_by all m left now i)
          → BodyRead rule word N L P (bits_of usable body) held (Ok (record { used = n; finished = P - left; error = (1 * 2 ^ left) % 4294967296 - 1; ending = said })) (tables w q m)
      accepted j rule word said is held hv hp hm w q all ea ew eq =
          record {
            verdict = taken;
            judged = j;
            answered = λ i. Ok (record { used = used i; finished = P - t.lefts i; error = error i; ending = spoken i });
            filled =
                same_tables w _ q _ m _
                (ew ∙ ap (λ (k : ℕ). table k (λ i. value_by rule (precision_by k m left now i) (plain_of (at v i)))) ea ∙ values_are (stood j) v t.valued rule ∙ sym (whole (all_of N) _ held.values hv))
                (eq ∙ ap (λ (k : ℕ). table k (λ i. precision_by k m left now i)) ea ∙ precisions_are (stood j) ∙ sym (whole (all_of N) _ held.precisions hp))
                (t.marked ∙ sym (whole (all_of N) _ held.marks hm));
          }
        where
          used : n ≡ length (bits_of usable body)
          used = t.used ∙ sym (bits_of_length usable body)

          spoken : said ≡ word (length (bits_of usable body)) (last_plane N L P (bits_of usable body))
          spoken = is ∙ ap (λ (x : ℕ). word x left) used ∙ ap (λ (x : ℕ). word (length (bits_of usable body)) x) t.lefts

          error : (1 * 2 ^ left) % 4294967296 - 1 ≡ 2 ^ last_plane N L P (bits_of usable body) - 1
          error = ap (λ (x : ℕ). x - 1) power ∙ ap (λ (x : ℕ). 2 ^ x - 1) t.lefts

-- the lent parts put back into the wholes
module _ (rule : ℕ → ℕ → ℕ) (word : ℕ → ℕ → Ending) (N L P most usable all : ℕ) (body : List ℕ) (v : List ℤ) (p m : List ℕ) (answer : ReadAnswer) (w : List ℤ) (q o : List ℕ) where
  part_back : {A : Type 0} (own part held : List A) → all ≡ all_of N → all ≤ length held → part ≡ own ++ drop (all_of N) (take all held)
      → part ++ drop all held ≡ own ++ drop (all_of N) held
  part_back {A} own part held e h is =
      let part_is : part ≡ own = is ∙ whole (all_of N) own (take all held) (length-take-le all held h ∙ e) in
      ap (λ (l : List A). l ++ drop all held) part_is ∙ ap (λ (k : ℕ). own ++ drop k held) e

  pub decoded_back : most ≡ min usable (8 * length body) → all ≡ all_of N → all ≤ length v → all ≤ length p → all ≤ length m
      → BodyRead rule word N L P (bits_of most body) (tables (take all v) (take all p) (take all m)) answer (tables w q o)
      → BodyRead rule word N L P (body_bits usable body) (tables v p m) answer (tables (w ++ drop all v) (q ++ drop all p) (o ++ drop all m))
  decoded_back em ea hv hp hm d =
      subst (λ (k : ℕ). BodyRead rule word N L P (bits_of k body) (tables v p m) answer (tables (w ++ drop all v) (q ++ drop all p) (o ++ drop all m))) em
      (record {
        verdict = d.verdict;
        judged = d.judged;
        answered = d.answered;
        filled =
            same_tables (w ++ drop all v) _ (q ++ drop all p) _ (o ++ drop all m) _
            (part_back (own_tables rule N L P (bits_of most body) d.verdict).values w v ea hv (ap (λ (t : Tables). t.values) d.filled))
            (part_back (own_tables rule N L P (bits_of most body) d.verdict).precisions q p ea hp (ap (λ (t : Tables). t.precisions) d.filled))
            (part_back (own_tables rule N L P (bits_of most body) d.verdict).marks o m ea hm (ap (λ (t : Tables). t.marks) d.filled));
      })
